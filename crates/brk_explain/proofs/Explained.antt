-- The explanation has the lines that were read.
use Rattle.std.proofs.Common.{◌≡◌, ◌∙◌, ℕ, ◌==◌, List, ◌++◌, Option, Some, None, Result, Ok, Err, length, map, refl, sym, ap, subst, inl, inr}
use Rattle.std.specs.Prelude.{bytes_eq}
use Rattle.std.specs.Io.KnownBytes.{Appends}
use Rattle.std.proofs.lemmas.Bool.{eqb-true}
use Rattle.std.proofs.lemmas.List.{append_assoc}
use Rattle.std.proofs.lemmas.Slice.Eq.{bytes_eq-Decides}
use Rattle.brk_money.specs.Kinds.{fault_of_call}
use Rattle.brk_money.specs.Spelling.{Text}
use Rattle.brk_money.specs.declared.fault.CallFault.{CallFault}
use Rattle.brk_money.specs.declared.fault.Fault.{Fault}
use Rattle.brk_money.specs.declared.refusal.Refusal.{Refusal}
use Rattle.brk_money.specs.declared.refusal.Refusal.TheVariants.{NoAccount, NoBroker, NoTrade}
use Rattle.brk_model.specs.Run.{IsCallFault}
use Rattle.brk_model.specs.Joins.{account_row_with_id, last_price_in_tables, trade_row_with_id}
use Rattle.brk_model.specs.Statement.{text_of_lines, holding_rows_of_account}
use Rattle.brk_model.specs.Tables.{AccountRow, BrokerRow, SecurityRow, Tables}
use Rattle.brk_ref.specs.Records.{abstract_account_row, abstract_broker_row, abstract_security_row}
use Rattle.brk_model_explain.specs.AccountLines.{PricedHolding, holding_and_total_lines, account_total_lines, account_explanation_lines, account_header_lines}
use Rattle.brk_model_explain.specs.AccountLines.{balance_and_lot_header_lines, priced_holdings_of_account, holding_line, open_lot_line, account_cash_rows_by_stamp}
use Rattle.brk_model_explain.specs.AccountLines.{cash_posting_lines}
use Rattle.brk_model_explain.specs.BrokerLines.{accounts_with_broker, broker_total_lines, broker_explanation_lines, broker_row_with_id}
use Rattle.brk_model_explain.specs.BrokerLines.{broker_lines_from_trades, broker_header_lines, trade_commission_lines, completed_trades_of_broker}
use Rattle.brk_model_explain.specs.Explain.{AccountOf, BrokerOf, HoldingOf, TradeOf, explanation}
use Rattle.brk_model_explain.specs.HoldingLines.{holding_explanation_lines, holding_lines_from_trades_and_lots, holding_header_lines}
use Rattle.brk_model_explain.specs.Holdings.{completed_trades_in_symbol, lots_opened_in_symbol, summary_quantity_in_symbol}
use Rattle.brk_model_explain.specs.TradeLines.{order_and_status_lines, title_and_party_lines, trade_explanation_lines}
use Rattle.brk_model_explain.specs.Trades.{TradeDetails}
use Rattle.brk_explain_rows.specs.Details.{AreDetailsOfAccount, AreDetailsOfBroker, AreDetailsOfHolding, AreDetailsOfTrade, abstract_priced_holding, abstract_trade_details}
use Rattle.brk_explain_rows.specs.declared.account_details.AccountDetails as account_details
use Rattle.brk_explain_rows.specs.declared.broker_details.BrokerDetails as broker_details
use Rattle.brk_explain_rows.specs.declared.holding_details.HoldingDetails as holding_details
use Rattle.brk_explain_rows.specs.declared.details.TradeDetails as trade_details
use Rattle.brk_io.specs.Faults.{report_fault_of_lines_fault}
use Rattle.brk_report_lines.specs.Written.{FailsWithinLines}
use Rattle.brk_io.specs.declared.report_fault.LinesFault.{LinesFault}
use Rattle.brk_io.specs.declared.report_fault.LinesFault.TheVariants.{Desk, Write}
use Rattle.brk_explain_sums.specs.HoldingTexts.{lines_of_holding_details}
use Rattle.brk_explain.specs.ExplanationParts.{all_broker_lines, all_account_lines}
use Rattle.brk_explain.specs.LinesOutput.{WritesLinesOrRefuses}
use Rattle.brk_explain.proofs.FirstLines.{HasFirst, first_behind}
use Rattle.brk_report.proofs.Whole.{passes_found}
use Rattle.brk_desk.proofs.Asked.{is_call_fault}

-- the fault of a read is `Memory` or `Store`
pub is_read_fault : (fault : CallFault) (converted : Fault) → converted ≡ fault_of_call fault → IsCallFault converted
is_read_fault fault converted is = subst IsCallFault (sym is) (is_call_fault fault)

-- ---- a trade

pub trade_told : (t : Tables) (trade : ℕ) (details : trade_details.TradeDetails) → AreDetailsOfTrade trade (Some details) t
    → explanation t (TradeOf trade) ≡ Ok (trade_explanation_lines (abstract_trade_details details))
unfolding explanation
trade_told t trade details h = rw h.1 (ap (λ (s : TradeDetails). Ok (trade_explanation_lines s)) (sym h.2))

pub no_trade : (t : Tables) (trade : ℕ) → trade_row_with_id t trade ≡ None → explanation t (TradeOf trade) ≡ Err NoTrade
unfolding explanation
no_trade t trade none = rw none refl

pub trade_first : (s : TradeDetails) → HasFirst (trade_explanation_lines s)
unfolding trade_explanation_lines order_and_status_lines title_and_party_lines
trade_first s = (_, _, refl)

-- ---- an account

five_parts : (a b c d e : List Text) → (((a ++ b) ++ c) ++ d) ++ e ≡ a ++ (b ++ (c ++ (d ++ e)))
five_parts a b c d e = append_assoc ((a ++ b) ++ c) d e ∙ append_assoc (a ++ b) c (d ++ e) ∙ append_assoc a b (c ++ (d ++ e))

pub account_told : (t : Tables) (account : ℕ) (details : account_details.AccountDetails) → AreDetailsOfAccount account (Some details) t
    → explanation t (AccountOf account) ≡ Ok (all_account_lines t account details)
unfolding explanation account_explanation_lines
account_told t account details h =
    let a = abstract_account_row details.account in
    let id : a.id ≡ account = eqb-true a.id account (passes_found (λ (r : AccountRow). r.id == account) t.accounts a h.0) in
    let lines : ℕ → List PricedHolding → List Text =
    λ n held.
    account_header_lines a ++ cash_posting_lines a.opening (account_cash_rows_by_stamp t n) ++ balance_and_lot_header_lines a
    ++ map open_lot_line (holding_rows_of_account t n) ++ holding_and_total_lines a held (length (account_cash_rows_by_stamp t n))
    (length (holding_rows_of_account t n)) in
    rw h.0
    (ap (λ (n : ℕ). Ok (lines n (priced_holdings_of_account t n))) id ∙ ap (λ (held : List PricedHolding). Ok (lines account held)) (sym h.1)
    ∙ ap (λ (l : List Text). Ok l)
    (five_parts (account_header_lines a) (cash_posting_lines a.opening (account_cash_rows_by_stamp t account)) (balance_and_lot_header_lines a) (map open_lot_line (holding_rows_of_account t account))
    (holding_and_total_lines a (map abstract_priced_holding details.held.items) (length (account_cash_rows_by_stamp t account)) (length (holding_rows_of_account t account)))))

pub no_account : (t : Tables) (account : ℕ) → account_row_with_id t account ≡ None → explanation t (AccountOf account) ≡ Err NoAccount
unfolding explanation
no_account t account none = rw none refl

pub top_first : (a : AccountRow) → HasFirst (account_header_lines a)
unfolding account_header_lines
top_first a = (_, _, refl)

pub balance_first : (a : AccountRow) → HasFirst (balance_and_lot_header_lines a)
unfolding balance_and_lot_header_lines
balance_first a = (_, _, refl)

pub bottom_first : (a : AccountRow) (held : List PricedHolding) (cash lots : ℕ) → HasFirst (holding_and_total_lines a held cash lots)
unfolding account_total_lines
bottom_first a held cash lots = first_behind (map holding_line held) _ (_, _, refl)

-- ---- a holding

pub holding_told : (t : Tables) (account : ℕ) (symbol : Text) (details : holding_details.HoldingDetails) → AreDetailsOfHolding account symbol (Ok details) t
    → explanation t (HoldingOf account symbol) ≡ Ok (lines_of_holding_details details)
unfolding explanation holding_explanation_lines
holding_told t account symbol details h =
    let a = abstract_account_row details.account in
    let s = abstract_security_row details.security in
    let id : a.id ≡ account = eqb-true a.id account (passes_found (λ (r : AccountRow). r.id == account) t.accounts a h.0) in
    let named : s.symbol ≡ symbol = (bytes_eq-Decides s.symbol symbol).0 (passes_found (λ (r : SecurityRow). bytes_eq r.symbol symbol) t.securities s h.1) in
    let lines : ℕ → Text → List Text =
    λ n x. holding_lines_from_trades_and_lots a s (completed_trades_in_symbol t n x) (lots_opened_in_symbol t n x) (summary_quantity_in_symbol t n x)
    (last_price_in_tables t x) in
    rw (h.0, h.1)
    (ap (λ (n : ℕ). Ok (lines n s.symbol)) id ∙ ap (λ (x : Text). Ok (lines account x)) named
    ∙ (λ i. Ok (holding_lines_from_trades_and_lots a s (sym h.2 i) (sym h.3 i) (sym h.4 i) (sym h.5 i))))

pub no_holding : (t : Tables) (account : ℕ) (symbol : Text) (refusal : Refusal) → AreDetailsOfHolding account symbol (Err refusal) t → explanation t (HoldingOf account symbol) ≡ Err refusal
unfolding explanation
no_holding t account symbol refusal (inl h) = rw (h.0, h.1) refl
no_holding t account symbol refusal (inr h) = rw (h.1, h.2, h.3) refl

pub holding_first : (details : holding_details.HoldingDetails) → HasFirst (lines_of_holding_details details)
unfolding holding_lines_from_trades_and_lots holding_header_lines
holding_first details = (_, _, refl)

-- ---- a broker

pub broker_told : (t : Tables) (broker : ℕ) (details : broker_details.BrokerDetails) → AreDetailsOfBroker broker (Some details) t
    → explanation t (BrokerOf broker) ≡ Ok (all_broker_lines t broker details)
unfolding explanation broker_explanation_lines broker_lines_from_trades
broker_told t broker details h =
    let b = abstract_broker_row details.broker in
    let done = completed_trades_of_broker t broker in
    let id : b.id ≡ broker = eqb-true b.id broker (passes_found (λ (r : BrokerRow). r.id == broker) t.brokers b h.0) in
    rw h.0
    (ap (λ (n : ℕ). Ok (broker_lines_from_trades b (length (accounts_with_broker t n)) (completed_trades_of_broker t n))) id ∙ ap (λ (n : ℕ). Ok (broker_lines_from_trades b n done)) (sym h.1)
    ∙ ap (λ (l : List Text). Ok l) (append_assoc (broker_header_lines b) (trade_commission_lines done) (broker_total_lines b details.accounts (length done))))

pub no_broker : (t : Tables) (broker : ℕ) → broker_row_with_id t broker ≡ None → explanation t (BrokerOf broker) ≡ Err NoBroker
unfolding explanation
no_broker t broker none = rw none refl

pub broker_top_first : (b : BrokerRow) → HasFirst (broker_header_lines b)
unfolding broker_header_lines
broker_top_first b = (_, _, refl)

pub broker_end_first : (b : BrokerRow) (accounts trades : ℕ) → HasFirst (broker_total_lines b accounts trades)
unfolding broker_total_lines
broker_end_first b accounts trades = (_, _, refl)

-- ---- what was written

module _ (told : Result (List Text) Refusal) (lines : List Text) (is : told ≡ Ok lines) (a b : Option Text) where
  pub tells_all : Appends a b (text_of_lines lines) → WritesLinesOrRefuses told a b (Ok tt)
  tells_all h = (lines, is, h)

  pub tells_fault : (e : LinesFault) → FailsWithinLines lines a b e → WritesLinesOrRefuses told a b (Err (report_fault_of_lines_fault e))
  tells_fault (Desk f) h = (is_call_fault f, inr (lines, is, h))
  tells_fault Write h = (lines, is, h)
