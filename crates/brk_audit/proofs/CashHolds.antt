-- The condition `Cash` on numbered rows, from the walks over the rows.
use Rattle.std.proofs.Common.{◌≡◌, ℕ, List, [], ◌∷◌, refl, sym, ◌∙◌, ap, arith, length, subst, map, filter, true}
use Rattle.std.specs.Prelude.{◌↔◌}
use Rattle.std.specs.BTreeMap.{BTreeMap}
use Rattle.std.specs.List.{cons_option, filter_map}
use Rattle.std.specs.List.Sorted.{IsNonDecreasingBy, IsPermutation}
use Rattle.std.proofs.lemmas.List.{map-id}
use Rattle.std.proofs.lemmas.List.Sorted.{IsPermutation-map}
use Rattle.brk_money.specs.declared.fault.Condition.TheVariants as condition
use Rattle.brk_model.specs.Audit.{ConditionHolds}
use Rattle.brk_model.specs.Form.{satisfies_form_condition}
use Rattle.brk_model.specs.Schemas.{Schema}
use Rattle.brk_model.specs.Tables.{Tables, TradeRow}
use Rattle.brk_trade_books.proofs.Orders.{Ascends, ascends, ascends_map}
use Rattle.brk_trade_books.proofs.Same.{All-of, map-same}
use Rattle.brk_ref.specs.Rows.{abstract_old_cash_row, abstract_cash_row, abstract_trade_row}
use Rattle.brk_trade_rows.specs.Sheets.{abstract_sheets}
use Rattle.brk_trade_rows.specs.declared.sheets.Sheets.{Sheets}
use Rattle.brk_ref.specs.declared.trade_row.TradeRow as trade
use Rattle.brk_ref.specs.declared.cash_row.CashRow as move
use Rattle.brk_ref.specs.declared.old_cash_row.OldCashRow as cash
use Rattle.brk_audit_sums.specs.AccountTerms.{account_tax_status_in_terms}
use Rattle.brk_audit_sums.specs.Conditions.{HasValidStatuses}
use Rattle.brk_audit.specs.CashMoveFigures.{abstract_posted_figures}
use Rattle.brk_audit_sums.specs.Settling.{CashRowFigures, settlement_amount_at_tax_status, is_completed_cash_trade, is_numbered_by_stamp}
use Rattle.brk_audit_sums.specs.Settling.{posted_figures_of_trade, posted_figures_of_row}
use Rattle.brk_audit_sums.specs.declared.account_terms.AccountTerms.{AccountTerms}
use Rattle.brk_audit.specs.declared.cash.CashMoveFigures as code
use Rattle.brk_audit_sums.proofs.AccountTerms.{HasTerms, same_tax_statuses}
use Rattle.brk_audit.proofs.CashMoves.{cash_by_moves}
use Rattle.brk_audit_sums.proofs.Sums.{account_tax_status_or_untaxed}

posted_rows : (rows : List move.CashRow) → filter_map (λ r. posted_figures_of_row (abstract_cash_row r)) rows ≡ filter_map posted_figures_of_row (map abstract_cash_row rows)
posted_rows [] = refl
posted_rows (r ∷ rows) = ap (λ xs. cons_option (posted_figures_of_row (abstract_cash_row r)) xs) (posted_rows rows)

pub none_left : (rows : List cash.OldCashRow) → length rows ≡ 0 → rows ≡ []
none_left [] e = refl
none_left (r ∷ rows) e = absurd (omega (arith, e))

no_cash : (rows : List cash.OldCashRow) → rows ≡ [] → map abstract_old_cash_row rows ≡ []
no_cash rows e = ap (map abstract_old_cash_row) e

cash_back : (rows : List cash.OldCashRow) → map abstract_old_cash_row rows ≡ [] → rows ≡ []
cash_back [] e = refl
cash_back (r ∷ rows) e = absurd (cc)

-- rows of trades, sorted by their trades
pub record IsSortedOwn (s : Sheets) (own : List CashRowFigures) : Type 0 where
  pub permutation : IsPermutation (filter_map posted_figures_of_row (abstract_sheets s).moves) own
  pub order : Ascends (λ p. p.trade) own

pub sorted_own : (s : Sheets) (rows sorted : List code.CashMoveFigures) (ms : List move.CashRow) → ms ≡ s.moves.items
    → map abstract_posted_figures rows ≡ filter_map (λ r. posted_figures_of_row (abstract_cash_row r)) ms
    → IsPermutation rows sorted → IsNonDecreasingBy (λ (p : code.CashMoveFigures). p.trade) sorted → IsSortedOwn s (map abstract_posted_figures sorted)
sorted_own s rows sorted ms e a p n =
    let all : map abstract_posted_figures rows ≡ filter_map posted_figures_of_row (map abstract_cash_row s.moves.items) = a
    ∙ ap (filter_map (λ r. posted_figures_of_row (abstract_cash_row r))) e ∙ posted_rows s.moves.items in
    record {
      permutation = subst (λ (xs : List CashRowFigures). IsPermutation xs (map abstract_posted_figures sorted)) all (IsPermutation-map abstract_posted_figures rows sorted p);
      order = ascends_map (λ (p : CashRowFigures). p.trade) abstract_posted_figures sorted (ascends (λ (p : code.CashMoveFigures). p.trade) sorted n);
    }

pub record AreTold (s : Sheets) (terms : BTreeMap ℕ AccountTerms) (own : List CashRowFigures) (ms : List move.CashRow) (ts : List trade.TradeRow) : Type 0 where
  pub no_others : s.cash.items ≡ []
  pub turn : is_numbered_by_stamp 1 0 (map abstract_cash_row ms) ≡ true
  pub posted : map (λ p. p) own ≡ map (posted_figures_of_trade (account_tax_status_in_terms terms)) (filter is_completed_cash_trade (map abstract_trade_row ts))

pub moves_hold : (schema : Schema) (s : Sheets) (terms : BTreeMap ℕ AccountTerms) (own : List CashRowFigures) (ms : List move.CashRow) (ts : List trade.TradeRow) → schema.has_cash_move_table ≡ true
    → satisfies_form_condition schema (abstract_sheets s) ≡ true → HasValidStatuses s → HasTerms terms s.accounts.items → IsSortedOwn s own → ms ≡ s.moves.items → ts ≡ s.trades.items
    → AreTold s terms own ms ts ↔ ConditionHolds schema condition.Cash (abstract_sheets s)
moves_hold schema s terms own ms ts n f w h o e g =
    let t : Tables = abstract_sheets s in
    let law = cash_by_moves schema t own n f w o.permutation o.order in
    let turn : is_numbered_by_stamp 1 0 (map abstract_cash_row ms) ≡ is_numbered_by_stamp 1 0 t.moves = ap (λ rs. is_numbered_by_stamp 1 0 (map abstract_cash_row rs)) e in
    let rows : List TradeRow = filter is_completed_cash_trade (map abstract_trade_row s.trades.items) in
    let right : map (posted_figures_of_trade (account_tax_status_in_terms terms)) (filter is_completed_cash_trade (map abstract_trade_row ts))
    ≡ map (posted_figures_of_trade (account_tax_status_or_untaxed t)) rows =
    ap (λ xs. map (posted_figures_of_trade (account_tax_status_in_terms terms)) (filter is_completed_cash_trade (map abstract_trade_row xs))) g
    ∙ map-same (posted_figures_of_trade (account_tax_status_in_terms terms)) (posted_figures_of_trade (account_tax_status_or_untaxed t)) rows
    (All-of rows (λ r i. record { account = r.account; trade = r.id; stamp = r.stamp; amount = settlement_amount_at_tax_status (same_tax_statuses s terms h r.account i) r })) in (
      (λ k. law.0 (record { no_others = no_cash s.cash.items k.no_others; turn = sym turn ∙ k.turn; posted = sym (map-id own) ∙ k.posted ∙ right })),
      (λ k. let m = law.1 k in record { no_others = cash_back s.cash.items m.no_others; turn = turn ∙ m.turn; posted = map-id own ∙ m.posted ∙ sym right }),
    )
