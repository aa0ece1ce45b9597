-- The record that a row encodes, for trades, lots and the rows that follow from them.
use Rattle.std.proofs.Common.{◌≡◌, ℕ, zero, suc, List, [], ◌∷◌, Bool, true, false, codes, refl, ap, ◌∙◌}
use Rattle.std.specs.Prelude.{if◌then◌else◌, bytes_eq}
use Rattle.sqlite_value.specs.Order.{Row, column}
use Rattle.sqlite_rules.specs.Edit.{id_in}
use Rattle.brk_money.specs.Kinds.{trade_status_code, trade_type_code}
use Rattle.brk_money.specs.declared.status.Status.{Status}
use Rattle.brk_money.specs.declared.status.Status.TheVariants.{Completed, Active, Submitted, Pending, Canceled}
use Rattle.brk_model.specs.Tables.{TradeRow, RequestRow, LastTradeRow, HistoryRow, HoldingRow, SummaryRow, HoldingHistoryRow, SettlementRow, OldCashRow}
use Rattle.brk_tables_sql.proofs.Decode.{text_in}
use Rattle.brk_tables_schema.specs.Cells.{natural_as_value, flag_as_value, optional_natural_as_value, trade_cells, request_cells, last_trade_cells}
use Rattle.brk_tables_schema.specs.Cells.{history_cells, holding_cells, summary_cells, holding_history_cells, settlement_cells, cash_cells}
use Rattle.brk_tables_schema.proofs.Back.{number_in, maybe_in, maybe_back, type_at, type_back}

-- ---- words

abbrev pub status_at : List ℕ → Status
status_at code =
    if bytes_eq code (codes "CMPT") then Completed
    else if bytes_eq code (codes "ACTV") then Active
    else if bytes_eq code (codes "SBMT") then Submitted
    else if bytes_eq code (codes "PNDG") then Pending
    else Canceled

pub status_back : (s : Status) → status_at (trade_status_code s) ≡ s
status_back Completed = refl
status_back Active = refl
status_back Submitted = refl
status_back Pending = refl
status_back Canceled = refl

abbrev pub flag_at : ℕ → Bool
flag_at zero = false
flag_at (suc n) = true

pub flag_back : (b : Bool) → flag_at (number_in (flag_as_value b)) ≡ b
flag_back true = refl
flag_back false = refl

-- ---- rows

pub trade_back : Row → TradeRow
trade_back r = record {
  id = number_in (column r 0);
  stamp = number_in (column r 1);
  status = status_at (text_in (column r 2));
  kind = type_at (text_in (column r 3));
  is_cash = flag_at (number_in (column r 4));
  symbol = text_in (column r 5);
  qty = number_in (column r 6);
  bid = number_in (column r 7);
  account = number_in (column r 8);
  executor = text_in (column r 9);
  price = maybe_in (column r 10);
  charge = number_in (column r 11);
  commission = number_in (column r 12);
  tax = number_in (column r 13);
  is_lifo = flag_at (number_in (column r 14));
}

pub trade_is_back : (t : TradeRow) → trade_back (trade_cells t) ≡ t
unfolding trade_back text_in
trade_is_back t =
    ap (λ s. let r : TradeRow =
    record t {
      status = s;
      kind = type_at (trade_type_code t.kind);
      is_cash = flag_at (number_in (flag_as_value t.is_cash));
      price =
          maybe_in (optional_natural_as_value t.price);
      is_lifo = flag_at (number_in (flag_as_value t.is_lifo));
    } in r) (status_back t.status)
    ∙ ap (λ k. let r : TradeRow =
    record t {
      kind = k;
      is_cash = flag_at (number_in (flag_as_value t.is_cash));
      price = maybe_in (optional_natural_as_value t.price);
      is_lifo =
          flag_at (number_in (flag_as_value t.is_lifo));
    } in r) (type_back t.kind)
    ∙ ap (λ b. let r : TradeRow = record t { is_cash = b; price = maybe_in (optional_natural_as_value t.price); is_lifo = flag_at (number_in (flag_as_value t.is_lifo)) } in r) (flag_back t.is_cash)
    ∙ ap (λ o. let r : TradeRow = record t { price = o; is_lifo = flag_at (number_in (flag_as_value t.is_lifo)) } in r) (maybe_back t.price)
    ∙ ap (λ b. let r : TradeRow = record t { is_lifo = b } in r) (flag_back t.is_lifo)

pub request_back : Row → RequestRow
request_back r = record {
  trade = number_in (column r 0);
  kind = type_at (text_in (column r 1));
  symbol = text_in (column r 2);
  qty =
      number_in (column r 3);
  bid = number_in (column r 4);
  broker = number_in (column r 5);
}

pub request_is_back : (r : RequestRow) → request_back (request_cells r) ≡ r
unfolding request_back text_in
request_is_back r = ap (λ k. let q : RequestRow = record r { kind = k } in q) (type_back r.kind)

pub last_trade_back : Row → LastTradeRow
last_trade_back r = record { symbol = text_in (column r 0); stamp = number_in (column r 1); price = number_in (column r 2); volume = number_in (column r 3) }

pub last_trade_is_back : (l : LastTradeRow) → last_trade_back (last_trade_cells l) ≡ l
unfolding last_trade_back text_in
last_trade_is_back l = refl

pub holding_back : Row → HoldingRow
holding_back r = record {
  trade = number_in (column r 0);
  account = number_in (column r 1);
  symbol = text_in (column r 2);
  stamp =
      number_in (column r 3);
  price = number_in (column r 4);
  qty = id_in (column r 5);
}

pub holding_is_back : (h : HoldingRow) → holding_back (holding_cells h) ≡ h
unfolding holding_back text_in
holding_is_back h = refl

pub summary_back : Row → SummaryRow
summary_back r = record { account = number_in (column r 0); symbol = text_in (column r 1); qty = id_in (column r 2) }

pub summary_is_back : (s : SummaryRow) → summary_back (summary_cells s) ≡ s
unfolding summary_back text_in
summary_is_back s = refl

pub history_back : Row → HistoryRow
history_back r = record { trade = number_in (column r 0); status = status_at (text_in (column r 1)); stamp = number_in (column r 2) }

pub history_is_back : (h : HistoryRow) → history_back (history_cells h) ≡ h
unfolding history_back text_in
history_is_back h = ap (λ s. let r : HistoryRow = record h { status = s } in r) (status_back h.status)

pub holding_history_back : Row → HoldingHistoryRow
holding_history_back r = record { lot = number_in (column r 0); trade = number_in (column r 1); before = id_in (column r 2); after = id_in (column r 3) }

pub holding_history_is_back : (h : HoldingHistoryRow) → holding_history_back (holding_history_cells h) ≡ h
unfolding holding_history_back
holding_history_is_back h = refl

pub settlement_back : Row → SettlementRow
settlement_back r = record { trade = number_in (column r 0); cash_type = text_in (column r 1); due_day = number_in (column r 2); amount = id_in (column r 3) }

pub settlement_is_back : (s : SettlementRow) → settlement_back (settlement_cells s) ≡ s
unfolding settlement_back text_in
settlement_is_back s = refl

pub cash_back : Row → OldCashRow
cash_back r = record { trade = number_in (column r 0); stamp = number_in (column r 1); amount = id_in (column r 2); name = text_in (column r 3) }

pub cash_is_back : (c : OldCashRow) → cash_back (cash_cells c) ≡ c
unfolding cash_back text_in
cash_is_back c = refl

-- ---- a number alone

pub id_back : Row → ℕ
id_back r = number_in (column r 0)

pub id_is_back : (n : ℕ) → id_back (natural_as_value n ∷ []) ≡ n
unfolding id_back
id_is_back n = refl
