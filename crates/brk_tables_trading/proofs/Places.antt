-- The premises of the statements, for each table that they write.
use Rattle.std.proofs.Common.{◌≡◌, ◌≢◌, pos, List, [], ◌∷◌, take, is_eq, refl, ap, inl, inr}
use Rattle.sqlite_value.specs.declared.value.Value.TheVariants.{Int}
use Rattle.sqlite_value.specs.Order.{column}
use Rattle.sqlite_value.proofs.OrderLemmas.{then-Equal}
use Rattle.brk_model.specs.Tables.{Tables, TradeRow, HistoryRow, RequestRow, HoldingRow, SummaryRow, HoldingHistoryRow, SettlementRow}
use Rattle.brk_model.specs.Keys.{trade_key, history_key, request_key, holding_key, summary_key, holding_history_key, settlement_key}
use Rattle.brk_tables_sql.proofs.Writes.{Place, IsRowidKey, IsUniqueKey}
use Rattle.brk_tables_schema.specs.Shapes.{trade_table, trade_history_table, request_table, holding_table, summary_table, holding_history_table, settlement_table}
use Rattle.brk_tables_schema.specs.Cells.{trade_cells, history_cells, request_cells, holding_cells, summary_cells, holding_history_cells, settlement_cells}
use Rattle.brk_tables_schema.specs.Desk.{DeskTable, Trades, TradeHistory, Requests, ordering_by_primary_key, rows_of_table, desk_tables, Holdings, Summaries, HoldingHistory, Settlements}
use Rattle.brk_tables_schema.proofs.Order.{key_total}
use Rattle.brk_tables_schema.proofs.Unique.{same_key}
use Rattle.brk_tables_schema.proofs.Which.{is_trade, is_history, is_request, is_holding, is_summary, is_holding_history, is_settlement}

pub trade_keyed : IsRowidKey trade_table trade_cells (ordering_by_primary_key Trades)
trade_keyed tree r s x y e f = let a : column r 0 ≡ Int (pos x.id) = cc in let b : column s 0 ≡ Int (pos y.id) = cc in rw (a, b) (ap is_eq (then-Equal _))

pub request_keyed : IsRowidKey request_table request_cells (ordering_by_primary_key Requests)
request_keyed tree r s x y e f = let a : column r 0 ≡ Int (pos x.trade) = cc in let b : column s 0 ≡ Int (pos y.trade) = cc in rw (a, b) (ap is_eq (then-Equal _))

pub history_keyed : IsUniqueKey trade_history_table history_cells (ordering_by_primary_key TradeHistory)
history_keyed = record { key = 1 ∷ 2 ∷ []; first = λ tree. refl; tied = λ tree r s x y e f. same_key (history_key x) (history_key y) (1 ∷ 2 ∷ []) r s (ap (take 2) e) (ap (take 2) f) }

pub trades_alone : (v : DeskTable) → v ≢ Trades → (xs : List TradeRow) (t : Tables) → rows_of_table v (record t { trades = xs }) ≡ rows_of_table v t
trades_alone Trades other xs t = absurd (other refl)
trades_alone v other xs t = refl

pub history_alone : (v : DeskTable) → v ≢ TradeHistory → (xs : List HistoryRow) (t : Tables) → rows_of_table v (record t { history = xs }) ≡ rows_of_table v t
history_alone TradeHistory other xs t = absurd (other refl)
history_alone v other xs t = refl

pub requests_alone : (v : DeskTable) → v ≢ Requests → (xs : List RequestRow) (t : Tables) → rows_of_table v (record t { requests = xs }) ≡ rows_of_table v t
requests_alone Requests other xs t = absurd (other refl)
requests_alone v other xs t = refl

abbrev pub trades : Place desk_tables Trades
trades = record {
  split = is_trade;
  put = λ xs t. record t { trades = xs };
  put_this = λ xs t. refl;
  put_others = trades_alone;
  total =
      key_total trade_key;
  keyed = inl trade_keyed;
  uncounted = λ tree. refl;
}

abbrev pub trade_history : Place desk_tables TradeHistory
trade_history = record {
  split = is_history;
  put = λ xs t. record t { history = xs };
  put_this = λ xs t. refl;
  put_others = history_alone;
  total =
      key_total history_key;
  keyed = inr history_keyed;
  uncounted = λ tree. refl;
}

abbrev pub requests : Place desk_tables Requests
requests = record {
  split = is_request;
  put = λ xs t. record t { requests = xs };
  put_this = λ xs t. refl;
  put_others = requests_alone;
  total =
      key_total request_key;
  keyed = inl request_keyed;
  uncounted = λ tree. refl;
}

pub holding_keyed : IsRowidKey holding_table holding_cells (ordering_by_primary_key Holdings)
holding_keyed tree r s x y e f = let a : column r 0 ≡ Int (pos x.trade) = cc in let b : column s 0 ≡ Int (pos y.trade) = cc in rw (a, b) (ap is_eq (then-Equal _))

pub summary_keyed : IsUniqueKey summary_table summary_cells (ordering_by_primary_key Summaries)
summary_keyed = record { key = 1 ∷ 2 ∷ []; first = λ tree. refl; tied = λ tree r s x y e f. same_key (summary_key x) (summary_key y) (1 ∷ 2 ∷ []) r s (ap (take 2) e) (ap (take 2) f) }

pub holding_history_keyed : IsUniqueKey holding_history_table holding_history_cells (ordering_by_primary_key HoldingHistory)
holding_history_keyed =
    record {
      key = 1 ∷ 2 ∷ [];
      first = λ tree. refl;
      tied =
          λ tree r s x y e f. same_key (holding_history_key x) (holding_history_key y) (1 ∷ 2 ∷ []) r s (ap (take 2) e) (ap (take 2) f);
    }

pub settlement_keyed : IsRowidKey settlement_table settlement_cells (ordering_by_primary_key Settlements)
settlement_keyed tree r s x y e f = let a : column r 0 ≡ Int (pos x.trade) = cc in let b : column s 0 ≡ Int (pos y.trade) = cc in rw (a, b) (ap is_eq (then-Equal _))

pub holdings_alone : (v : DeskTable) → v ≢ Holdings → (xs : List HoldingRow) (t : Tables) → rows_of_table v (record t { holdings = xs }) ≡ rows_of_table v t
holdings_alone Holdings other xs t = absurd (other refl)
holdings_alone v other xs t = refl

pub summaries_alone : (v : DeskTable) → v ≢ Summaries → (xs : List SummaryRow) (t : Tables) → rows_of_table v (record t { summaries = xs }) ≡ rows_of_table v t
summaries_alone Summaries other xs t = absurd (other refl)
summaries_alone v other xs t = refl

pub holding_history_alone : (v : DeskTable) → v ≢ HoldingHistory → (xs : List HoldingHistoryRow) (t : Tables) → rows_of_table v (record t { holding_history = xs }) ≡ rows_of_table v t
holding_history_alone HoldingHistory other xs t = absurd (other refl)
holding_history_alone v other xs t = refl

pub settlements_alone : (v : DeskTable) → v ≢ Settlements → (xs : List SettlementRow) (t : Tables) → rows_of_table v (record t { settlements = xs }) ≡ rows_of_table v t
settlements_alone Settlements other xs t = absurd (other refl)
settlements_alone v other xs t = refl

abbrev pub lots : Place desk_tables Holdings
lots = record {
  split = is_holding;
  put = λ xs t. record t { holdings = xs };
  put_this = λ xs t. refl;
  put_others = holdings_alone;
  total =
      key_total holding_key;
  keyed = inl holding_keyed;
  uncounted = λ tree. refl;
}

abbrev pub summaries : Place desk_tables Summaries
summaries = record {
  split = is_summary;
  put = λ xs t. record t { summaries = xs };
  put_this = λ xs t. refl;
  put_others = summaries_alone;
  total =
      key_total summary_key;
  keyed = inr summary_keyed;
  uncounted = λ tree. refl;
}

abbrev pub lot_changes : Place desk_tables HoldingHistory
lot_changes = record {
  split = is_holding_history;
  put = λ xs t. record t { holding_history = xs };
  put_this = λ xs t. refl;
  put_others =
      holding_history_alone;
  total = key_total holding_history_key;
  keyed = inr holding_history_keyed;
  uncounted = λ tree. refl;
}

abbrev pub settlements : Place desk_tables Settlements
settlements = record {
  split = is_settlement;
  put = λ xs t. record t { settlements = xs };
  put_this = λ xs t. refl;
  put_others = settlements_alone;
  total =
      key_total settlement_key;
  keyed = inl settlement_keyed;
  uncounted = λ tree. refl;
}
