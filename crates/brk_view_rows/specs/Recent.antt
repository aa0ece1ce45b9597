-- The records of the last trades of an account.
use Rattle.std.specs.Prelude.{Bool, List, [], ◌∷◌, ◌++◌, map, codes, decimal}
use Rattle.brk_ref.specs.Rows.{abstract_trade_row}
use Rattle.brk_ref.specs.declared.history_row.HistoryRow.{HistoryRow}
use Rattle.brk_model.specs.Lists.{is_pair_less}
use Rattle.brk_model.specs.Queries as model
use Rattle.brk_model.specs.Tables.{TradeRow}
use Rattle.brk_money.specs.Kinds.{trade_status_name}
use Rattle.brk_money.specs.Spelling.{Text}
use Rattle.brk_view_rows.specs.declared.recents.Activity.{Activity}

-- True if the status `a` is newer than `b`: a greater stamp, or, if equal, a greater trade id.
abbrev pub is_newer_status : HistoryRow → HistoryRow → Bool
is_newer_status a b = is_pair_less b.stamp a.stamp b.trade a.trade

-- The record of the trade `t`: the word `trade`, its id, its symbol and its quantity.
abbrev pub recent_trade_record : TradeRow → List Text
recent_trade_record t = codes "trade" ∷ decimal t.id ∷ t.symbol ∷ decimal t.qty ∷ []

-- The record of the status `h`: `history`, the id of its trade, the status name and its stamp.
abbrev pub recent_status_record : HistoryRow → List Text
recent_status_record h = codes "history" ∷ decimal h.trade ∷ trade_status_name h.status ∷ decimal h.stamp ∷ []

-- The records of the last trades `r`: one for each of `r.trades`, then one for each of `r.history`.
abbrev pub records_of_activity : Activity → model.View
records_of_activity r = map recent_trade_record (map abstract_trade_row r.trades.items) ++ map recent_status_record r.history.items
