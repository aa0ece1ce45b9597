-- The views of rows equal the specified views of the tables from which the rows were read.
use Rattle.std.proofs.Common.{◌≡◌, ℕ, zero, suc, List, [], ◌∷◌, ◌++◌, Bool, refl, sym, ap, ◌∙◌, map, filter, take}
use Rattle.std.specs.Prelude.{◌&&◌, ◌||◌, ◌==◌, IfSome, Option, Some, None, bytes_eq, codes, decimal, flat_map, nat_lt, option_map, option_to_list}
use Rattle.std.specs.Fmt.{signed_decimal}
use Rattle.std.specs.List.{list_any}
use Rattle.std.specs.Option.{option_map_or}
use Rattle.brk_ref.specs.Rows.{abstract_history_row, abstract_trade_row}
use Rattle.brk_ref.specs.declared.history_row.HistoryRow.{HistoryRow}
use Rattle.brk_ref.specs.declared.cash_row.CashRow.{CashRow}
use Rattle.brk_ref.specs.declared.settlement_row.SettlementRow.{SettlementRow}
use Rattle.brk_ref.specs.declared.trade_row.TradeRow.{TradeRow}
use Rattle.brk_model.specs.Joins.{history_rows_with_trade_id, trade_rows_oldest_first, trade_rows_recent_first, trade_rows_of_account}
use Rattle.brk_model.specs.Lists.{is_pair_less, sort_by, is_text_less}
use Rattle.brk_model.specs.LookupView as model
use Rattle.brk_model.specs.PositionView.{is_before_by_market_value, last_ten_trade_rows, customer_position_view, recent_trades_view}
use Rattle.brk_model.specs.Queries.{View}
use Rattle.brk_model.specs.Records.{Customer}
use Rattle.brk_model.specs.Rows.{nonnegative_cents_text}
use Rattle.brk_model.specs.StatusView.{customer_and_broker_names, record_of_trade_status, trade_status_view}
use Rattle.brk_model.specs.Tables as tables
use Rattle.brk_model.specs.Tables.{Tables, AccountRow, SecurityRow}
use Rattle.brk_model.specs.VolumeView.{is_before_by_volume, value_of_sector_requests_of_broker, broker_volume_view}
use Rattle.brk_money.specs.Kinds.{trade_status_name, trade_type_name}
use Rattle.brk_money.specs.Spelling.{Text}
use Rattle.std.specs.Global.{Vec}
use Rattle.brk_view_rows.specs.Lookup.{AreRowsOfTrade, LookedUpRows, records_of_looked_up_trade, rows_of_looked_up_trade, table_rows_of_trade}
use Rattle.brk_view_rows.specs.Lookup.{stamped_status_of_typed_history_row, history_status_record, is_older_trade, is_older_status, stamped_status_of_history_row}
use Rattle.brk_view_rows.specs.Lots.{AreTouchedLots, first_trade_since_as_list, is_earlier_lot_change, stamped_lot_change, lot_change_record, touched_lot_records, changes_of_touched_lots}
use Rattle.brk_view_rows.specs.Recent.{is_newer_status, recent_status_record, recent_trade_record}
use Rattle.brk_view_rows.specs.Status.{trade_status_record, party_names_record, rows_of_trade_status, trade_row_with_security}
use Rattle.brk_view_rows.specs.Volume.{volume_of_broker_in_sector, has_name_and_pending_request, is_before_by_broker_volume, broker_volume_record}
use Rattle.brk_view_rows.specs.Worths.{is_worth_before_by_market_value, worth_of_account, account_worth_record}
use Rattle.brk_view_rows.specs.declared.lookups.LookedUp.{LookedUp}
use Rattle.brk_view_rows.specs.declared.lookups.StampedStatus.{StampedStatus}
use Rattle.brk_view_rows.specs.declared.touched_lots.LotTouch.{LotTouch}
use Rattle.brk_view_rows.specs.declared.touched_lots.TouchedLots.{TouchedLots}
use Rattle.brk_view_rows.specs.declared.statuses.AccountStatus.{AccountStatus}
use Rattle.brk_view_rows.specs.declared.statuses.TradeStatus.{TradeStatus}
use Rattle.brk_view_rows.specs.declared.volumes.BrokerVolume.{BrokerVolume}
use Rattle.brk_view_rows.specs.declared.worths.AccountWorth.{AccountWorth}
use Rattle.brk_view_rows.proofs.Names.{volumes_before}
use Rattle.brk_view_rows.proofs.Putting.{map_sorted}

map_map : {X Y Z : Type 0} (g : Y → Z) (f : X → Y) (xs : List X) → map g (map f xs) ≡ map (λ x. g (f x)) xs
map_map g f [] = refl
map_map g f (x ∷ xs) = ap (λ ys. g (f x) ∷ ys) (map_map g f xs)

-- ---- accounts

pub position_shown : (t : Tables) (test : Customer → Bool) (accounts : List AccountWorth)
    → accounts ≡ map (worth_of_account t) (filter (λ a. list_any (λ c. test c && (c.id == a.customer)) t.customers) t.accounts)
    → map account_worth_record (sort_by is_worth_before_by_market_value accounts) ≡ customer_position_view t test
unfolding customer_position_view
position_shown t test accounts e =
    let rows : List AccountRow = filter (λ a. list_any (λ c. test c && (c.id == a.customer)) t.customers) t.accounts in
    ap (λ worths. map account_worth_record (sort_by is_worth_before_by_market_value worths)) e
    ∙ ap (map account_worth_record) (map_sorted (is_before_by_market_value t) is_worth_before_by_market_value (worth_of_account t) rows (λ a b. refl))
    ∙ map_map account_worth_record (worth_of_account t) (sort_by (is_before_by_market_value t) rows)

-- ---- what an account did last

-- True if the TRADE_HISTORY row `a` is before `b` when they are sorted by stamp, then by trade,
-- descending.
abbrev newest : tables.HistoryRow → tables.HistoryRow → Bool
newest a b = is_pair_less b.stamp a.stamp b.trade a.trade

pub recent_shown : (t : Tables) (account : ℕ) (trades : List TradeRow) (history : List HistoryRow) → map abstract_trade_row trades ≡ last_ten_trade_rows t account
    → map abstract_history_row history ≡ flat_map (λ row. history_rows_with_trade_id t row.id) (last_ten_trade_rows t account)
    → map recent_trade_record (map abstract_trade_row trades) ++ map recent_status_record (sort_by is_newer_status history) ≡ recent_trades_view t account
unfolding recent_trades_view
recent_shown t account trades history e f =
    let shown : tables.HistoryRow → List (List ℕ) = λ h. codes "history" ∷ decimal h.trade ∷ trade_status_name h.status ∷ decimal h.stamp ∷ [] in
    (λ i. map recent_trade_record (e i)
    ++ (sym (map_map shown abstract_history_row (sort_by is_newer_status history))
    ∙ ap (map shown) (sym (map_sorted is_newer_status newest abstract_history_row history (λ a b. refl)) ∙ ap (sort_by newest) f)) i)

-- ---- trades looked up

records_shown : (t : Tables) (trades : List LookedUp) (rows : List tables.TradeRow) → map records_of_looked_up_trade trades ≡ map (model.trade_lookup_records t) rows
    → flat_map records_of_looked_up_trade trades ≡ flat_map (model.trade_lookup_records t) rows
records_shown t trades rows e = joined records_of_looked_up_trade trades ∙ ap join e ∙ sym (joined (model.trade_lookup_records t) rows)
  where
    join : List View → View
    join [] = []
    join (xs ∷ xss) = xs ++ join xss

    joined : {X : Type 0} (f : X → View) (xs : List X) → flat_map f xs ≡ join (map f xs)
    joined f [] = refl
    joined f (x ∷ xs) = ap (λ ys. f x ++ ys) (joined f xs)

pub lookup_shown : (t : Tables) (test : tables.TradeRow → Bool) (trades : List LookedUp)
    → map records_of_looked_up_trade trades ≡ map (model.trade_lookup_records t) (take 20 (trade_rows_oldest_first (filter test t.trades)))
    → flat_map records_of_looked_up_trade trades ≡ model.trade_lookup_view t test
unfolding Rattle.brk_model.specs.LookupView.trade_lookup_view
lookup_shown t test trades e = records_shown t trades (take 20 (trade_rows_oldest_first (filter test t.trades))) e

-- True if the TRADE row `a` is before `b` when they are sorted by stamp, then by id, ascending.
abbrev older_row : tables.TradeRow → tables.TradeRow → Bool
older_row a b = is_pair_less a.stamp b.stamp a.id b.id

pub older_shown : (trades : List TradeRow) → map abstract_trade_row (sort_by is_older_trade trades) ≡ trade_rows_oldest_first (map abstract_trade_row trades)
older_shown trades = sym (map_sorted is_older_trade older_row abstract_trade_row trades (λ a b. refl))

-- True if the TRADE_HISTORY row `a` has a smaller stamp than `b`.
abbrev older_status : tables.HistoryRow → tables.HistoryRow → Bool
older_status a b = nat_lt a.stamp b.stamp

moments_carried : (history : List HistoryRow)
    → sort_by is_older_status (map stamped_status_of_typed_history_row history)
    ≡ map stamped_status_of_history_row (sort_by (λ a b. nat_lt a.stamp b.stamp) (map abstract_history_row history))
moments_carried history =
    let before : HistoryRow → HistoryRow → Bool = λ a b. nat_lt a.stamp b.stamp in
    map_sorted before is_older_status stamped_status_of_typed_history_row history (λ a b. refl)
    ∙ sym (map_map stamped_status_of_history_row abstract_history_row (sort_by before history))
    ∙ ap (map stamped_status_of_history_row) (sym (map_sorted before older_status abstract_history_row history (λ a b. refl)))

pub one_carried : (t : Tables) (trade : TradeRow) (settlement : Option SettlementRow) (cash : Option CashRow) (history : List HistoryRow) (moments : Vec StampedStatus)
    → moments.items ≡ sort_by is_older_status (map stamped_status_of_typed_history_row history) → AreRowsOfTrade t trade settlement cash history
    → rows_of_looked_up_trade (record { trade = trade; settlement = settlement; cash = cash; history = moments }) ≡ table_rows_of_trade t (abstract_trade_row trade)
one_carried t trade settlement cash history moments e is = λ i. record {
  trade = abstract_trade_row trade;
  settlements = is.settlement_rows i;
  moves = is.cash_rows i;
  history = (e ∙ moments_carried history ∙ ap (λ rows. map stamped_status_of_history_row (sort_by (λ a b. nat_lt a.stamp b.stamp) rows)) is.history_rows) i;
}

-- The records of the rows `r` of a trade: of the trade, its settlements, its cash rows and its
-- statuses.
abbrev shown_rows : LookedUpRows → View
shown_rows r = model.trade_record r.trade ∷ map model.settlement_record r.settlements ++ map model.cash_record r.moves ++ map history_status_record r.history

rows_in_shown : (t : Tables) (row : tables.TradeRow) → shown_rows (table_rows_of_trade t row) ≡ model.trade_lookup_records t row
rows_in_shown t row =
    ap (λ moments. model.trade_record row ∷ map model.settlement_record (filter (λ s. s.trade == row.id) t.settlements)
    ++ map model.cash_record (filter (model.is_cash_row_of_trade row.id) t.moves) ++ moments)
    (map_map history_status_record stamped_status_of_history_row (sort_by (λ a b. nat_lt a.stamp b.stamp) (history_rows_with_trade_id t row.id)))

-- trades with these rows have their records
pub rows_shown : (t : Tables) (found : List LookedUp) (rows : List tables.TradeRow) → map rows_of_looked_up_trade found ≡ map (table_rows_of_trade t) rows
    → map records_of_looked_up_trade found ≡ map (model.trade_lookup_records t) rows
rows_shown t found rows e =
    sym (map_map shown_rows rows_of_looked_up_trade found) ∙ ap (map shown_rows) e ∙ map_map shown_rows (table_rows_of_trade t) rows ∙ (λ i. map (λ row. rows_in_shown t row i) rows)

pub one_shown : (t : Tables) (trade : TradeRow) (settlement : Option SettlementRow) (cash : Option CashRow) (history : List HistoryRow)
    (moments : Vec StampedStatus) → moments.items ≡ sort_by is_older_status (map stamped_status_of_typed_history_row history)
    → AreRowsOfTrade t trade settlement cash history
    → records_of_looked_up_trade (record { trade = trade; settlement = settlement; cash = cash; history = moments }) ≡ model.trade_lookup_records t (abstract_trade_row trade)
one_shown t trade settlement cash history moments e is =
    ap shown_rows (one_carried t trade settlement cash history moments e is) ∙ rows_in_shown t (abstract_trade_row trade)

-- ---- lots that a trade touched

map_take : {X Y : Type 0} (f : X → Y) (n : ℕ) (xs : List X) → take n (map f xs) ≡ map f (take n xs)
map_take f zero xs = refl
map_take f (suc n) [] = refl
map_take f (suc n) (x ∷ xs) = ap (λ ys. f x ∷ ys) (map_take f n xs)

-- True if the HOLDING_HISTORY row `a` is before `b` when they are sorted by the stamp of their
-- trade in the tables `t`, then by lot, ascending.
abbrev earlier_touch : Tables → tables.HoldingHistoryRow → tables.HoldingHistoryRow → Bool
earlier_touch t a b = is_pair_less (model.stamp_of_touching_trade t a) (model.stamp_of_touching_trade t b) a.lot b.lot

-- The record of the HOLDING_HISTORY row `row`: its lot, its trade, and the quantity of the lot
-- before and after.
abbrev change_record : tables.HoldingHistoryRow → List (List ℕ)
change_record row = decimal row.lot ∷ decimal row.trade ∷ signed_decimal row.before ∷ signed_decimal row.after ∷ []

changes_shown : (t : Tables) (trade : ℕ) (touches : List LotTouch) → touches ≡ take 20 (sort_by is_earlier_lot_change (changes_of_touched_lots t trade))
    → map lot_change_record touches ≡ map change_record (take 20 (sort_by (earlier_touch t) (filter (λ row. model.trade_touches_lot t trade row.lot) t.holding_history)))
changes_shown t trade touches e =
    let rows : List tables.HoldingHistoryRow = filter (λ row. model.trade_touches_lot t trade row.lot) t.holding_history in
    ap (map lot_change_record)
    (e ∙ ap (take 20) (map_sorted (earlier_touch t) is_earlier_lot_change (stamped_lot_change t) rows (λ a b. refl))
    ∙ map_take (stamped_lot_change t) 20 (sort_by (earlier_touch t) rows))
    ∙ map_map lot_change_record (stamped_lot_change t) (take 20 (sort_by (earlier_touch t) rows))

append_nil : {X : Type 0} (xs : List X) → xs ++ [] ≡ xs
append_nil [] = refl
append_nil (x ∷ xs) = ap (λ ys. x ∷ ys) (append_nil xs)

lots_of : (t : Tables) (rows : List tables.TradeRow) (lots : Option TouchedLots) → map (λ row. row.id) rows ≡ option_to_list (option_map (λ l. l.trade) lots)
    → IfSome lots (λ l. l.changes.items ≡ take 20 (sort_by is_earlier_lot_change (changes_of_touched_lots t l.trade))) → touched_lot_records lots ≡ flat_map (model.touched_lots_view t) rows
lots_of t [] None e h = refl
lots_of t [] (Some lots) e h = cc
lots_of t (row ∷ rows) None e h = cc
lots_of t (row ∷ r ∷ rows) (Some lots) e h = cc
lots_of t (row ∷ []) (Some lots) e h =
    let same : lots.trade ≡ row.id = cc in
    (λ i. (decimal (same i) ∷ []) ∷ changes_shown t lots.trade lots.changes.items h i)
    ∙ ap (λ trade. (decimal row.id ∷ []) ∷ map change_record (take 20 (sort_by (earlier_touch t) (filter (λ r. model.trade_touches_lot t trade r.lot) t.holding_history)))) same
    ∙ sym (append_nil (model.touched_lots_view t row))

pub lots_shown : (t : Tables) (account first : ℕ) (lots : Option TouchedLots) → AreTouchedLots t account first lots → touched_lot_records lots ≡ model.touched_lots_of_oldest_trade t account first
unfolding Rattle.brk_model.specs.LookupView.touched_lots_of_oldest_trade
lots_shown t account first lots is = lots_of t (first_trade_since_as_list t account first) lots is.found is.changes

-- ---- what brokers have to trade

volume_order : (t : Tables) (sector : Text) (a b : tables.BrokerRow)
    → is_before_by_broker_volume (volume_of_broker_in_sector t sector a) (volume_of_broker_in_sector t sector b) ≡ is_before_by_volume t sector a b
volume_order t sector a b =
    sym (volumes_before (value_of_sector_requests_of_broker t sector a.id) (value_of_sector_requests_of_broker t sector b.id)
    (is_text_less a.name b.name || (bytes_eq a.name b.name && nat_lt a.id b.id)))

pub volumes_shown : (t : Tables) (sector : Text) (names : List Text) (rows : List tables.BrokerRow) (brokers : List BrokerVolume) → brokers ≡ map (volume_of_broker_in_sector t sector) rows
    → sort_by (is_before_by_volume t sector) rows ≡ sort_by (is_before_by_volume t sector) (filter (has_name_and_pending_request t sector names) t.brokers)
    → map broker_volume_record (sort_by is_before_by_broker_volume brokers) ≡ broker_volume_view t sector names
unfolding broker_volume_view
volumes_shown t sector names rows brokers e f =
    ap (λ bs. map broker_volume_record (sort_by is_before_by_broker_volume bs)) e
    ∙ ap (map broker_volume_record)
    (map_sorted (is_before_by_volume t sector) is_before_by_broker_volume (volume_of_broker_in_sector t sector) rows (volume_order t sector)
    ∙ ap (map (volume_of_broker_in_sector t sector)) f)
    ∙ map_map broker_volume_record (volume_of_broker_in_sector t sector) (sort_by (is_before_by_volume t sector) (filter (has_name_and_pending_request t sector names) t.brokers))

-- ---- how the trades of an account stand

-- The record of a trade with its security.
abbrev shown_status : tables.TradeRow × Option SecurityRow → List Text
shown_status r =
    decimal r.0.id ∷ decimal r.0.stamp ∷ trade_status_name r.0.status ∷ trade_type_name r.0.kind ∷ r.0.symbol ∷ decimal r.0.qty ∷ r.0.executor ∷ nonnegative_cents_text r.0.charge
    ∷ option_map_or (λ s. s.name) r.1 [] ∷ option_map_or (λ s. s.exchange) r.1 [] ∷ []

-- trades with these rows have their records
pub statuses_shown : (t : Tables) (trades : List TradeStatus) (rows : List tables.TradeRow)
    → map rows_of_trade_status trades ≡ map (trade_row_with_security t) rows → map trade_status_record trades ≡ map (record_of_trade_status t) rows
statuses_shown t trades rows e = sym (map_map shown_status rows_of_trade_status trades) ∙ ap (map shown_status) e ∙ map_map shown_status (trade_row_with_security t) rows

pub status_shown : (t : Tables) (id : ℕ) (account : AccountStatus) → flat_map (customer_and_broker_names t) (filter (λ a. a.id == id) t.accounts) ≡ party_names_record account ∷ []
    → map trade_status_record account.trades.items ≡ map (record_of_trade_status t) (take 50 (trade_rows_recent_first (trade_rows_of_account t id)))
    → party_names_record account ∷ map trade_status_record account.trades.items ≡ trade_status_view t id
unfolding trade_status_view
status_shown t id account e f = (λ i. sym e i ++ f i)
