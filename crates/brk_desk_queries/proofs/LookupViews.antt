-- The views of looked-up trades, from the rows read, are the model's.
use Rattle.std.proofs.Common.{◌≡◌, ◌≤◌, ◌==◌, ℕ, Bool, true, false, cond, List, [], ◌∷◌, Option, Some, None, Ok, Err, refl, sym, ap, ◌∙◌, find, filter, length, map, take, arith, ◌+◌, ◌++◌}
use Rattle.std.proofs.lemmas.List.{take_all}
use Rattle.std.specs.Global.{Vec}
use Rattle.std.specs.List.{list_any}
use Rattle.std.specs.Prelude.{◌&&◌, ◌||◌, bytes_eq, flat_map, is_none, option_map, option_to_list}
use Rattle.brk_money.specs.Spelling.{Text}
use Rattle.brk_money.specs.declared.refusal.Refusal.TheVariants.{NoAccount, NoSecurity, NoTrade}
use Rattle.brk_ref.specs.Rows.{abstract_history_row, abstract_cash_row, abstract_settlement_row, abstract_trade_row}
use Rattle.brk_ref.specs.declared.history_row.HistoryRow as history
use Rattle.brk_ref.specs.declared.cash_row.CashRow as cash
use Rattle.brk_ref.specs.declared.settlement_row.SettlementRow as settlement
use Rattle.brk_ref.specs.declared.trade_row.TradeRow as trade
use Rattle.brk_model.specs.Ask.{view_of_base, ask, checks_of_query}
use Rattle.brk_model.specs.Base.{Base, account_with_id, security_with_symbol, trade_with_id}
use Rattle.brk_model.specs.Joins.{trade_rows_oldest_first, trade_row_with_id}
use Rattle.brk_model.specs.Lists.{all_distinct, contains_number, insert_by, is_pair_less, sort_by}
use Rattle.brk_model.specs.LookupView.{row_stamp_is_between, is_cash_row_of_trade, trade_lookup_records, trade_lookup_view}
use Rattle.brk_model.specs.Queries.{TradesOfAccount, TradesOfSymbol, TradesWith}
use Rattle.brk_model.specs.Sheets.{sheets}
use Rattle.brk_model.specs.Tables.{AccountRow, HistoryRow, SecurityRow, SettlementRow, Tables, TradeRow, security_row, tables_of_base, trade_row}
use Rattle.brk_model.specs.Views.{view_of_tables}
use Rattle.brk_audit_theorems.specs.Sound.{AuditInvariant}
use Rattle.brk_trade_books.specs.Books.{BooksInvariant}
use Rattle.brk_trade_books.proofs.Reading.{is_none-map}
use Rattle.brk_trade_books.proofs.TermReading.{reads_security}
use Rattle.brk_trade_books.proofs.TradeReading.{reads_trade}
use Rattle.brk_trade_books.specs.TradeReads.{AreTradesWithIds}
use Rattle.brk_view_rows.specs.Lookup.{AreRowsOfTrade, records_of_looked_up_trade, table_rows_of_trade}
use Rattle.brk_view_rows.specs.Views.{records_of_view}
use Rattle.brk_view_rows.specs.declared.lookups.LookedUp.{LookedUp}
use Rattle.brk_view_rows.specs.declared.view.View.{View}
use Rattle.brk_view_rows.specs.declared.view.View.TheVariants as views
use Rattle.brk_view_rows.proofs.Shown.{rows_shown}
use Rattle.brk_view_theorems.proofs.FoundRows.{cash_alone, settlement_alone, trades_by_id}
use Rattle.brk_view_theorems.proofs.LookupRows.{same_lookup}
use Rattle.brk_desk_queries.specs.LookedUp.{HaveAllRowsOfTrades}
use Rattle.brk_desk_queries.specs.QueryResults.{AnswersQueryAsModel}
use Rattle.brk_desk_queries.proofs.Tested.{answered, carried_as, is_missing, is_there, refused}
use Rattle.brk_store.proofs.TradesFound.{twice}
use Rattle.brk_desk_queries.proofs.RecentViews.{account_missing, account_there}

-- ---- one trade

-- `settled`, `moved` and `came` are the settlement, the cash row and the history of the trade with
-- the id `trade`.
abbrev pub AreRelatedRowsOfTrade : ℕ → Option settlement.SettlementRow → Option cash.CashRow → List history.HistoryRow → Tables → Type 0
AreRelatedRowsOfTrade trade settled moved came t =
    (option_map abstract_settlement_row settled ≡ find (λ (s : SettlementRow). s.trade == trade) t.settlements) × (option_map abstract_cash_row moved ≡ find (is_cash_row_of_trade trade) t.moves)
    × (map abstract_history_row came ≡ filter (λ (h : HistoryRow). h.trade == trade) t.history)

-- is what became of it
pub follows : (trade : trade.TradeRow) (settled : Option settlement.SettlementRow) (moved : Option cash.CashRow) (came : List history.HistoryRow) (t : Tables)
    → AreRelatedRowsOfTrade trade.id settled moved came t → (base : Base) → BooksInvariant base → AuditInvariant base → t ≡ sheets base → AreRowsOfTrade t trade settled moved came
follows trade settled moved came t f base books sound s = record {
  settlement_rows = ap option_to_list (f.0 ∙ ap (λ (x : Tables). find (λ r. r.trade == trade.id) x.settlements) s) ∙ settlement_alone base trade.id books sound
      ∙ ap (λ (x : Tables). filter (λ r. r.trade == trade.id) x.settlements) (sym s);
  cash_rows = ap option_to_list (f.1 ∙ ap (λ (x : Tables). find (is_cash_row_of_trade trade.id) x.moves) s) ∙ cash_alone base trade.id books sound
      ∙ ap (λ (x : Tables). filter (is_cash_row_of_trade trade.id) x.moves) (sym s);
  history_rows = f.2;
}

-- ---- the views

-- The view has the records of `trade_lookup_view` for `test`, if `found` are the first 20
-- trades that satisfy `test`, with their related rows.
abbrev pub IsViewOfSelectedTrades : (Tables → TradeRow → Bool) → List LookedUp → View → Type 0
IsViewOfSelectedTrades test found view =
    (t : Tables) → map records_of_looked_up_trade found ≡ map (trade_lookup_records t) (take 20 (trade_rows_oldest_first (filter (test t) t.trades)))
    → records_of_view view ≡ trade_lookup_view t (test t)

-- what was looked up shows the first twenty of the trades that pass a test
seen_by : (test : TradeRow → Bool) (rows : List TradeRow) (found : List LookedUp) (view : View)
    → ((t : Tables) → map records_of_looked_up_trade found ≡ map (trade_lookup_records t) (take 20 (trade_rows_oldest_first (filter test t.trades))) → records_of_view view ≡ trade_lookup_view t test)
    → (t : Tables) → rows ≡ take 20 (trade_rows_oldest_first (filter test t.trades)) → HaveAllRowsOfTrades rows found t → (base : Base) → BooksInvariant base → AuditInvariant base → t ≡ sheets base
    → trade_lookup_view (tables_of_base base) test ≡ records_of_view view
seen_by test rows found view is t e looked base books sound s =
    sym (is t (rows_shown t found rows (looked base books sound s) ∙ ap (map (trade_lookup_records t)) e) ∙ ap (λ (x : Tables). trade_lookup_view x test) s ∙ same_lookup base test books sound)

-- ---- of an account

pub no_account_trades : (id first last : ℕ) (t : Tables) → None ≡ find (λ r. r.id == id) t.accounts → AnswersQueryAsModel (TradesOfAccount id first last) (Err NoAccount) t
unfolding ask checks_of_query
no_account_trades id first last t e =
    (λ base books sound s. refused (is_none (account_with_id base id)) NoAccount (view_of_base base (TradesOfAccount id first last)) (account_missing base id t s e), tt)

-- True if the trade is one of the account, with a stamp from `first` to `last`.
abbrev pub is_trade_of_account_in_span : ℕ → ℕ → ℕ → TradeRow → Bool
is_trade_of_account_in_span account first last r = (r.account == account) && row_stamp_is_between first last r

pub account_trades_seen : (id first last : ℕ) (a : AccountRow) (rows : List TradeRow) (found : Vec LookedUp) (view : View) → view ≡ views.Lookup found
    → ((t : Tables) (account first last : ℕ)
    → map records_of_looked_up_trade found.items
    ≡ map (trade_lookup_records t) (take 20 (trade_rows_oldest_first (filter (is_trade_of_account_in_span account first last) t.trades)))
    → records_of_view view ≡ trade_lookup_view t (is_trade_of_account_in_span account first last))
    → (t : Tables) → Some a ≡ find (λ r. r.id == id) t.accounts
    → rows ≡ take 20 (trade_rows_oldest_first (filter (is_trade_of_account_in_span id first last) t.trades)) → HaveAllRowsOfTrades rows found.items t
    → AnswersQueryAsModel (TradesOfAccount id first last) (Ok view) t
unfolding ask checks_of_query view_of_base view_of_tables
account_trades_seen id first last a rows found view shown is t e w looked = (
  λ base books sound s.
      answered (is_none (account_with_id base id)) NoAccount (trade_lookup_view (tables_of_base base) (is_trade_of_account_in_span id first last)) (account_there base id a t s e)
      ∙ ap Ok (seen_by (is_trade_of_account_in_span id first last) rows found.items view (λ t. is t id first last) t w looked base books sound s),
  λ base books sound s. carried_as (TradesOfAccount id first last) view (views.Lookup found) t shown (looked base books sound s ∙ ap (map (table_rows_of_trade t)) w),
)

-- ---- of a security

security_missing : (base : Base) (symbol : Text) (t : Tables) → t ≡ sheets base → None ≡ find (λ r. bytes_eq r.symbol symbol) t.securities → is_none (security_with_symbol base symbol) ≡ true
security_missing base symbol t s e =
    sym (is_none-map security_row (security_with_symbol base symbol))
    ∙ is_missing (option_map security_row (security_with_symbol base symbol)) (e ∙ ap (λ (x : Tables). find (λ r. bytes_eq r.symbol symbol) x.securities) s ∙ reads_security base symbol)

security_there : (base : Base) (symbol : Text) (r : SecurityRow) (t : Tables) → t ≡ sheets base → Some r ≡ find (λ r. bytes_eq r.symbol symbol) t.securities
    → is_none (security_with_symbol base symbol) ≡ false
security_there base symbol r t s e =
    sym (is_none-map security_row (security_with_symbol base symbol))
    ∙ is_there r (option_map security_row (security_with_symbol base symbol)) (e ∙ ap (λ (x : Tables). find (λ r. bytes_eq r.symbol symbol) x.securities) s ∙ reads_security base symbol)

pub no_symbol_trades : (symbol : Text) (first last : ℕ) (t : Tables) → None ≡ find (λ r. bytes_eq r.symbol symbol) t.securities
    → AnswersQueryAsModel (TradesOfSymbol symbol first last) (Err NoSecurity) t
unfolding ask checks_of_query
no_symbol_trades symbol first last t e =
    (λ base books sound s. refused (is_none (security_with_symbol base symbol)) NoSecurity (view_of_base base (TradesOfSymbol symbol first last)) (security_missing base symbol t s e), tt)

-- True if the trade is one of the symbol, with a stamp from `first` to `last`.
abbrev pub is_trade_of_symbol_in_span : Text → ℕ → ℕ → TradeRow → Bool
is_trade_of_symbol_in_span symbol first last r = bytes_eq r.symbol symbol && row_stamp_is_between first last r

pub symbol_trades_seen : (symbol : Text) (first last : ℕ) (row : SecurityRow) (rows : List TradeRow) (found : Vec LookedUp) (view : View) → view ≡ views.Lookup found
    → ((t : Tables) (symbol : List ℕ) (first last : ℕ)
    → map records_of_looked_up_trade found.items
    ≡ map (trade_lookup_records t) (take 20 (trade_rows_oldest_first (filter (is_trade_of_symbol_in_span symbol first last) t.trades)))
    → records_of_view view ≡ trade_lookup_view t (is_trade_of_symbol_in_span symbol first last))
    → (t : Tables) → Some row ≡ find (λ r. bytes_eq r.symbol symbol) t.securities
    → rows ≡ take 20 (trade_rows_oldest_first (filter (is_trade_of_symbol_in_span symbol first last) t.trades)) → HaveAllRowsOfTrades rows found.items t
    → AnswersQueryAsModel (TradesOfSymbol symbol first last) (Ok view) t
unfolding ask checks_of_query view_of_base view_of_tables
symbol_trades_seen symbol first last row rows found view shown is t e w looked = (
  λ base books sound s.
      answered (is_none (security_with_symbol base symbol)) NoSecurity (trade_lookup_view (tables_of_base base) (is_trade_of_symbol_in_span symbol first last)) (security_there base symbol row t s e)
      ∙ ap Ok (seen_by (is_trade_of_symbol_in_span symbol first last) rows found.items view (λ t. is t symbol first last) t w looked base books sound s),
  λ base books sound s. carried_as (TradesOfSymbol symbol first last) view (views.Lookup found) t shown (looked base books sound s ∙ ap (map (table_rows_of_trade t)) w),
)

-- ---- named by their ids

same_missing : (base : Base) (ids : List ℕ) → list_any (λ id. is_none (trade_row_with_id (sheets base) id)) ids ≡ list_any (λ id. is_none (trade_with_id base id)) ids
same_missing base [] = refl
same_missing base (id ∷ ids) = (λ i. (ap is_none (reads_trade base id) ∙ is_none-map trade_row (trade_with_id base id)) i || same_missing base ids i)

pub no_trades : (ids : List ℕ) (t : Tables) → list_any (λ id. is_none (trade_row_with_id t id)) ids ≡ true → AnswersQueryAsModel (TradesWith ids) (Err NoTrade) t
unfolding ask checks_of_query
no_trades ids t e = (
  λ base books sound s.
      refused (list_any (λ id. is_none (trade_with_id base id)) ids) NoTrade (view_of_base base (TradesWith ids))
      (sym (same_missing base ids) ∙ ap (λ (x : Tables). list_any (λ id. is_none (trade_row_with_id x id)) ids) (sym s) ∙ e),
  tt,
)

none_missing : (look : ℕ → Option TradeRow) (ids : List ℕ) (rows : List TradeRow) → map Some rows ≡ map look ids → list_any (λ id. is_none (look id)) ids ≡ false
none_missing look [] rows e = refl
none_missing look (id ∷ ids) [] e = absurd (cc)
none_missing look (id ∷ ids) (r ∷ rows) e =
    let first : Some r ≡ look id = cc in
    let rest : map Some rows ≡ map look ids = cc in
    ap (λ b. b || list_any (λ id. is_none (look id)) ids) (is_there r (look id) first) ∙ none_missing look ids rows rest

-- ---- at most twenty

length_put : {X : Type 0} (before : X → X → Bool) (x : X) (ys : List X) → length (insert_by before x ys) ≡ length ys + 1
length_put before x [] = omega arith
length_put before x (y ∷ ys) = by_test (before y x) (length_put before x ys)
  where
    by_test : (b : Bool) → length (insert_by before x ys) ≡ length ys + 1 → length (cond b (y ∷ insert_by before x ys) (x ∷ y ∷ ys)) ≡ length (y ∷ ys) + 1
    by_test true e = omega arith
    by_test false e = omega arith

length_sorted : {X : Type 0} (before : X → X → Bool) (xs : List X) → length (sort_by before xs) ≡ length xs
unfolding sort_by
length_sorted before [] = refl
length_sorted before (x ∷ xs) = let e = length_put before x (sort_by before xs) in let f = length_sorted before xs in omega arith

as_many : (look : ℕ → Option TradeRow) (ids : List ℕ) (rows : List TradeRow) → map Some rows ≡ map look ids → length rows ≡ length ids
as_many look [] [] e = refl
as_many look [] (r ∷ rows) e = absurd (cc)
as_many look (id ∷ ids) [] e = absurd (cc)
as_many look (id ∷ ids) (r ∷ rows) e = let rest : map Some rows ≡ map look ids = cc in let f = as_many look ids rows rest in omega arith

-- what was found one by one
one_by_one : (look : ℕ → Option TradeRow) (ids : List ℕ) (rows : List TradeRow) → map Some rows ≡ map look ids → rows ≡ flat_map (λ id. option_to_list (look id)) ids
one_by_one look [] [] e = refl
one_by_one look [] (r ∷ rows) e = absurd (cc)
one_by_one look (id ∷ ids) [] e = absurd (cc)
one_by_one look (id ∷ ids) (r ∷ rows) e =
    let first : Some r ≡ look id = cc in
    let rest : map Some rows ≡ map look ids = cc in
    ap (λ rs. r ∷ rs) (one_by_one look ids rows rest) ∙ ap (λ o. option_to_list o ++ flat_map (λ id. option_to_list (look id)) ids) first

-- the oldest first, they are the first twenty of all trades of these ids
oldest_named : (base : Base) (ids : List ℕ) (rows : List TradeRow) → BooksInvariant base → AuditInvariant base → all_distinct ids ≡ true → length ids ≤ 20
    → map Some rows ≡ map (trade_row_with_id (sheets base)) ids
    → trade_rows_oldest_first rows ≡ take 20 (trade_rows_oldest_first (filter (λ r. contains_number r.id ids) (sheets base).trades))
oldest_named base ids rows books sound distinct few e =
    let many : length (trade_rows_oldest_first rows) ≤ 20 =
    (let a = length_sorted (λ (a b : TradeRow). is_pair_less a.stamp b.stamp a.id b.id) rows in let b = as_many (trade_row_with_id (sheets base)) ids rows e in omega arith) in
    sym (take_all 20 (trade_rows_oldest_first rows) many)
    ∙ ap (λ rs. take 20 (trade_rows_oldest_first rs)) (one_by_one (trade_row_with_id (sheets base)) ids rows e)
    ∙ ap (take 20) (trades_by_id base ids books sound distinct)

-- True if the id of the trade is one of `ids`.
abbrev pub is_trade_with_one_of_ids : List ℕ → TradeRow → Bool
is_trade_with_one_of_ids ids r = contains_number r.id ids

-- the trades of these ids that were found
are_named : (ids : List ℕ) (named : List trade.TradeRow) (t : Tables) → AreTradesWithIds t ids named → (base : Base) → t ≡ sheets base
    → map Some (map abstract_trade_row named) ≡ map (trade_row_with_id (sheets base)) ids
are_named ids named t e base s = sym (twice abstract_trade_row Some named) ∙ e ∙ ap (λ (x : Tables). map (trade_row_with_id x) ids) s

-- in order, they are the first twenty of these ids
named_first : (ids : List ℕ) (named ordered : List trade.TradeRow) → all_distinct ids ≡ true → length ids ≤ 20 → map abstract_trade_row ordered ≡ trade_rows_oldest_first (map abstract_trade_row named)
    → (t : Tables) → AreTradesWithIds t ids named → (base : Base) → BooksInvariant base → AuditInvariant base → t ≡ sheets base
    → map abstract_trade_row ordered ≡ take 20 (trade_rows_oldest_first (filter (is_trade_with_one_of_ids ids) t.trades))
named_first ids named ordered distinct few order t e base books sound s =
    order ∙ oldest_named base ids (map abstract_trade_row named) books sound distinct few (are_named ids named t e base s)
    ∙ ap (λ (x : Tables). take 20 (trade_rows_oldest_first (filter (is_trade_with_one_of_ids ids) x.trades))) (sym s)

pub trades_seen : (ids : List ℕ) (named ordered : List trade.TradeRow) (found : Vec LookedUp) (view : View) → all_distinct ids ≡ true → length ids ≤ 20
    → map abstract_trade_row ordered ≡ trade_rows_oldest_first (map abstract_trade_row named) → view ≡ views.Lookup found
    → ((t : Tables) (ids : List ℕ)
    → map records_of_looked_up_trade found.items
    ≡ map (trade_lookup_records t) (take 20 (trade_rows_oldest_first (filter (is_trade_with_one_of_ids ids) t.trades)))
    → records_of_view view ≡ trade_lookup_view t (is_trade_with_one_of_ids ids))
    → (t : Tables) → AreTradesWithIds t ids named → HaveAllRowsOfTrades (map abstract_trade_row ordered) found.items t → AnswersQueryAsModel (TradesWith ids) (Ok view) t
unfolding ask checks_of_query view_of_base view_of_tables
trades_seen ids named ordered found view distinct few order shown is t e looked = (
  λ base books sound s.
      answered (list_any (λ id. is_none (trade_with_id base id)) ids) NoTrade (trade_lookup_view (tables_of_base base) (is_trade_with_one_of_ids ids))
      (sym (same_missing base ids) ∙ none_missing (trade_row_with_id (sheets base)) ids (map abstract_trade_row named) (are_named ids named t e base s))
      ∙ ap Ok (seen_by (is_trade_with_one_of_ids ids) (map abstract_trade_row ordered) found.items view (λ t. is t ids) t
      (named_first ids named ordered distinct few order t e base books sound s) looked base books sound s),
  λ base books sound s.
      carried_as (TradesWith ids) view (views.Lookup found) t shown
      (looked base books sound s ∙ ap (map (table_rows_of_trade t)) (named_first ids named ordered distinct few order t e base books sound s)),
)
