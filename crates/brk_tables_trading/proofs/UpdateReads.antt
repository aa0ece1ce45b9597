-- The results of the reads of trades for a text update.
use Rattle.std.proofs.Common.{◌≡◌, ℕ, List, [], ◌∷◌, Bool, true, false, not, cond, ◌&&◌, ◌||◌, map, filter, take, ◌==◌, Ordering, Less, Equal, Greater, is_eq, Some, refl, sym, ap, ◌∙◌, arith}
use Rattle.std.specs.Prelude.{bytes_eq, nat_lt}
use Rattle.std.specs.Ordering.{ordering_then}
use Rattle.std.proofs.lemmas.Bool.Decides.{nat_tests}
use Rattle.sqlite_value.specs.declared.value.Value.TheVariants.{Text as Words}
use Rattle.sqlite_value.specs.Order.{Row, value_cmp}
use Rattle.sqlite_keyed.specs.Lists.{sort_by}
use Rattle.sqlite.specs.State.{State, Shown}
use Rattle.brk_money.specs.Kinds.{is_same_trade_status, trade_status_code}
use Rattle.brk_money.specs.declared.status.Status.{Status}
use Rattle.brk_money.specs.declared.status.Status.TheVariants.{Completed, Active, Submitted, Pending, Canceled}
use Rattle.brk_model.specs.Joins.{trade_rows_oldest_first}
use Rattle.brk_model.specs.Keys.{KeyPart, number, rows_sorted_by_key, insert_row_by_key, settlement_key}
use Rattle.brk_model.specs.Lists as model
use Rattle.brk_model.specs.LookupView.{row_stamp_is_between}
use Rattle.brk_model.specs.Tables.{SettlementRow, TradeRow}
use Rattle.brk_tables_sql.specs.Desk.{TablesSatisfy}
use Rattle.brk_tables_sql.proofs.Answer.{limited_map}
use Rattle.brk_tables_sql.proofs.Told.{told_rising, told_sorted}
use Rattle.brk_tables_schema.specs.Cells.{natural_as_value, flag_as_value, trade_cells, settlement_cells}
use Rattle.brk_tables_schema.specs.Desk.{Trades, Settlements, desk_tables, ordering_by_primary_key}
use Rattle.brk_tables_schema.specs.Order.{ordering_by_key}
use Rattle.brk_tables_schema.proofs.Compared.{at_least, at_most}
use Rattle.brk_tables_schema.proofs.Order.{key_total, inserted}
use Rattle.brk_tables_schema.proofs.Tests.{same_number, same_text}
use Rattle.brk_trade_rows.specs.Chosen.{first_twenty_completed_cash_trade_rows_of_symbol, first_twenty_completed_trade_rows_of_account}
use Rattle.brk_tables_trading.proofs.CompletedCashOfSymbol
use Rattle.brk_tables_trading.proofs.CompletedOfAccount
use Rattle.brk_tables_trading.proofs.SettlementByTrade

-- ---- the oldest trades first

-- the moment of a trade, and then its id
abbrev pub trade_age : TradeRow → List KeyPart
trade_age r = number r.stamp ∷ number r.id ∷ []

by_numbers : (m n j k : ℕ) → nat_lt m n || ((m == n) && nat_lt j k) ≡ nat_lt m n || (not (nat_lt n m) && (nat_lt j k || (not (nat_lt k j) && false)))
by_numbers m n j k = grind (arith, nat_tests)

-- the order of the model and that of the database are one
sorted : {X : Type 0} (key : X → List KeyPart) (xs : List X) → rows_sorted_by_key key xs ≡ sort_by (ordering_by_key key) xs
unfolding Rattle.brk_model.specs.Lists.sort_by
sorted key [] = refl
sorted key (x ∷ xs) = ap (insert_row_by_key key x) (sorted key xs) ∙ inserted key x (sort_by (ordering_by_key key) xs)

pub oldest_are : (rows : List TradeRow) → trade_rows_oldest_first rows ≡ sort_by (ordering_by_key trade_age) rows
oldest_are rows = (λ i. model.sort_by (λ (a b : TradeRow). by_numbers a.stamp b.stamp a.id b.id i) rows) ∙ sorted trade_age rows

second : (a b : Ordering) → is_eq (ordering_then a b) ≡ true → is_eq b ≡ true
second Less b h = absurd (let f = h in cc)
second Equal b h = h
second Greater b h = absurd (let f = h in cc)

-- a code is that of what is completed where the status is
is_done : (s : Status) → bytes_eq (trade_status_code s) (trade_status_code Completed) ≡ is_same_trade_status s Completed
is_done Completed = refl
is_done Active = refl
is_done Submitted = refl
is_done Pending = refl
is_done Canceled = refl

-- a flag is set where its value is true
is_set : (b : Bool) → (cond b 1 0 == 1) ≡ b
is_set true = refl
is_set false = refl

and_assoc : (a b c : Bool) → a && (b && c) ≡ (a && b) && c
and_assoc true b c = refl
and_assoc false b c = refl

pub tells_completed_of_account : (old new : State) (account first last : ℕ) (rows : List Row)
    → Shown CompletedOfAccount.statement (Words (trade_status_code Completed) ∷ natural_as_value account ∷ natural_as_value first ∷ natural_as_value last ∷ []) old new rows
    → TablesSatisfy desk_tables (λ t. rows ≡ map trade_cells (first_twenty_completed_trade_rows_of_account account first last t)) old.now
tells_completed_of_account old new account first last rows shown = λ t tree h.
    let test : TradeRow → Bool = λ r. is_same_trade_status r.status Completed && ((r.account == account) && row_stamp_is_between first last r) in
    told_sorted desk_tables Trades CompletedOfAccount.statement CompletedOfAccount.ask CompletedOfAccount.paging CompletedOfAccount.is_asked (Words (trade_status_code Completed) ∷ natural_as_value account ∷ natural_as_value first ∷ natural_as_value last ∷ [])
    test (λ tree x. rw (same_text (trade_status_code x.status) (trade_status_code Completed), is_done x.status, same_number x.account account, at_least x.stamp first, at_most x.stamp last) refl)
    trade_cells (λ x. refl) (ordering_by_key trade_age) (key_total trade_age) (λ tree x y. refl) old new rows shown (λ x y e. second (value_cmp (natural_as_value x.stamp) (natural_as_value y.stamp)) _ e) t tree h
    ∙ limited_map trade_cells (Some 20) (sort_by (ordering_by_key trade_age) (filter test t.trades))
    ∙ ap (λ rs. map trade_cells (take 20 rs)) (sym (oldest_are (filter test t.trades)))

pub tells_completed_cash_of_symbol : (old new : State) (symbol : List ℕ) (first last : ℕ) (rows : List Row)
    → Shown CompletedCashOfSymbol.statement (Words (trade_status_code Completed) ∷ flag_as_value true ∷ Words symbol ∷ natural_as_value first ∷ natural_as_value last ∷ []) old new rows
    → TablesSatisfy desk_tables (λ t. rows ≡ map trade_cells (first_twenty_completed_cash_trade_rows_of_symbol symbol first last t)) old.now
tells_completed_cash_of_symbol old new symbol first last rows shown = λ t tree h.
    let test : TradeRow → Bool = λ r. is_same_trade_status r.status Completed && ((r.is_cash && bytes_eq r.symbol symbol) && row_stamp_is_between first last r) in
    told_sorted desk_tables Trades CompletedCashOfSymbol.statement CompletedCashOfSymbol.ask CompletedCashOfSymbol.paging CompletedCashOfSymbol.is_asked (Words (trade_status_code Completed) ∷ flag_as_value true ∷ Words symbol ∷ natural_as_value first ∷ natural_as_value last ∷ [])
    test (λ tree x. rw (same_text (trade_status_code x.status) (trade_status_code Completed), is_done x.status, same_number (cond x.is_cash 1 0) 1, is_set x.is_cash, same_text x.symbol symbol, at_least x.stamp first, at_most x.stamp last) (ap (λ c. is_same_trade_status x.status Completed && c) (and_assoc x.is_cash (bytes_eq x.symbol symbol) (row_stamp_is_between first last x))))
    trade_cells (λ x. refl) (ordering_by_key trade_age) (key_total trade_age) (λ tree x y. refl) old new rows shown (λ x y e. second (value_cmp (natural_as_value x.stamp) (natural_as_value y.stamp)) _ e) t tree h
    ∙ limited_map trade_cells (Some 20) (sort_by (ordering_by_key trade_age) (filter test t.trades))
    ∙ ap (λ rs. map trade_cells (take 20 rs)) (sym (oldest_are (filter test t.trades)))

-- ---- what tells the words of a trade

pub tells_settlement : (old new : State) (trade : ℕ) (rows : List Row) → Shown SettlementByTrade.statement (natural_as_value trade ∷ []) old new rows
    → TablesSatisfy desk_tables (λ t. rows ≡ map settlement_cells (filter (λ r. r.trade == trade) t.settlements)) old.now
tells_settlement old new trade rows shown =
    told_rising desk_tables Settlements SettlementByTrade.statement SettlementByTrade.ask SettlementByTrade.paging SettlementByTrade.is_asked (natural_as_value trade ∷ [])
    (λ (r : SettlementRow). r.trade == trade) (λ tree x. same_number x.trade trade)
    settlement_cells (λ x. refl) (ordering_by_primary_key Settlements) (key_total settlement_key) (λ tree x y. refl) old new rows shown (λ x y. refl)
