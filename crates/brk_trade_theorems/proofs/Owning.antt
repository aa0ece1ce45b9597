-- The row of each trade is found by its id.
use Rattle.std.proofs.Common.{◌≡◌, ℕ, ◌+◌, ◌==◌, Bool, true, false, cond, List, [], ◌∷◌, ◌++◌, refl, sym, ap, ◌∙◌, map, filter, Option, None, Some}
use Rattle.std.specs.Prelude.{⊤, find, option_map}
use Rattle.std.specs.List.{AllByRecursion}
use Rattle.std.proofs.lemmas.Bool.{eq-eqb}
use Rattle.brk_model.specs.Base.{Base, completed_trades, is_completed}
use Rattle.brk_model.specs.Derived.{Posting, cash_trades, postings_sorted_by_stamp, posting_of_movement, posting_of_trade, postings_of_base}
use Rattle.brk_model.specs.Adopted.{is_posting_of_trade, posting_of_cash_move_row}
use Rattle.brk_model.specs.Joins.{trade_row_with_id}
use Rattle.brk_model.specs.Lists.{sort_by}
use Rattle.brk_model.specs.Names.{TradesAreNumberedFrom}
use Rattle.brk_model.specs.Records.{Movement, Trade}
use Rattle.brk_model.specs.Sheets.{sheets, tables_sorted_by_key}
use Rattle.brk_model.specs.Tables.{CashRow, settlement_row, tables_of_base_in_schema, trade_row}
use Rattle.brk_trade_books.proofs.Bools.{numbers_back}
use Rattle.brk_trade_books.proofs.MoveReading.{rows_posted, turn_filter}
use Rattle.brk_trade_books.proofs.Numbering.{numbered_after}
use Rattle.brk_trade_books.proofs.Places.{filter-append}
use Rattle.brk_trade_books.proofs.Reading.{find-id, find-map}
use Rattle.brk_trade_books.proofs.Same.{All-filter, All-map, NonePass}
use Rattle.brk_trade_books.proofs.TradeReading.{reads_trade}
use Rattle.brk_trade_theorems.specs.Corrections.{cash_row_of_trade, settlement_row_of_trade}
use Rattle.brk_trade_theorems.proofs.Through.{All-both, filter-map}

-- no two trades have one id
abbrev pub Apart : List Trade → Type 0
Apart [] = ⊤
Apart (t ∷ ts) = NonePass (λ u. u.id == t.id) ts × Apart ts

pub apart_numbered : (n : ℕ) (ts : List Trade) → TradesAreNumberedFrom n ts → Apart ts
apart_numbered n [] k = tt
apart_numbered n (t ∷ ts) k = (numbered_after n [] t ts k, apart_numbered (n + 1) ts k.1)

pub apart_filter : (p : Trade → Bool) (ts : List Trade) → Apart ts → Apart (filter p ts)
apart_filter p [] h = tt
apart_filter p (t ∷ ts) h = by_test (apart_filter p ts h.1) (p t)
  where
    by_test : Apart (filter p ts) → (b : Bool) → Apart (cond b (t ∷ filter p ts) (filter p ts))
    by_test rest true = (All-filter (λ u. (u.id == t.id) ≡ false) p ts h.0, rest)
    by_test rest false = rest

pub each_found : (ts : List Trade) → Apart ts → AllByRecursion (λ t. find (λ u. u.id == t.id) ts ≡ Some t) ts
each_found [] h = tt
each_found (t ∷ ts) h = (
  ap (λ b. cond b (Some t) (find (λ u. u.id == t.id) ts)) (eq-eqb t.id t.id refl),
  All-map ts (λ u k. ap (λ b. cond b (Some t) (find (λ v. v.id == u.id) ts)) (numbers_back t.id u.id ∙ k.0) ∙ k.1)
      (All-both (λ u. (u.id == t.id) ≡ false) (λ u. find (λ v. v.id == u.id) ts ≡ Some u) ts h.0 (each_found ts h.1)),
)

pub own_rows : (base : Base) → TradesAreNumberedFrom 1 base.trades → AllByRecursion (λ t. trade_row_with_id (sheets base) t.id ≡ Some (trade_row t)) base.trades
own_rows base n = All-map base.trades (λ t e. reads_trade base t.id ∙ ap (option_map trade_row) e) (each_found base.trades (apart_numbered 1 base.trades n))

pub own_settlements : (base : Base) → TradesAreNumberedFrom 1 base.trades
    → AllByRecursion (λ t. settlement_row_of_trade (sheets base) t.id ≡ Some (settlement_row base.accounts base.rule t)) (completed_trades base)
unfolding tables_of_base_in_schema tables_sorted_by_key
own_settlements base n =
    All-map (completed_trades base)
    (λ t e. find-id (λ r. r.trade) t.id (map (settlement_row base.accounts base.rule) (completed_trades base))
    ∙ find-map (λ r. r.trade == t.id) (settlement_row base.accounts base.rule) (completed_trades base) ∙ ap (option_map (settlement_row base.accounts base.rule)) e)
    (each_found (completed_trades base) (apart_filter is_completed base.trades (apart_numbered 1 base.trades n)))

none_left : (p : Trade → Bool) (ts : List Trade) → NonePass p ts → filter p ts ≡ []
none_left p [] h = refl
none_left p (t ∷ ts) h = ap (λ b. cond b (t ∷ filter p ts) (filter p ts)) h.0 ∙ none_left p ts h.1

each_alone : (ts : List Trade) → Apart ts → AllByRecursion (λ t. filter (λ u. u.id == t.id) ts ≡ t ∷ []) ts
each_alone [] h = tt
each_alone (t ∷ ts) h = (
  ap (λ b. cond b (t ∷ filter (λ u. u.id == t.id) ts) (filter (λ u. u.id == t.id) ts)) (eq-eqb t.id t.id refl) ∙ ap (λ us. t ∷ us) (none_left (λ u. u.id == t.id) ts h.0),
  All-map ts (λ u k. ap (λ b. cond b (t ∷ filter (λ v. v.id == u.id) ts) (filter (λ v. v.id == u.id) ts)) (numbers_back t.id u.id ∙ k.0) ∙ k.1)
      (All-both (λ u. (u.id == t.id) ≡ false) (λ u. filter (λ v. v.id == u.id) ts ≡ u ∷ []) ts h.0 (each_alone ts h.1)),
)

no_movement : (id : ℕ) (ms : List Movement) → filter (is_posting_of_trade id) (map posting_of_movement ms) ≡ []
no_movement id [] = refl
no_movement id (m ∷ ms) = no_movement id ms

-- what is found is the first of those that pass
found_first : {X : Type 0} (p : X → Bool) (xs : List X) → find p xs ≡ find (λ x. true) (filter p xs)
found_first p [] = refl
found_first {X = X} p (x ∷ xs) = by_test (p x) (found_first p xs)
  where
    by_test : (b : Bool) → find p xs ≡ find (λ x. true) (filter p xs) → cond b (Some x) (find p xs) ≡ find (λ x. true) (cond b (x ∷ filter p xs) (filter p xs))
    by_test true ih = refl
    by_test false ih = ih

turn_one : (p : Posting) → postings_sorted_by_stamp (p ∷ []) ≡ p ∷ []
unfolding sort_by
turn_one p = refl

name_of : (o : Option CashRow) → option_map (λ r. r.name) o ≡ option_map (λ p. p.name) (option_map posting_of_cash_move_row o)
name_of None = refl
name_of (Some r) = refl

-- the text of the cash row of a trade
own_name : (base : Base) (t : Trade) → filter (λ u. u.id == t.id) (cash_trades (completed_trades base)) ≡ t ∷ []
    → option_map (λ r. r.name) (cash_row_of_trade (sheets base) t.id) ≡ Some t.cash_name
own_name base t alone =
    let P : Trade → Posting = posting_of_trade base.accounts in
    let posted : filter (is_posting_of_trade t.id) (postings_of_base base) ≡ P t ∷ [] =
    filter-append (is_posting_of_trade t.id) (map P (cash_trades (completed_trades base))) (map posting_of_movement base.movements)
    ∙ (λ i. filter-map (is_posting_of_trade t.id) (λ u. u.id == t.id) P (cash_trades (completed_trades base)) (λ u. refl) i ++ no_movement t.id base.movements i)
    ∙ ap (λ us. map P us ++ []) alone in
    name_of (cash_row_of_trade (sheets base) t.id)
    ∙ ap (option_map (λ p. p.name)) (sym (find-map (is_posting_of_trade t.id) posting_of_cash_move_row (sheets base).moves)
    ∙ ap (find (is_posting_of_trade t.id)) (rows_posted base)
    ∙ found_first (is_posting_of_trade t.id) (postings_sorted_by_stamp (postings_of_base base))
    ∙ ap (find (λ p. true)) (turn_filter (is_posting_of_trade t.id) (postings_of_base base) ∙ ap postings_sorted_by_stamp posted ∙ turn_one (P t)))

pub own_cash : (base : Base) → TradesAreNumberedFrom 1 base.trades
    → AllByRecursion (λ t. option_map (λ r. r.name) (cash_row_of_trade (sheets base) t.id) ≡ Some t.cash_name) (cash_trades (completed_trades base))
own_cash base n =
    All-map (cash_trades (completed_trades base)) (λ t e. own_name base t e)
    (each_alone (cash_trades (completed_trades base)) (apart_filter (λ t. t.is_cash) (completed_trades base) (apart_filter is_completed base.trades (apart_numbered 1 base.trades n))))
