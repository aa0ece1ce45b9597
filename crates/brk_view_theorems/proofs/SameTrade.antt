-- No run of calls changes a completed trade, except for its executor, its cash type and its cash
-- name.
use Rattle.std.proofs.Common.{◌≡◌, ◌≤◌, ℕ, ◌==◌, ◌&&◌, Bool, true, false, cond, List, [], ◌∷◌, ◌++◌, Some, None, refl, sym, ◌∙◌, ap, subst, filter, arith, is_some}
use Rattle.std.specs.Prelude.{find, nat_le, option_map}
use Rattle.std.specs.Option.{option_map_or}
use Rattle.std.proofs.lemmas.Bool.{eqb-true, eq-eqb}
use Rattle.std.proofs.lemmas.Bool.Decides.{nat_tests}
use Rattle.brk_model.specs.Base.{Base, completed_trades, is_completed, last_status_stamp_of_trade, trade_with_id}
use Rattle.brk_model.specs.Commands.{CompleteTrade}
use Rattle.brk_model.specs.Records.{Trade}
use Rattle.brk_model.specs.Results.{trade_after_completion, base_after_result}
use Rattle.brk_model.specs.Step.{base_after_command_unstamped}
use Rattle.brk_model.specs.Tests.{stamp_of_next_command, refusal_of_command}
use Rattle.brk_model.specs.Names.{TradesAreNumberedFrom}
use Rattle.brk_trade_books.specs.Books.{BooksInvariant}
use Rattle.brk_trade_books.specs.Steps.{base_after_command}
use Rattle.brk_trade_books.proofs.LotReading.{IdsApart, filter-both, numbered_rise, rise_apart}
use Rattle.brk_trade_books.proofs.Numbering.{numbered_before}
use Rattle.brk_trade_books.proofs.Places.{FoundAt, find-at}
use Rattle.brk_trade_books.proofs.Reading.{find-map}
use Rattle.brk_trade_books.proofs.ResultKeeping.{Found, found_at, submitted}
use Rattle.brk_trade_books.proofs.ResultRows.{trades_then}
use Rattle.brk_trade_books.proofs.Same.{NonePass, All-filter, find-none}
use Rattle.brk_view_theorems.proofs.Among.{ids_around}
use Rattle.brk_view_theorems.proofs.Kept.{Keeps, core, done_by}

-- ---- the one that passes, among those of a test

none_found : {X : Type 0} (p : X → Bool) (xs : List X) → NonePass p xs → find p xs ≡ None
none_found p [] h = refl
none_found p (x ∷ xs) h = ap (λ b. cond b (Some x) (find p xs)) h.0 ∙ none_found p xs h.1

find_left : {X : Type 0} (p q : X → Bool) (xs : List X) (x : X) (ys : List X) → NonePass p xs → p x ≡ true → NonePass p ys
    → find p (filter q (xs ++ x ∷ ys)) ≡ cond (q x) (Some x) None
find_left p q [] x ys g e h = by_test (q x)
  where
    by_test : (b : Bool) → find p (cond b (x ∷ filter q ys) (filter q ys)) ≡ cond b (Some x) None
    by_test true = ap (λ b. cond b (Some x) (find p (filter q ys))) e
    by_test false = none_found p (filter q ys) (All-filter (λ y. p y ≡ false) q ys h)
find_left {X = X} p q (y ∷ xs) x ys g e h = by_test (q y) (find_left p q xs x ys g.1 e h)
  where
    by_test : (b : Bool) → find p (filter q (xs ++ x ∷ ys)) ≡ cond (q x) (Some x) None
        → find p (cond b (y ∷ filter q (xs ++ x ∷ ys)) (filter q (xs ++ x ∷ ys))) ≡ cond (q x) (Some x) None
    by_test true ih = ap (λ b. cond b (Some y) (find p (filter q (xs ++ x ∷ ys)))) g.0 ∙ ih
    by_test false ih = ih

pub find_there : {X : Type 0} (p : X → Bool) (xs : List X) (x : X) (ys : List X) → NonePass p xs → p x ≡ true → find p (xs ++ x ∷ ys) ≡ Some x
find_there p [] x ys g e = ap (λ b. cond b (Some x) (find p ys)) e
find_there p (y ∷ xs) x ys g e = ap (λ b. cond b (Some y) (find p (xs ++ x ∷ ys))) g.0 ∙ find_there p xs x ys g.1 e

pub id_of : (base : Base) (id : ℕ) (t : Trade) → trade_with_id base id ≡ Some t → t.id ≡ id
id_of base id t e = let f : FoundAt Trade (λ u. u.id == id) t base.trades = find-at (λ u. u.id == id) base.trades t e in eqb-true t.id id f.passes

-- ---- among those that were completed by a stamp

is_by : ℕ → Trade → Bool
is_by s t = is_completed t && nat_le (last_status_stamp_of_trade t) s

found_by : (base : Base) (s id : ℕ) (t : Trade) → BooksInvariant base → trade_with_id base id ≡ Some t → find (λ u. u.id == id) (done_by base s) ≡ option_map core (cond (is_by s t) (Some t) None)
unfolding is_by
found_by base s id t books e =
    find-map (λ u. u.id == id) core (filter (λ u. nat_le (last_status_stamp_of_trade u) s) (completed_trades base))
    ∙ ap (option_map core)
    (ap (find (λ u. u.id == id))
    (sym (filter-both is_completed (λ u. nat_le (last_status_stamp_of_trade u) s) base.trades)
    ∙ ap (filter (λ u. is_completed u && nat_le (last_status_stamp_of_trade u) s)) f.stands)
    ∙ find_left (λ u. u.id == id) (λ u. is_completed u && nat_le (last_status_stamp_of_trade u) s) f.before t f.after f.others f.passes after)
  where
    f : FoundAt Trade (λ u. u.id == id) t base.trades
    f = find-at (λ u. u.id == id) base.trades t e

    after : NonePass (λ u. u.id == id) f.after
    after =
        subst (λ (n : ℕ). NonePass (λ u. u.id == n) f.after) (eqb-true t.id id f.passes)
        (ids_around f.before t f.after (subst IdsApart f.stands (rise_apart base.trades (numbered_rise 1 base.trades books.numbered))))

is_at_most : (m n : ℕ) → m ≤ n → nat_le m n ≡ true
is_at_most m n h = grind (arith, nat_tests)

pub same_trade : (s : ℕ) (base later : Base) (id : ℕ) (t u : Trade) → BooksInvariant base → BooksInvariant later → Keeps s base later
    → trade_with_id base id ≡ Some t → is_completed t ≡ true → last_status_stamp_of_trade t ≤ s → trade_with_id later id ≡ Some u → core u ≡ core t
unfolding is_by
same_trade s base later id t u books next k e c h f =
    by_test (is_by s u) (sym (found_by later s id u next f) ∙ ap (find (λ v. v.id == id)) k.done ∙ found_by base s id t books e
    ∙ ap (λ b. option_map core (cond b (Some t) None)) by)
  where
    by : is_by s t ≡ true
    by = (λ i. c i && is_at_most (last_status_stamp_of_trade t) s h i)

    by_test : (b : Bool) → option_map core (cond b (Some u) None) ≡ Some (core t) → core u ≡ core t
    by_test true g = let k : Some (core u) ≡ Some (core t) = g in cc
    by_test false g = let k : None ≡ Some (core t) = g in absurd (cc)

-- a completed trade is found among those by its moment
pub in_done : (base : Base) (t : Trade) → BooksInvariant base → trade_with_id base t.id ≡ Some t → is_completed t ≡ true
    → find (λ u. u.id == t.id) (done_by base (last_status_stamp_of_trade t)) ≡ Some (core t)
unfolding is_by
in_done base t books e c =
    found_by base (last_status_stamp_of_trade t) t.id t books e
    ∙ ap (λ b. option_map core (cond b (Some t) None))
    (λ i. c i && is_at_most (last_status_stamp_of_trade t) (last_status_stamp_of_trade t) (no_more (last_status_stamp_of_trade t)) i)
  where
    no_more : (n : ℕ) → n ≤ n
    no_more n = omega arith

-- a trade that is not there is not among them
pub none_in : (base : Base) (s id : ℕ) → trade_with_id base id ≡ None → find (λ u. u.id == id) (done_by base s) ≡ None
none_in base s id e =
    find-map (λ u. u.id == id) core (filter (λ u. nat_le (last_status_stamp_of_trade u) s) (completed_trades base))
    ∙ ap (option_map core) (none_found (λ u. u.id == id) (filter (λ u. nat_le (last_status_stamp_of_trade u) s) (completed_trades base))
    (All-filter (λ u. (u.id == id) ≡ false) (λ u. nat_le (last_status_stamp_of_trade u) s) (completed_trades base)
    (All-filter (λ u. (u.id == id) ≡ false) is_completed base.trades (find-none (λ u. u.id == id) base.trades (ap is_some e)))))

-- ---- after its result

id_then : (base : Base) (stamp price : ℕ) (t : Trade) → (trade_after_completion base stamp price t).id ≡ t.id
unfolding trade_after_completion
id_then base stamp price t = refl

pub found_then : (base : Base) (now id price : ℕ) (t : Trade) → BooksInvariant base → trade_with_id base id ≡ Some t → refusal_of_command base now (CompleteTrade id price) ≡ None
    → trade_with_id (base_after_command base now (CompleteTrade id price)) id ≡ Some (trade_after_completion base (stamp_of_next_command base now) price t)
unfolding base_after_command_unstamped
found_then base now id price t books e accepted =
    ap (λ o. find (λ u. u.id == id) (option_map_or (base_after_result base stamp price) o base).trades) e
    ∙ ap (find (λ u. u.id == id)) (trades_then base stamp price t f.front f.back f.result)
    ∙ find_there (λ u. u.id == id) f.front (trade_after_completion base stamp price t) f.back others (ap (λ (n : ℕ). n == id) (same_id ∙ id_of base id t e) ∙ eq-eqb id id refl)
  where
    stamp : ℕ
    stamp = stamp_of_next_command base now

    f : Found base now price t
    f = found_at base now id price t books e (submitted base now id price t e accepted)

    n : TradesAreNumberedFrom 1 (f.front ++ t ∷ f.back)
    n = subst (TradesAreNumberedFrom 1) f.result.stands books.numbered

    others : NonePass (λ u. u.id == id) f.front
    others = subst (λ (m : ℕ). NonePass (λ u. u.id == m) f.front) (id_of base id t e) (numbered_before 1 f.front t f.back n)

    same_id : (trade_after_completion base stamp price t).id ≡ t.id
    same_id = id_then base stamp price t
