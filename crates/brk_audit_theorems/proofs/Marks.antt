-- The status changes of a trade: they are a valid sequence, each is a row of the trade's history,
-- and the last is that of its row.
use Rattle.std.proofs.Common.{◌≡◌, ℕ, ◌==◌, Bool, true, false, cond, List, [], ◌∷◌, refl, sym, ◌∙◌, ap, subst, map, filter, Option, Some, None}
use Rattle.std.specs.Prelude.{⊤, nat_lt}
use Rattle.std.specs.List.{AllByRecursion, last_or}
use Rattle.std.specs.Option.{option_map_or}
use Rattle.std.proofs.lemmas.Bool.{and_parts, eqb-true}
use Rattle.brk_money.specs.Kinds.{is_same_trade_status}
use Rattle.brk_money.specs.declared.status.Status.{Status}
use Rattle.brk_money.specs.declared.status.Status.TheVariants.{Completed, Active, Submitted, Pending, Canceled}
use Rattle.brk_model.specs.Records.{StatusChange}
use Rattle.brk_model.specs.Base.{last_status_change}
use Rattle.brk_model.specs.Tables.{Tables, TradeRow, HistoryRow}
use Rattle.brk_model.specs.Joins.{history_rows_with_trade_id}
use Rattle.brk_model.specs.Adopted.{status_changes_of_trade, trade_of_row}
use Rattle.brk_model.specs.Ways.{is_valid_status_sequence, matches_last_status_change, is_strictly_ascending, has_valid_status_history}
use Rattle.brk_trade_books.specs.Books.{HasOneStatusChangeIfPending, HasNoCompletionIfSubmitted, IsNotCompletion, HasOneStatusChange}
use Rattle.brk_trade_books.proofs.Same.{All-map, All-mapped}
use Rattle.brk_trade_books.proofs.LotReading.{All-sort}
use Rattle.brk_audit_theorems.proofs.Climbs.{In, each_in}
use Rattle.brk_model_theorems.proofs.Conjunctions.{parts3}

false_true : {A : Type 0} → false ≡ true → A
false_true e = absurd (cc)

-- ---- ways

pub two_ways : (a b : Status) → is_valid_status_sequence (a ∷ b ∷ []) ≡ true → is_same_trade_status b Pending ≡ false
two_ways Submitted Completed e = refl
two_ways Pending Canceled e = refl
two_ways Pending Submitted e = refl
two_ways a Pending e = absurd (no a e)
  where
    no : (a : Status) → is_valid_status_sequence (a ∷ Pending ∷ []) ≡ true → ⊥
    no Completed e = cc
    no Active e = cc
    no Submitted e = cc
    no Pending e = cc
    no Canceled e = cc
two_ways a Completed e = refl
two_ways a Active e = refl
two_ways a Submitted e = refl
two_ways a Canceled e = refl

pub two_submitted : (a b : Status) → is_valid_status_sequence (a ∷ b ∷ []) ≡ true → is_same_trade_status b Submitted ≡ true → is_same_trade_status a Completed ≡ false
two_submitted Completed Submitted e h = cc
two_submitted Active b e h = refl
two_submitted Submitted b e h = refl
two_submitted Pending b e h = refl
two_submitted Canceled b e h = refl
two_submitted Completed Completed e h = cc
two_submitted Completed Active e h = cc
two_submitted Completed Pending e h = cc
two_submitted Completed Canceled e h = cc

pub three_ways : (a b c : Status) → is_valid_status_sequence (a ∷ b ∷ c ∷ []) ≡ true → (a ≡ Pending) × (b ≡ Submitted) × (c ≡ Completed)
three_ways Completed Completed c e = false_true e
three_ways Completed Active c e = false_true e
three_ways Completed Submitted c e = false_true e
three_ways Completed Pending c e = false_true e
three_ways Completed Canceled c e = false_true e
three_ways Active Completed c e = false_true e
three_ways Active Active c e = false_true e
three_ways Active Submitted c e = false_true e
three_ways Active Pending c e = false_true e
three_ways Active Canceled c e = false_true e
three_ways Submitted Completed c e = false_true e
three_ways Submitted Active c e = false_true e
three_ways Submitted Submitted c e = false_true e
three_ways Submitted Pending c e = false_true e
three_ways Submitted Canceled c e = false_true e
three_ways Pending Completed c e = false_true e
three_ways Pending Active c e = false_true e
three_ways Pending Submitted Completed e = (refl, refl, refl)
three_ways Pending Submitted Active e = false_true e
three_ways Pending Submitted Submitted e = false_true e
three_ways Pending Submitted Pending e = false_true e
three_ways Pending Submitted Canceled e = false_true e
three_ways Pending Pending c e = false_true e
three_ways Pending Canceled c e = false_true e
three_ways Canceled Completed c e = false_true e
three_ways Canceled Active c e = false_true e
three_ways Canceled Submitted c e = false_true e
three_ways Canceled Pending c e = false_true e
three_ways Canceled Canceled c e = false_true e

pub no_more_ways : (a b c d : Status) (ss : List Status) → is_valid_status_sequence (a ∷ b ∷ c ∷ d ∷ ss) ≡ true → ⊥
no_more_ways Completed Completed c d ss e = false_true e
no_more_ways Completed Active c d ss e = false_true e
no_more_ways Completed Submitted c d ss e = false_true e
no_more_ways Completed Pending c d ss e = false_true e
no_more_ways Completed Canceled c d ss e = false_true e
no_more_ways Active Completed c d ss e = false_true e
no_more_ways Active Active c d ss e = false_true e
no_more_ways Active Submitted c d ss e = false_true e
no_more_ways Active Pending c d ss e = false_true e
no_more_ways Active Canceled c d ss e = false_true e
no_more_ways Submitted Completed c d ss e = false_true e
no_more_ways Submitted Active c d ss e = false_true e
no_more_ways Submitted Submitted c d ss e = false_true e
no_more_ways Submitted Pending c d ss e = false_true e
no_more_ways Submitted Canceled c d ss e = false_true e
no_more_ways Pending Completed c d ss e = false_true e
no_more_ways Pending Active c d ss e = false_true e
no_more_ways Pending Submitted Completed d ss e = false_true e
no_more_ways Pending Submitted Active d ss e = false_true e
no_more_ways Pending Submitted Submitted d ss e = false_true e
no_more_ways Pending Submitted Pending d ss e = false_true e
no_more_ways Pending Submitted Canceled d ss e = false_true e
no_more_ways Pending Pending c d ss e = false_true e
no_more_ways Pending Canceled c d ss e = false_true e
no_more_ways Canceled Completed c d ss e = false_true e
no_more_ways Canceled Active c d ss e = false_true e
no_more_ways Canceled Submitted c d ss e = false_true e
no_more_ways Canceled Pending c d ss e = false_true e
no_more_ways Canceled Canceled c d ss e = false_true e

pending_is_one : (marks : List StatusChange) → is_valid_status_sequence (map (λ m. m.status) marks) ≡ true
    → option_map_or (λ m. is_same_trade_status m.status Pending) (last_or None marks) false ≡ true → HasOneStatusChange marks
pending_is_one [] w h = false_true h
pending_is_one (m ∷ []) w h = tt
pending_is_one (m ∷ n ∷ []) w h = false_true (sym (two_ways m.status n.status w) ∙ h)
pending_is_one (m ∷ n ∷ o ∷ []) w h = let k = three_ways m.status n.status o.status w in
    false_true (sym (ap (λ s. is_same_trade_status s Pending) k.2) ∙ h)
pending_is_one (m ∷ n ∷ o ∷ p ∷ marks) w h = absurd (no_more_ways m.status n.status o.status p.status (map (λ m. m.status) marks) w)

submitted_not_done : (s : Status) → is_same_trade_status s Submitted ≡ true → is_same_trade_status s Completed ≡ false
submitted_not_done Completed e = cc
submitted_not_done Active e = refl
submitted_not_done Submitted e = refl
submitted_not_done Pending e = refl
submitted_not_done Canceled e = refl

submitted_uncompleted : (marks : List StatusChange) → is_valid_status_sequence (map (λ m. m.status) marks) ≡ true
    → option_map_or (λ m. is_same_trade_status m.status Submitted) (last_or None marks) false ≡ true
    → AllByRecursion IsNotCompletion marks
submitted_uncompleted [] w h = tt
submitted_uncompleted (m ∷ []) w h = (submitted_not_done m.status h, tt)
submitted_uncompleted (m ∷ n ∷ []) w h = (two_submitted m.status n.status w h, (submitted_not_done n.status h, tt))
submitted_uncompleted (m ∷ n ∷ o ∷ []) w h = let k = three_ways m.status n.status o.status w in
    false_true (sym (ap (λ s. is_same_trade_status s Submitted) k.2) ∙ h)
submitted_uncompleted (m ∷ n ∷ o ∷ p ∷ marks) w h = absurd (no_more_ways m.status n.status o.status p.status (map (λ m. m.status) marks) w)

way_of : (t : Tables) (row : TradeRow) → has_valid_status_history t row ≡ true → is_valid_status_sequence (map (λ m. m.status) (status_changes_of_trade t row.id)) ≡ true
way_of t row e =
    (parts3 (is_valid_status_sequence (map (λ m. m.status) (status_changes_of_trade t row.id)))
    (is_strictly_ascending (map (λ m. m.stamp) (status_changes_of_trade t row.id))) (matches_last_status_change row (status_changes_of_trade t row.id)) e).0

last_of : (t : Tables) (row : TradeRow) → has_valid_status_history t row ≡ true → matches_last_status_change row (status_changes_of_trade t row.id) ≡ true
last_of t row e =
    (parts3 (is_valid_status_sequence (map (λ m. m.status) (status_changes_of_trade t row.id)))
    (is_strictly_ascending (map (λ m. m.stamp) (status_changes_of_trade t row.id))) (matches_last_status_change row (status_changes_of_trade t row.id)) e).2

pub waits_first : (t : Tables) (row : TradeRow) → has_valid_status_history t row ≡ true → HasOneStatusChangeIfPending (trade_of_row t row)
waits_first t row e h = pending_is_one (status_changes_of_trade t row.id) (way_of t row e) h

pub completes_first : (t : Tables) (row : TradeRow) → has_valid_status_history t row ≡ true → HasNoCompletionIfSubmitted (trade_of_row t row)
completes_first t row e h = submitted_uncompleted (status_changes_of_trade t row.id) (way_of t row e) h

-- ---- each status is of a row of the trade's history

pub record IsOf (t : Tables) (id : ℕ) (m : StatusChange) : Type 0 where
  pub row : HistoryRow
  pub there : In row t.history
  pub trade : row.trade ≡ id
  pub status : row.status ≡ m.status
  pub stamp : row.stamp ≡ m.stamp

mark_of : HistoryRow → StatusChange
mark_of h = record { stamp = h.stamp; status = h.status }

pub filtered : {X : Type 0} (P : X → Type 0) (p : X → Bool) (xs : List X) → AllByRecursion P xs → AllByRecursion (λ x. P x × (p x ≡ true)) (filter p xs)
filtered P p [] h = tt
filtered {X = X} P p (x ∷ xs) h = by_test (filtered P p xs h.1) (p x) refl
  where
    by_test : AllByRecursion (λ x. P x × (p x ≡ true)) (filter p xs) → (b : Bool) → p x ≡ b → AllByRecursion (λ x. P x × (p x ≡ true)) (cond b (x ∷ filter p xs) (filter p xs))
    by_test ih true e = ((h.0, e), ih)
    by_test ih false e = ih

pub marks_are_rows : (t : Tables) (id : ℕ) → AllByRecursion (IsOf t id) (status_changes_of_trade t id)
marks_are_rows t id =
    All-sort (IsOf t id) (λ x y. nat_lt x.stamp y.stamp) (map (λ h. record { stamp = h.stamp; status = h.status }) (history_rows_with_trade_id t id))
    (All-mapped (IsOf t id) (λ h. record { stamp = h.stamp; status = h.status }) (history_rows_with_trade_id t id)
    (All-map (history_rows_with_trade_id t id) (λ h k. record { row = h; there = k.0; trade = eqb-true h.trade id k.1; status = refl; stamp = refl })
    (filtered (λ h. In h t.history) (λ h. h.trade == id) t.history (each_in t.history))))

abbrev pub Holding : {X : Type 0} → (X → Type 0) → Option X → Type 0
Holding P None = ⊤
Holding P (Some x) = P x

pub last_has : {X : Type 0} (P : X → Type 0) (o : Option X) (xs : List X) (x : X) → Holding P o → AllByRecursion P xs → last_or o xs ≡ Some x → P x
last_has P None [] x k h e = absurd (cc)
last_has P (Some y) [] x k h e = let j : y ≡ x = cc in subst P j k
last_has P o (y ∷ ys) x k h e = last_has P (Some y) ys x h.0 h.1 e

pub last_is_row : (t : Tables) (row : TradeRow) (m : StatusChange) → last_status_change (trade_of_row t row) ≡ Some m → IsOf t row.id m
last_is_row t row m e = last_has (IsOf t row.id) None (status_changes_of_trade t row.id) m tt (marks_are_rows t row.id) e

-- the last one, of a trade that has one
pub record Lasts (t : Tables) (row : TradeRow) : Type 0 where
  pub mark : StatusChange
  pub is : last_status_change (trade_of_row t row) ≡ Some mark
  pub status : is_same_trade_status row.status mark.status ≡ true
  pub stamp : row.stamp ≡ mark.stamp

record LastOf (row : TradeRow) (o : Option StatusChange) : Type 0 where
  mark : StatusChange
  is : o ≡ Some mark
  status : is_same_trade_status row.status mark.status ≡ true
  stamp : row.stamp ≡ mark.stamp

find_last : (row : TradeRow) (o : Option StatusChange) (marks : List StatusChange) → matches_last_status_change row marks ≡ true → LastOf row (last_or o marks)
find_last row o [] e = false_true e
find_last row o (m ∷ []) e = let p = and_parts (is_same_trade_status row.status m.status) (row.stamp == m.stamp) e in
    record { mark = m; is = refl; status = p.0; stamp = eqb-true row.stamp m.stamp p.1 }
find_last row o (m ∷ n ∷ marks) e = find_last row (Some m) (n ∷ marks) e

pub lasts : (t : Tables) (row : TradeRow) → has_valid_status_history t row ≡ true → Lasts t row
lasts t row e = let l = find_last row None (status_changes_of_trade t row.id) (last_of t row e) in
    record { mark = l.mark; is = l.is; status = l.status; stamp = l.stamp }

pub same_statuses : (a b : Status) → is_same_trade_status a b ≡ true → a ≡ b
same_statuses Completed Completed e = refl
same_statuses Completed Active e = false_true e
same_statuses Completed Submitted e = false_true e
same_statuses Completed Pending e = false_true e
same_statuses Completed Canceled e = false_true e
same_statuses Active Completed e = false_true e
same_statuses Active Active e = refl
same_statuses Active Submitted e = false_true e
same_statuses Active Pending e = false_true e
same_statuses Active Canceled e = false_true e
same_statuses Submitted Completed e = false_true e
same_statuses Submitted Active e = false_true e
same_statuses Submitted Submitted e = refl
same_statuses Submitted Pending e = false_true e
same_statuses Submitted Canceled e = false_true e
same_statuses Pending Completed e = false_true e
same_statuses Pending Active e = false_true e
same_statuses Pending Submitted e = false_true e
same_statuses Pending Pending e = refl
same_statuses Pending Canceled e = false_true e
same_statuses Canceled Completed e = false_true e
same_statuses Canceled Active e = false_true e
same_statuses Canceled Submitted e = false_true e
same_statuses Canceled Pending e = false_true e
same_statuses Canceled Canceled e = refl
