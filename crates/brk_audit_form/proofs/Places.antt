-- The row that a search finds, and the completion of a trade in its history.
use Rattle.std.proofs.Common.{◌≡◌, ℕ, zero, suc, ◌<◌, Bool, true, false, cond, List, [], ◌∷◌, refl, sym, ◌∙◌, ap, subst, map, filter, length, get_or, Option}
use Rattle.std.proofs.Common.{Some, None, Result, Ordering, Less, Equal, Greater, nat_cmp, arith}
use Rattle.std.specs.Prelude.{◌||◌, ◌&&◌, ◌==◌, bytes_eq, find, option_map, is_some, is_ok}
use Rattle.std.specs.List.{AllByRecursion, list_any}
use Rattle.std.specs.List.Sorted.{IsSearchInRange, IsBinarySearchResult}
use Rattle.std.specs.Ordering.{is_eq, is_lt, ordering_then}
use Rattle.std.specs.Cmp.{IsTotalOrder}
use Rattle.std.specs.Cmp.Lexicographic.{slice_cmp}
use Rattle.std.proofs.lemmas.Cmp.{nat_cmp_total, nat_list_cmp_total, alike_right, then_total, on_total}
use Rattle.std.proofs.lemmas.Map.Text.{is_eq-slice_cmp}
use Rattle.brk_money.specs.Kinds.{is_same_trade_status, trade_status_code}
use Rattle.brk_money.specs.declared.status.Status.{Status}
use Rattle.brk_money.specs.declared.status.Status.TheVariants.{Completed, Active, Submitted, Pending, Canceled}
use Rattle.brk_model.specs.Keys.{number, word, is_key_less, history_key}
use Rattle.brk_ref.specs.Rows.{abstract_history_row}
use Rattle.brk_ref.specs.declared.history_row.HistoryRow.{HistoryRow}
use Rattle.brk_audit_theorems.proofs.Climbs.{Climbs}
use Rattle.brk_audit_form.proofs.KeyOrders.{key_lt}
use Rattle.brk_audit_form.proofs.Searches.{Climbing, climbing, rising_keys, any_searched, any_found, any_map, eq_number, number_less, word_less}

-- ---- the row at the place that was found

all_at : {X : Type 0} (P : X → Type 0) (xs : List X) (i : ℕ) (d : X) → i < length xs → AllByRecursion P xs → P (get_or xs i d)
all_at P [] i d h a = absurd (omega arith)
all_at P (x ∷ xs) zero d h a = a.0
all_at P (x ∷ xs) (suc i) d h a = all_at P xs i d (omega arith) a.1

find-mapped : {X Y : Type 0} (p : Y → Bool) (f : X → Y) (xs : List X) → option_map f (find (λ x. p (f x)) xs) ≡ find p (map f xs)
find-mapped p f [] = refl
find-mapped {X = X} {Y = Y} p f (x ∷ xs) = by_test (p (f x)) (find-mapped p f xs)
  where
    by_test : (b : Bool) → option_map f (find (λ x. p (f x)) xs) ≡ find p (map f xs)
        → option_map f (cond b (Some x) (find (λ x. p (f x)) xs)) ≡ cond b (Some (f x)) (find p (map f xs))
    by_test true e = refl
    by_test false e = e

placed : {X K : Type 0} {R : K → K → Ordering} (o : IsTotalOrder R) (key : X → K) (p : X → Bool) (k : K) → ((x : X) → is_eq (R (key x) k) ≡ p x)
    → (xs : List X) → Climbing R key xs → (at : ℕ) (d : X) → at < length xs → R (key (get_or xs at d)) k ≡ Equal → find p xs ≡ Some (get_or xs at d)
placed o key p k same [] c at d h e = absurd (omega arith)
placed o key p k same (x ∷ xs) c zero d h e = ap (λ b. cond b (Some x) (find p xs)) (sym (same x) ∙ ap is_eq e)
placed {R = R} o key p k same (x ∷ xs) c (suc at) d h e =
    let y = get_or xs at d in
    let less : R (key x) (key y) ≡ Less = all_at (λ y. R (key x) (key y) ≡ Less) xs at d (omega arith) c.0 in
    let off : p x ≡ false = sym (same x) ∙ ap is_eq (sym (alike_right o (key y) k (key x) e) ∙ less) in
    ap (λ b. cond b (Some x) (find p xs)) off ∙ placed o key p k same xs c.1 at d (omega arith) e

pub none_found : {X : Type 0} (p : X → Bool) (xs : List X) → false ≡ list_any p xs → find p xs ≡ None
none_found {X = X} p xs e = by_found (find p xs) (e ∙ any_found p xs)
  where
    by_found : (o : Option X) → false ≡ is_some o → o ≡ None
    by_found None e = refl
    by_found (Some x) e = absurd (cc)

pub number_placed : {X Y : Type 0} (of : X → Y) (key : Y → ℕ) (xs ys : List X) (n : ℕ) (at : ℕ) (x : X) → ys ≡ xs → Climbs (λ y. number (key y) ∷ []) (map of xs)
    → at < length ys → nat_cmp (key (of (get_or ys at x))) n ≡ Equal → x ≡ get_or xs at x → Some (of x) ≡ find (λ y. key y == n) (map of xs)
number_placed of key xs ys n at x e c h f is =
    let rows : Climbing nat_cmp (λ x. key (of x)) ys =
    subst (Climbing nat_cmp (λ x. key (of x))) (sym e) (climbing nat_cmp of (λ y. number (key y) ∷ []) key (λ y z. number_less (key y) (key z)) xs c) in
    ap (λ x. Some (of x)) (is ∙ ap (λ l. get_or l at x) (sym e))
    ∙ sym (ap (option_map of) (placed nat_cmp_total (λ x. key (of x)) (λ x. key (of x) == n) n (λ x. eq_number (key (of x)) n) ys rows at x h f))
    ∙ find-mapped (λ y. key y == n) of ys ∙ ap (λ l. find (λ y. key y == n) (map of l)) e

pub word_placed : {X Y : Type 0} (of : X → Y) (key : Y → List ℕ) (xs ys : List X) (t : List ℕ) (at : ℕ) (x : X) → ys ≡ xs → Climbs (λ y. word (key y) ∷ []) (map of xs)
    → at < length ys → slice_cmp nat_cmp (key (of (get_or ys at x))) t ≡ Equal → x ≡ get_or xs at x → Some (of x) ≡ find (λ y. bytes_eq (key y) t) (map of xs)
word_placed of key xs ys t at x e c h f is =
    let rows : Climbing (slice_cmp nat_cmp) (λ x. key (of x)) ys =
    subst (Climbing (slice_cmp nat_cmp) (λ x. key (of x))) (sym e) (climbing (slice_cmp nat_cmp) of (λ y. word (key y) ∷ []) key (λ y z. word_less (key y) (key z)) xs c) in
    ap (λ x. Some (of x)) (is ∙ ap (λ l. get_or l at x) (sym e))
    ∙ sym (ap (option_map of) (placed nat_list_cmp_total (λ x. key (of x)) (λ x. bytes_eq (key (of x)) t) t (λ x. is_eq-slice_cmp (key (of x)) t) ys rows at x h f))
    ∙ find-mapped (λ y. bytes_eq (key y) t) of ys ∙ ap (λ l. find (λ y. bytes_eq (key y) t) (map of l)) e

-- ---- the completion of a trade

abbrev Pair : Type 0
Pair = ℕ × List ℕ

abbrev pair_cmp : Pair → Pair → Ordering
pair_cmp a b = ordering_then (nat_cmp a.0 b.0) (slice_cmp nat_cmp a.1 b.1)

pair_total : IsTotalOrder pair_cmp
pair_total = then_total (on_total (λ (p : Pair). p.0) nat_cmp_total) (on_total (λ (p : Pair). p.1) nat_list_cmp_total)

pub less_of : (o : Ordering) → is_lt o ≡ true → o ≡ Less
less_of Less e = refl
less_of Equal e = absurd (cc)
less_of Greater e = absurd (cc)

pair_less : (a b : Pair) → is_key_less (number a.0 ∷ word a.1 ∷ []) (number b.0 ∷ word b.1 ∷ []) ≡ true → pair_cmp a b ≡ Less
pair_less a b h = less_of (pair_cmp a b) (sym (key_lt (number a.0 ∷ word a.1 ∷ []) (number b.0 ∷ word b.1 ∷ [])) ∙ h)

then_eq : (o p : Ordering) → is_eq (ordering_then o p) ≡ (is_eq o && is_eq p)
then_eq Less p = refl
then_eq Equal p = refl
then_eq Greater p = refl

same_code : (s : Status) → bytes_eq (trade_status_code s) (trade_status_code Completed) ≡ is_same_trade_status s Completed
same_code Completed = refl
same_code Active = refl
same_code Submitted = refl
same_code Pending = refl
same_code Canceled = refl

any_filter : {X : Type 0} (p q : X → Bool) (xs : List X) → list_any (λ x. p x && q x) xs ≡ list_any q (filter p xs)
any_filter p q [] = refl
any_filter {X = X} p q (x ∷ xs) = by_test (p x) (any_filter p q xs)
  where
    by_test : (b : Bool) → list_any (λ x. p x && q x) xs ≡ list_any q (filter p xs)
        → ((b && q x) || list_any (λ x. p x && q x) xs) ≡ list_any q (cond b (x ∷ filter p xs) (filter p xs))
    by_test true e = ap (λ r. q x || r) e
    by_test false e = e

abbrev pair_of : HistoryRow → Pair
pair_of h = (h.trade, trade_status_code h.status)

pub completion_found : (xs ys : List HistoryRow) (n : ℕ) (code : List ℕ) (r : Result ℕ ℕ) (b : Bool) → ys ≡ xs → code ≡ trade_status_code Completed → Climbs history_key (map abstract_history_row xs)
    → IsSearchInRange r (length ys) → IsBinarySearchResult (λ h. ordering_then (nat_cmp h.trade n) (slice_cmp nat_cmp (trade_status_code h.status) code)) ys r → b ≡ is_ok r
    → b ≡ list_any (λ h. is_same_trade_status h.status Completed) (filter (λ h. h.trade == n) (map abstract_history_row xs))
completion_found xs ys n code r b e f c within found is =
    let rows : Climbing pair_cmp pair_of ys =
    subst (Climbing pair_cmp pair_of) (sym e)
    (climbing pair_cmp abstract_history_row history_key (λ h. (h.trade, trade_status_code h.status))
    (λ g h. pair_less (g.trade, trade_status_code g.status) (h.trade, trade_status_code h.status)) xs c) in
    is
    ∙ any_searched (λ h. ordering_then (nat_cmp h.trade n) (slice_cmp nat_cmp (trade_status_code h.status) code)) (λ h. (h.trade == n) && is_same_trade_status h.status Completed) ys r
    (λ h. then_eq (nat_cmp h.trade n) (slice_cmp nat_cmp (trade_status_code h.status) code)
    ∙ (λ i. eq_number h.trade n i
    && ((λ j. is_eq (slice_cmp nat_cmp (trade_status_code h.status) (f j))) ∙ is_eq-slice_cmp (trade_status_code h.status) (trade_status_code Completed)
    ∙ same_code h.status) i))
    (rising_keys pair_total pair_of ys rows (n, code)) within found
    ∙ any_map (λ h. (h.trade == n) && is_same_trade_status h.status Completed) abstract_history_row ys
    ∙ ap (λ l. list_any (λ h. (h.trade == n) && is_same_trade_status h.status Completed) (map abstract_history_row l)) e
    ∙ any_filter (λ h. h.trade == n) (λ h. is_same_trade_status h.status Completed) (map abstract_history_row xs)
