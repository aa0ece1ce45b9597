-- Tax ids of at most one customer each.
use Rattle.std.proofs.Common.{◌≡◌, ℕ, ◌+◌, ◌<◌, Bool, true, false, cond, not, List, [], ◌∷◌, ◌++◌, refl, sym, ◌∙◌, ap, map, take, drop, length, get_or}
use Rattle.std.proofs.Common.{append_assoc, Ordering, Less, Equal, Greater, nat_cmp}
use Rattle.std.specs.Prelude.{◌&&◌, ◌||◌, bytes_eq}
use Rattle.std.specs.List.{list_any}
use Rattle.std.specs.Ordering.{is_eq, ordering_reverse}
use Rattle.std.specs.Cmp.Lexicographic.{slice_cmp}
use Rattle.std.proofs.lemmas.Cmp.{nat_list_cmp_total}
use Rattle.std.proofs.lemmas.Map.Text.{is_eq-slice_cmp}
use Rattle.std.proofs.lemmas.List.{take_more, take-append-drop, append-nil}
use Rattle.std.proofs.lemmas.List.Folds.{list_any-append}
use Rattle.brk_model.specs.Form.{has_distinct_tax_ids}
use Rattle.brk_ref.specs.Records.{abstract_customer}
use Rattle.brk_ref.specs.declared.customer.Customer.{Customer}

abbrev pub are_own : List Customer → Bool
are_own [] = true
are_own (c ∷ cs) = not (list_any (λ d. bytes_eq d.tax_id c.tax_id) cs) && are_own cs

any-mapped : (c : Customer) (cs : List Customer) → list_any (λ d. bytes_eq d.tax_id c.tax_id) cs ≡ list_any (λ d. bytes_eq d.tax_id c.tax_id) (map abstract_customer cs)
any-mapped c [] = refl
any-mapped c (d ∷ cs) = ap (λ b. bytes_eq d.tax_id c.tax_id || b) (any-mapped c cs)

pub own-mapped : (cs : List Customer) → are_own cs ≡ has_distinct_tax_ids (map abstract_customer cs)
own-mapped [] = refl
own-mapped (c ∷ cs) = λ i. not (any-mapped c cs i) && own-mapped cs i

shuffle : (a e o b : Bool) → (not (a || (e || false)) && (o && not b)) ≡ ((not a && o) && not (e || b))
shuffle true e o b = refl
shuffle false true true b = refl
shuffle false true false b = refl
shuffle false false true b = refl
shuffle false false false b = refl

own_last : (cs : List Customer) (x : Customer) → are_own (cs ++ x ∷ []) ≡ (are_own cs && not (list_any (λ d. bytes_eq x.tax_id d.tax_id) cs))
own_last [] x = refl
own_last (c ∷ cs) x =
    (λ i. not (list_any-append (λ d. bytes_eq d.tax_id c.tax_id) cs (x ∷ []) i) && own_last cs x i)
    ∙ shuffle (list_any (λ d. bytes_eq d.tax_id c.tax_id) cs) (bytes_eq x.tax_id c.tax_id) (are_own cs) (list_any (λ d. bytes_eq x.tax_id d.tax_id) cs)

not_own : (cs ds : List Customer) → are_own cs ≡ false → are_own (cs ++ ds) ≡ false
not_own cs [] e = ap are_own (append-nil cs) ∙ e
not_own cs (d ∷ ds) e =
    ap are_own (sym (append_assoc cs (d ∷ []) ds)) ∙ not_own (cs ++ d ∷ []) ds (own_last cs d ∙ ap (λ b. b && not (list_any (λ c. bytes_eq d.tax_id c.tax_id) cs)) e)

more : (xs : List Customer) (i : ℕ) (x : Customer) → i < length xs → x ≡ get_or xs i x → take (i + 1) xs ≡ take i xs ++ x ∷ []
more xs i x h r = take_more xs i x h ∙ ap (λ y. take i xs ++ y ∷ []) (sym r)

pub own_more : (xs : List Customer) (i : ℕ) (x : Customer) → i < length xs → x ≡ get_or xs i x → are_own (take i xs) ≡ true
    → list_any (λ d. bytes_eq x.tax_id d.tax_id) (take i xs) ≡ false → are_own (take (i + 1) xs) ≡ true
own_more xs i x h r e f = ap are_own (more xs i x h r) ∙ own_last (take i xs) x ∙ (λ j. e j && not (f j))

and_false : (b : Bool) → (b && false) ≡ false
and_false true = refl
and_false false = refl

pub own_not : (xs : List Customer) (i : ℕ) (x : Customer) → i < length xs → x ≡ get_or xs i x
    → list_any (λ d. bytes_eq x.tax_id d.tax_id) (take i xs) ≡ true → are_own xs ≡ false
own_not xs i x h r f =
    ap are_own (sym (take-append-drop (i + 1) xs))
    ∙ not_own (take (i + 1) xs) (drop (i + 1) xs)
    (ap are_own (more xs i x h r) ∙ own_last (take i xs) x ∙ ap (λ b. are_own (take i xs) && not b) f ∙ and_false (are_own (take i xs)))

is_eq_back : (o p : Ordering) → o ≡ ordering_reverse p → is_eq o ≡ is_eq p
is_eq_back o Less e = ap is_eq e
is_eq_back o Equal e = ap is_eq e
is_eq_back o Greater e = ap is_eq e

-- what is there, after one more
pub there_more : (xs : List Customer) (i : ℕ) (x : Customer) (key q : List ℕ) (was : Bool) → i < length xs → x ≡ get_or xs i x → key ≡ x.tax_id
    → was ≡ list_any (λ d. bytes_eq q d.tax_id) (take i xs)
    → cond (is_eq (slice_cmp nat_cmp key q)) true was ≡ list_any (λ d. bytes_eq q d.tax_id) (take (i + 1) xs)
there_more xs i x key q was h r k e =
    (λ j. cond (same j) true (e j)) ∙ by_test (bytes_eq q x.tax_id) (list_any (λ d. bytes_eq q d.tax_id) (take i xs))
    ∙ sym (ap (list_any (λ d. bytes_eq q d.tax_id)) (more xs i x h r) ∙ list_any-append (λ d. bytes_eq q d.tax_id) (take i xs) (x ∷ []))
  where
    same : is_eq (slice_cmp nat_cmp key q) ≡ bytes_eq q x.tax_id
    same = ap (λ k. is_eq (slice_cmp nat_cmp k q)) k ∙ is_eq_back (slice_cmp nat_cmp x.tax_id q) (slice_cmp nat_cmp q x.tax_id) (nat_list_cmp_total.antisymm x.tax_id q) ∙ is_eq-slice_cmp q x.tax_id

    by_test : (b c : Bool) → cond b true c ≡ (c || (b || false))
    by_test true true = refl
    by_test true false = refl
    by_test false true = refl
    by_test false false = refl
