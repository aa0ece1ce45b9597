-- Trades numbered from 1.
use Rattle.std.proofs.Common.{◌≡◌, ℕ, zero, suc, ◌+◌, ◌<◌, true, false, List, [], ◌∷◌, refl, ap, ◌∙◌, Bool, map, length, get_or, arith, ◌==◌, eq-eqb, ne_eqb}
use Rattle.std.specs.Prelude.{◌&&◌}
use Rattle.std.specs.List.{range_with_len}
use Rattle.std.proofs.lemmas.Bool.{and_from}
use Rattle.brk_model.specs.Form.{are_equal_number_lists}

pub numbered_all : {X : Type 0} (id : X → ℕ) (xs : List X) (n : ℕ) → ((k : ℕ) (d : X) → k < length xs → id (get_or xs k d) ≡ n + k)
    → are_equal_number_lists (map id xs) (range_with_len n (length xs)) ≡ true
numbered_all id [] n f = refl
numbered_all id (x ∷ xs) n f =
    let e : id x ≡ n + 0 = f 0 x (omega arith) in
    and_from (id x == n) _ (eq-eqb (id x) n (omega arith)) (numbered_all id xs (n + 1) (λ k d h. let e : id (get_or xs k d) ≡ n + suc k = f (suc k) d (omega arith) in omega arith))

and_false : (b : Bool) → (b && false) ≡ false
and_false true = refl
and_false false = refl

pub numbered_not : {X : Type 0} (id : X → ℕ) (xs : List X) (n k : ℕ) (d : X) → k < length xs → (id (get_or xs k d) ≡ n + k → ⊥)
    → are_equal_number_lists (map id xs) (range_with_len n (length xs)) ≡ false
numbered_not id [] n k d h f = absurd (omega arith)
numbered_not id (x ∷ xs) n zero d h f = ap (λ b. b && are_equal_number_lists (map id xs) (range_with_len (n + 1) (length xs))) (ne_eqb (id x) n (λ e. f (omega arith)))
numbered_not id (x ∷ xs) n (suc k) d h f =
    ap (λ b. (id x == n) && b) (numbered_not id xs (n + 1) k d (omega arith) (λ e. f (omega arith))) ∙ and_false (id x == n)
