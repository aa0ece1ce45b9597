-- Checks joined by `&&`, from the branches of a check of both.
use Rattle.std.proofs.Common.{◌≡◌, ◌⊎◌, inl, inr, Bool, true, false, List, sym, ◌∙◌, ap}
use Rattle.std.specs.Prelude.{◌&&◌}
use Rattle.std.specs.List.{list_all}

-- a test that holds leaves the value of the next one
pub joined_if_true : {v V w A : Bool} → v ≡ V → v ≡ true → w ≡ A → w ≡ (V && A)
joined_if_true {A = A} e t p = p ∙ sym (ap (λ b. b && A) (sym e ∙ t))

-- a test that fails leaves its own value
pub joined_if_false : {v V w : Bool} (A : Bool) → v ≡ V → v ≡ false → w ≡ v → w ≡ (V && A)
joined_if_false A e f p = p ∙ f ∙ sym (ap (λ b. b && A) (sym e ∙ f))

-- either way the value is that of both tests
pub joined_test : {v V w A : Bool} → v ≡ V → ((v ≡ true) × (w ≡ A)) ⊎ ((v ≡ false) × (w ≡ v)) → w ≡ (V && A)
joined_test e (inl h) = joined_if_true e h.0 h.1
joined_test e (inr h) = joined_if_false _ e h.0 h.1

-- a test of each element of a slice is that of each item of the list that it shows
pub of_items : {X : Type 0} (test : X → Bool) {r : Bool} {shown items : List X} → r ≡ list_all test shown → shown ≡ items → r ≡ list_all test items
of_items test p e = p ∙ ap (list_all test) e
