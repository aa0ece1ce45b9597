-- Parsed ids are different, and at most twenty.
use Rattle.std.proofs.Common.{◌≡◌, ◌≤◌, ℕ, List, [], ◌∷◌, Bool, true, false, cond, Ok, Err, leb-true, length, refl, sym, subst, ap, ◌∙◌}
use Rattle.std.specs.Prelude.{nat_le}
use Rattle.brk_money.specs.declared.refusal.Refusal.TheVariants.{BadText, TooMany}
use Rattle.brk_model.specs.Forms.{ReadResult, one_to_twenty_distinct_ids, one_to_twenty_elements, check_read_value}
use Rattle.brk_model.specs.Lists.{all_distinct}

same_ok : (xs ys : List ℕ) → ◌≡◌ {A = ReadResult (List ℕ)} (Ok xs) (Ok ys) → xs ≡ ys
same_ok xs ys e = cc

-- they are those that were tested
few : (ids told : List ℕ) → ◌≡◌ {A = ReadResult (List ℕ)} (one_to_twenty_elements ids) (Ok told) → (ids ≡ told) × (length ids ≤ 20)
few [] told e = absurd (cc)
few (x ∷ ids) told e = by_test (nat_le (length (x ∷ ids)) 20) refl e
  where
    by_test : (b : Bool) → nat_le (length (x ∷ ids)) 20 ≡ b → ◌≡◌ {A = ReadResult (List ℕ)} (cond b (Ok (x ∷ ids)) (Err TooMany)) (Ok told) → (x ∷ ids ≡ told) × (length (x ∷ ids) ≤ 20)
    by_test true f g = (same_ok (x ∷ ids) told g, leb-true (length (x ∷ ids)) 20 f)
    by_test false f g = absurd (cc)

pub distinct_told : (ids told : List ℕ) → ◌≡◌ {A = ReadResult (List ℕ)} (one_to_twenty_distinct_ids ids) (Ok told) → (all_distinct told ≡ true) × (length told ≤ 20)
distinct_told ids told e = by_test (all_distinct ids) refl e
  where
    by_test : (b : Bool) → all_distinct ids ≡ b → ◌≡◌ {A = ReadResult (List ℕ)} (cond b (one_to_twenty_elements ids) (Err BadText)) (Ok told) → (all_distinct told ≡ true) × (length told ≤ 20)
    by_test true f g = let h = few ids told g in (ap all_distinct (sym h.0) ∙ f, subst (λ xs. length xs ≤ 20) h.0 h.1)
    by_test false f g = absurd (cc)

pub read_told : (read : ReadResult (List ℕ)) (told : List ℕ) → ◌≡◌ {A = ReadResult (List ℕ)} (check_read_value one_to_twenty_distinct_ids read) (Ok told)
    → (all_distinct told ≡ true) × (length told ≤ 20)
read_told (Ok ids) told e = distinct_told ids told e
read_told (Err refusal) told e = absurd (cc)
