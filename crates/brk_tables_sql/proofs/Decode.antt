-- The records of the program are those that the rows encode.
use Rattle.std.proofs.Common.{◌≡◌, ℕ, List, [], ◌∷◌, map, slice_get, Some, None, Option, option_map, refl, sym, ap, ◌∙◌}
use Rattle.sqlite_value.specs.declared.value.Value.{Value}
use Rattle.sqlite_value.specs.declared.value.Value.TheVariants.{Text}
use Rattle.sqlite_value.specs.Order.{Row}
use Rattle.sqlite_keyed.proofs.ListLemmas.{map_back}

unfoldable pub text_in : Value → List ℕ
text_in (Text t) = t
text_in _ = []

module _ {X Y : Type 0} (encode : X → Row) (decode : Row → X) (back : (x : X) → decode (encode x) ≡ x) (model : Y → X) where
  same_mapped : (ys : List Y) → map (λ y. encode (model y)) ys ≡ map encode (map model ys)
  same_mapped [] = refl
  same_mapped (y ∷ ys) = ap (λ l. encode (model y) ∷ l) (same_mapped ys)

  pub all_are : (items : List Y) (given rows : List Row) (xs : List X) → map (λ y. encode (model y)) items ≡ given → given ≡ rows → rows ≡ map encode xs → map model items ≡ xs
  all_are items given rows xs a b c = sym (map_back encode decode back (map model items)) ∙ ap (map decode) (sym (same_mapped items) ∙ a ∙ b ∙ c) ∙ map_back encode decode back xs

  pub first_is : (o : Option Y) (given rows : List Row) (xs : List X) → option_map (λ y. encode (model y)) o ≡ slice_get given 0 → given ≡ rows
      → rows ≡ map encode xs → option_map model o ≡ slice_get xs 0
  first_is o given rows xs a b c = go o xs (a ∙ ap (λ l. slice_get l 0) (b ∙ c))
    where
      go : (o : Option Y) (xs : List X) → option_map (λ y. encode (model y)) o ≡ slice_get (map encode xs) 0 → option_map model o ≡ slice_get xs 0
      go None [] e = refl
      go None (x ∷ xs) e = absurd (let f = e in cc)
      go (Some y) [] e = absurd (let f = e in cc)
      go (Some y) (x ∷ xs) e = let f : encode (model y) ≡ encode x = cc in ap Some (sym (back (model y)) ∙ ap decode f ∙ back x)

-- every record passes a test that is always true
pub filter_true : {X : Type 0} (xs : List X) → Rattle.std.proofs.Common.filter (λ _. Rattle.std.proofs.Common.true) xs ≡ xs
filter_true [] = refl
filter_true (x ∷ xs) = ap (λ l. x ∷ l) (filter_true xs)
