-- The flag that an account exists agrees with its row.
use Rattle.std.proofs.Common.{◌≡◌, ◌∙◌, Bool, true, Option, Some, None, refl, sym}
use Rattle.std.proofs.lemmas.Bool.{true≢false}
use Rattle.std.specs.Prelude.{is_none, is_some}

-- whether it is there is whether it is not missing
pub missing_if : {X : Type 0} (o : Option X) (there : Bool) → there ≡ is_some o → there ≡ Bool.false → is_none o ≡ true
missing_if None there e f = refl
missing_if (Some x) there e f = absurd (true≢false (sym e ∙ f))

pub present_if : {X : Type 0} (o : Option X) (there : Bool) → there ≡ is_some o → there ≡ true → is_none o ≡ Bool.false
present_if None there e f = absurd (true≢false (sym f ∙ e))
present_if (Some x) there e f = refl
