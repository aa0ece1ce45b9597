-- A query with one check is refused if the check fails, and answered otherwise. The rows of a known
-- view.
use Rattle.std.proofs.Common.{◌≡◌, [], ◌∷◌, Bool, true, false, Option, Some, None, Ok, Err, refl, subst, sym}
use Rattle.std.specs.Prelude.{is_none}
use Rattle.brk_money.specs.declared.refusal.Refusal.{Refusal}
use Rattle.brk_model.specs.Queries.{Query, View}
use Rattle.brk_model.specs.Step.{value_unless_refused}
use Rattle.brk_model.specs.Tables.{Tables}
use Rattle.brk_model.specs.Tests.{first_refusal}
use Rattle.brk_view_rows.specs.Carried.{HasRowsOfQuery}
use Rattle.brk_view_rows.specs.declared.view.View as typed

pub refused : (failed : Bool) (refusal : Refusal) (view : View) → failed ≡ true → value_unless_refused (first_refusal ((failed, refusal) ∷ [])) view ≡ Err refusal
refused true refusal view e = refl
refused false refusal view e = absurd (cc)

pub answered : (failed : Bool) (refusal : Refusal) (view : View) → failed ≡ false → value_unless_refused (first_refusal ((failed, refusal) ∷ [])) view ≡ Ok view
answered false refusal view e = refl
answered true refusal view e = absurd (cc)

-- a view carries the rows of the view that it is
pub carried_as : (query : Query) (view known : typed.View) (t : Tables) → view ≡ known → HasRowsOfQuery query known t → HasRowsOfQuery query view t
carried_as query view known t is carries = subst (λ v. HasRowsOfQuery query v t) (sym is) carries

pub is_missing : {X : Type 0} (o : Option X) → None ≡ o → is_none o ≡ true
is_missing None e = refl
is_missing (Some x) e = absurd (cc)

pub is_there : {X : Type 0} (x : X) (o : Option X) → Some x ≡ o → is_none o ≡ false
is_there x None e = absurd (cc)
is_there x (Some y) e = refl
