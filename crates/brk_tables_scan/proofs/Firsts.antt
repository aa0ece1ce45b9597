-- The rows of DESK that have the number of a schema.
use Rattle.std.proofs.Common.{◌≡◌, ◌<◌, [], ◌∷◌, length, refl, sym, subst, ap, arith}
use Rattle.std.specs.Prelude.{◌≢◌}
use Rattle.sqlite_value.specs.Order.{Row, column}
use Rattle.brk_model.specs.Schemas.{Schema}
use Rattle.brk_tables_schema.specs.Cells.{natural_as_value}
use Rattle.brk_tables_scan.specs.Schemas.{IsDeskRowOfSchema, IsOneDeskRowOfSchema}

pub is_row : (desk : Schema) (r : Row) → length r ≡ 3 → column r 0 ≡ natural_as_value 1 → column r 1 ≡ natural_as_value desk.number → IsDeskRowOfSchema desk r
is_row desk [] three one other = absurd (let e = three in cc)
is_row desk (a ∷ []) three one other = absurd (let e = three in cc)
is_row desk (a ∷ b ∷ []) three one other = absurd (let e = three in cc)
is_row desk (a ∷ b ∷ last ∷ []) three one other = (last, rw (one, other) refl)
is_row desk (a ∷ b ∷ c ∷ d ∷ r) three one other = absurd (omega (arith, three))

pub not_three : (desk : Schema) (r : Row) → length r ≢ 3 → IsDeskRowOfSchema desk r → ⊥
not_three desk r other first = other (ap length first.1)

pub not_id : (desk : Schema) (r : Row) → (0 < length r → column r 0 ≢ natural_as_value 1) → IsDeskRowOfSchema desk r → ⊥
not_id desk r other first = other (subst (λ l. 0 < length l) (sym first.1) (omega (arith))) (ap (λ l. column l 0) first.1)

pub not_schema : (desk : Schema) (r : Row) → (1 < length r → column r 1 ≢ natural_as_value desk.number) → IsDeskRowOfSchema desk r → ⊥
not_schema desk r other first = other (subst (λ l. 1 < length l) (sym first.1) (omega (arith))) (ap (λ l. column l 1) first.1)

pub says_one : (desk : Schema) (r : Row) → IsDeskRowOfSchema desk r → IsOneDeskRowOfSchema desk (r ∷ [])
says_one desk r first = (first.0, ap (λ x. x ∷ []) first.1)

pub first_of : (desk : Schema) (r : Row) → IsOneDeskRowOfSchema desk (r ∷ []) → IsDeskRowOfSchema desk r
first_of desk r says = (says.0, let e = says.1 in cc)
