-- The collation and the affinity of a column of a table. A column that is strict converts neither
-- itself nor what it is compared with.
use Rattle.std.proofs.Common.{◌≡◌, ℕ, Bool, true, false, refl, inl, inr}
use Rattle.std.specs.Prelude.{if◌then◌else◌}
use Rattle.std.proofs.lemmas.Bool.{cases_Bool}
use Rattle.sqlite_value.specs.declared.value.Value.TheVariants.{Null}
use Rattle.sqlite_schema.specs.declared.schema.Kind.{Kind}
use Rattle.sqlite_schema.specs.declared.schema.Kind.TheVariants as kind
use Rattle.sqlite_schema.specs.declared.schema.Table.{Table}
use Rattle.sqlite_schema.specs.declared.schema.Column.{Column}
use Rattle.sqlite_schema.specs.Names.{is_key}
use Rattle.sqlite_sql.specs.Term.{lit, col}
use Rattle.sqlite_resolve.specs.declared.compare.Affinity.{Affinity}
use Rattle.sqlite_resolve.specs.declared.compare.Affinity.TheVariants as affinity
use Rattle.sqlite_resolve.specs.Lowering.{nothing, chosen, alone}
use Rattle.sqlite_resolve.specs.Compare.{converted, of_declared, if_declared, is_filler}
use Rattle.brk_tables_sql.proofs.Conditions.{column_of, is_found, strict}
use Rattle.brk_tables_sql.proofs.Lowered.{collation_at, carried_at}

pub chosen_is : (table : Table) (k : ℕ) → chosen (carried_at table k) nothing ≡ collation_at table k
unfolding chosen alone Rattle.sqlite_resolve.specs.Lowering.first_found
chosen_is table k = elim (cases_Bool (is_key table.key k)) [ inl e ↦ rw e refl | inr e ↦ rw e refl ]

pub alone_is : (table : Table) (k : ℕ) → alone (carried_at table k) ≡ collation_at table k
unfolding alone
alone_is table k = elim (cases_Bool (is_key table.key k)) [ inl e ↦ rw e refl | inr e ↦ rw e refl ]

-- a column that is strict converts neither itself nor what it is compared with
abbrev pub is_loose : Affinity → Bool
is_loose affinity.Loose = true
is_loose _ = false

abbrev pub affinity_at : Table → ℕ → Affinity
affinity_at table k = if is_key table.key k then affinity.Numeric else of_declared (column_of table k)

tight_kind : (c : Column) → c.is_strict ≡ true → is_loose (if_declared c) ≡ false
tight_kind c s = rw s (by c.kind)
  where
    by : (k : Kind) → is_loose (Rattle.sqlite_resolve.specs.Compare.of_kind k) ≡ false
    by kind.Integer = refl
    by kind.Real = refl
    by kind.Text = refl
    by kind.Blob = refl
    by kind.Any = refl

pub tight : (table : Table) (k : ℕ) → is_found table k ≡ true → is_loose (affinity_at table k) ≡ false
tight table k f = elim (cases_Bool (is_key table.key k)) [
  | inl e ↦ rw e refl
  | inr e ↦ rw e (elim (cases_Bool (is_filler (column_of table k))) [ inl d ↦ rw d refl | inr d ↦ rw d (tight_kind (column_of table k) (strict table k f)) ])
]

pub of_itself : (a : Affinity) (at : ℕ) → converted a affinity.None (col 1 at) ≡ col 1 at
unfolding converted
of_itself affinity.None at = refl
of_itself affinity.Numeric at = refl
of_itself affinity.Loose at = refl
of_itself affinity.Text at = refl
of_itself affinity.Blob at = refl

pub of_parameter : (a : Affinity) → is_loose a ≡ false → (at : ℕ) → converted affinity.None a (col 0 at) ≡ col 0 at
unfolding converted Rattle.sqlite_resolve.specs.Compare.may_be_text Rattle.sqlite_resolve.specs.Compare.spelled
of_parameter affinity.None tight at = refl
of_parameter affinity.Numeric tight at = refl
of_parameter affinity.Loose tight at = absurd (let e = tight in cc)
of_parameter affinity.Text tight at = refl
of_parameter affinity.Blob tight at = refl

pub of_null : (a : Affinity) → is_loose a ≡ false → converted affinity.None a (lit Null) ≡ lit Null
unfolding converted Rattle.sqlite_resolve.specs.Compare.may_be_text Rattle.sqlite_resolve.specs.Compare.spelled
of_null affinity.None tight = refl
of_null affinity.Numeric tight = refl
of_null affinity.Loose tight = absurd (let e = tight in cc)
of_null affinity.Text tight = refl
of_null affinity.Blob tight = refl
