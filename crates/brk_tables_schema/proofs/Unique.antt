-- Keys of several columns: two rows have one key if their columns agree.
use Rattle.std.proofs.Common.{◌≡◌, ℕ, pos, List, [], ◌∷◌, map, take, ◌&&◌, Ordering, Less, Equal, Greater, is_eq, refl, sym, ap, ◌∙◌}
use Rattle.std.specs.Ordering.{ordering_then}
use Rattle.std.specs.Cmp.Lexicographic.{slice_cmp}
use Rattle.sqlite_value.specs.declared.keys.Collation.TheVariants.{Binary}
use Rattle.sqlite_value.specs.Keys.{plain, first_key}
use Rattle.sqlite_value.specs.Order.{Row, column, value_cmp}
use Rattle.sqlite_value.proofs.OrderLemmas.{value_cmp-Int, value_cmp-Text}
use Rattle.sqlite_schema.specs.Rules.{agree, equal}
use Rattle.sqlite_sql.specs.Ops.{binary}
use Rattle.brk_model.specs.Keys.{KeyPart, number, word, kept_key, permission_key, security_key, last_trade_key, charge_key, band_key, customer_tax_key}
use Rattle.brk_tables_sql.proofs.Values.{equal_ints, equal_texts}
use Rattle.brk_tables_sql.proofs.Writes.{IsUniqueKey}
use Rattle.brk_tables_schema.specs.Shapes.{kept_table, permission_table, security_table, last_trade_table, charge_table, band_table, customer_tax_table}
use Rattle.brk_tables_schema.specs.Cells.{kept_cells, permission_cells, security_cells, last_trade_cells, charge_cells, band_cells, customer_tax_cells}
use Rattle.brk_tables_schema.specs.Desk.{KeptRows, Permissions, Securities, LastTrades, Charges, Bands, CustomerTaxes, ordering_by_primary_key}
use Rattle.brk_tables_schema.specs.Order.{key_part_value, key_values}

same_part : (j k : KeyPart) → equal Binary (key_part_value j) (key_part_value k) ≡ is_eq (value_cmp (key_part_value j) (key_part_value k))
unfolding binary value_cmp
same_part (number m) (number n) = equal_ints (pos m) (pos n) ∙ ap is_eq (sym (value_cmp-Int (pos m) (pos n)))
same_part (word s) (word t) = equal_texts s t ∙ ap is_eq (sym (value_cmp-Text s t))
same_part (number m) (word t) = refl
same_part (word s) (number n) = refl

eq_then : (a b : Ordering) → is_eq (ordering_then a b) ≡ (is_eq a && is_eq b)
eq_then Less b = refl
eq_then Equal b = refl
eq_then Greater b = refl

pub same_key : (js ks : List KeyPart) (places : List ℕ) (r s : Row) → map (column r) places ≡ key_values js → map (column s) places ≡ key_values ks
    → is_eq (slice_cmp value_cmp (key_values js) (key_values ks)) ≡ agree plain places r places s
unfolding first_key
same_key [] [] [] r s e f = refl
same_key [] (k ∷ ks) [] r s e f = absurd (let g = f in cc)
same_key (j ∷ js) ks [] r s e f = absurd (let g = e in cc)
same_key [] ks (p ∷ places) r s e f = absurd (let g = e in cc)
same_key (j ∷ js) [] (p ∷ places) r s e f = absurd (let g = f in cc)
same_key (j ∷ js) (k ∷ ks) (p ∷ places) r s e f =
    let a : column r p ≡ key_part_value j = cc in
    let b : column s p ≡ key_part_value k = cc in
    let c : map (column r) places ≡ key_values js = cc in
    let d : map (column s) places ≡ key_values ks = cc in
    rw (a, b, same_part j k)
    (eq_then (value_cmp (key_part_value j) (key_part_value k)) _
    ∙ ap (λ rest. is_eq (value_cmp (key_part_value j) (key_part_value k)) && rest) (same_key js ks places r s c d))

pub kept_keyed : IsUniqueKey kept_table kept_cells (ordering_by_primary_key KeptRows)
kept_keyed = record { key = 1 ∷ 2 ∷ []; first = λ tree. refl; tied = λ tree r s x y e f. same_key (kept_key x) (kept_key y) (1 ∷ 2 ∷ []) r s (ap (take 2) e) (ap (take 2) f) }

pub permission_keyed : IsUniqueKey permission_table permission_cells (ordering_by_primary_key Permissions)
permission_keyed = record { key = 1 ∷ 2 ∷ []; first = λ tree. refl; tied = λ tree r s x y e f. same_key (permission_key x) (permission_key y) (1 ∷ 2 ∷ []) r s (ap (take 2) e) (ap (take 2) f) }

pub security_keyed : IsUniqueKey security_table security_cells (ordering_by_primary_key Securities)
security_keyed = record { key = 1 ∷ []; first = λ tree. refl; tied = λ tree r s x y e f. same_key (security_key x) (security_key y) (1 ∷ []) r s (ap (take 1) e) (ap (take 1) f) }

pub last_trade_keyed : IsUniqueKey last_trade_table last_trade_cells (ordering_by_primary_key LastTrades)
last_trade_keyed = record { key = 1 ∷ []; first = λ tree. refl; tied = λ tree r s x y e f. same_key (last_trade_key x) (last_trade_key y) (1 ∷ []) r s (ap (take 1) e) (ap (take 1) f) }

pub charge_keyed : IsUniqueKey charge_table charge_cells (ordering_by_primary_key Charges)
charge_keyed = record { key = 1 ∷ 2 ∷ []; first = λ tree. refl; tied = λ tree r s x y e f. same_key (charge_key x) (charge_key y) (1 ∷ 2 ∷ []) r s (ap (take 2) e) (ap (take 2) f) }

pub band_keyed : IsUniqueKey band_table band_cells (ordering_by_primary_key Bands)
band_keyed = record { key = 1 ∷ 2 ∷ 3 ∷ 4 ∷ []; first = λ tree. refl; tied = λ tree r s x y e f. same_key (band_key x) (band_key y) (1 ∷ 2 ∷ 3 ∷ 4 ∷ []) r s (ap (take 4) e) (ap (take 4) f) }

pub customer_tax_keyed : IsUniqueKey customer_tax_table customer_tax_cells (ordering_by_primary_key CustomerTaxes)
customer_tax_keyed = record { key = 1 ∷ 2 ∷ []; first = λ tree. refl; tied = λ tree r s x y e f. same_key (customer_tax_key x) (customer_tax_key y) (1 ∷ 2 ∷ []) r s (ap (take 2) e) (ap (take 2) f) }
