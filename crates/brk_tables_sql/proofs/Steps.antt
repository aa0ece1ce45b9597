-- The lowering of tests, shown columns and sort columns, step by step, and what each leaves of the
-- budget.
use Rattle.std.proofs.Common.{◌≡◌, ◌∙◌, ℕ, suc, ◌+◌, ◌-◌, nat_lt, List, [], ◌∷◌, ◌++◌, map, length, Bool, true, None, Some, Ok, refl, sym, ap, inl, inr, append_assoc, append-nil, arith, slice_get}
use Rattle.std.specs.Prelude.{◌&&◌, ◌==◌}
use Rattle.std.specs.List.{list_all, position_from}
use Rattle.std.proofs.lemmas.Bool.{cases_Bool, and_parts}
use Rattle.std.proofs.lemmas.Bool.Decides.{nat_tests}
use Rattle.sqlite_value.specs.declared.value.Value.TheVariants.{Null}
use Rattle.sqlite_value.specs.declared.keys.Key.{Key}
use Rattle.sqlite_schema.specs.declared.schema.Schema.{Schema}
use Rattle.sqlite_schema.specs.declared.schema.Table.{Table}
use Rattle.sqlite_schema.specs.Names.{place_of, is_key, same_name}
use Rattle.sqlite_sql.specs.declared.ops.BinaryOp.{BinaryOp}
use Rattle.sqlite_sql.specs.declared.ops.BinaryOp.TheVariants.{Compare, Is, And}
use Rattle.sqlite_sql.specs.declared.ops.CompareOp.TheVariants.{Eq, Ne, Lt, Le, Gt, Ge}
use Rattle.sqlite_sql.specs.Term.{Term, lit, col, op2}
use Rattle.sqlite_ast.specs.declared.Expr.{Expr}
use Rattle.sqlite_ast.specs.declared.Expr.TheVariants as e
use Rattle.sqlite_ast.specs.declared.Binary.TheVariants as operator
use Rattle.sqlite_resolve.specs.declared.scope.Bound.{Bound}
use Rattle.sqlite_resolve.specs.declared.scope.Output.{Output}
use Rattle.sqlite_resolve.specs.declared.state.State.{State}
use Rattle.sqlite_resolve.specs.declared.state.Carried.{Carried}
use Rattle.sqlite_resolve.specs.declared.compare.Affinity.TheVariants as affinity
use Rattle.sqlite_resolve.specs.Lowering.{Lowering, fresh, max_budget, nothing, and_then}
use Rattle.sqlite_resolve.specs.Compare.{affinity_of, of_column, compared}
use Rattle.sqlite_resolve.specs.Scope.{Name, Context}
use Rattle.sqlite_resolve.specs.Expr.{lower, lower_to, node}
use Rattle.sqlite_resolve.specs.Body.{shown as showing, outputs_from}
use Rattle.sqlite_resolve.specs.Order.{sort, sorts_from, key, peeled, alias_in, collation_of, written_on, placed, is_numeral}
use Rattle.brk_tables_sql.proofs.Partly.{sql_lowering_definitions}
use Rattle.brk_tables_sql.proofs.Scoped.{over_one, column_is, heading_is}
use Rattle.brk_tables_sql.proofs.Conditions.{Test, compares, lacks, Tests, single, also, column_of, name_of, is_found, there, named, written, written_test, written_tests, column_tested, are_found}
use Rattle.brk_tables_sql.proofs.Lowered.{term_at, collation_at, test_term, tests_term, carried_at, one, output_at, sort_at, key_at, last_of}
use Rattle.brk_tables_sql.proofs.Affinities.{chosen_is, alone_is, affinity_at, tight, of_itself, of_parameter, of_null}

-- what a state has left of its budget
abbrev pub left : ℕ → Carried → State
left budget last = record (fresh 2 max_budget) { budget = budget; last = last }

abbrev pub cost_of : Tests → ℕ
cost_of (single t) = 3
cost_of (also ts t) = cost_of ts + 4

-- what unfolds of an expression: the steps of the lowering, without how a name is looked up, what is converted and which collation is chosen
unfoldable pub expression_steps : Unit {0}
unfolding
    Rattle.sqlite_resolve.specs.Expr.combine
    Rattle.sqlite_resolve.specs.Expr.tests_truth
    Rattle.sqlite_resolve.specs.Expr.is_empty_in
    Rattle.sqlite_resolve.specs.Expr.tests_alias
    Rattle.sqlite_resolve.specs.Expr.wanted_truth
    Rattle.sqlite_resolve.specs.Expr.passes
    Rattle.sqlite_resolve.specs.Expr.both
    Rattle.sqlite_resolve.specs.Expr.operation
    Rattle.sqlite_resolve.specs.Expr.opened
    Rattle.sqlite_resolve.specs.Expr.node
    Rattle.sqlite_resolve.specs.Expr.lower_to
    Rattle.sqlite_resolve.specs.Lowering.begin
    Rattle.sqlite_resolve.specs.Lowering.finish
    Rattle.sqlite_resolve.specs.Lowering.spend
    Rattle.sqlite_ast.specs.declared.Expr.TheBlock.hidden-the_row-Expr-0
    Rattle.sqlite_ast.specs.declared.Expr.TheBlock.shown-the_row-Expr-0
    Rattle.sqlite_ast.specs.declared.Expr.TheBlock.hidden-the_row-Expr-1
    Rattle.sqlite_ast.specs.declared.Expr.TheBlock.shown-the_row-Expr-1
    Rattle.sqlite_ast.specs.declared.Expr.TheBlock.hidden-the_row-Select-2
    Rattle.sqlite_ast.specs.declared.Expr.TheBlock.shown-the_row-Select-2
    Rattle.sqlite_ast.specs.declared.Expr.TheBlock.hidden-the_row-Arm-3
    Rattle.sqlite_ast.specs.declared.Expr.TheBlock.shown-the_row-Arm-3
    Rattle.sqlite_ast.specs.declared.Expr.TheBlock.hidden-the_row-Shown-4
    Rattle.sqlite_ast.specs.declared.Expr.TheBlock.shown-the_row-Shown-4
    Rattle.sqlite_ast.specs.declared.Expr.TheBlock.hidden-the_row-Source-5
    Rattle.sqlite_ast.specs.declared.Expr.TheBlock.shown-the_row-Source-5
    Rattle.sqlite_ast.specs.declared.Expr.TheBlock.hidden-the_row-Select-with-4-6
    Rattle.sqlite_ast.specs.declared.Expr.TheBlock.shown-the_row-Select-with-4-6
    Rattle.sqlite_ast.specs.declared.Expr.TheBlock.hidden-the_row-Select-others-2-7
    Rattle.sqlite_ast.specs.declared.Expr.TheBlock.shown-the_row-Select-others-2-7
    Rattle.sqlite_ast.specs.declared.Expr.TheBlock.hidden-the_row-Sort-8
    Rattle.sqlite_ast.specs.declared.Expr.TheBlock.shown-the_row-Sort-8
    Rattle.sqlite_ast.specs.declared.Expr.TheViews.out-Expr
    Rattle.sqlite_ast.specs.declared.Expr.TheViews.roll-Expr
    Rattle.sqlite_ast.specs.declared.Expr.TheViews.out-Shown
    Rattle.sqlite_ast.specs.declared.Expr.TheViews.roll-Shown
    Rattle.sqlite_ast.specs.declared.Expr.TheViews.out-Core
    Rattle.sqlite_ast.specs.declared.Expr.TheViews.roll-Core
    Rattle.sqlite_ast.specs.declared.Expr.TheViews.out-Select
    Rattle.sqlite_ast.specs.declared.Expr.TheViews.roll-Select
    Rattle.sqlite_ast.specs.declared.Expr.TheViews.out-Source
    Rattle.sqlite_ast.specs.declared.Expr.TheViews.roll-Source
    denote.Hole.Carrier.out
    denote.Hole.Carrier.roll
    denote.Hole.Carrier.shown
    denote.Hole.Carrier.hidden
expression_steps = tt

module _ (schema : Schema) (at : ℕ) (table : Table) (found : slice_get schema.tables at ≡ Some table) (name : Name) (shown : List Output) (may_aggregate may_alias : Bool) where
  abbrev pub cx : Context
  cx = over_one schema at name shown [] may_aggregate may_alias

  column_affinity : (k : ℕ) → is_found table k ≡ true → affinity_of cx (term_at table k) ≡ affinity_at table k
  unfolding affinity_of of_column
  column_affinity k f = elim (cases_Bool (is_key table.key k)) [ inl e ↦ rw e refl | inr e ↦ rw (e, suc_is k, found, there table k f) refl ]
    where
      suc_is : (k : ℕ) → k + 1 ≡ suc k
      suc_is k = omega arith

  parameter_affinity : (n : ℕ) → affinity_of cx (col 0 n) ≡ affinity.None
  unfolding affinity_of of_column
  parameter_affinity n = elim (cases_Bool (n == 0)) [ inl e ↦ rw e refl | inr e ↦ rw e refl ]

  null_affinity : affinity_of cx (lit Null) ≡ affinity.None
  unfolding affinity_of
  null_affinity = refl

  with_parameter : (op : BinaryOp) (k n : ℕ) → is_found table k ≡ true → compared cx op (term_at table k) (col 0 n) ≡ op2 op (term_at table k) (col 0 n)
  unfolding compared
  with_parameter op k n f = rw (column_affinity k f, parameter_affinity n, of_itself (affinity_at table k) (place_of table k), of_parameter (affinity_at table k) (tight table k f) n) refl

  with_null : (op : BinaryOp) (k : ℕ) → is_found table k ≡ true → compared cx op (term_at table k) (lit Null) ≡ op2 op (term_at table k) (lit Null)
  unfolding compared
  with_null op k f = rw (column_affinity k f, null_affinity, of_itself (affinity_at table k) (place_of table k), of_null (affinity_at table k) (tight table k f)) refl

  -- a test: the operator, the column and what it is compared with
  test_lowers : (depth : ℕ) (t : Test) → is_found table (column_tested t) ≡ true → (b b1 b2 b3 : ℕ) → nat_lt 1 b ≡ true → b - 1 ≡ b1 → nat_lt 1 b1 ≡ true → b1 - 1 ≡ b2
      → nat_lt 1 b2 ≡ true → b2 - 1 ≡ b3 → (last : Carried) → lower_to (suc (suc depth)) cx (written_test table t) (left b last) ≡ Ok (test_term table t, left b3 nothing)
  unfolding expression_steps
  test_lowers depth (compares Eq k n) f b b1 b2 b3 m0 l0 m1 l1 m2 l2 last =
      rw (m0, l0, m1, l1, column_is schema at table found name shown [] may_aggregate may_alias (name_of table k) k (column_of table k) (named table k f) (there table k f), m2, l2, chosen_is table k, with_parameter (Compare Eq (collation_at table k)) k (n - 1) f) refl
  test_lowers depth (compares Ne k n) f b b1 b2 b3 m0 l0 m1 l1 m2 l2 last =
      rw (m0, l0, m1, l1, column_is schema at table found name shown [] may_aggregate may_alias (name_of table k) k (column_of table k) (named table k f) (there table k f), m2, l2, chosen_is table k, with_parameter (Compare Ne (collation_at table k)) k (n - 1) f) refl
  test_lowers depth (compares Lt k n) f b b1 b2 b3 m0 l0 m1 l1 m2 l2 last =
      rw (m0, l0, m1, l1, column_is schema at table found name shown [] may_aggregate may_alias (name_of table k) k (column_of table k) (named table k f) (there table k f), m2, l2, chosen_is table k, with_parameter (Compare Lt (collation_at table k)) k (n - 1) f) refl
  test_lowers depth (compares Le k n) f b b1 b2 b3 m0 l0 m1 l1 m2 l2 last =
      rw (m0, l0, m1, l1, column_is schema at table found name shown [] may_aggregate may_alias (name_of table k) k (column_of table k) (named table k f) (there table k f), m2, l2, chosen_is table k, with_parameter (Compare Le (collation_at table k)) k (n - 1) f) refl
  test_lowers depth (compares Gt k n) f b b1 b2 b3 m0 l0 m1 l1 m2 l2 last =
      rw (m0, l0, m1, l1, column_is schema at table found name shown [] may_aggregate may_alias (name_of table k) k (column_of table k) (named table k f) (there table k f), m2, l2, chosen_is table k, with_parameter (Compare Gt (collation_at table k)) k (n - 1) f) refl
  test_lowers depth (compares Ge k n) f b b1 b2 b3 m0 l0 m1 l1 m2 l2 last =
      rw (m0, l0, m1, l1, column_is schema at table found name shown [] may_aggregate may_alias (name_of table k) k (column_of table k) (named table k f) (there table k f), m2, l2, chosen_is table k, with_parameter (Compare Ge (collation_at table k)) k (n - 1) f) refl
  test_lowers depth (lacks k) f b b1 b2 b3 m0 l0 m1 l1 m2 l2 last =
      rw (m0, l0, m1, l1, column_is schema at table found name shown [] may_aggregate may_alias (name_of table k) k (column_of table k) (named table k f) (there table k f), m2, l2, chosen_is table k, with_null (Is (collation_at table k)) k f) refl

  both_lower : (low : Context → Expr → Lowering Term) (x y : Expr) (p q : Term) (b b1 b2 b3 : ℕ) (last : Carried) → nat_lt 1 b ≡ true → b - 1 ≡ b1
      → low cx x (left b1 nothing) ≡ Ok (p, left b2 nothing) → low cx y (left b2 nothing) ≡ Ok (q, left b3 nothing)
      → node low cx (e.Binary operator.And x y) (left b last) ≡ Ok (op2 And p q, left b3 nothing)
  unfolding expression_steps
  both_lower low x y p q b b1 b2 b3 last more less first second = rw (more, less, first, second) refl

  -- tests joined by AND, of which each further one is one level higher
  abbrev pub levels : Tests → ℕ → ℕ
  levels (single t) depth = depth
  levels (also ts t) depth = suc (levels ts depth)

  pub tests_lower : (ts : Tests) → are_found table ts ≡ true → (depth b rest : ℕ) → b ≡ cost_of ts + suc rest → (last : Carried)
      → lower_to (suc (suc (levels ts depth))) cx (written_tests table ts) (left b last) ≡ Ok (tests_term table ts, left (suc rest) nothing)
  unfolding lower_to
  tests_lower (single t) f depth b rest is last =
      test_lowers depth t f b (b - 1) (b - 2) (suc rest) (over b 2 is) refl (over (b - 1) 1 (omega arith)) (omega arith) (over (b - 2) 0 (omega arith)) (omega arith) last
    where
      over : (b n : ℕ) → b ≡ suc n + suc rest → nat_lt 1 b ≡ true
      over b n is = grind (arith, nat_tests)
  tests_lower (also ts t) f depth b rest is last =
      let g = and_parts _ _ f in
      both_lower (lower_to (suc (suc (levels ts depth)))) (written_tests table ts) (written_test table t) (tests_term table ts) (test_term table t) b (b - 1) (suc (rest + 3)) (suc rest) last
      (over b (cost_of ts + 3) (omega arith)) refl
      (tests_lower ts g.0 depth (b - 1) (rest + 3) (omega arith) nothing)
      (test_lowers (levels ts depth) t g.1 (suc (rest + 3)) (suc (rest + 2)) (suc (rest + 1)) (suc rest)
      (over (suc (rest + 3)) 2 (omega arith)) (omega arith) (over (suc (rest + 2)) 1 (omega arith)) (omega arith) (over (suc (rest + 1)) 0 (omega arith)) (omega arith) nothing)
    where
      over : (b n : ℕ) → b ≡ suc n + suc rest → nat_lt 1 b ≡ true
      over b n is = grind (arith, nat_tests)

  -- ---- the columns that are shown

  abbrev pub bounds : List Bound
  bounds = record { name = name; table = at; slot = 1; shared = [] } ∷ []

  output_is : (k : ℕ) → is_found table k ≡ true → (b next : ℕ) → nat_lt 1 b ≡ true → b - 1 ≡ next → (last : Carried) (done : List Output)
      → showing lower cx bounds done (one table k) (left b last) ≡ Ok (done ++ output_at table k ∷ [], left next (carried_at table k))
  unfolding sql_lowering_definitions
  output_is k f b next more less last done =
      rw (
        more,
        less,
        column_is schema at table found name shown [] may_aggregate may_alias (name_of table k) k (column_of table k) (named table k f) (there table k f),
        heading_is schema at table found name shown [] may_aggregate may_alias (written table k) (name_of table k) (name_of table k) k (column_of table k) refl (named table k f) (there table k f),
      ) refl

  enough : (b n rest : ℕ) → b ≡ suc n + suc rest → nat_lt 1 b ≡ true
  enough b n rest is = grind (arith, nat_tests)

  pub outputs_are : (ks : List ℕ) → list_all (is_found table) ks ≡ true → (b rest : ℕ) → b ≡ length ks + suc rest → (last : Carried) (done : List Output)
      → outputs_from lower cx bounds done (map (one table) ks) (left b last) ≡ Ok (done ++ map (output_at table) ks, left (suc rest) (last_of table last ks))
  outputs_are [] f b rest is last done =
      let same : b ≡ suc rest = omega arith in
      ap (λ l. Ok (l, left b last)) (sym (append-nil done)) ∙ ap (λ b. Ok (done ++ [], left b last)) same
  outputs_are (k ∷ ks) f b rest is last done =
      let g = and_parts _ _ f in
      ap (λ r. and_then r (λ r. outputs_from lower cx bounds r.0 (map (one table) ks) r.1)) (output_is k g.0 b (b - 1) (enough b (length ks) rest is) refl last done)
      ∙ outputs_are ks g.1 (b - 1) rest (omega arith) (carried_at table k) (done ++ output_at table k ∷ [])
      ∙ ap (λ l. Ok (l, left (suc rest) (last_of table (carried_at table k) ks))) (append_assoc done (output_at table k ∷ []) (map (output_at table) ks))

  -- ---- the order of the rows

  no_alias : (wanted : Name) (ks : List ℕ) (i : ℕ) → position_from (λ o. o.is_alias && same_name o.name wanted) i (map (output_at table) ks) ≡ None
  no_alias wanted [] i = refl
  no_alias wanted (k ∷ ks) i = no_alias wanted ks (i + 1)

  key_is : (ks : List ℕ) (k : ℕ) (falls : Bool) → is_found table k ≡ true → (b next : ℕ) → nat_lt 1 b ≡ true → b - 1 ≡ next → (last : Carried) (done : List (Term × Key))
      → sort lower cx (map (output_at table) ks) done (sort_at table (k, falls)) (left b last) ≡ Ok (done ++ key_at table (k, falls) ∷ [], left next (carried_at table k))
  unfolding expression_steps sort key peeled alias_in collation_of written_on placed is_numeral
  key_is ks k falls f b next more less last done = rw (no_alias (name_of table k) ks 0, more, less, column_is schema at table found name shown [] may_aggregate may_alias (name_of table k) k (column_of table k) (named table k f) (there table k f), alone_is table k) refl

  pub keys_are : (ks : List ℕ) (by : List (ℕ × Bool)) → list_all (λ k. is_found table k.0) by ≡ true → (b rest : ℕ) → b ≡ length by + suc rest → (last : Carried) (done : List (Term × Key))
      → sorts_from lower cx (map (output_at table) ks) done (map (sort_at table) by) (left b last)
      ≡ Ok (done ++ map (key_at table) by, left (suc rest) (last_of table last (map (λ k. k.0) by)))
  keys_are ks [] f b rest is last done =
      let same : b ≡ suc rest = omega arith in
      ap (λ l. Ok (l, left b last)) (sym (append-nil done)) ∙ ap (λ b. Ok (done ++ [], left b last)) same
  keys_are ks (k ∷ by) f b rest is last done =
      let g = and_parts _ _ f in
      ap (λ r. and_then r (λ r. sorts_from lower cx (map (output_at table) ks) r.0 (map (sort_at table) by) r.1)) (key_is ks k.0 k.1 g.0 b (b - 1) (enough b (length by) rest is) refl last done)
      ∙ keys_are ks by g.1 (b - 1) rest (omega arith) (carried_at table k.0) (done ++ key_at table k ∷ [])
      ∙ ap (λ l. Ok (l, left (suc rest) (last_of table (carried_at table k.0) (map (λ k. k.0) by)))) (append_assoc done (key_at table k ∷ []) (map (key_at table) by))
