-- Reads, one after the other, return the rows that each of them returns.
use Rattle.std.proofs.Common.{◌≡◌, IsTrue, List, Ok, subst, ◌∙◌}
use Rattle.std.specs.Global.{Vec}
use Rattle.sqlite_value.specs.Order.{Row}
use Rattle.sqlite.specs.State.{State}
use Rattle.brk_money.specs.declared.fault.StoreFailed.{StoreFailed}
use Rattle.brk_tables_sql.specs.Model.{IsTransactionStep}
use Rattle.brk_tables_sql.proofs.Inside.{step_then, step_read}
use Rattle.brk_model.specs.Schemas.{Schema}
use Rattle.brk_tables_schema.specs.Desk.{DeskTable, CashMoves, SettleRules}
use Rattle.brk_tables_scan.specs.Whole.{ShowsAllRows, ShowsRowsIfInSchema}
use Rattle.brk_tables_scan.specs.Raw.{ShowsFourTables, ShowsTwoLaterTables, IsUnchangedAndOpen}

abbrev pub Shown : DeskTable → Vec Row → State → State → Type 0
Shown w rows a b = IsTrue a.is_open × (b.now ≡ a.now) × ShowsAllRows w rows.items a.now

pub stays_then : (a b c : State) → IsUnchangedAndOpen a b → IsUnchangedAndOpen b c → IsUnchangedAndOpen a c
stays_then a b c s t = (s.0, t.1 ∙ s.1)

pub shown_before : (w : DeskTable) (rows : List Row) (a b : State) → IsUnchangedAndOpen a b → ShowsAllRows w rows b.now → ShowsAllRows w rows a.now
shown_before w rows a b s = subst (ShowsAllRows w rows) s.1

module _ (first second third fourth : DeskTable) (a b c d e : State) (r s t u : Vec Row)
    (one : IsTransactionStep {V = Vec Row} {E = StoreFailed} a b (Ok r) (λ rows x y. Shown first rows x y)) (two : IsTransactionStep {V = Vec Row} {E = StoreFailed} b c (Ok s) (λ rows x y. Shown second rows x y))
    (three : IsTransactionStep {V = Vec Row} {E = StoreFailed} c d (Ok t) (λ rows x y. Shown third rows x y))
    (four : IsTransactionStep {V = Vec Row} {E = StoreFailed} d e (Ok u) (λ rows x y. Shown fourth rows x y)) where
  pub shows_four : {V F : Type 0} (v : V) (made : V → State → State → Type 0)
      → (ShowsFourTables first second third fourth r.items s.items t.items u.items a e → made v a e) → IsTransactionStep {V = V} {E = F} a e (Ok v) made
  shows_four {V} {F} v made makes =
      let ab = step_then a b c r (Ok s) (λ rows x y. Shown first rows x y) (λ rows x y. Shown second rows x y)
      (λ rows x y. IsUnchangedAndOpen x y × ShowsAllRows first r.items x.now × ShowsAllRows second rows.items x.now)
      (λ rows p q. (stays_then a b c (p.0, p.1) (q.0, q.1), p.2, shown_before second rows.items a b (p.0, p.1) q.2)) one two in
      let abc = step_then a c d s (Ok t) (λ rows x y. IsUnchangedAndOpen x y × ShowsAllRows first r.items x.now × ShowsAllRows second rows.items x.now) (λ rows x y. Shown third rows x y)
      (λ rows x y. IsUnchangedAndOpen x y × ShowsAllRows first r.items x.now × ShowsAllRows second s.items x.now × ShowsAllRows third rows.items x.now)
      (λ rows p q. (stays_then a c d p.0 (q.0, q.1), p.1, p.2, shown_before third rows.items a c p.0 q.2)) ab three in
      let all = step_then a d e t (Ok u)
      (λ rows x y. IsUnchangedAndOpen x y × ShowsAllRows first r.items x.now × ShowsAllRows second s.items x.now × ShowsAllRows third rows.items x.now)
      (λ rows x y. Shown fourth rows x y)
      (λ rows x y. IsUnchangedAndOpen x y × ShowsAllRows first r.items x.now × ShowsAllRows second s.items x.now × ShowsAllRows third t.items x.now × ShowsAllRows fourth rows.items x.now)
      (λ rows p q. (stays_then a d e p.0 (q.0, q.1), p.1, p.2, p.3, shown_before fourth rows.items a d p.0 q.2)) abc four in
      step_read a e u (Ok v)
      (λ rows x y. IsUnchangedAndOpen x y × ShowsAllRows first r.items x.now × ShowsAllRows second s.items x.now × ShowsAllRows third t.items x.now
      × ShowsAllRows fourth rows.items x.now)
      made (λ w is p. let same : v ≡ w = cc in subst (λ w. made w a e) same (makes (record { stays = p.0; one = p.1; two = p.2; three = p.3; four = p.4 }))) all

abbrev pub ShownIfPresent : Schema → DeskTable → Vec Row → State → State → Type 0
ShownIfPresent desk w rows a b = (b.now ≡ a.now) × ShowsRowsIfInSchema desk w rows.items a.now

module _ (desk : Schema) (a b c : State) (r s : Vec Row)
    (one : IsTransactionStep {V = Vec Row} {E = StoreFailed} a b (Ok r) (λ rows x y. ShownIfPresent desk CashMoves rows x y))
    (two : IsTransactionStep {V = Vec Row} {E = StoreFailed} b c (Ok s) (λ rows x y. ShownIfPresent desk SettleRules rows x y)) where
  pub shows_later : {V F : Type 0} (v : V) (made : V → State → State → Type 0)
      → (ShowsTwoLaterTables desk r.items s.items a c → made v a c) → IsTransactionStep {V = V} {E = F} a c (Ok v) made
  shows_later {V} {F} v made makes =
      let both : Vec Row → State → State → Type 0 = λ rows x y. ShowsTwoLaterTables desk r.items rows.items x y in
      let all = step_then a b c r (Ok s) (λ rows x y. ShownIfPresent desk CashMoves rows x y) (λ rows x y. ShownIfPresent desk SettleRules rows x y) both
      (λ rows p q. record { same = q.0 ∙ p.0; moves = p.1; rule = subst (ShowsRowsIfInSchema desk SettleRules rows.items) p.0 q.1 }) one two in
      step_read a c s (Ok v) both made (λ w is p. let same : v ≡ w = cc in subst (λ w. made w a c) same (makes p)) all
