use Rattle.std.proofs.Common.{◌≡◌, false, List, map}
use Rattle.std.specs.List.{FoldsTo}
use Rattle.sqlite.specs.State.{HasCleanDisk, IsUnchanged, Survives}
use Rattle.sqlite.specs.Held.{state}
use Rattle.sqlite.specs.Given.{HasGiven}
use Rattle.sqlite.specs.Values.{bound}
use Rattle.brk_tables_views.proofs.walking.walk_query_rows.Given as goal

-- what the query has given so far the visitor has taken, and the database is as it was
abbrev pub invariant-rows : goal.invariant-rows
invariant-rows g l =
    let old = state g.S.Store l.fn.conn in
    let now = state g.S.Store l.rows.conn.now in
    (l.rows.conn.ghost_name ≡ l.initial.rows.conn.ghost_name) × Survives old now (λ _. ⊥)
    × (l.fn.conn.in_transaction ≡ false → l.rows.conn.now.in_transaction ≡ false) × (g.V.Visitor.ready l.visitor × g.V.Visitor.leads l.fn.visitor l.visitor)
    × (HasCleanDisk now → (taken : List _) × HasGiven g.S.Store l.sql (bound l.params) l.rows.conn.now (map g.R.Record.cells taken)
    × FoldsTo g.V.Visitor.takes l.fn.visitor taken l.visitor × IsUnchanged old now)
