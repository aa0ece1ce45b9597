use Rattle.std.proofs.Common.{[], ◌∷◌, ◌++◌, map, refl, sym, subst, ◌∙◌, rules, arith, inl, inr}
use Rattle.sqlite.specs.Held.{state}
use Rattle.sqlite.specs.Given.{HasGiven}
use Rattle.sqlite.specs.Values.{bound}
use Rattle.sqlite.specs.State.{HasCleanDisk, IsUnchanged, Survives, CommitsShowing, Begins}
use Rattle.sqlite.proofs.Callers.{given_begin, unchanged_then}
use Rattle.brk_tables_views.proofs.Starts.{still}
use Rattle.brk_tables_views.proofs.Walked.{begun, begins_at, commits_none, failed, folds_one, map_one, refused, shown_at, through}
use Rattle.brk_tables_views.proofs.walking.walk_query_rows.Goals as goal

pub returns-in-Err-clause-crash : goal.returns-in-Err-clause-crash
returns-in-Err-clause-crash g c =
    let old = state g.S.Store c.args.conn.now in
    let new = state g.S.Store c.query.follows.lender-at-none in
    let held = c.query.follows.holds-at-none in
    commits_none c.args.sql.now (bound c.args.params.now) old new c.requires.query (let kept : Survives old new (CommitsShowing c.args.sql.now (bound c.args.params.now) old) = search rules in kept)

pub returns-in-Err-clause-early : goal.returns-in-Err-clause-early
returns-in-Err-clause-early g c clean = record { records = []; begins = inl refl; taken = refl }

pub returns-in-Err-clause-changes_at_most_by_rollback : goal.returns-in-Err-clause-changes_at_most_by_rollback
returns-in-Err-clause-changes_at_most_by_rollback g c clean =
    let held = c.query.follows.holds-at-none in
    refused _ _ _ _ _ c.requires.query ((rw c.in-Err.is at held).err clean)

pub rows-init : goal.rows-init
rows-init g c =
    let made = c.in-Ok.ensures in (
      refl,
      commits_none _ _ _ _ c.requires.query made.survives,
      made.mode,
      (c.requires.ready, g.met.V.Visitor.reflexive c.args.visitor.now),
      λ clean.
          let b = begun g.S.Store _ _ c.args.conn.now _ c.requires.query (made.begun clean) in ([], b.0, refl, b.1),
    )

pub returns-in-Ok-None-clause-all : goal.returns-in-Ok-None-clause-all
returns-in-Ok-None-clause-all g c clean =
    let moved = c.next.follows.holds-at-none in
    let now = c.next.follows.lender-at-none.conn.now in
    let late : HasCleanDisk (state g.S.Store now) = search rules in
    let was = c.rows.invariant.4 (omega (arith, moved.survives.clean, late)) in
    let shown = (rw (c.in-Ok-None.is, c.in-Ok-None.field-0-is) at (moved.ok late)) c.args.sql.now (bound c.args.params.now) (map g.R.Record.cells was.0) was.1 in
    record { records = was.0; is_open = was.3.0.was_open; shown = shown_at _ _ _ _ was.3.0.now_is _ _ c.requires.query (still _ was.3.0.was_open) shown; taken = was.2 }

pub returns-in-Ok-None-clause-unchanged_if_ok : goal.returns-in-Ok-None-clause-unchanged_if_ok
returns-in-Ok-None-clause-unchanged_if_ok g c clean =
    let moved = c.next.follows.holds-at-none in
    let now = c.next.follows.lender-at-none.conn.now in
    let late : HasCleanDisk (state g.S.Store now) = search rules in
    let was = c.rows.invariant.4 (omega (arith, moved.survives.clean, late)) in
    let on : IsUnchanged (state g.S.Store c.rows.rows.conn.now) (state g.S.Store now) = rw c.in-Ok-None.is at (moved.same late) in
    let whole : IsUnchanged (state g.S.Store c.args.conn.now) (state g.S.Store now) = unchanged_then _ _ _ was.3 on in
    search rules

pub returns-in-Ok-None-clause-changes_at_most_by_rollback : goal.returns-in-Ok-None-clause-changes_at_most_by_rollback
returns-in-Ok-None-clause-changes_at_most_by_rollback g c clean = inl (returns-in-Ok-None-clause-unchanged_if_ok g c clean)

pub returns-in-Ok-None-clause-crash : goal.returns-in-Ok-None-clause-crash
returns-in-Ok-None-clause-crash g c =
    let whole : Survives (state g.S.Store c.args.conn.now) (state g.S.Store c.next.follows.lender-at-none.conn.now) (λ _. ⊥) = through _ _ _ c.rows.invariant.1 c.next.follows.holds-at-none.survives in
    search rules

pub returns-in-Err-next-clause-early : goal.returns-in-Err-next-clause-early
returns-in-Err-next-clause-early g c clean =
    let moved = c.next.follows.holds-at-none in
    let now = c.next.follows.lender-at-none.conn.now in
    let late : HasCleanDisk (state g.S.Store now) = search rules in
    let was = c.rows.invariant.4 (omega (arith, moved.survives.clean, late)) in
    record { records = was.0; begins = inr (was.3.0.was_open, begins_at _ _ _ _ was.3.0.now_is _ (given_begin g.S.Store _ _ c.rows.rows.conn.now _ was.1)); taken = was.2 }

pub returns-in-Err-next-clause-changes_at_most_by_rollback : goal.returns-in-Err-next-clause-changes_at_most_by_rollback
returns-in-Err-next-clause-changes_at_most_by_rollback g c clean =
    let moved = c.next.follows.holds-at-none in
    let now = c.next.follows.lender-at-none.conn.now in
    let late : HasCleanDisk (state g.S.Store now) = search rules in
    let was = c.rows.invariant.4 (omega (arith, moved.survives.clean, late)) in
    let whole = failed (state g.S.Store c.args.conn.now) (state g.S.Store c.rows.rows.conn.now) (state g.S.Store now) _ was.3 (rw c.in-Err-next.is at (moved.kept late)) in
    search rules

pub returns-in-Err-next-clause-crash : goal.returns-in-Err-next-clause-crash
returns-in-Err-next-clause-crash g c =
    let whole : Survives (state g.S.Store c.args.conn.now) (state g.S.Store c.next.follows.lender-at-none.conn.now) (λ _. ⊥) = through _ _ _ c.rows.invariant.1 c.next.follows.holds-at-none.survives in
    search rules

pub returns-in-Err-visit-clause-early : goal.returns-in-Err-visit-clause-early
returns-in-Err-visit-clause-early g c clean =
    let moved = c.next.follows.holds-at-none in
    let now = c.next.follows.lender-at-none.conn.now in
    let late : HasCleanDisk (state g.S.Store now) = search rules in
    let was = c.rows.invariant.4 (omega (arith, moved.survives.clean, late)) in
    let on = (rw (c.in-Ok-Some.is, c.in-Ok-Some.field-0-is) at (moved.ok late)) c.args.sql.now (bound c.args.params.now) (map g.R.Record.cells was.0) was.1 in
    let still_so : IsUnchanged (state g.S.Store c.args.conn.now) (state g.S.Store now) = unchanged_then _ _ _ was.3 (rw c.in-Ok-Some.is at (moved.same late)) in
    record {
      records = was.0;
      next = c.in-Ok-decode_record.item;
      is_open = was.3.0.was_open;
      begins = begins_at _ _ _ _ still_so.0.now_is _
          (subst (Begins _ _ (state g.S.Store now)) (sym (map_one g.R.Record.cells was.0 _ _ c.in-Ok-decode_record.ensures.value))
          (given_begin g.S.Store _ _ now _ on));
      at = c.rows.visitor;
      taken = was.2;
      stopped = c.in-Err-visit.ensures.stops;
    }

pub returns-in-Err-visit-clause-changes_at_most_by_rollback : goal.returns-in-Err-visit-clause-changes_at_most_by_rollback
returns-in-Err-visit-clause-changes_at_most_by_rollback g c clean =
    let moved = c.next.follows.holds-at-none in
    let now = c.next.follows.lender-at-none.conn.now in
    let late : HasCleanDisk (state g.S.Store now) = search rules in
    let was = c.rows.invariant.4 (omega (arith, moved.survives.clean, late)) in
    let still_so : IsUnchanged (state g.S.Store c.args.conn.now) (state g.S.Store now) = unchanged_then _ _ _ was.3 (rw c.in-Ok-Some.is at (moved.same late)) in
    inl (search rules)

pub returns-in-Err-visit-clause-crash : goal.returns-in-Err-visit-clause-crash
returns-in-Err-visit-clause-crash g c =
    let whole : Survives (state g.S.Store c.args.conn.now) (state g.S.Store c.next.follows.lender-at-none.conn.now) (λ _. ⊥) = through _ _ _ c.rows.invariant.1 c.next.follows.holds-at-none.survives in
    search rules

pub rows-preserved : goal.rows-preserved
rows-preserved g c =
    let moved = c.next.follows.holds-at-none in
    let i = c.rows.invariant in (
      moved.same_reference ∙ i.0,
      through _ _ _ i.1 moved.survives,
      λ e. moved.mode (i.2 e),
      (c.in-Ok-visit.ensures.ready, g.met.V.Visitor.transitive _ _ _ i.3.1 c.in-Ok-visit.ensures.leads),
      λ clean.
          let was = i.4 (omega (arith, moved.survives.clean, clean)) in
          let on = (rw (c.in-Ok-Some.is, c.in-Ok-Some.field-0-is) at (moved.ok clean)) c.args.sql.now (bound c.args.params.now) (map g.R.Record.cells was.0) was.1 in
          let it = c.in-Ok-decode_record.item in (
            was.0 ++ it ∷ [],
            subst (HasGiven g.S.Store _ _ _) (sym (map_one g.R.Record.cells was.0 _ _ c.in-Ok-decode_record.ensures.value)) on,
            folds_one _ _
                was.0 _ it _ was.2 c.in-Ok-visit.ensures.takes,
            unchanged_then _ _ _ was.3 (rw c.in-Ok-Some.is at (moved.same clean)),
          ),
    )

pub returns-clause-early : goal.returns-clause-early
returns-clause-early g c clean =
    let now = c.rows.rows.conn.now in
    let late : HasCleanDisk (state g.S.Store now) = search rules in
    let was = c.rows.invariant.4 late in
    record { records = was.0; begins = inr (was.3.0.was_open, begins_at _ _ _ _ was.3.0.now_is _ (given_begin g.S.Store _ _ now _ was.1)); taken = was.2 }

pub returns-clause-changes_at_most_by_rollback : goal.returns-clause-changes_at_most_by_rollback
returns-clause-changes_at_most_by_rollback g c clean =
    let now = c.rows.rows.conn.now in
    let late : HasCleanDisk (state g.S.Store now) = search rules in
    let was = c.rows.invariant.4 late in
    let whole = was.3 in
    inl (search rules)

pub returns-clause-crash : goal.returns-clause-crash
returns-clause-crash g c = search rules

pub returns-in-Err-decode_record-clause-early : goal.returns-in-Err-decode_record-clause-early
returns-in-Err-decode_record-clause-early g c clean =
    let moved = c.next.follows.holds-at-none in
    let now = c.next.follows.lender-at-none.conn.now in
    let late : HasCleanDisk (state g.S.Store now) = search rules in
    let was = c.rows.invariant.4 (omega (arith, moved.survives.clean, late)) in
    record { records = was.0; begins = inr (was.3.0.was_open, begins_at _ _ _ _ was.3.0.now_is _ (given_begin g.S.Store _ _ c.rows.rows.conn.now _ was.1)); taken = was.2 }

pub returns-in-Err-clause-leads : goal.returns-in-Err-clause-leads
returns-in-Err-clause-leads g c = g.met.V.Visitor.reflexive _

pub returns-in-Err-visit-clause-leads : goal.returns-in-Err-visit-clause-leads
returns-in-Err-visit-clause-leads g c = g.met.V.Visitor.transitive _ _ _ c.rows.invariant.3.1 c.in-Err-visit.ensures.leads

pub returns-in-Err-visit-clause-fault : goal.returns-in-Err-visit-clause-fault
returns-in-Err-visit-clause-fault g c = (c.rows.visitor, c.in-Ok-decode_record.item, c.in-Err-visit.ensures.stops)
