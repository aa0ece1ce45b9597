use Rattle.std.proofs.Common.{◌+◌, refl, ap, ◌∙◌, arith}
use Rattle.std.proofs.KnownBytes.{Appends-nil}
use Rattle.std.proofs.lemmas.Result.{err_from_is_err_and}
use Rattle.brk_import_engine.specs.Answers.{RepresentsDurably}
use Rattle.brk_import_engine.specs.declared.counts.Counts.{Counts}
use Rattle.brk_import_engine.proofs.Progress.{counts_whole}
use Rattle.brk_import_engine.proofs.Reached.{reached_start}
use Rattle.brk_import_engine.proofs.RowSteps.{end_line_written, end_record_failed, first_row_ended, next_record_ended, no_turn_left, row_decided, row_ended}
use Rattle.brk_import_engine.proofs.engine.answer_rows.Goals as goal

pub returns-in_err-read_record_after_header : goal.returns-in_err-read_record_after_header
returns-in_err-read_record_after_header g c = λ text h.
    let p = err_from_is_err_and c.from_residual.result c.from_residual.ensures.1 in
    rw (p.1, p.2) (first_row_ended g.D.Rows.meets_disk_assumption g.D.Rows.represents g.D.Rows.crash_exposes_only g.D.Rows.acts g.D.Rows.form g.D.Rows.step g.C.Clock.gives g.R.Read.remaining
    c.args.desk.now c.args.name.now c.args.clock.now (g.W.Write.contents c.args.writer.now) c.args.records.now _ text c.requires.named c.in_err-read_record_after_header.ensures.err h)

pub loop-settled-init : goal.loop-settled-init
loop-settled-init g c =
    let start = reached_start g.D.Rows.meets_disk_assumption (RepresentsDurably g.D.Rows.represents g.D.Rows.crash_exposes_only) g.D.Rows.acts g.D.Rows.form
    g.D.Rows.step g.C.Clock.gives g.R.Read.remaining c.args.desk.now
    (record { name = c.args.name.now; clock = c.args.clock.now; old = g.W.Write.contents c.args.writer.now; reader = c.args.records.now }) _ _ c.requires.named
    c.in_ok-read_record_after_header.ensures.read in
    record { setup = c.in_ok-read_record_after_header.ensures.setup; reached = start.0; written = rw start.1 (Appends-nil _) }

pub returns-in_err-answer_end_record : goal.returns-in_err-answer_end_record
returns-in_err-answer_end_record g c = λ text h.
    let p = err_from_is_err_and c.from_residual-in_err-answer_end_record.result c.from_residual-in_err-answer_end_record.ensures.1 in
    rw (p.1, p.2) (end_record_failed g.D.Rows.meets_disk_assumption g.D.Rows.represents g.D.Rows.crash_exposes_only g.D.Rows.acts g.D.Rows.form g.D.Rows.step g.C.Clock.gives g.R.Read.remaining
    _ _ _ _ c.loop-settled.invariant.reached _ c.loop-settled.invariant.written _ text _ c.in_err-answer_end_record.ensures.rows
    (c.if-begins_with_end.ensures.0 refl) c.in_err-answer_end_record.ensures.err h)

pub returns-then-begins_with_end : goal.returns-then-begins_with_end
returns-then-begins_with_end g c = λ text h.
    end_line_written g.D.Rows.meets_disk_assumption g.D.Rows.represents g.D.Rows.crash_exposes_only g.D.Rows.acts g.D.Rows.form g.D.Rows.step g.C.Clock.gives g.R.Read.remaining
    _ _ _ _ c.loop-settled.invariant.reached _ c.loop-settled.invariant.written _ text c.in_ok-answer_end_record.ensures.right
    c.in_ok-answer_end_record.ensures.ok h

pub returns-in_err-look_ahead : goal.returns-in_err-look_ahead
returns-in_err-look_ahead g c = λ text h.
    let p = err_from_is_err_and c.from_residual-in_err-look_ahead.result c.from_residual-in_err-look_ahead.ensures.1 in
    rw (p.1, p.2) (next_record_ended g.D.Rows.meets_disk_assumption g.D.Rows.represents g.D.Rows.crash_exposes_only g.D.Rows.acts g.D.Rows.form g.D.Rows.step g.C.Clock.gives g.R.Read.remaining
    _ _ _ _ c.loop-settled.invariant.reached _ c.loop-settled.invariant.written _ _ text (λ ends. let no = c.if-begins_with_end.ensures.1 ends in cc)
    c.in_err-look_ahead.ensures.err h)

pub answer_row-requires-clause-counted : goal.answer_row-requires-clause-counted
answer_row-requires-clause-counted g c =
    let r = c.loop-settled.invariant.reached in
    ap (λ (counts : Counts). counts.ok + counts.again + counts.no) r.counts ∙ counts_whole r.answers ∙ r.each ∙ r.size

pub returns-in_err-counts : goal.returns-in_err-counts
returns-in_err-counts g c = λ text h.
    let p = err_from_is_err_and c.from_residual-in_err-counts.result c.from_residual-in_err-counts.ensures.1 in
    rw (p.1, p.2) (row_ended g.D.Rows.meets_disk_assumption g.D.Rows.represents g.D.Rows.crash_exposes_only g.D.Rows.acts g.D.Rows.form g.D.Rows.step g.C.Clock.gives g.R.Read.remaining
    _ _ _ _ c.loop-settled.invariant.reached _ c.loop-settled.invariant.written _ c.look_ahead.new.records _ _ _ (λ ends. let no = c.if-begins_with_end.ensures.1 ends in cc)
    c.in_err-counts.ensures.disk_was_clean c.in_ok-look_ahead.ensures.read _ text (rw c.in_ok-look_ahead.ensures.unwritten at c.in_err-counts.ensures.err) h)

pub loop-settled-preserved : goal.loop-settled-preserved
loop-settled-preserved g c =
    let more = row_decided g.D.Rows.meets_disk_assumption g.D.Rows.represents g.D.Rows.crash_exposes_only g.D.Rows.acts g.D.Rows.form g.D.Rows.step g.C.Clock.gives g.R.Read.remaining
    _ _ _ _ c.loop-settled.invariant.reached _ c.loop-settled.invariant.written _ _ _ _ _ (λ ends. let no = c.if-begins_with_end.ensures.1 ends in cc)
    c.in_ok-counts.ensures.disk_was_clean (rw c.swap.ensures.x_after c.in_ok-look_ahead.ensures.read) _
    (rw c.in_ok-look_ahead.ensures.unwritten at c.in_ok-counts.ensures.ok) in
    record { setup = c.in_ok-look_ahead.ensures.setup; reached = more.0; written = more.1 }

pub returns : goal.returns
returns g c = λ text h.
    no_turn_left g.D.Rows.meets_disk_assumption g.D.Rows.represents g.D.Rows.crash_exposes_only g.D.Rows.acts g.D.Rows.form g.D.Rows.step g.C.Clock.gives g.R.Read.remaining
    _ _ _ _ c.loop-settled.invariant.reached _ c.loop-settled.invariant.written text 67108864 (omega arith) h
