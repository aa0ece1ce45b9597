use Rattle.std.specs.Prelude.{Err, option_map}
use Rattle.brk_model.specs.Input.{input_text}
use Rattle.brk_import_engine.proofs.Endings.{header_failed}
use Rattle.brk_import_engine.proofs.Memory.{header_memory}
use Rattle.brk_import_engine.proofs.Reached.{comes_at_once}
use Rattle.brk_import_engine.proofs.engine.execute_batch_on_desk.Goals as goal

pub returns : goal.returns
returns g c =
    let text = option_map input_text (g.R.Read.remaining c.args.reader) in
    let part = c.in-Err.ensures.err text c.record_reader-records.ensures.start in
    let come = comes_at_once g.D.Rows.meets_disk_assumption g.D.Rows.represents g.D.Rows.crash_exposes_only g.D.Rows.acts g.D.Rows.form g.D.Rows.step g.C.Clock.gives c.args.desk.now text
    c.args.clock.now (g.W.Write.contents c.args.writer.now) (g.W.Write.contents c.args.writer.now) (Err (record { rows = 0; kind = c.in-Err.kind }))
    (header_memory text c.in-Err.kind part) (λ T other base. header_failed _ _ _ text base _ _ c.in-Err.kind part) in
    record { changed_only_by_calls = come.changed_only_by_calls; refines_model = come.refines_model; crash_safe = come.crash_safe }
