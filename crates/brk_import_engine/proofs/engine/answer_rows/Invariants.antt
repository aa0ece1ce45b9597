use Rattle.std.specs.Io.KnownBytes.{Appends}
use Rattle.csv.specs.Records.{fields_of}
use Rattle.brk_model.specs.Lines.{answer_lines_from}
use Rattle.brk_import_engine.specs.Reading.{IsBatchReader}
use Rattle.brk_import_engine.specs.Answers.{RepresentsDurably}
use Rattle.brk_import_engine.proofs.Reached.{HasReachedPosition}
use Rattle.brk_import_engine.proofs.engine.answer_rows.Given as goal

-- the rows before the counter were answered and their lines written, and the record after them was
-- read
abbrev pub invariant-loop-settled : goal.invariant-loop-settled
invariant-loop-settled g l = record {
  setup : IsBatchReader l.records;
  reached : HasReachedPosition g.D.Rows.meets_disk_assumption (RepresentsDurably g.D.Rows.represents g.D.Rows.crash_exposes_only) g.D.Rows.acts g.D.Rows.form
      g.D.Rows.step g.C.Clock.gives g.R.Read.remaining l.fn.desk
      (record { name = l.fn.name; clock = l.fn.clock; old = g.W.Write.contents l.fn.writer; reader = l.fn.records }) l.desk
      (record { settled = l.settled; counts = l.counts; row = fields_of l.row; later = l.clock; reader = l.records });
  written : Appends (g.W.Write.contents l.fn.writer) (g.W.Write.contents l.writer) (answer_lines_from 1 reached.answers);
}
