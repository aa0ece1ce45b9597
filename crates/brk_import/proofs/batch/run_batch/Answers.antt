use Rattle.std.specs.Prelude.{option_map}
use Rattle.brk_model.specs.Input.{input_text}
use Rattle.brk_import.proofs.Called.{tells_run}
use Rattle.brk_import.proofs.batch.run_batch.Goals as goal

pub returns-clause-changed_only_by_calls : goal.returns-clause-changed_only_by_calls
returns-clause-changed_only_by_calls g c =
    tells_run g.S.Store g.C.Clock.gives (option_map input_text (g.R.Read.remaining c.args.reader)) c.args.desk.now c.execute_batch_on_desk.new.desk
    (record {
      clock = c.args.clock.now;
      later = c.execute_batch_on_desk.new.clock;
      old = g.W.Write.contents c.args.writer.now;
      new =
          g.W.Write.contents c.execute_batch_on_desk.new.writer;
    }) c.execute_batch_on_desk.result c.execute_batch_on_desk.ensures.changed_only_by_calls
