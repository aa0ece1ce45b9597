use Rattle.brk_import_engine.proofs.Reading.{stands_start}
use Rattle.brk_import_engine.proofs.records.record_reader.Goals as goal

pub returns-clause-start : goal.returns-clause-start
returns-clause-start g c =
    let source = rw c.take.ensures.inner at c.from_reader.ensures.source in
    stands_start (g.R.Read.remaining c.args.reader) _ _ _ c.take.ensures.limit c.from_reader.ensures.state source
