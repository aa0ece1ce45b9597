use Rattle.brk_import_engine.proofs.Reading.{stands_read}
use Rattle.brk_import_engine.proofs.records.read_record.Goals as goal

pub returns-in-Ok-clause-found : goal.returns-in-Ok-clause-found
returns-in-Ok-clause-found g c = λ text before h.
    stands_read g.R.Read.remaining c.args.records.now c.read_byte_record.new.self c.in-Ok.found _ text before c.requires.2 (c.in-Ok.ensures.reads c.requires.0 c.requires.1) h
