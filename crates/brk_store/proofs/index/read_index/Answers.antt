use Rattle.brk_store_reads.specs.ReadSequences.{single_read_changes_nothing}
use Rattle.brk_store.proofs.KeptIndex.{index_of_read, no_index}
use Rattle.brk_store.proofs.index.read_index.Goals as goal

pub returns-in-Ok-clause-unchanged : goal.returns-in-Ok-clause-unchanged
returns-in-Ok-clause-unchanged g c = single_read_changes_nothing c.args.conn.now c.read_row_index.new.conn c.read_row_index.result _ c.read_row_index.ensures.read

pub returns-in-Ok-clause-index : goal.returns-in-Ok-clause-index
returns-in-Ok-clause-index g c = index_of_read g.S.Store c.args.conn.now c.read_row_index.new.conn c.in-Ok.index c.in-Ok.ensures.read

pub returns-in-Err-clause-unchanged : goal.returns-in-Err-clause-unchanged
returns-in-Err-clause-unchanged g c = single_read_changes_nothing c.args.conn.now c.read_row_index.new.conn c.read_row_index.result _ c.read_row_index.ensures.read

pub returns-in-Err-clause-index : goal.returns-in-Err-clause-index
returns-in-Err-clause-index g c = λ is. no_index g.S.Store c.read_row_index.new.conn
