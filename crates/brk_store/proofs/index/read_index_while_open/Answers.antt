use Rattle.std.proofs.Common.{rules}
use Rattle.brk_store_reads.specs.ReadSequences.{joined_reads_change_nothing}
use Rattle.brk_store.proofs.AdoptedReads.{unchanged_by_test}
use Rattle.brk_store.proofs.index.read_index_while_open.Goals as goal

pub returns-in-Ok-clause-unchanged : goal.returns-in-Ok-clause-unchanged
returns-in-Ok-clause-unchanged g c =
    joined_reads_change_nothing c.args.conn.now c.read_index-index.new.conn c.require_open.new.conn c.read_index-index.ensures.unchanged
    (unchanged_by_test g.S.Store c.read_index-index.new.conn c.require_open.new.conn (search rules) c.require_open.ensures.unchanged c.require_open.ensures.survives)

pub returns-in-Err-clause-unchanged : goal.returns-in-Err-clause-unchanged
returns-in-Err-clause-unchanged g c =
    joined_reads_change_nothing c.args.conn.now c.read_index-index.new.conn c.require_open.new.conn c.read_index-index.ensures.unchanged
    (unchanged_by_test g.S.Store c.read_index-index.new.conn c.require_open.new.conn (search rules) c.require_open.ensures.unchanged c.require_open.ensures.survives)
