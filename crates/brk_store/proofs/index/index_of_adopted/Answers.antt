use Rattle.brk_store_reads.specs.ReadSequences.{empty_read_sequence_changes_nothing}
use Rattle.brk_store.proofs.KeptIndex.{no_index}
use Rattle.brk_store.proofs.index.index_of_adopted.Goals as goal

pub returns-then-not-has_definitions-clause-unchanged : goal.returns-then-not-has_definitions-clause-unchanged
returns-then-not-has_definitions-clause-unchanged g c = empty_read_sequence_changes_nothing c.args.conn.now

pub returns-then-not-has_definitions-clause-index : goal.returns-then-not-has_definitions-clause-index
returns-then-not-has_definitions-clause-index g c = λ is. no_index g.S.Store c.args.conn.now

pub returns-then-is_upgraded-clause-unchanged : goal.returns-then-is_upgraded-clause-unchanged
returns-then-is_upgraded-clause-unchanged g c = empty_read_sequence_changes_nothing c.args.conn.now
