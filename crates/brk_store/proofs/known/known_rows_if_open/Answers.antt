use Rattle.std.proofs.Common.{◌≡◌}
use Rattle.brk_money.specs.declared.fault.CallFault.TheVariants.{Store}
use Rattle.brk_model.specs.Tables.{Tables}
use Rattle.brk_store_reads.specs.ReadSequences.{single_read_changes_nothing}
use Rattle.brk_store_reads.proofs.Retelling.{retold}
use Rattle.brk_store_reads.proofs.Sequences.{none_read}
use Rattle.brk_store.proofs.known.known_rows_if_open.Goals as goal

pub returns-in-Ok-clause-read : goal.returns-in-Ok-clause-read
returns-in-Ok-clause-read g c =
    retold g.S.Store c.args.conn.now c.known_if_open.new.conn c.in-Ok.known c.in-Ok.known (λ known (t : Tables). known ≡ c.args.value) (λ known (t : Tables). known ≡ c.args.value) (λ t is. is) c.in-Ok.ensures.read

pub returns-in-Err-clause-read : goal.returns-in-Err-clause-read
returns-in-Err-clause-read g c =
    none_read g.S.Store c.args.conn.now c.known_if_open.new.conn Store (λ known (t : Tables). known ≡ c.args.value)
    (single_read_changes_nothing c.args.conn.now c.known_if_open.new.conn c.known_if_open.result _ c.known_if_open.ensures.read)
