use Rattle.brk_store_reads.proofs.ByAges.{then_read}
use Rattle.brk_store.proofs.store.Store.summaries_with_value.Goals as goal

pub returns : goal.returns
returns g c =
    record { read = then_read g.S.Store c.args.self.now c.prepare_index.new.self c.summaries_with_prepared_index.new.self c.summaries_with_prepared_index.result _ c.prepare_index.ensures c.summaries_with_prepared_index.ensures.read }
