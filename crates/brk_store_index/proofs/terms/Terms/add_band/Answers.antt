use Rattle.brk_ref.specs.Records.{abstract_band}
use Rattle.brk_store_index.proofs.Termed.{band_added_if}
use Rattle.brk_store_index.proofs.terms.Terms.add_band.Goals as goal

pub returns : goal.returns
returns c = band_added_if c.args.self.now c.insert_by_rank.result c.insert_by_rank.new.rows c.in_ok-copy.copy (abstract_band c.args.band.now) c.in_ok-copy.ensures c.insert_by_rank.ensures
