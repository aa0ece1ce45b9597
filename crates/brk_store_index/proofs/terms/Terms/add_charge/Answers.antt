use Rattle.brk_store_index.proofs.Termed.{charge_added_if}
use Rattle.brk_store_index.proofs.terms.Terms.add_charge.Goals as goal

pub returns : goal.returns
returns c = charge_added_if c.args.self.now c.insert_by_rank.result c.insert_by_rank.new.rows c.args.charge.now c.insert_by_rank.ensures
