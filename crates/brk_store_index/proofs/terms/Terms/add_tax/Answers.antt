use Rattle.brk_ref.specs.Records.{abstract_tax_rate}
use Rattle.brk_store_index.proofs.Termed.{tax_added_if}
use Rattle.brk_store_index.proofs.terms.Terms.add_tax.Goals as goal

pub returns : goal.returns
returns c = tax_added_if c.args.self.now c.insert_by_rank.result c.insert_by_rank.new.rows c.in_ok-copy.copy (abstract_tax_rate c.args.tax.now) c.in_ok-copy.ensures c.insert_by_rank.ensures
