use Rattle.brk_trade_books.proofs.Reading.{reads_tax_id}
use Rattle.brk_trade_books.proofs.reads.tax_ids_match_the_base.Goals as goal

pub returns : goal.returns
returns c = reads_tax_id
