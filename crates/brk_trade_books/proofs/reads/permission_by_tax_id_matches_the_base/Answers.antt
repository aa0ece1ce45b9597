use Rattle.brk_trade_books.proofs.Permitting.{reads_named}
use Rattle.brk_trade_books.proofs.reads.permission_by_tax_id_matches_the_base.Goals as goal

pub returns : goal.returns
returns c = reads_named
