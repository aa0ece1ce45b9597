use Rattle.brk_trade_books.proofs.Worth.{reads_assets}
use Rattle.brk_trade_books.proofs.reads.assets_equal_balance_plus_holdings.Goals as goal

pub returns : goal.returns
returns c = reads_assets
