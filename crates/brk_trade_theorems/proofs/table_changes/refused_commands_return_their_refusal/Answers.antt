use Rattle.brk_trade_theorems.proofs.TradePlanning.{refused_step}
use Rattle.brk_trade_theorems.proofs.table_changes.refused_commands_return_their_refusal.Goals as goal

pub returns : goal.returns
returns c = refused_step
