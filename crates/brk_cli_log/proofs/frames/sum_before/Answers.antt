use Rattle.std.proofs.Common.{arith}
use Rattle.brk_cli_log.proofs.Counted.{earlier_frame}
use Rattle.brk_cli_log.proofs.frames.sum_before.Goals as goal

pub frame-requires : goal.frame-requires
frame-requires c = earlier_frame c.args.page_size c.args.i _ _ (omega arith) c.requires.within
