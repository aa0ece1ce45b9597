use Rattle.std.proofs.Common.{refl, true}
use Rattle.brk_cli_jobs.proofs.Stamped.{reads_late}
use Rattle.brk_cli_jobs.proofs.reopening.read_stamp_from.Goals as goal

pub returns-in-None : goal.returns-in-None
returns-in-None g c =
    reads_late g.S.Store c.args.kept c.args.store.now c.last_stamp.new.self _ _ true c.in-None.is refl c.if-is_not_before.ensures c.in_ok-last_stamp.ensures.read

pub returns-in-Some : goal.returns-in-Some
returns-in-Some g c =
    reads_late g.S.Store c.args.kept c.args.store.now c.last_stamp.new.self _ _ true c.in-Some.is refl c.if-is_not_before-2.ensures c.in_ok-last_stamp.ensures.read
