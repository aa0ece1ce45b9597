use Rattle.std.proofs.Common.{◌∙◌, sym}
use Rattle.brk_store_reads.proofs.ByAges.{no_ages}
use Rattle.brk_store_reads.proofs.chosen_ages.choose_ages.Goals as goal

pub returns-in-None : goal.returns-in-None
returns-in-None c = rw c.in-None.is (c.new.ensures.items ∙ sym (no_ages c.args.newest_first c.args.skipped c.args.most))
