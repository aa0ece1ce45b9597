use Rattle.std.proofs.Common.{false, refl}
use Rattle.brk_store_reads.proofs.ByAges.{place_in_none}
use Rattle.brk_store_reads.proofs.chosen_ages.first_age_since.Goals as goal

pub returns-in-Some : goal.returns-in-Some
returns-in-Some c = rw c.in-Some.is (c.place_of_stamp.result, c.place_of_stamp.ensures, c.age_in_order.ensures)

pub returns-in-None : goal.returns-in-None
returns-in-None c = rw c.in-None.is (0, place_in_none c.args.stamp false, refl)
