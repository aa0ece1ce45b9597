use Rattle.std.proofs.Common.{false, true}
use Rattle.brk_store_reads.proofs.ByAges.{place_in_none}
use Rattle.brk_store_reads.proofs.chosen_ages.places_of_span.Goals as goal

pub returns-in-Some-clause-first : goal.returns-in-Some-clause-first
returns-in-Some-clause-first c = rw c.in-Some.is c.place_of_stamp.ensures

pub returns-in-Some-clause-last : goal.returns-in-Some-clause-last
returns-in-Some-clause-last c = rw c.in-Some.is c.place_of_stamp-in-Some.ensures

pub returns-in-None-clause-first : goal.returns-in-None-clause-first
returns-in-None-clause-first c = rw c.in-None.is (place_in_none c.args.first false)

pub returns-in-None-clause-last : goal.returns-in-None-clause-last
returns-in-None-clause-last c = rw c.in-None.is (place_in_none c.args.last true)
