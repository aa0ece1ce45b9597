use Rattle.std.proofs.Common.{◌≡◌, IfOk, arith, subst, take}
use Rattle.std.proofs.lemmas.List.{take_all}
use Rattle.brk_store_reads.proofs.chosen_ages.all_ages.Goals as goal

pub returns-in-Some : goal.returns-in-Some
returns-in-Some c =
    let items = c.in-Some.ages.now.items in
    let whole : take c.len.result items ≡ items = take_all c.len.result items (omega arith) in
    rw c.in-Some.is (subst (λ l. IfOk c.ages_from_end.result (λ all. all.items ≡ l)) whole c.ages_from_end.ensures)
