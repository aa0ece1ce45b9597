use Rattle.std.proofs.Common.{◌≡◌, nat_eq, rules}
use Rattle.std.specs.HashMap.{get}
use Rattle.brk_store_index.specs.Ages.{ages_in}
use Rattle.brk_store_index.proofs.Placing.{number_none, number_removed, put_over}
use Rattle.brk_store_index.proofs.by_number.AgesByNumber.remove.Goals as goal

pub returns-in_default : goal.returns-in_default
returns-in_default c =
    number_none (get nat_eq c.args.self.now.groups) (get nat_eq c.remove.new.self) c.args.number c.args.age.now (search rules) c.remove.ensures.updates.0

pub returns : goal.returns
returns c =
    let old = get nat_eq c.args.self.now.groups in
    let new = get nat_eq c.insert.new.self in
    let before : c.in-Some.ages.items ≡ ages_in (old c.args.number) = search rules in
    number_removed old new c.args.number c.remove_age.new.ages c.args.age.now
    (put_over old (get nat_eq c.remove.new.self) new c.args.number c.remove_age.new.ages c.remove.ensures.updates.0 c.in_ok-insert.ensures.updates.0)
    (rw before at c.remove_age.ensures)
