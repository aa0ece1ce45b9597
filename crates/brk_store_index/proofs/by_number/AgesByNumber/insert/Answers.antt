use Rattle.std.proofs.Common.{◌≡◌, nat_eq, rules}
use Rattle.std.specs.HashMap.{get}
use Rattle.brk_store_index.specs.Ages.{ages_in}
use Rattle.brk_store_index.proofs.Placing.{number_inserted, put_over}
use Rattle.brk_store_index.proofs.by_number.AgesByNumber.insert.Goals as goal
use Rattle.brk_store_index.proofs.by_number.AgesByNumber.insert.Goals.{in-Some, in-None}

pub returns : goal.returns
returns c =
    let old = get nat_eq c.args.self.now.groups in
    let new = get nat_eq c.insert.new.self in
    let before : c.match-remove.ages.items ≡ ages_in (old c.args.number) = elim c.match-remove.branch [
      | in-Some w ↦ search rules
      | in-None w ↦ search rules
    ] in
    number_inserted old new c.args.number c.insert_age.new.ages c.args.age
    (put_over old (get nat_eq c.remove.new.self) new c.args.number c.insert_age.new.ages c.remove.ensures.updates.0 c.in_ok-insert.ensures.updates.0)
    (rw before at c.in_ok-insert_age.ensures)
