use Rattle.std.proofs.Common.{◌≡◌, ◌∙◌, rules}
use Rattle.brk_store_index.specs.Groups.{ages_of_position}
use Rattle.brk_store_index.proofs.Placing.{position_inserted}
use Rattle.brk_store_index.proofs.by_position.AgesByPosition.insert.Goals as goal
use Rattle.brk_store_index.proofs.by_position.AgesByPosition.insert.Goals.{in-Some, in-None}

pub returns : goal.returns
returns c =
    let old = c.args.self.now in
    let symbol = c.args.symbol.now in
    let before : c.match-take.ages.items ≡ ages_of_position old c.args.number symbol = elim c.match-take.branch [
      | in-Some w ↦ search rules
      | in-None w ↦ search rules
    ] in
    position_inserted old c.put.new.self c.args.number symbol c.insert_age.new.ages.items c.args.age
    c.in_ok-put.ensures.put (λ other name apart. c.in_ok-put.ensures.others other name apart ∙ c.take.ensures.others other name apart)
    (rw before at c.in_ok-insert_age.ensures)
