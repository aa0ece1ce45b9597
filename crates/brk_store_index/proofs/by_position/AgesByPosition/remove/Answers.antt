use Rattle.std.proofs.Common.{◌≡◌, ◌∙◌, [], rules, subst, sym}
use Rattle.brk_store_index.specs.Ages.{RemovesAge}
use Rattle.brk_store_index.specs.Groups.{ages_of_position}
use Rattle.brk_store_index.proofs.Elements.{no_elements}
use Rattle.brk_store_index.proofs.Placing.{nothing_removed, position_removed}
use Rattle.brk_store_index.proofs.by_position.AgesByPosition.remove.Goals as goal

pub returns-in_default : goal.returns-in_default
returns-in_default c =
    let old = c.args.self.now in
    let symbol = c.args.symbol.now in
    let none : [] ≡ ages_of_position old c.args.number symbol = search rules in
    position_removed old c.take.new.self c.args.number symbol [] c.args.age.now c.take.ensures.emptied c.take.ensures.others
    (subst (λ l. RemovesAge l c.args.age.now []) none (nothing_removed c.args.age.now))

pub returns-then-is_empty : goal.returns-then-is_empty
returns-then-is_empty c =
    let old = c.args.self.now in
    let symbol = c.args.symbol.now in
    let ages = c.remove_age.new.ages.items in
    let before : c.in-Some.ages.items ≡ ages_of_position old c.args.number symbol = search rules in
    let none : ages ≡ [] = no_elements ages (search rules) in
    position_removed old c.take.new.self c.args.number symbol ages c.args.age.now (c.take.ensures.emptied ∙ sym none) c.take.ensures.others
    (rw before at c.remove_age.ensures)

pub returns : goal.returns
returns c =
    let old = c.args.self.now in
    let symbol = c.args.symbol.now in
    let before : c.in-Some.ages.items ≡ ages_of_position old c.args.number symbol = search rules in
    position_removed old c.put.new.self c.args.number symbol c.remove_age.new.ages.items c.args.age.now
    c.in_ok-put.ensures.put (λ other name apart. c.in_ok-put.ensures.others other name apart ∙ c.take.ensures.others other name apart)
    (rw before at c.remove_age.ensures)
