use Rattle.std.proofs.Common.{◌≡◌, ◌∙◌, None, ap, refl, rules}
use Rattle.std.specs.HashMap.{get_by_text}
use Rattle.std.proofs.lemmas.Map.Text.{hash_map_updates_text}
use Rattle.brk_store_index.specs.Ages.{ages_in}
use Rattle.brk_store_index.proofs.Placing.{other_ages}
use Rattle.brk_store_index.proofs.by_position.AgesByPosition.take.Goals as goal

pub returns-in-Some-clause-others : goal.returns-in-Some-clause-others
returns-in-Some-clause-others c =
    let symbol = c.args.symbol.now in
    let lent = (c.get_mut.follows.holds c.remove.new.self).3 (search rules) in
    other_ages c.args.self.now.numbers (c.get_mut.follows.lender c.remove.new.self) c.args.number symbol c.remove.new.self
    lent.0
    (λ name off.
    let kept : get_by_text c.remove.new.self name ≡ get_by_text c.in-Some.symbols.now name =
    hash_map_updates_text symbol c.in-Some.symbols.now c.remove.new.self None (rw c.as_str.ensures at c.remove.ensures.updates) name ∙ rw off refl in
    ap ages_in kept ∙ search rules)
