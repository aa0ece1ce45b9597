use Rattle.std.proofs.Common.{◌≡◌, rules, string_bytes, nat_eq}
use Rattle.std.specs.HashMap.{get, get_by_text}
use Rattle.std.proofs.lemmas.Map.Text.{hash_map_updates_text}
use Rattle.brk_money.specs.Spelling.{Text}
use Rattle.brk_store_index.specs.Ages.{ages_in}
use Rattle.brk_store_index.specs.Groups.{ages_of_symbol}
use Rattle.brk_store_index.proofs.Placing.{ages_of_others, ages_put}
use Rattle.brk_store_index.proofs.by_position.AgesByPosition.put.Goals as goal
use Rattle.brk_store_index.proofs.by_position.AgesByPosition.put.Goals.{in-Some, in-None}

pub returns-clause-put : goal.returns-clause-put
returns-clause-put c =
    let symbol = c.args.symbol.now in
    let key : string_bytes c.in_ok-from_str.field-0 ≡ symbol = search rules in
    let was : (name : Text) → ages_in (get_by_text c.match-remove.symbols name) ≡ ages_of_symbol (get nat_eq c.args.self.now.numbers c.args.number) name = λ name. elim c.match-remove.branch [
      | in-Some w ↦ search rules
      | in-None w ↦ search rules
    ] in
    ages_put c.args.self.now.numbers c.remove.new.self c.insert-2.new.self c.args.number symbol c.match-remove.symbols c.insert.new.self c.args.ages
    c.remove.ensures.updates.0 c.in_ok-insert-2.ensures.updates.0 was
    (rw key at (hash_map_updates_text (string_bytes c.in_ok-from_str.field-0) c.match-remove.symbols c.insert.new.self _ c.in_ok-insert.ensures.updates))

pub returns-clause-others : goal.returns-clause-others
returns-clause-others c =
    let symbol = c.args.symbol.now in
    let key : string_bytes c.in_ok-from_str.field-0 ≡ symbol = search rules in
    let was : (name : Text) → ages_in (get_by_text c.match-remove.symbols name) ≡ ages_of_symbol (get nat_eq c.args.self.now.numbers c.args.number) name = λ name. elim c.match-remove.branch [
      | in-Some w ↦ search rules
      | in-None w ↦ search rules
    ] in
    ages_of_others c.args.self.now.numbers c.remove.new.self c.insert-2.new.self c.args.number symbol c.match-remove.symbols c.insert.new.self c.args.ages
    c.remove.ensures.updates.0 c.in_ok-insert-2.ensures.updates.0 was
    (rw key at (hash_map_updates_text (string_bytes c.in_ok-from_str.field-0) c.match-remove.symbols c.insert.new.self _ c.in_ok-insert.ensures.updates))
