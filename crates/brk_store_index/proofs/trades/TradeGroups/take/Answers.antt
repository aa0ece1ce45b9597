use Rattle.std.proofs.Common.{◌≡◌, ◌==◌, ℕ, None, cond, refl, rules}
use Rattle.brk_store_index.specs.Parts.{trade_places}
use Rattle.brk_store_index.proofs.Places.{not_taken}
use Rattle.brk_store_index.proofs.Trading.{trade_not_taken}
use Rattle.brk_store_index.proofs.trades.TradeGroups.take.Goals as goal

pub returns-in_default : goal.returns-in_default
returns-in_default c =
    let old = c.args.self.now in
    let new = record old { places = c.remove.new.self } in
    let none : trade_places old c.args.id ≡ None = search rules in
    let taken : (q : ℕ) → trade_places new q ≡ cond (c.args.id == q) None (trade_places old q) = rw c.get.ensures.value at c.remove.ensures.updates.0 in
    (none, trade_not_taken old new c.args.id none (not_taken (trade_places old) (trade_places new) c.args.id none taken) (λ account. refl) (λ symbol. refl) refl)

pub returns : goal.returns
returns c = record {
  was = search rules;
  places = rw c.get.ensures.value at c.remove.ensures.updates.0;
  accounts = λ account. rw (c.get-2.ensures.value, c.age-age.ensures) at (c.in_ok-remove.ensures account);
  symbols = λ symbol. rw c.age-age.ensures at (c.in_ok-remove-2.ensures 0 symbol);
  submitted = rw c.of_id.ensures at c.remove_age_if.ensures;
}
