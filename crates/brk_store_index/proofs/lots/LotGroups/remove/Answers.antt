use Rattle.std.proofs.Common.{◌≡◌, ◌==◌, ℕ, Some, None, cond, rules}
use Rattle.brk_model.specs.Tables.{HoldingRow}
use Rattle.brk_store_index.specs.Groups.{ages_of_number, ages_of_position, is_same_position}
use Rattle.brk_store_index.specs.Parts.{lot_places, place_of_lot}
use Rattle.brk_store_index.specs.declared.lots.LotPlace.{LotPlace}
use Rattle.brk_store_index.proofs.Places.{follow_same, follow_without, not_taken, places_without}
use Rattle.brk_store_index.proofs.lots.LotGroups.remove.Goals as goal

pub returns-in_default : goal.returns-in_default
returns-in_default c rows is =
    let old = c.args.self.now in
    let new = record old { places = c.remove.new.self } in
    let none : lot_places old c.args.trade ≡ None = search rules in
    let taken : (q : ℕ) → lot_places new q ≡ cond (c.args.trade == q) None (lot_places old q) = rw c.get.ensures.value at c.remove.ensures.updates.0 in
    record {
      places = places_without (λ (x : HoldingRow). x.trade) place_of_lot (lot_places old) (lot_places new) c.args.trade rows taken is.places;
      accounts = λ account.
          follow_same (lot_places old) (lot_places new) (λ (p : LotPlace). p.account == account) (λ p. 0) (ages_of_number old.accounts account)
          (not_taken (lot_places old) (lot_places new) c.args.trade none taken) (is.accounts account);
      positions = λ account symbol.
          follow_same (lot_places old) (lot_places new) (λ (p : LotPlace). is_same_position p.account p.symbol account symbol) (λ (p : LotPlace). p.stamp) (ages_of_position old.positions account symbol)
          (not_taken (lot_places old) (lot_places new) c.args.trade none taken) (is.positions account symbol);
    }

pub returns : goal.returns
returns c rows is =
    let old = c.args.self.now in
    let place = c.in-Some.place in
    let new = record old { accounts = c.remove-2.new.self; positions = c.remove-3.new.self; places = c.remove.new.self } in
    let gone : lot_places old c.args.trade ≡ Some place = search rules in
    let taken : (q : ℕ) → lot_places new q ≡ cond (c.args.trade == q) None (lot_places old q) = rw c.get.ensures.value at c.remove.ensures.updates.0 in
    record {
      places = places_without (λ (x : HoldingRow). x.trade) place_of_lot (lot_places old) (lot_places new) c.args.trade rows taken is.places;
      accounts = λ account.
          follow_without (lot_places old) (lot_places new) c.args.trade place gone taken (λ (p : LotPlace). p.account == account) (λ p. 0)
          (ages_of_number old.accounts account) (ages_of_number c.remove-2.new.self account) (rw (c.get-2.ensures.value, c.of_id.ensures) at (c.in_ok-remove.ensures account)) (is.accounts account);
      positions = λ account symbol.
          follow_without (lot_places old) (lot_places new) c.args.trade place gone taken (λ (p : LotPlace). is_same_position p.account p.symbol account symbol) (λ (p : LotPlace). p.stamp)
          (ages_of_position old.positions account symbol) (ages_of_position c.remove-3.new.self account symbol) (rw c.get-3.ensures.value at (c.in_ok-remove-2.ensures account symbol)) (is.positions account symbol);
    }
