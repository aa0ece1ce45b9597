use Rattle.std.proofs.Common.{◌≡◌, ◌==◌, ℕ, Some, None, cond, rules}
use Rattle.brk_ref.specs.Rows.{abstract_holding_row}
use Rattle.brk_model.specs.Tables.{HoldingRow}
use Rattle.brk_store_index.specs.Groups.{ages_of_number, ages_of_position, is_same_position}
use Rattle.brk_store_index.specs.Parts.{lot_places, place_of_lot}
use Rattle.brk_store_index.specs.declared.lots.LotPlace.{LotPlace}
use Rattle.brk_store_index.proofs.Places.{follow_with, places_with}
use Rattle.brk_store_index.proofs.lots.LotGroups.add.Goals as goal

pub returns : goal.returns
returns c rows is =
    let r = abstract_holding_row c.args.lot.now in
    let old = c.args.self.now in
    let new = record old { accounts = c.insert-2.new.self; positions = c.insert-3.new.self; places = c.insert.new.self } in
    let fresh : lot_places old r.trade ≡ None = search rules in
    let put : (q : ℕ) → lot_places new q ≡ cond (r.trade == q) (Some (place_of_lot r)) (lot_places old q) = search rules in
    record {
      places = places_with (λ (x : HoldingRow). x.trade) place_of_lot (lot_places old) (lot_places new) r rows fresh put is.places;
      accounts = λ account.
          follow_with (lot_places old) (lot_places new) r.trade (place_of_lot r) fresh put (λ (p : LotPlace). p.account == account) (λ p. 0)
          (ages_of_number old.accounts account) (ages_of_number c.insert-2.new.self account) (rw (c.get-3.ensures.value, c.of_id.ensures) at (c.in_ok-insert-2.ensures account)) (is.accounts account);
      positions = λ account symbol.
          follow_with (lot_places old) (lot_places new) r.trade (place_of_lot r) fresh put (λ (p : LotPlace). is_same_position p.account p.symbol account symbol) (λ (p : LotPlace). p.stamp)
          (ages_of_position old.positions account symbol) (ages_of_position c.insert-3.new.self account symbol) (rw (c.get-4.ensures.value, c.of_lot.ensures) at (c.in_ok-insert-3.ensures account symbol)) (is.positions account symbol);
    }
