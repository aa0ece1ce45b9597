-- The trades of an index after one was added or its status set.
use Rattle.std.proofs.Common.{◌≡◌, ◌==◌, ◌∙◌, ℕ, Bool, List, ◌∷◌, None, ap, subst, sym}
use Rattle.std.specs.Prelude.{bytes_eq}
use Rattle.brk_money.specs.Spelling.{Text}
use Rattle.brk_model.specs.Lists.{update_where}
use Rattle.brk_model.specs.Tables.{TradeRow}
use Rattle.brk_store_index.specs.Ages.{Has}
use Rattle.brk_store_index.specs.Groups.{ages_of_number, ages_of_position}
use Rattle.brk_store_index.specs.Parts.{ArePlacesOfTrades, FollowPlaces, IsIndexOfTrades, PutsTrade, SetsStatus, TakesPlace, TakesTrade, place_of_trade, trade_places}
use Rattle.brk_store_index.specs.declared.trades.TradeGroups.{TradeGroups}
use Rattle.brk_store_index.specs.declared.trades.TradePlace.{TradePlace}
use Rattle.brk_store_index.proofs.Places.{follow_same, follow_with, follow_without, no_place, places_equal, places_not_updated, places_same, places_updated, places_with}
use Rattle.brk_store_index.proofs.Placing.{put_over}

-- the groups of the trades, without the rows
pub record TradesFollow (trades : TradeGroups) : Type 0 where
  pub accounts : (account : ℕ) → FollowPlaces (trade_places trades) (λ (p : TradePlace). p.account == account) (λ (p : TradePlace). p.stamp) (ages_of_number trades.accounts account)
  pub symbols : (symbol : Text) → FollowPlaces (trade_places trades) (λ (p : TradePlace). bytes_eq p.symbol symbol) (λ (p : TradePlace). p.stamp) (ages_of_position trades.symbols 0 symbol)
  pub submitted : FollowPlaces (trade_places trades) (λ (p : TradePlace). p.is_submitted) (λ p. 0) trades.submitted.items

follow_of : (trades : TradeGroups) (rows : List TradeRow) → IsIndexOfTrades trades rows → TradesFollow trades
follow_of trades rows is = record { accounts = is.accounts; symbols = is.symbols; submitted = is.submitted }

index_of : (trades : TradeGroups) (rows : List TradeRow) → ArePlacesOfTrades trades rows → TradesFollow trades → IsIndexOfTrades trades rows
index_of trades rows are f = record { places = are; accounts = f.accounts; symbols = f.symbols; submitted = f.submitted }

follow_put : (old new : TradeGroups) (id : ℕ) (place : TradePlace) → trade_places old id ≡ None → PutsTrade old id place new → TradesFollow old → TradesFollow new
follow_put old new id place fresh puts f =
    let o = trade_places old in
    let n = trade_places new in
    record {
      accounts = λ account. follow_with o n id place fresh puts.places (λ (p : TradePlace). p.account == account) (λ (p : TradePlace). p.stamp)
          (ages_of_number old.accounts account) (ages_of_number new.accounts account) (puts.accounts account) (f.accounts account);
      symbols = λ symbol. follow_with o n id place fresh puts.places (λ (p : TradePlace). bytes_eq p.symbol symbol) (λ (p : TradePlace). p.stamp)
          (ages_of_position old.symbols 0 symbol) (ages_of_position new.symbols 0 symbol) (puts.symbols symbol) (f.symbols symbol);
      submitted = follow_with o n id place fresh puts.places (λ (p : TradePlace). p.is_submitted) (λ p. 0) old.submitted.items new.submitted.items puts.submitted f.submitted;
    }

follow_taken : (old new : TradeGroups) (id : ℕ) (place : TradePlace) → TakesPlace old id place new → TradesFollow old → TradesFollow new
follow_taken old new id place takes f =
    let o = trade_places old in
    let n = trade_places new in
    record {
      accounts = λ account. follow_without o n id place takes.was takes.places (λ (p : TradePlace). p.account == account) (λ (p : TradePlace). p.stamp)
          (ages_of_number old.accounts account) (ages_of_number new.accounts account) (takes.accounts account) (f.accounts account);
      symbols = λ symbol. follow_without o n id place takes.was takes.places (λ (p : TradePlace). bytes_eq p.symbol symbol) (λ (p : TradePlace). p.stamp)
          (ages_of_position old.symbols 0 symbol) (ages_of_position new.symbols 0 symbol) (takes.symbols symbol) (f.symbols symbol);
      submitted = follow_without o n id place takes.was takes.places (λ (p : TradePlace). p.is_submitted) (λ p. 0) old.submitted.items new.submitted.items takes.submitted f.submitted;
    }

pub trade_added : (old new : TradeGroups) (r : TradeRow) (rows : List TradeRow) → trade_places old r.id ≡ None → PutsTrade old r.id (place_of_trade r) new
    → IsIndexOfTrades old rows → IsIndexOfTrades new (r ∷ rows)
trade_added old new r rows fresh puts is =
    index_of new (r ∷ rows) (places_with (λ (x : TradeRow). x.id) place_of_trade (trade_places old) (trade_places new) r rows fresh puts.places is.places)
    (follow_put old new r.id (place_of_trade r) fresh puts (follow_of old rows is))

pub trade_not_taken : (old new : TradeGroups) (id : ℕ) → trade_places old id ≡ None → ((q : ℕ) → trade_places new q ≡ trade_places old q)
    → ((account : ℕ) → ages_of_number new.accounts account ≡ ages_of_number old.accounts account)
    → ((symbol : Text) → ages_of_position new.symbols 0 symbol ≡ ages_of_position old.symbols 0 symbol) → new.submitted.items ≡ old.submitted.items
    → (rows : List TradeRow) → IsIndexOfTrades old rows → IsIndexOfTrades new rows
trade_not_taken old new id none same accounts symbols submitted rows is =
    let o = trade_places old in
    let n = trade_places new in
    record {
      places = places_equal (λ (x : TradeRow). x.id) place_of_trade o n rows same is.places;
      accounts = λ account.
          subst (FollowPlaces n (λ (p : TradePlace). p.account == account) (λ (p : TradePlace). p.stamp)) (sym (accounts account))
          (follow_same o n (λ (p : TradePlace). p.account == account) (λ (p : TradePlace). p.stamp) (ages_of_number old.accounts account) same (is.accounts account));
      symbols = λ symbol.
          subst (FollowPlaces n (λ (p : TradePlace). bytes_eq p.symbol symbol) (λ (p : TradePlace). p.stamp)) (sym (symbols symbol))
          (follow_same o n (λ (p : TradePlace). bytes_eq p.symbol symbol) (λ (p : TradePlace). p.stamp) (ages_of_position old.symbols 0 symbol) same (is.symbols symbol));
      submitted =
          subst (FollowPlaces n (λ (p : TradePlace). p.is_submitted) (λ p. 0)) (sym submitted)
          (follow_same o n (λ (p : TradePlace). p.is_submitted) (λ p. 0) old.submitted.items same is.submitted);
    }

pub status_set : (old mid new : TradeGroups) (id : ℕ) (place : TradePlace) (is_submitted : Bool) (stamp : ℕ) → TakesPlace old id place mid
    → PutsTrade mid id (record { account = place.account; symbol = place.symbol; stamp = stamp; is_submitted = is_submitted }) new
    → (set : TradeRow → TradeRow) → SetsStatus is_submitted stamp set → (rows : List TradeRow) → IsIndexOfTrades old rows
    → IsIndexOfTrades new (update_where (λ r. r.id == id) set rows)
status_set old mid new id place is_submitted stamp takes puts set sets rows is =
    let after : TradePlace → TradePlace = λ (p : TradePlace). record { account = p.account; symbol = p.symbol; stamp = stamp; is_submitted = is_submitted } in
    let gone : trade_places mid id ≡ None = no_place (trade_places old) (trade_places mid) id place takes.was takes.places in
    index_of new (update_where (λ r. r.id == id) set rows)
    (places_updated (λ (x : TradeRow). x.id) place_of_trade (trade_places old) (trade_places new) id place (after place) set rows takes.was
    (put_over (trade_places old) (trade_places mid) (trade_places new) id (after place) takes.places puts.places) sets.id (λ r e. sets.place r ∙ ap after e) is.places)
    (follow_put mid new id (after place) gone puts (follow_taken old mid id place takes (follow_of old rows is)))

pub status_not_set : (old mid : TradeGroups) (id : ℕ) → TakesTrade old id None mid → (set : TradeRow → TradeRow) (rows : List TradeRow) → IsIndexOfTrades old rows
    → IsIndexOfTrades mid (update_where (λ r. r.id == id) set rows)
status_not_set old mid id takes set rows is =
    subst (IsIndexOfTrades mid) (sym (places_not_updated (λ (x : TradeRow). x.id) place_of_trade (trade_places old) id set rows takes.0 is.places)) (takes.1 rows is)

-- lists with the same elements
pub trades_same : (trades : TradeGroups) (xs ys : List TradeRow) → ((y : TradeRow) → Has ys y → Has xs y) → ((x : TradeRow) → Has xs x → Has ys x)
    → IsIndexOfTrades trades xs → IsIndexOfTrades trades ys
trades_same trades xs ys from onto is =
    index_of trades ys (places_same (λ (x : TradeRow). x.id) place_of_trade (trade_places trades) xs ys from onto is.places) (follow_of trades xs is)
