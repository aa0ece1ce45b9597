-- The place of a completed trade among all, and its unique id and stamp.
use Rattle.std.proofs.Common.{◌≡◌, ◌==◌, true, false, List, [], ◌∷◌, ◌++◌, Some, ◌∙◌, ap, subst, filter}
use Rattle.std.specs.List.{AllByRecursion}
use Rattle.brk_model.specs.Base.{Base, completed_trades, is_completed, last_status_stamp_of_trade, trade_with_id}
use Rattle.brk_model.specs.Records.{Movement, Trade}
use Rattle.brk_trade_books.specs.Books.{BooksInvariant, HasLastStatusAtOtherStamp, HasDistinctLastStatusStamps, HasDistinctMovementStamps}
use Rattle.brk_trade_books.proofs.Bools.{numbers_back}
use Rattle.brk_trade_books.proofs.LotReading.{IdsApart, numbered_rise, rise_apart}
use Rattle.brk_trade_books.proofs.Places.{FoundAt, filter-one, find-at}
use Rattle.brk_trade_books.proofs.Same.{NonePass, All-filter}
use Rattle.brk_trade_books.proofs.Tested.{All-back}

-- where a completed trade stands, and that it alone has its number and its moment
pub record Among (base : Base) (t : Trade) : Type 0 where
  pub front : List Trade
  pub back : List Trade
  pub stands : completed_trades base ≡ front ++ t ∷ back
  pub ids_before : AllByRecursion (λ u. (u.id == t.id) ≡ false) front
  pub ids_after : AllByRecursion (λ u. (u.id == t.id) ≡ false) back
  pub moments_before : AllByRecursion (λ u. (last_status_stamp_of_trade u == last_status_stamp_of_trade t) ≡ false) front
  pub moments_after : AllByRecursion (λ u. (last_status_stamp_of_trade u == last_status_stamp_of_trade t) ≡ false) back
  pub moved : AllByRecursion (λ m. (m.stamp == last_status_stamp_of_trade t) ≡ false) base.movements

pub ids_around : (xs : List Trade) (t : Trade) (ys : List Trade) → IdsApart (xs ++ t ∷ ys) → NonePass (λ u. u.id == t.id) ys
ids_around [] t ys d = d.0
ids_around (x ∷ xs) t ys d = ids_around xs t ys d.1

moments_front : (xs : List Trade) (t : Trade) (ys : List Trade) → HasDistinctLastStatusStamps (xs ++ t ∷ ys)
    → AllByRecursion (λ u. (last_status_stamp_of_trade u == last_status_stamp_of_trade t) ≡ false) xs
moments_front [] t ys m = tt
moments_front (x ∷ xs) t ys m = (
  numbers_back (last_status_stamp_of_trade x) (last_status_stamp_of_trade t)
      ∙ (All-back (λ u. (last_status_stamp_of_trade u == last_status_stamp_of_trade x) ≡ false) xs (t ∷ ys) m.0).0,
  moments_front xs t ys m.1,
)

moments_back : (xs : List Trade) (t : Trade) (ys : List Trade) → HasDistinctLastStatusStamps (xs ++ t ∷ ys)
    → AllByRecursion (λ u. (last_status_stamp_of_trade u == last_status_stamp_of_trade t) ≡ false) ys
moments_back [] t ys m = m.0
moments_back (x ∷ xs) t ys m = moments_back xs t ys m.1

moved_otherwhen : (xs : List Trade) (t : Trade) (ys : List Trade) (ms : List Movement) → HasDistinctMovementStamps (xs ++ t ∷ ys) ms
    → AllByRecursion (λ m. (m.stamp == last_status_stamp_of_trade t) ≡ false) ms
moved_otherwhen xs t ys [] h = tt
moved_otherwhen xs t ys (m ∷ ms) h =
    (numbers_back m.stamp (last_status_stamp_of_trade t) ∙ (All-back (HasLastStatusAtOtherStamp m.stamp) xs (t ∷ ys) h.0).0, moved_otherwhen xs t ys ms h.2)

pub among : (base : Base) (t : Trade) → BooksInvariant base → trade_with_id base t.id ≡ Some t → is_completed t ≡ true → Among base t
among base t books e c = record {
  front = X;
  back = Z;
  stands = done;
  ids_before = All-filter (λ u. (u.id == t.id) ≡ false) is_completed f.before f.others;
  ids_after = All-filter (λ u. (u.id == t.id) ≡ false) is_completed f.after
      (ids_around f.before t f.after (subst IdsApart f.stands (rise_apart base.trades (numbered_rise 1 base.trades books.numbered))));
  moments_before = moments_front X t Z (subst HasDistinctLastStatusStamps done books.moments);
  moments_after = moments_back X t Z (subst HasDistinctLastStatusStamps done books.moments);
  moved = moved_otherwhen X t Z base.movements (subst (λ ts. HasDistinctMovementStamps ts base.movements) done books.movements.apart);
}
  where
    f : FoundAt Trade (λ u. u.id == t.id) t base.trades
    f = find-at (λ u. u.id == t.id) base.trades t e

    X : List Trade
    X = filter is_completed f.before

    Z : List Trade
    Z = filter is_completed f.after

    done : completed_trades base ≡ X ++ t ∷ Z
    done = ap (filter is_completed) f.stands ∙ filter-one is_completed f.before t f.after c
