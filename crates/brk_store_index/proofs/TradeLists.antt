-- Lists of trades, by the ages that an index has and by the table.
use Rattle.std.proofs.Common.{◌≡◌, ◌==◌, ◌&&◌, ℕ, Bool, true, false, List, Some, map, filter, take, drop, reverse, eq-eqb, refl}
use Rattle.brk_model.specs.Joins.{trade_rows_oldest_first, trade_rows_recent_first}
use Rattle.brk_model.specs.Tables.{TradeRow}
use Rattle.std.specs.Prelude.{nat_le}
use Rattle.brk_store_index.specs.declared.age.RowAge.{RowAge}
use Rattle.brk_store_index.specs.Ages.{AreAgesOf, Has, IsPlaceOfStamp}
use Rattle.brk_store_index.specs.Index.{trade_of_age}
use Rattle.brk_store_index.specs.Parts.{age_of_trade}
use Rattle.brk_store_index.proofs.Elements.{has_filtered}
use Rattle.brk_store_index.proofs.Ordered.{RisesBy, age_finds, filtered_rises, page_found, recent_page_found}
use Rattle.brk_store_index.proofs.Spans.{rows_between, rows_since}

-- The trades of a group, which pass the test `is_in`.
module _ (rows : List TradeRow) (up : RisesBy (λ (r : TradeRow). r.id) rows) (is_in : TradeRow → Bool) (ages : List RowAge) (are : AreAgesOf ages (map age_of_trade (filter is_in rows))) where
  trade_finds : (x : TradeRow) → Has (filter is_in rows) x → trade_of_age is_in rows (age_of_trade x) ≡ Some x
  trade_finds x h =
      let k = has_filtered is_in rows x h in
      age_finds (λ (r : TradeRow). r.id) rows up (λ (a : RowAge) (r : TradeRow). is_in r && (r.stamp == a.stamp)) (age_of_trade x) x k.0 refl (rw (k.1, eq-eqb x.stamp x.stamp refl) refl)

  in_group : RisesBy (λ (r : TradeRow). r.id) (filter is_in rows)
  in_group = filtered_rises (λ (r : TradeRow). r.id) is_in rows up

  -- the rows that some of the ages find are the trades at their places
  pub oldest_trades_found : (skipped most : ℕ) (page : List TradeRow) → map Some page ≡ map (trade_of_age is_in rows) (take most (drop skipped ages))
      → page ≡ take most (drop skipped (trade_rows_oldest_first (filter is_in rows)))
  oldest_trades_found skipped most page shown =
      page_found (λ (r : TradeRow). r.id) (λ (r : TradeRow). r.stamp) (filter is_in rows) in_group ages are (trade_of_age is_in rows) trade_finds false skipped most page shown

  pub recent_trades_found : (skipped most : ℕ) (page : List TradeRow) → map Some page ≡ map (trade_of_age is_in rows) (take most (drop skipped (reverse ages)))
      → page ≡ take most (drop skipped (trade_rows_recent_first (filter is_in rows)))
  recent_trades_found skipped most page shown =
      recent_page_found (λ (r : TradeRow). r.id) (λ (r : TradeRow). r.stamp) (filter is_in rows) in_group ages are (trade_of_age is_in rows) trade_finds skipped most page shown

  -- the trades from the place of a stamp on, and those between two
  pub trades_since : (first k : ℕ) → IsPlaceOfStamp ages first false k
      → drop k (trade_rows_oldest_first (filter is_in rows)) ≡ trade_rows_oldest_first (filter (λ (r : TradeRow). nat_le first r.stamp) (filter is_in rows))
  trades_since first k place = rows_since (λ (r : TradeRow). r.id) (λ (r : TradeRow). r.stamp) (filter is_in rows) in_group ages are first k place

  pub trades_between : (first last k j : ℕ) → IsPlaceOfStamp ages first false k → IsPlaceOfStamp ages last true j
      → drop k (take j (trade_rows_oldest_first (filter is_in rows)))
      ≡ trade_rows_oldest_first (filter (λ (r : TradeRow). nat_le first r.stamp) (filter (λ (r : TradeRow). nat_le r.stamp last) (filter is_in rows)))
  trades_between first last k j from until = rows_between (λ (r : TradeRow). r.id) (λ (r : TradeRow). r.stamp) (filter is_in rows) in_group ages are first last k j from until
