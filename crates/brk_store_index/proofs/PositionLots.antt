-- The lots of a position, by the ages that an index has and by the table.
use Rattle.std.proofs.Common.{◌≡◌, ◌∙◌, ◌==◌, ◌&&◌, ◌||◌, ℕ, Bool, true, false, not, cond, List, [], ◌∷◌, Some, map, filter, take, drop, refl, sym, ap, ap₂, arith, nat_lt, eq-eqb}
use Rattle.std.specs.Prelude.{bytes_eq}
use Rattle.std.proofs.lemmas.Bool.Decides.{nat_tests}
use Rattle.brk_money.specs.Spelling.{Text}
use Rattle.brk_model.specs.Keys.{is_row_key_less}
use Rattle.brk_model.specs.Lists.{insert_by, sort_by}
use Rattle.brk_model.specs.Tables.{HoldingRow}
use Rattle.brk_ref.specs.Rows.{lot_age_key, lots_oldest_first}
use Rattle.brk_store_index.specs.declared.age.RowAge.{RowAge}
use Rattle.brk_store_index.specs.Ages.{AreAgesOf, Has, in_order}
use Rattle.brk_store_index.specs.Index.{lot_of_age}
use Rattle.brk_store_index.specs.Parts.{age_of_lot}
use Rattle.brk_store_index.proofs.Elements.{has_filtered}
use Rattle.brk_store_index.proofs.Ordered.{RisesBy, age_finds, filtered_rises, is_row_older, page_found}

insert_same : {X : Type 0} (less more : X → X → Bool) → ((x y : X) → less x y ≡ more x y) → (x : X) (ys : List X) → insert_by less x ys ≡ insert_by more x ys
insert_same less more agree x [] = refl
insert_same less more agree x (y ∷ ys) = ap₂ (λ b l. cond b (y ∷ l) (x ∷ y ∷ ys)) (agree y x) (insert_same less more agree x ys)

pub sort_same : {X : Type 0} (less more : X → X → Bool) → ((x y : X) → less x y ≡ more x y) → (xs : List X) → sort_by less xs ≡ sort_by more xs
unfolding sort_by
sort_same less more agree [] = refl
sort_same less more agree (x ∷ xs) = insert_same less more agree x (sort_by less xs) ∙ ap (insert_by more x) (sort_same less more agree xs)

pub less_numbers : (a b c d : ℕ) → (nat_lt a c || (not (nat_lt c a) && (nat_lt b d || (not (nat_lt d b) && false)))) ≡ (nat_lt a c || ((a == c) && nat_lt b d))
less_numbers a b c d = grind (arith, nat_tests)

lots_sorted : (rows : List HoldingRow) → lots_oldest_first rows ≡ sort_by (is_row_older (λ (r : HoldingRow). r.trade) (λ (r : HoldingRow). r.stamp)) rows
lots_sorted rows =
    sort_same (is_row_key_less lot_age_key) (is_row_older (λ (r : HoldingRow). r.trade) (λ (r : HoldingRow). r.stamp)) (λ x y. less_numbers x.stamp x.trade y.stamp y.trade) rows

two : (a b : Bool) → (a && b) ≡ true → (a ≡ true) × (b ≡ true)
two true true e = (refl, refl)
two true false e = absurd (let f = e in cc)
two false b e = absurd (let f = e in cc)

module _ (rows : List HoldingRow) (up : RisesBy (λ (r : HoldingRow). r.trade) rows) (account : ℕ) (symbol : Text) where
  abbrev is_lot : HoldingRow → Bool
  is_lot r = (r.account == account) && bytes_eq r.symbol symbol

  lot_finds : (x : HoldingRow) → Has (filter is_lot rows) x → lot_of_age rows account symbol (age_of_lot x) ≡ Some x
  lot_finds x h =
      let k = has_filtered is_lot rows x h in
      let both = two (x.account == account) (bytes_eq x.symbol symbol) k.1 in
      age_finds (λ (r : HoldingRow). r.trade) rows up (λ (a : RowAge) (r : HoldingRow). (r.account == account) && (bytes_eq r.symbol symbol && (r.stamp == a.stamp))) (age_of_lot x) x k.0 refl
      (rw (both.0, both.1, eq-eqb x.stamp x.stamp refl) refl)

  -- the rows that some of the ages find are the lots at their places
  pub lots_found : (ages : List RowAge) → AreAgesOf ages (map age_of_lot (filter (λ (r : HoldingRow). (r.account == account) && bytes_eq r.symbol symbol) rows))
      → (lifo : Bool) (skipped most : ℕ) (page : List HoldingRow) → map Some page ≡ map (lot_of_age rows account symbol) (take most (drop skipped (in_order lifo ages)))
      → page ≡ take most (drop skipped (in_order lifo (lots_oldest_first (filter (λ (r : HoldingRow). (r.account == account) && bytes_eq r.symbol symbol) rows))))
  lots_found ages are lifo skipped most page shown =
      page_found (λ (r : HoldingRow). r.trade) (λ (r : HoldingRow). r.stamp) (filter is_lot rows) (filtered_rises (λ (r : HoldingRow). r.trade) is_lot rows up) ages are (lot_of_age rows account symbol) lot_finds
      lifo skipped most page shown
      ∙ ap (λ l. take most (drop skipped (in_order lifo l))) (sym (lots_sorted (filter is_lot rows)))
