-- The lots and the cash rows of an account that are read by the index equal those of the tables.
use Rattle.std.proofs.Common.{◌≡◌, ◌∙◌, ◌==◌, ◌&&◌, ◌+◌, ◌-◌, ◌<◌, ◌≤◌, ℕ, true, false, List, Result, drop, filter, length, map, refl, sym, ap, take, arith, inl, inr, eq-eqb}
use Rattle.std.specs.Prelude.{nat_le}
use Rattle.std.specs.Global.{Vec}
use Rattle.std.proofs.Math.Nat.{min-le_left}
use Rattle.std.proofs.lemmas.Bool.{cases_lt}
use Rattle.std.proofs.lemmas.List.{drop-take, drop_all, length-take}
use Rattle.sqlite_trees.specs.declared.store.Store.{Ghosts}
use Rattle.sqlite.specs.Held.{Held, state}
use Rattle.brk_model.specs.Keys.{is_row_key_less, rows_sorted_by_key}
use Rattle.brk_model.specs.Limits.{is_in_range}
use Rattle.brk_model.specs.Lists.{sort_by}
use Rattle.brk_model.specs.Statement.{holding_rows_of_account}
use Rattle.brk_model.specs.Tables.{CashRow, HoldingRow}
use Rattle.brk_ref.specs.Rows.{abstract_cash_row, abstract_holding_row}
use Rattle.brk_ref.specs.declared.cash_row.CashRow as cash
use Rattle.brk_ref.specs.declared.holding_row.HoldingRow as lot
use Rattle.brk_store_index.specs.Index.{ages_at, cash_row_of_age, row_of_age}
use Rattle.brk_store_index.specs.Index as group
use Rattle.brk_store_index.specs.declared.age.RowAge.{RowAge}
use Rattle.brk_store_index.specs.declared.index.RowIndex.{RowIndex}
use Rattle.brk_store_index.proofs.Elements.{has_filtered}
use Rattle.brk_store_index.proofs.Ordered.{age_finds, all_by_id, filtered_rises, is_row_older, page_found}
use Rattle.brk_store_index.proofs.PositionLots.{less_numbers, sort_same}
use Rattle.brk_store_index.proofs.Spans.{rows_between}
use Rattle.brk_store_transactions.specs.Holds.{ReadPost}
use Rattle.brk_store_reads.specs.RowsOfAccounts.{AreCashRowsBetween, AreLotsBySymbol}
use Rattle.brk_store_reads.proofs.ByAges.{found_of_ages}
use Rattle.brk_tables_views.specs.Lists.{cash_sort_key, is_account_cash_row_between, lot_sort_key}
use Rattle.brk_store.specs.Indexed.{IndexIsTrue}
use Rattle.brk_store.specs.Walked.{cash_rows_in_span}
use Rattle.brk_store_index.specs.declared.store_index.StoreIndex.TheVariants.{Made}
use Rattle.brk_store.proofs.TradesByIndex.{index_of_rows, swapped, three_tests, told_by_index}
use Rattle.brk_store.proofs.WalkedLists.{cash_same, holdings_climb, lots_same, moves_climb}

-- the elements from a place to another
taken_span : {X : Type 0} (k j : ℕ) (xs : List X) → take (j - k) (drop k xs) ≡ drop k (take j xs)
taken_span k j xs = elim (cases_lt j k) [
  | inl before ↦ ap (λ m. take m (drop k xs)) (no_more before) ∙ sym (drop_all k (take j xs) (short before))
  | inr from ↦ sym (drop-take k (j - k) xs) ∙ ap (λ m. drop k (take m xs)) (all_of from)
]
  where
    no_more : j < k → j - k ≡ 0
    no_more before = omega (arith, before)

    short : j < k → length (take j xs) ≤ k
    short before = omega (arith, before, length-take j xs, min-le_left j (length xs))

    all_of : k ≤ j → k + (j - k) ≡ j
    all_of from = omega (arith, from)

module _ {S : Type 0} (g : Ghosts S) (conn : Held S) (index : RowIndex) (is : IndexIsTrue g conn (Made index)) (end store : Held S) (same : conn ≡ store) (account : ℕ) {E : Type 0} where
  pub lots_read : (result : Result (Vec lot.HoldingRow) E) → ReadPost g conn end result (λ lots t. AreLotsBySymbol t.holdings account (ages_at index (group.LotsOfAccount account)) lots.items)
      → ReadPost g store end result (λ lots t. map abstract_holding_row lots.items ≡ holding_rows_of_account t account)
  lots_read result = told_by_index g conn end store same result _ _ (λ clean on t holds lots shown.
      let id_of = λ (r : HoldingRow). r.trade in
      let mine = λ (r : HoldingRow). r.account == account in
      let test = λ (a : RowAge) (r : HoldingRow). r.account == account in
      let finds = row_of_age id_of test t.holdings in
      let ages = ages_at index (group.LotsOfAccount account) in
      let up = holdings_climb t (state g conn).now (holds clean on) in
      shown.2
      ∙ ap (rows_sorted_by_key lot_sort_key)
      (all_by_id id_of (filter mine t.holdings) (filtered_rises id_of mine t.holdings up) ages ((index_of_rows g conn index is clean on t holds).groups (group.LotsOfAccount account)) finds
      (λ x h. let k = has_filtered mine t.holdings x h in age_finds id_of t.holdings up test (record { stamp = 0; id = x.trade }) x k.0 refl k.1)
      (map abstract_holding_row shown.0) (found_of_ages abstract_holding_row finds ages shown.0 shown.1))
      ∙ lots_same account t up)

  pub cash_read : (first last : ℕ) (result : Result (Vec cash.CashRow) E) → ReadPost g conn end result (λ rows t. AreCashRowsBetween t.moves account first last (ages_at index (group.CashRowsOfAccount account)) rows.items)
      → ReadPost g store end result (λ rows t. map abstract_cash_row rows.items ≡ cash_rows_in_span account first last t)
  cash_read first last result = told_by_index g conn end store same result _ _ (λ clean on t holds rows shown.
      let id_of = λ (r : CashRow). r.id in
      let stamp_of = λ (r : CashRow). r.stamp in
      let mine = λ (r : CashRow). r.account == account in
      let early = λ (r : CashRow). nat_le r.stamp last in
      let late = λ (r : CashRow). nat_le first r.stamp in
      let test = λ (a : RowAge) (r : CashRow). (r.account == account) && (r.stamp == a.stamp) in
      let finds = cash_row_of_age t.moves account in
      let ages = ages_at index (group.CashRowsOfAccount account) in
      let are = (index_of_rows g conn index is clean on t holds).groups (group.CashRowsOfAccount account) in
      let up = moves_climb t (state g conn).now (holds clean on) in
      let rising = filtered_rises id_of mine t.moves up in
      let older = is_row_older id_of stamp_of in
      let k = shown.0 in
      let j = shown.1 in
      page_found id_of stamp_of (filter mine t.moves) rising ages are finds
      (λ x h. let m = has_filtered mine t.moves x h in age_finds id_of t.moves up test (record { stamp = x.stamp; id = x.id }) x m.0 refl (passes x m.1)) false k (j - k) (map abstract_cash_row rows.items)
      (found_of_ages abstract_cash_row finds (take (j - k) (drop k ages)) rows.items shown.4)
      ∙ taken_span k j (sort_by older (filter mine t.moves)) ∙ rows_between id_of stamp_of (filter mine t.moves) rising ages are first last k j shown.2 shown.3
      ∙ ap (sort_by older) (three_tests mine early late (λ r. is_in_range first last r.stamp) (λ r. swapped (early r) (late r)) t.moves)
      ∙ sort_same older (is_row_key_less cash_sort_key) (λ x y. sym (less_numbers x.stamp x.id y.stamp y.id)) (filter (is_account_cash_row_between account first last) t.moves)
      ∙ cash_same account first last t up)
    where
      passes : (x : CashRow) → (x.account == account) ≡ true → ((x.account == account) && (x.stamp == x.stamp)) ≡ true
      passes x e = rw (e, eq-eqb x.stamp x.stamp refl) refl
