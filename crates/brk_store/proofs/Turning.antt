-- The turn to the next page of lots.
use Rattle.std.specs.Prelude.{MatchOption, option_map}
use Rattle.std.proofs.Common.{Option, ◌≡◌, ◌+◌, ℕ, List, [], ◌∷◌, ◌++◌, Bool, true, false, nat_lt, drop, take, length, map, reverse, min, slice_get, refl, sym, ap, ◌∙◌, subst, arith}
use Rattle.std.proofs.lemmas.Bool.{ltb-true, ltb-false}
use mathlib.Core.List.{reverse-cons}
use Rattle.std.proofs.lemmas.List.{map-append, take-append-drop, take_all, drop-drop, append-nil, length-map, length-take}
use Rattle.sqlite_trees.specs.declared.store.Store.{Ghosts}
use Rattle.sqlite.specs.Held.{Held}
use Rattle.brk_lots.specs.Lots.{list_reversed_if_lifo}
use Rattle.brk_lots.specs.declared.lot.Lot.{Lot}
use Rattle.brk_trade_books.specs.OrderReads.{lot_of_typed_row}
use Rattle.brk_money.specs.Spelling.{Text}
use Rattle.brk_store_transactions.specs.Holds.{HoldsRows}
use Rattle.brk_model.specs.Tables.{Tables, HoldingRow}
use Rattle.brk_ref.specs.Rows.{abstract_holding_row}
use Rattle.brk_ref.specs.declared.holding_row.HoldingRow as row
use Rattle.brk_tables_trading.specs.Pages.{page_after_skipped, page_size}
use Rattle.brk_trade_books.specs.TradeReads.{lot_of_row}
use Rattle.brk_store.specs.Pages.{remaining_lots, unread_rows, lot_rows_in_closing_order}

pub page_turned : (rows : List HoldingRow) (read : ℕ) (page : List row.HoldingRow) → map abstract_holding_row page ≡ page_after_skipped read rows
    → remaining_lots page (nat_lt (length page) page_size) (read + length page) rows ≡ map lot_of_row (drop read rows)
page_turned rows read page e = ap (map lot_of_row) (go (nat_lt (length page) page_size) refl)
  where
    k : List HoldingRow
    k = drop read rows

    size : length page ≡ min 4 (length k)
    size = sym (length-map page abstract_holding_row) ∙ ap length e ∙ length-take 4 k

    go : (b : Bool) → nat_lt (length page) page_size ≡ b → map abstract_holding_row page ++ unread_rows b (read + length page) rows ≡ k
    go true h = append-nil (map abstract_holding_row page) ∙ e ∙ take_all 4 k (omega (arith, ltb-true (length page) 4 h, size))
    go false h =
        let full : length page ≡ 4 = omega (arith, ltb-false (length page) 4 h, size) in
        ap (λ (n : ℕ). map abstract_holding_row page ++ drop (read + n) rows) full
        ∙ ap (λ (l : List HoldingRow). l ++ drop (read + 4) rows) e
        ∙ ap (λ (l : List HoldingRow). take 4 k ++ l) (sym (drop-drop 4 read rows))
        ∙ take-append-drop 4 k

module _ {S : Type 0} (g : Ghosts S) (held : Held S) (lifo : Bool) (account : ℕ) (symbol : Text) where
  -- For some rows that the store holds, `ls` are the lots that a source of pages with this state
  -- still has to return.
  abbrev pub AreRemainingLotsOfPages : List row.HoldingRow → Bool → ℕ → List Lot → Type 0
  AreRemainingLotsOfPages pending ended read ls = (t : Tables) × HoldsRows g held t × (ls ≡ remaining_lots pending ended read (lot_rows_in_closing_order lifo account symbol t))

  -- the first lot of a page, and what is left then
  pub turned : (t : Tables) (holds : HoldsRows g held t) (read read' : ℕ) (page : List row.HoldingRow) (ended : Bool) (first : Option Lot) (ls : List Lot)
      → map abstract_holding_row page ≡ page_after_skipped read (lot_rows_in_closing_order lifo account symbol t) → read' ≡ read + length page
      → ended ≡ nat_lt (length page) page_size → first ≡ option_map lot_of_typed_row (slice_get page 0)
      → ls ≡ map lot_of_row (drop read (lot_rows_in_closing_order lifo account symbol t))
      → MatchOption first ((ls ≡ []) × AreRemainingLotsOfPages (drop 1 page) ended read' []) (λ lot. (more : List Lot) × (ls ≡ lot ∷ more) × AreRemainingLotsOfPages (drop 1 page) ended read' more)
  turned t holds read read' page ended first ls shown count last is left =
      let rows = lot_rows_in_closing_order lifo account symbol t in
      let whole : ls ≡ remaining_lots page ended read' rows = left ∙ sym (page_turned rows read page shown)
      ∙ ap (λ b. remaining_lots page b (read + length page) rows) (sym last) ∙ ap (λ n. remaining_lots page ended n rows) (sym count) in
      go page is last whole
    where
      go : (page : List row.HoldingRow) → first ≡ option_map lot_of_typed_row (slice_get page 0) → ended ≡ nat_lt (length page) page_size
          → ls ≡ remaining_lots page ended read' (lot_rows_in_closing_order lifo account symbol t)
          → MatchOption first ((ls ≡ []) × AreRemainingLotsOfPages (drop 1 page) ended read' []) (λ lot. (more : List Lot) × (ls ≡ lot ∷ more) × AreRemainingLotsOfPages (drop 1 page) ended read' more)
      go [] f l w =
          let none : remaining_lots [] ended read' (lot_rows_in_closing_order lifo account symbol t) ≡ [] =
          ap (λ b. remaining_lots [] b read' (lot_rows_in_closing_order lifo account symbol t)) l in
          subst (λ o. MatchOption o ((ls ≡ []) × AreRemainingLotsOfPages [] ended read' [])
          (λ lot. (more : List Lot) × (ls ≡ lot ∷ more) × AreRemainingLotsOfPages [] ended read' more)) (sym f) (w ∙ none, (t, holds, sym none))
      go (p ∷ ps) f l w =
          subst (λ o. MatchOption o ((ls ≡ []) × AreRemainingLotsOfPages ps ended read' []) (λ lot. (more : List Lot) × (ls ≡ lot ∷ more) × AreRemainingLotsOfPages ps ended read' more)) (sym f)
          (remaining_lots ps ended read' (lot_rows_in_closing_order lifo account symbol t), w, (t, holds, refl))

-- ---- from an end

map_turned : {X Y : Type 0} (f : X → Y) (xs : List X) → reverse (map f xs) ≡ map f (reverse xs)
map_turned f [] = refl
map_turned {X} {Y} f (x ∷ xs) =
    reverse-cons (f x) (map f xs) ∙ ap (λ (l : List Y). l ++ f x ∷ []) (map_turned f xs)
    ∙ sym (map-append f (reverse xs) (x ∷ [])) ∙ ap (map f) (sym (reverse-cons x xs))

pub map_end : {X Y : Type 0} (lifo : Bool) (f : X → Y) (xs : List X) → list_reversed_if_lifo lifo (map f xs) ≡ map f (list_reversed_if_lifo lifo xs)
map_end true f xs = map_turned f xs
map_end false f xs = refl
