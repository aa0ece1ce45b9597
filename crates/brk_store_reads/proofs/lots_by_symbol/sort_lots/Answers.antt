use Rattle.std.proofs.Common.{◌≡◌, ◌∙◌, Bool, List, Ordering, map, OnOk, Result, Ok, Err, ap, refl, rules, sym}
use Rattle.std.specs.Cmp.{IsStrictWeakOrder}
use Rattle.std.specs.Fn.{ComparesAs}
use Rattle.std.specs.List.Sorted.{IsSortedByClosure, IsStableByClosure}
use Rattle.std.proofs.lemmas.Fn.{always_returns_same}
use Rattle.brk_audit.proofs.Places.{key_order}
use Rattle.brk_model.specs.Keys.{is_row_key_less, rows_sorted_by_key}
use Rattle.brk_ref.specs.Rows.{abstract_holding_row}
use Rattle.brk_ref.specs.declared.holding_row.HoldingRow.{HoldingRow}
use Rattle.brk_tables_cash.proofs.StableSorts.{stably_sorted}
use Rattle.brk_tables_views.specs.Lists.{lot_sort_key}
use Rattle.brk_trade_books.proofs.Order.{by_key-map}
use Rattle.brk_store_reads.proofs.lots_by_symbol.sort_lots.Goals as goal
use denote.Param.Members.{Mut}
use denote.Ref.{Bor}

abbrev is_before : HoldingRow → HoldingRow → Bool
is_before x y = is_row_key_less lot_sort_key (abstract_holding_row x) (abstract_holding_row y)

order : IsStrictWeakOrder is_before
order = key_order (λ (x : HoldingRow). lot_sort_key (abstract_holding_row x))

module _ {F : Type 0} (g : Mut F (Bor HoldingRow × (Bor HoldingRow × Unit {0})) Ordering) (f : F) (compares : ComparesAs g is_before f) where
  told : {E : Type 0} (r : Result (Unit {0}) E) (xs ys : List HoldingRow) → OnOk r (IsSortedByClosure g f ys) → IsStableByClosure g f xs ys
      → OnOk r (map abstract_holding_row ys ≡ rows_sorted_by_key lot_sort_key (map abstract_holding_row xs))
  told (Ok u) xs ys sorted stable =
      ap (map abstract_holding_row) (stably_sorted is_before order xs ys (sorted is_before order compares) (stable is_before order compares))
      ∙ sym (by_key-map (λ (x : HoldingRow). lot_sort_key (abstract_holding_row x)) lot_sort_key abstract_holding_row xs (λ x. refl))
  told (Err e) xs ys sorted stable = tt

pub returns : goal.returns
returns c =
    told _ _ (always_returns_same _ _ _ (λ a r q k. search rules)) c.sort_by.result c.args.lots.now.items c.sort_by.new.self.items c.sort_by.ensures.sorted c.sort_by.ensures.stable
