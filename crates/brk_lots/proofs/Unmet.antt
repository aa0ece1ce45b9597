-- A trade closes no share of a position that has none on the other side.
use Rattle.std.proofs.Common.{◌≡◌, ℕ, ◌*◌, zero, suc, min, true, false, cond, List, Bool, length, refl, sym, ap, ◌∙◌, arith}
use Rattle.std.proofs.lemmas.Bool.{ltb-false}
use Rattle.brk_money.specs.Kinds.{is_same_side}
use Rattle.brk_money.specs.declared.side.Side.{Side}
use Rattle.brk_money.specs.declared.side.Side.TheVariants.{Buy, Sell}
use Rattle.brk_model.specs.Shares.{Deal, signed_by_side}
use Rattle.brk_lots.specs.declared.lot.Lot.{Lot}
use Rattle.brk_lots.specs.Against.{is_trade_closing_lots}
use Rattle.brk_lots.specs.Books.{lot_quantity_sum}
use Rattle.brk_lots.specs.Lots.{list_reversed_if_lifo, shares_of_lots}
use Rattle.brk_lots.specs.Position.{IsPositionInAnyOrder}
use Rattle.brk_lots.specs.Values.{closing_values_of_deal}
use Rattle.brk_lots.specs.ClosedValues.{closing_values_by_side}
use Rattle.brk_lots.specs.Walks.{closed_share_count, cost_of_first_shares}
use Rattle.brk_lots.proofs.Books.{lots_net}
use Rattle.brk_lots.proofs.Closed.{values_are}
use Rattle.brk_lots.proofs.Counts.{all_shares, net_of, walk_side}
use Rattle.brk_lots.proofs.Ends.{met_all, met_end}
use Rattle.brk_lots.proofs.Walks.{paid_none}

-- so many shares of a side, none of which a trade of another side would close
none_against : (side s : Side) (q n : ℕ) → is_trade_closing_lots side (signed_by_side s n) ≡ false → cond (is_same_side s side) 0 (min q n) ≡ 0
none_against Buy Buy q n e = refl
none_against Sell Sell q n e = refl
none_against Sell Buy q zero e = omega arith
none_against Sell Buy q (suc n) e = absurd (omega (arith, ltb-false 0 (suc n) e))
none_against Buy Sell q zero e = omega arith
none_against Buy Sell q (suc n) e = let f : true ≡ false = e in absurd (cc)

pub none_met : (side : Side) (q : ℕ) (ls : List Lot) → IsPositionInAnyOrder ls → is_trade_closing_lots side (lot_quantity_sum ls) ≡ false → closed_share_count side q ls ≡ 0
none_met side q ls w e =
    let s = walk_side ls w in
    let total : lot_quantity_sum ls ≡ signed_by_side s.0 (length (shares_of_lots ls)) = lots_net ls ∙ net_of s.0 (shares_of_lots ls) (all_shares (λ v. v.side ≡ s.0) ls s.1) in
    met_all side s.0 q ls s.1 ∙ none_against side s.0 q (length (shares_of_lots ls)) (sym (ap (is_trade_closing_lots side) total) ∙ e)

pub none_met_from : (lifo : Bool) (side : Side) (q : ℕ) (ls : List Lot) → IsPositionInAnyOrder ls → is_trade_closing_lots side (lot_quantity_sum ls) ≡ false
    → closed_share_count side q (list_reversed_if_lifo lifo ls) ≡ 0
none_met_from lifo side q ls w e = met_end lifo side q ls w ∙ none_met side q ls w e

no_worth : (side : Side) → closing_values_by_side side 0 0 ≡ record { buy_value = 0; sell_value = 0 }
no_worth Buy = refl
no_worth Sell = refl

pub no_values_are : (d : Deal) (ls : List Lot) → IsPositionInAnyOrder ls → is_trade_closing_lots d.side (lot_quantity_sum ls) ≡ false
    → closing_values_of_deal d (shares_of_lots ls) ≡ record { buy_value = 0; sell_value = 0 }
no_values_are d ls w e =
    let walk = list_reversed_if_lifo d.is_lifo ls in
    let none = none_met_from d.is_lifo d.side d.qty ls w e in
    let traded : closed_share_count d.side d.qty walk * d.price ≡ 0 = ap (λ n. n * d.price) none ∙ omega arith in
    let opened : cost_of_first_shares (closed_share_count d.side d.qty walk) walk ≡ 0 = ap (λ n. cost_of_first_shares n walk) none ∙ paid_none walk in
    sym (values_are d ls w) ∙ (λ i. closing_values_by_side d.side (traded i) (opened i)) ∙ no_worth d.side
