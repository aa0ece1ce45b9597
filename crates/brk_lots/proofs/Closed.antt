-- The lots that a walk takes hold the shares that a deal closes, at their cost.
use Rattle.std.proofs.Common.{◌≡◌, ℕ, ◌+◌, ◌*◌, ◌-◌, ◌<◌, min, Bool, true, false, List, ◌∷◌, length, take, unsigned_abs, refl, sym, ap, ◌∙◌, arith}
use Rattle.std.proofs.lemmas.List.{length-reverse, length-map}
use Rattle.brk_money.specs.Kinds.{is_same_side}
use Rattle.brk_money.specs.declared.side.Side.{Side}
use Rattle.brk_model.specs.Shares.{Share, Deal, closed_share_count_of_deal, buy_value, sell_value, touches_of_existing_lots}
use Rattle.brk_lots.specs.declared.lot.Lot.{Lot}
use Rattle.brk_lots.specs.Lots.{side_of_qty, shares_of_lots, list_reversed_if_lifo, abstract_touch}
use Rattle.brk_lots.specs.Position.{IsPositionInAnyOrder, AreOpenedByOtherTrades}
use Rattle.brk_lots.specs.Walks.{closed_share_count, touches_of_first_shares, cost_of_first_shares}
use Rattle.brk_lots.specs.ClosedValues.{buy_value_by_side, sell_value_by_side, closing_values_by_side}
use Rattle.brk_lots.proofs.Runs.{cost}
use Rattle.brk_lots.proofs.Walks.{touches_more}
use Rattle.brk_lots.proofs.Changes.{cost_taken}
use Rattle.brk_lots.proofs.Ends.{shares_end}
use Rattle.brk_lots.proofs.Plain.{bought_is, sold_is}
use Rattle.brk_lots.proofs.Upon.{met_closes, rows_are}
use Rattle.brk_lots.specs.declared.closed_values.Values.{Values}
use Rattle.brk_lots.specs.Values.{closing_values_of_deal}

-- the shares that the walk takes cost what the shares that the deal closes cost
paid_is : (d : Deal) (ls : List Lot) → IsPositionInAnyOrder ls
    → cost_of_first_shares (closed_share_count d.side d.qty (list_reversed_if_lifo d.is_lifo ls)) (list_reversed_if_lifo d.is_lifo ls)
    ≡ cost (take (closed_share_count_of_deal d (shares_of_lots ls)) (list_reversed_if_lifo d.is_lifo (shares_of_lots ls)))
paid_is d ls w =
    let walk = list_reversed_if_lifo d.is_lifo ls in
    let k = closed_share_count d.side d.qty walk in
    sym (cost_taken k walk)
    ∙ ap (λ (vs : List Share). cost (take k vs)) (shares_end d.is_lifo ls)
    ∙ ap (λ n. cost (take n (list_reversed_if_lifo d.is_lifo (shares_of_lots ls)))) (met_closes d ls w)

-- The buy value `b` and the sell value `s`, as one value.
abbrev both : ℕ → ℕ → Values
both b s = record { buy_value = b; sell_value = s }

-- the walk and the deal have the same closing values
pub values_are : (d : Deal) (ls : List Lot) → IsPositionInAnyOrder ls → let walk = list_reversed_if_lifo d.is_lifo ls in let k = closed_share_count d.side d.qty walk in
    closing_values_by_side d.side (k * d.price) (cost_of_first_shares k walk) ≡ closing_values_of_deal d (shares_of_lots ls)
values_are d ls w =
    let us = shares_of_lots ls in
    let walk = list_reversed_if_lifo d.is_lifo ls in
    let k = closed_share_count d.side d.qty walk in
    let same : k * d.price ≡ closed_share_count_of_deal d us * d.price = ap (λ n. n * d.price) (met_closes d ls w) in
    let b : buy_value_by_side d.side (k * d.price) (cost_of_first_shares k walk) ≡ buy_value d us =
    ap (λ n. buy_value_by_side d.side n (cost_of_first_shares k walk)) same ∙ ap (buy_value_by_side d.side (closed_share_count_of_deal d us * d.price)) (paid_is d ls w) ∙ sym (bought_is d us) in
    let s : sell_value_by_side d.side (k * d.price) (cost_of_first_shares k walk) ≡ sell_value d us =
    ap (λ n. sell_value_by_side d.side n (cost_of_first_shares k walk)) same ∙ ap (sell_value_by_side d.side (closed_share_count_of_deal d us * d.price)) (paid_is d ls w) ∙ sym (sold_is d us) in
    ap (λ n. both n (sell_value_by_side d.side (k * d.price) (cost_of_first_shares k walk))) b ∙ ap (both (buy_value d us)) s

-- from either end there are as many
length_end : {X : Type 0} (lifo : Bool) (xs : List X) → length (list_reversed_if_lifo lifo xs) ≡ length xs
length_end true xs = length-reverse xs
length_end false xs = refl

-- the walk takes of as many lots as the deal touches
pub touched_are : (d : Deal) (ls : List Lot) → IsPositionInAnyOrder ls → AreOpenedByOtherTrades d.trade ls
    → length (touches_of_first_shares (closed_share_count d.side d.qty (list_reversed_if_lifo d.is_lifo ls)) (list_reversed_if_lifo d.is_lifo ls))
    ≡ length (touches_of_existing_lots d (shares_of_lots ls))
touched_are d ls w fresh =
    sym (length-map (touches_of_first_shares (closed_share_count d.side d.qty (list_reversed_if_lifo d.is_lifo ls)) (list_reversed_if_lifo d.is_lifo ls)) abstract_touch)
    ∙ ap length (rows_are d ls w fresh) ∙ length_end d.is_lifo (touches_of_existing_lots d (shares_of_lots ls))

-- a lot of the other side is one more that is touched
pub one_more : (side : Side) (q : ℕ) (l : Lot) (ls : List Lot) → IsPositionInAnyOrder (l ∷ ls) → is_same_side (side_of_qty l.qty) side ≡ false → 0 < q
    → length (touches_of_first_shares (closed_share_count side q (l ∷ ls)) (l ∷ ls)) ≡ length (touches_of_first_shares (closed_share_count side (q - min q (unsigned_abs l.qty)) ls) ls) + 1
one_more side q l ls w o p = ap length (touches_more side q l ls w o p) ∙ omega arith
