-- The values of the closed shares do not depend on the stamp, and decide how a result is refused.
use Rattle.std.proofs.Common.{◌≡◌, ℕ, List, [], ◌∷◌, ◌++◌, refl, sym, ap, ◌∙◌, Option, Some, None}
use Rattle.std.proofs.lemmas.List.{append_assoc}
use Rattle.brk_lots.specs.Values.{closing_values_of_deal}
use Rattle.brk_lots.specs.Closing.{IsEffectOfDealOnLots}
use Rattle.brk_lots.specs.Lots.{shares_of_lots}
use Rattle.brk_lots.specs.declared.closing.ClosedLots.{ClosedLots}
use Rattle.brk_lots.specs.declared.lot.Lot.{Lot}
use Rattle.brk_lots.specs.declared.closed_values.Values.{Values}
use Rattle.brk_model.specs.Shares.{Share, buy_value, buy_value_for_side, sell_value, sell_value_for_side}
use Rattle.brk_model.specs.Tests.{RefusalCheck, first_refusal}
use Rattle.brk_money.specs.Kinds.{side_of_trade_type}
use Rattle.brk_money.specs.declared.refusal.Refusal.{Refusal}
use Rattle.brk_money.specs.declared.side.Side.{Side}
use Rattle.brk_money.specs.declared.side.Side.TheVariants.{Buy, Sell}
use Rattle.brk_trade_plans.proofs.Refusals.{first_joined, first_of}
use Rattle.brk_trade.specs.Outcomes.{deal_of_trade_row, checks_before_reading_lots, checks_after_reading_lots, result_checks}
use Rattle.brk_trade.specs.declared.result_found.ResultPlanFacts.{ResultPlanFacts}
use Rattle.brk_ref.specs.declared.trade_row.TradeRow.{TradeRow}

-- where the first tests find no cause, the first refusal is that of the others
pub first_after : (ts us : List RefusalCheck) → first_refusal ts ≡ None → first_refusal (ts ++ us) ≡ first_refusal us
first_after ts us e = first_joined ts us ∙ ap (λ refusal. first_of refusal (first_refusal us)) e

-- what the first tests refuse is refused for their reason
pub first_refuses : (found : ResultPlanFacts) (price : ℕ) (values : Values) (clock : Option ℕ) (refusal : Refusal)
    → first_refusal (checks_before_reading_lots found) ≡ Some refusal → first_refusal (result_checks found price values clock) ≡ Some refusal
first_refuses found price values clock refusal e =
    first_joined (checks_before_reading_lots found) (checks_after_reading_lots found price values clock)
    ∙ ap (λ cause. first_of cause (first_refusal (checks_after_reading_lots found price values clock))) e

-- the values of the shares that a trade closes are the same at any moment
same_bought : (side : Side) (t : TradeRow) (price stamp other : ℕ) (us : List Share)
    → buy_value_for_side side (deal_of_trade_row t price stamp) us ≡ buy_value_for_side side (deal_of_trade_row t price other) us
same_bought Buy t price stamp other us = refl
same_bought Sell t price stamp other us = refl

same_sold : (side : Side) (t : TradeRow) (price stamp other : ℕ) (us : List Share)
    → sell_value_for_side side (deal_of_trade_row t price stamp) us ≡ sell_value_for_side side (deal_of_trade_row t price other) us
same_sold Buy t price stamp other us = refl
same_sold Sell t price stamp other us = refl

pub at_any_moment : (t : TradeRow) (price stamp other : ℕ) (us : List Share) → closing_values_of_deal (deal_of_trade_row t price stamp) us ≡ closing_values_of_deal (deal_of_trade_row t price other) us
unfolding buy_value sell_value
at_any_moment t price stamp other us = rw (same_bought (side_of_trade_type t.kind) t price stamp other us, same_sold (side_of_trade_type t.kind) t price stamp other us) refl

-- a refusal that the values tell, over the lots of a position, after the first tests found no cause
pub refused_by_values : (found : ResultPlanFacts) (price : ℕ) (ls : List Lot) (at stamp : ℕ) (closed : ClosedLots) (clock : _) (refusal : Refusal)
    → IsEffectOfDealOnLots (deal_of_trade_row found.trade price at) ls closed → first_refusal (checks_before_reading_lots found) ≡ None
    → first_refusal (checks_after_reading_lots found price closed.values clock) ≡ Some refusal
    → first_refusal (result_checks found price (closing_values_of_deal (deal_of_trade_row found.trade price stamp) (shares_of_lots ls)) clock) ≡ Some refusal
refused_by_values found price ls at stamp closed clock refusal k first last =
    let same = k.values ∙ at_any_moment found.trade price at stamp (shares_of_lots ls) in
    first_after (checks_before_reading_lots found) (checks_after_reading_lots found price (closing_values_of_deal (deal_of_trade_row found.trade price stamp) (shares_of_lots ls)) clock) first
    ∙ ap (λ values. first_refusal (checks_after_reading_lots found price values clock)) (sym same) ∙ last

-- three elements added one after another
pub three_added : {X : Type 0} (old one two three : List X) (x y z a b d : X) → one ≡ old ++ x ∷ [] → two ≡ one ++ y ∷ [] → three ≡ two ++ z ∷ []
    → x ≡ a → y ≡ b → z ≡ d → three ≡ old ++ a ∷ b ∷ d ∷ []
three_added {X} old one two three x y z a b d e f g p q r =
    let both : two ≡ (old ++ x ∷ []) ++ y ∷ [] = f ∙ ap (λ (l : List X). l ++ y ∷ []) e in
    let all : three ≡ old ++ x ∷ y ∷ z ∷ [] = g ∙ ap (λ (l : List X). l ++ z ∷ []) (both ∙ append_assoc old (x ∷ []) (y ∷ [])) ∙ append_assoc old (x ∷ y ∷ []) (z ∷ []) in
    all ∙ rw (p, q, r) refl
