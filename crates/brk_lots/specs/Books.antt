-- Sums over lots, shares and lists of deals.
use Rattle.std.specs.Prelude.{ℤ, pos, ◌+ℤ◌, ◌*ℤ◌, ◌*◌, List, [], ◌∷◌}
use Rattle.brk_model.specs.Lists.{total_by}
use Rattle.brk_model.specs.Shares.{Share, Deal, signed_by_side, shares_after_deal, realised_gain}
use Rattle.brk_lots.specs.declared.lot.Lot.{Lot}

-- The sum of the signed quantities of the lots, in shares.
abbrev pub lot_quantity_sum : List Lot → ℤ
lot_quantity_sum ls = total_by (λ l. l.qty) ls

-- The cost basis of the lots, in cents: signed quantity times price, below 0 for lots sold short.
abbrev pub cost_basis_of_lots : List Lot → ℤ
cost_basis_of_lots ls = total_by (λ l. l.qty *ℤ pos l.price) ls

-- The cost basis of open shares, in cents: their opening prices, negated for shares sold short.
abbrev pub cost_basis_of_shares : List Share → ℤ
cost_basis_of_shares us = total_by (λ u. signed_by_side u.side u.price) us

-- The sum of the quantities of the deals, in shares; the quantity of a sale counts below 0.
abbrev pub deal_quantity_sum : List Deal → ℤ
deal_quantity_sum ds = total_by (λ d. signed_by_side d.side d.qty) ds

-- The value (quantity times price) of all purchases minus that of all sales, in cents.
abbrev pub purchase_value_minus_sale_value : List Deal → ℤ
purchase_value_minus_sale_value ds = total_by (λ d. signed_by_side d.side (d.qty * d.price)) ds

-- The sum, in cents, of the realised gains of the deals, applied in sequence to the shares `us`.
abbrev pub realised_gain_sum : List Deal → List Share → ℤ
realised_gain_sum [] us = pos 0
realised_gain_sum (d ∷ ds) us = realised_gain d us +ℤ realised_gain_sum ds (shares_after_deal us d)
