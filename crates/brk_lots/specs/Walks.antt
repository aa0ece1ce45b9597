-- Closing lot by lot, for the contracts of private helpers.
use Rattle.std.specs.Prelude.{◌≡◌, ℕ, ◌+◌, ◌*◌, ◌-◌, min, nat_eq, if◌then◌else◌, List, [], ◌∷◌, length, ℤ, pos}
use Rattle.std.specs.List.{flat_map}
use Rattle.std.specs.Ordering.{int_eq}
use Rattle.std.specs.Int.RustNames.{unsigned_abs}
use Rattle.brk_money.specs.Kinds.{is_same_side}
use Rattle.brk_money.specs.declared.side.Side.{Side}
use Rattle.brk_model.specs.Shares.{signed_by_side}
use Rattle.brk_lots.specs.declared.lot.Lot.{Lot}
use Rattle.brk_lots.specs.declared.lot.Touch.{Touch}
use Rattle.brk_lots.specs.Lots.{side_of_qty, shares_of_lots}

-- The number of shares that a trade of `q` shares on `side` closes of the lots, which have one
-- side: 0 if there is none or it is the trade's, otherwise the smaller of `q` and all their shares.
abbrev pub closed_share_count : Side → ℕ → List Lot → ℕ
closed_share_count side q [] = 0
closed_share_count side q (l ∷ ls) = if is_same_side (side_of_qty l.qty) side then 0 else min q (length (shares_of_lots (l ∷ ls)))

-- The lot changes that close the first `k` shares, or all if fewer: one for each lot that loses a
-- share, in sequence, with its signed quantity before and after. Supposes no lot of 0 shares.
abbrev pub touches_of_first_shares : ℕ → List Lot → List Touch
touches_of_first_shares k [] = []
touches_of_first_shares k (l ∷ ls) =
    if nat_eq k 0 then []
    else record { lot = l.trade; before = l.qty; after = signed_by_side (side_of_qty l.qty) (unsigned_abs l.qty - k) }
    ∷ touches_of_first_shares (k - unsigned_abs l.qty) ls

-- The opening value, in cents, of the first `k` shares of the lots, or of all if there are fewer.
abbrev pub cost_of_first_shares : ℕ → List Lot → ℕ
cost_of_first_shares k [] = 0
cost_of_first_shares k (l ∷ ls) = min k (unsigned_abs l.qty) * l.price + cost_of_first_shares (k - unsigned_abs l.qty) ls

-- `taken`, `over` and `cost` are the result of a trade of `qty` shares on `side` against the lots
-- `ls`, from the first on: the changes of the lots that it closes or reduces, in sequence, the part
-- of `qty` that closes no share, and the opening value of the closed shares, in cents. It closes
-- none if the lots have its side. Supposes that all lots have one side, and none has 0 shares.
pub record IsResultOfClosingLots (side : Side) (qty : ℕ) (ls : List Lot) (taken : List Touch) (over cost : ℕ) : Type 0 where
  pub left : over + closed_share_count side qty ls ≡ qty
  pub rows : taken ≡ touches_of_first_shares (closed_share_count side qty ls) ls
  pub shares : cost ≡ cost_of_first_shares (closed_share_count side qty ls) ls

-- The signed quantity of `l` after its first change in the list, or its quantity without one.
abbrev pub quantity_after_touches : List Touch → Lot → ℤ
quantity_after_touches [] l = l.qty
quantity_after_touches (t ∷ ts) l = if nat_eq t.lot l.trade then t.after else quantity_after_touches ts l

-- The lot `l` with the quantity `qty`, as a list of one element, or the empty list if `qty` is 0.
abbrev pub lot_with_nonzero_quantity : ℤ → Lot → List Lot
lot_with_nonzero_quantity qty l = if int_eq qty (pos 0) then [] else record { trade = l.trade; price = l.price; qty = qty; stamp = l.stamp } ∷ []

-- The lot `l` with its quantity after the changes `ts`, in a list, which is empty if that is 0.
abbrev pub rest_of_lot_after_touches : List Touch → Lot → List Lot
rest_of_lot_after_touches ts l = lot_with_nonzero_quantity (quantity_after_touches ts l) l

-- The lots `ls` with their quantities after the changes `ts`, without lots of quantity 0.
abbrev pub lots_after_touches : List Touch → List Lot → List Lot
lots_after_touches ts ls = flat_map (rest_of_lot_after_touches ts) ls
