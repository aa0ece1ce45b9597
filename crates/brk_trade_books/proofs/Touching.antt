-- The changes that a deal makes to a position, trade by trade.
use Rattle.std.proofs.Common.{◌≡◌, ℕ, ◌==◌, zero, suc, Bool, true, false, not, cond, List, [], ◌∷◌, refl, sym, ◌∙◌, ap, length, map, filter, arith, pos, ◌-ℤ◌}
use Rattle.std.specs.List.{AllByRecursion}
use Rattle.brk_money.specs.Spelling.{Text}
use Rattle.brk_money.specs.declared.side.Side.{Side}
use Rattle.brk_money.specs.declared.side.Side.TheVariants.{Buy, Sell}
use Rattle.brk_model.specs.Lists.{is_zero, total_by}
use Rattle.brk_model.specs.Records.{Trade}
use Rattle.brk_model.specs.Base.{Base, completed_trades}
use Rattle.brk_model.specs.Derived.{deals_of_position, shares_of_position}
use Rattle.brk_model.specs.Shares.{Deal, Share, Touch, first_shares_of_lots, changes_lot_quantity, lot_quantity, net_share_count, shares_opened_by_trade}
use Rattle.brk_model.specs.Shares.{shares_after_deal, signed_by_side, touch_of_lot_with_share, touches_of_existing_lots, touch_of_lot}
use Rattle.brk_model.specs.Sheets.{sheets}
use Rattle.brk_lots.specs.Lots.{share_of_lot}
use Rattle.brk_lots.specs.declared.lot.Lot.{Lot}
use Rattle.brk_lots.proofs.Books.{sides_after}
use Rattle.brk_lots.proofs.Changes.{all_filter, firsts_walk}
use Rattle.brk_lots.proofs.Counts.{OneSide, net_of}
use Rattle.brk_lots.proofs.Deals.{all_after}
use Rattle.brk_lots.proofs.Ends.{walk_of}
use Rattle.brk_trade_books.specs.Books.{BooksInvariant}
use Rattle.brk_trade_books.specs.TradeReads.{lots_of_position}
use Rattle.brk_trade_books.proofs.LotOrder.{lot_upon, lots_left, lots_read, position_read, shares_read, trades_held}

-- ---- lots without shares

-- a trade opened none of the shares
abbrev pub Without : ℕ → List Share → Type 0
Without id shares = AllByRecursion (λ s. (s.trade == id) ≡ false) shares

none_opened : (id : ℕ) (shares : List Share) → Without id shares → shares_opened_by_trade id shares ≡ []
none_opened id [] w = refl
none_opened id (s ∷ shares) w = rw w.0 (none_opened id shares w.1)

pub lot_without : (id : ℕ) (shares : List Share) → Without id shares → lot_quantity shares id ≡ pos 0
unfolding total_by
lot_without id shares w = ap net_share_count (none_opened id shares w)

no_length : (id : ℕ) (shares : List Share) → length (shares_opened_by_trade id shares) ≡ 0 → Without id shares
no_length id [] e = tt
no_length id (s ∷ shares) e = by_test (s.trade == id) refl (no_length id shares) e
  where
    by_test : (b : Bool) → (s.trade == id) ≡ b → (length (shares_opened_by_trade id shares) ≡ 0 → Without id shares)
        → length (cond b (s ∷ shares_opened_by_trade id shares) (shares_opened_by_trade id shares)) ≡ 0 → Without id (s ∷ shares)
    by_test true f ih k = let h : length (s ∷ shares_opened_by_trade id shares) ≡ 0 = k in absurd (omega (arith, h))
    by_test false f ih k = (f, ih k)

signed_zero : (side : Side) (n : ℕ) → is_zero (signed_by_side side n) ≡ true → n ≡ 0
signed_zero Buy zero e = refl
signed_zero Buy (suc n) e = absurd (cc)
signed_zero Sell zero e = refl
signed_zero Sell (suc n) e = absurd (cc)

-- a lot of 0 has no shares, where all shares have one side
pub without_of : (side : Side) (id : ℕ) (shares : List Share) → OneSide side shares → is_zero (lot_quantity shares id) ≡ true → Without id shares
without_of side id shares one e =
    let k : net_share_count (shares_opened_by_trade id shares) ≡ signed_by_side side (length (shares_opened_by_trade id shares)) =
    net_of side (shares_opened_by_trade id shares) (all_filter (λ s. s.side ≡ side) (λ s. s.trade == id) shares one) in
    no_length id shares (signed_zero side (length (shares_opened_by_trade id shares)) (sym (ap is_zero k) ∙ e))

-- a lot without shares stays so
pub unchanged : (id : ℕ) (d : Deal) (shares : List Share) → (d.trade == id) ≡ false → Without id shares → changes_lot_quantity (touch_of_lot id d shares) ≡ false
unchanged id d shares e w =
    let before : lot_quantity shares id ≡ pos 0 = lot_without id shares w in
    let after : lot_quantity (shares_after_deal shares d) id ≡ pos 0 = lot_without id (shares_after_deal shares d) (all_after (λ s. (s.trade == id) ≡ false) d shares e w) in
    λ i. not (is_zero (before i -ℤ after i))

pub one_side : (base : Base) (account : ℕ) (symbol : Text) → (side : Side) × OneSide side (shares_of_position (completed_trades base) account symbol)
unfolding shares_of_position
one_side base account symbol = sides_after Buy (deals_of_position (completed_trades base) account symbol) [] tt

-- so a lot of 0 does
pub zero_unchanged : (base : Base) (account : ℕ) (symbol : Text) (d : Deal) (id : ℕ) → (d.trade == id) ≡ false
    → is_zero (lot_quantity (shares_of_position (completed_trades base) account symbol) id) ≡ true
    → changes_lot_quantity (touch_of_lot id d (shares_of_position (completed_trades base) account symbol)) ≡ false
zero_unchanged base account symbol d id e z =
    let s = one_side base account symbol in
    unchanged id d (shares_of_position (completed_trades base) account symbol) e (without_of s.0 id (shares_of_position (completed_trades base) account symbol) s.1 z)

-- ---- the lots that a deal touches, by the trades that opened them

touched_by : (base : Base) (account : ℕ) (symbol : Text) (d : Deal) (ts : List Trade) → AllByRecursion (λ t. (d.trade == t.id) ≡ false) ts
    → filter changes_lot_quantity
    (map (touch_of_lot_with_share d (shares_of_position (completed_trades base) account symbol))
    (map share_of_lot (lots_left (shares_of_position (completed_trades base) account symbol) ts)))
    ≡ filter changes_lot_quantity (map (λ t. touch_of_lot t.id d (shares_of_position (completed_trades base) account symbol)) ts)
touched_by base account symbol d [] h = refl
touched_by base account symbol d (t ∷ ts) h = by_test (is_zero (lot_quantity S t.id)) refl (touched_by base account symbol d ts h.1)
  where
    S : List Share
    S = shares_of_position (completed_trades base) account symbol

    F : List Lot → List Touch
    F ls = filter changes_lot_quantity (map (touch_of_lot_with_share d S) (map share_of_lot ls))

    R : List Touch
    R = filter changes_lot_quantity (map (λ t. touch_of_lot t.id d S) ts)

    touch : Touch
    touch = touch_of_lot t.id d S

    by_test : (b : Bool) → is_zero (lot_quantity S t.id) ≡ b → F (lots_left S ts) ≡ R
        → F (cond (not b) (lot_upon S t ∷ lots_left S ts) (lots_left S ts)) ≡ cond (changes_lot_quantity touch) (touch ∷ R) R
    by_test true e ih = ih ∙ sym (ap (λ c. cond c (touch ∷ R) R) (zero_unchanged base account symbol d t.id h.0 e))
    by_test false e ih = ap (λ rows. cond (changes_lot_quantity touch) (touch ∷ rows) rows) ih

pub touches_read : (base : Base) (account : ℕ) (symbol : Text) (d : Deal) → BooksInvariant base → AllByRecursion (λ t. (d.trade == t.id) ≡ false) (trades_held base account symbol)
    → touches_of_existing_lots d (shares_of_position (completed_trades base) account symbol)
    ≡ filter changes_lot_quantity
    (map (λ t. touch_of_lot t.id d (shares_of_position (completed_trades base) account symbol)) (trades_held base account symbol))
unfolding touches_of_existing_lots
touches_read base account symbol d books h =
    let S : List Share = shares_of_position (completed_trades base) account symbol in
    let ls : List Lot = lots_of_position (sheets base) account symbol in
    ap (λ us. filter changes_lot_quantity (map (touch_of_lot_with_share d S) us))
    (ap first_shares_of_lots (sym (shares_read base account symbol books)) ∙ firsts_walk ls (walk_of ls (position_read base account symbol books))
    ∙ ap (map share_of_lot) (lots_read base account symbol books))
    ∙ touched_by base account symbol d (trades_held base account symbol) h
