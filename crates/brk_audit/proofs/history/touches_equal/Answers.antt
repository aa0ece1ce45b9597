use Rattle.std.proofs.Common.{◌≡◌, ℕ, zero, suc, ◌<◌, List, [], ◌∷◌, length, get_or, map, ap, sym, ◌∙◌, arith}
use Rattle.std.specs.Prelude.{IsTrue}
use Rattle.brk_ref.specs.Rows.{abstract_lot_change_row}
use Rattle.brk_lots.specs.Chains.{abstract_deal_touch}
use Rattle.brk_audit.proofs.history.touches_equal.Goals as goal

-- equal lists are equal at each place
same_at : {X Y Z : Type 0} (f : X → Z) (g : Y → Z) (xs : List X) (ys : List Y) (i : ℕ) (x : X) (y : Y) → map f xs ≡ map g ys → i < length xs → x ≡ get_or xs i x → y ≡ get_or ys i y → f x ≡ g y
same_at f g [] ys i x y e h p q = absurd (omega arith)
same_at f g (v ∷ xs) [] i x y e h p q = cc
same_at f g (v ∷ xs) (w ∷ ys) zero x y e h p q = let k : f v ≡ g w = cc in ap f p ∙ k ∙ ap g (sym q)
same_at f g (v ∷ xs) (w ∷ ys) (suc i) x y e h p q = let k : map f xs ≡ map g ys = cc in same_at f g xs ys i x y k (omega (arith, h)) p q

pub returns-then-not-touch_equals : goal.returns-then-not-touch_equals
returns-then-not-touch_equals c = (
  (λ t. absurd (cc)),
  (λ e.
      let t : IsTrue c.touch_equals.result =
      c.touch_equals.ensures.1
      (same_at abstract_deal_touch abstract_lot_change_row c.args.touches.now c.args.rows.now c.loop-i.i c.index-touches-i.result c.index-rows-i.result e
      (omega arith) c.index-touches-i.is c.index-rows-i.is) in
      rw c.if-not-touch_equals.true at t),
)
