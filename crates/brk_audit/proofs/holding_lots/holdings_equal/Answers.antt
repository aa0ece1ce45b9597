use Rattle.std.proofs.Common.{◌≡◌, ℕ, zero, suc, ◌<◌, List, [], ◌∷◌, length, get_or, map, ap, sym, ◌∙◌, arith}
use Rattle.std.specs.Prelude.{IsTrue}
use Rattle.brk_ref.specs.Rows.{abstract_holding_row}
use Rattle.brk_audit.proofs.holding_lots.holdings_equal.Goals as goal

-- equal lists are equal at each place
same_at : {X Y : Type 0} (f : X → Y) (xs ys : List X) (i : ℕ) (x y : X) → map f xs ≡ map f ys → i < length xs → x ≡ get_or xs i x → y ≡ get_or ys i y → f x ≡ f y
same_at f [] ys i x y e h p q = absurd (omega arith)
same_at f (v ∷ xs) [] i x y e h p q = cc
same_at f (v ∷ xs) (w ∷ ys) zero x y e h p q = let k : f v ≡ f w = cc in ap f p ∙ k ∙ ap f (sym q)
same_at f (v ∷ xs) (w ∷ ys) (suc i) x y e h p q = let k : map f xs ≡ map f ys = cc in same_at f xs ys i x y k (omega (arith, h)) p q

pub returns-then-not-holding_equals : goal.returns-then-not-holding_equals
returns-then-not-holding_equals c = (
  (λ t. absurd (cc)),
  (λ e.
      let t : IsTrue c.holding_equals.result =
      c.holding_equals.ensures.1
      (same_at abstract_holding_row c.args.rows.now c.args.others.now c.loop-i.i c.index-rows-i.result c.index-others-i.result e (omega arith)
      c.index-rows-i.is c.index-others-i.is) in
      rw c.if-not-holding_equals.true at t),
)
