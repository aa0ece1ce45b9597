use Rattle.std.proofs.Common.{◌≡◌, ℕ, zero, suc, ◌≤◌, ◌++◌, ◌∷◌, List, replicate, take, refl, ap, ◌∙◌, arith}
use Rattle.brk_report_lines.proofs.columns.append_spaces.Goals as goal

take_replicate : (n m : ℕ) → n ≤ m → take {A = ℕ} n (replicate m 32) ≡ replicate n 32
take_replicate zero m h = refl
take_replicate (suc n) zero h = absurd (omega (arith, h))
take_replicate (suc n) (suc m) h = ap (λ (l : List ℕ). 32 ∷ l) (take_replicate n m (omega (arith, h)))

pub returns : goal.returns
returns c = c.in_ok-extend_from_slice.ensures.items ∙ ap (λ (l : List ℕ). c.args.out.now.items ++ l) (take_replicate c.args.count 22 c.requires)
