-- Two sequences of calls, joined to one.
use Rattle.std.proofs.Common.{ℕ, List, [], ◌∷◌, ◌++◌, subst}
use Rattle.brk_io.specs.Calls.{IsCallSequence}

-- these and then those
pub made_then : {D X O : Type 0} (acts : D → ℕ → X → O → D → Type 0) (first mid last : D) (calls others : List (ℕ × X)) (outcomes more : List O)
    → IsCallSequence acts first calls outcomes mid → IsCallSequence acts mid others more last → IsCallSequence acts first (calls ++ others) (outcomes ++ more) last
made_then acts first mid last [] others [] more same after = subst (λ d. IsCallSequence acts d others more last) same after
made_then acts first mid last (c ∷ cs) others (o ∷ os) more (next, acted, made) after = (next, acted, made_then acts next mid last cs others os more made after)
made_then acts first mid last [] others (o ∷ os) more made after = absurd made
made_then acts first mid last (c ∷ cs) others [] more made after = absurd made
