-- The calls of a desk by an engine, which executes the rows of a batch or of a stream.
use Rattle.std.specs.Prelude.{◌≡◌, ℕ, List, [], ◌∷◌}

-- The desk changed from `old` to `new` by exactly the calls `calls`, in sequence, each a clock
-- reading and what is called at it: `acts` relates the desk before, the reading, what is called,
-- the outcome (of `outcomes`) and the desk after. Without calls `new` equals `old`. False if the
-- numbers of calls and outcomes differ.
abbrev pub IsCallSequence : {D X O : Type 0} → (D → ℕ → X → O → D → Type 0) → D → List (ℕ × X) → List O → D → Type 0
IsCallSequence acts old [] [] new = new ≡ old
IsCallSequence {D} acts old (made ∷ calls) (outcome ∷ outcomes) new =
    (mid : D) × acts old made.0 made.1 outcome mid × IsCallSequence acts mid calls outcomes new
IsCallSequence acts old [] (outcome ∷ outcomes) new = ⊥
IsCallSequence acts old (made ∷ calls) [] new = ⊥
