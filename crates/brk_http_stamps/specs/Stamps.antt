-- The stamp that a desk keeps of its replies. A last stamp is `None` before the first command.
use Rattle.std.specs.Prelude.{ℕ, ◌≤◌, List, [], ◌∷◌, Option, Some, None}
use Rattle.brk_model.specs.Commands.{Done, Again, Refused}
use Rattle.brk_model.specs.Run.{Outcome, Did, Saw, NoView, Failed}
use Rattle.brk_model_theorems.specs.Laws.{stamp_of_reply}

-- The stamp that is kept after a call with this outcome: that of the reply if a command was
-- accepted, otherwise `kept`, the stamp before. So it stays after a fault.
abbrev pub stamp_after_outcome : Option ℕ → Outcome → Option ℕ
stamp_after_outcome kept (Did (Done reply)) = Some (stamp_of_reply reply)
stamp_after_outcome kept (Did (Again line)) = kept
stamp_after_outcome kept (Did (Refused refusal)) = kept
stamp_after_outcome kept (Saw view) = kept
stamp_after_outcome kept (NoView refusal) = kept
stamp_after_outcome kept (Failed fault) = kept

-- The stamp that is kept after calls with these outcomes, in sequence.
abbrev pub stamp_after_outcomes : Option ℕ → List Outcome → Option ℕ
stamp_after_outcomes kept [] = kept
stamp_after_outcomes kept (outcome ∷ outcomes) = stamp_after_outcomes (stamp_after_outcome kept outcome) outcomes

-- The last stamp `found` is not before `kept`, that of the last reply: a desk with it may answer
-- after that reply. True of any if no stamp was kept.
abbrev pub IsNotBefore : Option ℕ → Option ℕ → Type 0
IsNotBefore found None = Unit {0}
IsNotBefore None (Some kept) = ⊥
IsNotBefore (Some found) (Some kept) = kept ≤ found
