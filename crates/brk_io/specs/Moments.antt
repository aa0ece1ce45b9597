-- The readings of a clock.
use Rattle.std.specs.Prelude.{◌≡◌, ◌⊎◌, ℕ, List, [], ◌∷◌}

-- The clock changed from `old` to `new` by exactly one reading for each of `moments`, in sequence;
-- `gives` relates clock, timestamp and the clock after it. Without timestamps `new` equals `old`.
abbrev pub ClockReturnsMomentsInSequence : {C : Type 0} → (C → ℕ → C → Type 0) → C → List ℕ → C → Type 0
ClockReturnsMomentsInSequence gives old [] new = new ≡ old
ClockReturnsMomentsInSequence {C} gives old (moment ∷ moments) new = (mid : C) × gives old moment mid × ClockReturnsMomentsInSequence gives mid moments new

-- The clock was read at most once: `new` is `old`, or `gives` relates `old`, a timestamp and `new`.
abbrev pub ReadsClockAtMostOnce : {C : Type 0} → (C → ℕ → C → Type 0) → C → C → Type 0
ReadsClockAtMostOnce gives old new = (new ≡ old) ⊎ ((moment : ℕ) × gives old moment new)
