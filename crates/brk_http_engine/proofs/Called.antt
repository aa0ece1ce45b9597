-- Calls of a desk in sequence, and their number.
use Rattle.std.proofs.Common.{◌≡◌, ℕ, ◌+◌, ◌≤◌, List, [], ◌∷◌, ◌++◌, length, refl, arith, subst, sym, ap, ◌∙◌}
use Rattle.std.proofs.lemmas.List.{length-append}
use Rattle.brk_io.proofs.Calls.{made_then}
use Rattle.brk_model_http.specs.Asked.{RequestDemand, ResponseOnly, DeskCall}
use Rattle.brk_model_http.specs.Replies.{Response}
use Rattle.brk_model_http.specs.Stream.{CallRelation, IsResponseToDemand, TakesClockReadings}
use Rattle.brk_io.specs.Calls.{IsCallSequence}
use Rattle.brk_io.specs.Moments.{ClockReturnsMomentsInSequence}
use Rattle.brk_model.specs.Run.{Ask, Call, Do, Outcome}
use Rattle.brk_http_engine.specs.Promises.{CallWithClock, ChangesOnlyByCalls, ReadsClockForCall, ReadsClockForCalls}

at_most_both : {A : Type 0} (n m : ℕ) (xs ys : List A) → length xs ≤ n → length ys ≤ m → length (xs ++ ys) ≤ n + m
at_most_both n m xs ys few fewer = omega (arith, length-append xs ys)

module _ {D : Type 0} (acts : CallRelation D) where
  pub called_then : (n m : ℕ) (first mid last : D) → ChangesOnlyByCalls acts n first mid → ChangesOnlyByCalls acts m mid last → ChangesOnlyByCalls acts (n + m) first last
  called_then n m first mid last (calls, outcomes, made, few) (others, more, after, fewer) =
      (calls ++ others, outcomes ++ more, made_then acts first mid last calls others outcomes more made after, at_most_both n m calls others few fewer)

  pub at_most : (n m : ℕ) (first last : D) → n ≤ m → ChangesOnlyByCalls acts n first last → ChangesOnlyByCalls acts m first last
  at_most n m first last less (calls, outcomes, made, few) = (calls, outcomes, made, omega (arith, less, few))

  -- no call
  pub not_called : (n : ℕ) (old new : D) → new ≡ old → ChangesOnlyByCalls acts n old new
  not_called n old new same = ([], [], same, omega arith)

module _ {D C : Type 0} (acts : CallRelation D) (gives : C → ℕ → C → Type 0) where
  abbrev Clocked : CallRelation (D × C)
  Clocked = CallWithClock acts gives

  no_reading : (clock later : C) (taken : List ℕ) → taken ≡ [] → ClockReturnsMomentsInSequence gives clock taken later → later ≡ clock
  no_reading clock later taken is h = subst (λ (ms : List ℕ). ClockReturnsMomentsInSequence gives clock ms later) is h

  reads : (call : Call) (now : ℕ) (clock later : C) (taken : List ℕ) → TakesClockReadings call now taken → ClockReturnsMomentsInSequence gives clock taken later
      → ReadsClockForCall gives clock now call later
  reads (Do command key) now clock later taken is h =
      let r = subst (λ (ms : List ℕ). ClockReturnsMomentsInSequence gives clock ms later) is h in subst (λ (c : C). gives clock now c) (sym r.2) r.1
  reads (Ask query) now clock later taken is h = no_reading clock later taken is h

  -- a request is one call, or none
  pub responds_called : (asked : RequestDemand) (old new : D) (clock later : C) (taken : List ℕ) (response : Response) → ClockReturnsMomentsInSequence gives clock taken later
      → IsResponseToDemand acts asked old taken response new → ChangesOnlyByCalls Clocked 1 (old, clock) (new, later)
  responds_called (ResponseOnly said) old new clock later taken response read (is, none, same) =
      not_called Clocked 1 (old, clock) (new, later) (ap (λ (d : D). (d, later)) same ∙ ap (λ (c : C). (old, c)) (no_reading clock later taken none read))
  responds_called (DeskCall call) old new clock later taken response read (now, outcome, is, took, acted) =
      ((now, call) ∷ [], outcome ∷ [], ((new, later), (acted, reads call now clock later taken took read), refl), omega arith)

  -- calls of a desk with a clock are calls of the desk, which read the clock
  pub without_clock : (old new : D × C) (calls : List (ℕ × Call)) (outcomes : List Outcome) → IsCallSequence Clocked old calls outcomes new
      → IsCallSequence acts old.0 calls outcomes new.0 × ReadsClockForCalls gives old.1 calls new.1
  without_clock old new [] [] same = (ap (λ (s : D × C). s.0) same, ap (λ (s : D × C). s.1) same)
  without_clock old new (call ∷ calls) (outcome ∷ outcomes) (mid, acted, more) =
      let r = without_clock mid new calls outcomes more in ((mid.0, acted.0, r.0), (mid.1, acted.1, r.1))
  without_clock old new [] (outcome ∷ outcomes) made = absurd made
  without_clock old new (call ∷ calls) [] made = absurd made
