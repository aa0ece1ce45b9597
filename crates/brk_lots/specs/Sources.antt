-- The lots that remain in a source.
use Rattle.std.specs.Prelude.{◌≡◌, ◌+◌, ◌≤◌, ◌⊎◌, ℕ, Bool, List, Result, IfErr, OnOk, drop}
use Rattle.brk_money.specs.declared.fault.Fault.{Fault}
use Rattle.brk_lots.specs.declared.lot.Lot.{Lot}
use Rattle.brk_lots.specs.Lots.{list_reversed_if_lifo}
use Rattle.brk_lots.specs.Position.{IsPositionInAnyOrder}

-- The source still yields exactly `ls` (`remaining`), and its disk assumption (`told`) holds.
abbrev pub AreLotsOfFaithfulSource : Type 0 → (List Lot → Type 0) → List Lot → Type 0
AreLotsOfFaithfulSource told remaining ls = told × remaining ls

-- The lots `ls` form a position, in any order, and a source yields them from one end: `given`,
-- which relates the source to its lots, holds of the list `ls`, reversed if `lifo` is true.
abbrev pub YieldsPosition : (List Lot → Type 0) → Bool → List Lot → Type 0
YieldsPosition given lifo ls = given (list_reversed_if_lifo lifo ls) × IsPositionInAnyOrder ls

-- The list `ls` equals the list `lots`.
abbrev pub EqualsLots : List Lot → List Lot → Type 0
EqualsLots lots ls = ls ≡ lots

-- What a call over a source of lots does to the source: `before` and `after` are its states. The
-- call requests at most `most` lots, and `IsOwn` holds of the faults that are not the source's.
pub record RequestsLots {Source R : Type 0} (CanLead : Source → Source → Type 0) (reads_faithfully : Source → Type 0) (Remain : Source → List Lot → Type 0)
    (asked faults : Source → ℕ) (Fails : Source → Fault → Source → Type 0) (IsOwn : Fault → Type 0) (most : ℕ) (before after : Source)
    (result : Result R Fault) : Type 0 where
  -- The source is in a state to which its calls can lead.
  pub leads : CanLead before after
  -- Also if the call fails, it requested at most `most` lots.
  pub requests : asked after ≤ asked before + most
  -- At `Ok` the source counted no fault.
  pub faulted : OnOk result (faults after ≡ faults before)
  -- A fault is the call's own, or of a call of the source, which it left as it is.
  pub fault : IfErr result (λ fault. IsOwn fault ⊎ ((earlier : Source) × Fails earlier fault after))
  -- The lots that the call did not take remain in the source, also if it fails.
  pub remaining : (ls : List Lot) → AreLotsOfFaithfulSource (reads_faithfully after) (Remain before) ls → (n : ℕ) × Remain after (drop n ls)
