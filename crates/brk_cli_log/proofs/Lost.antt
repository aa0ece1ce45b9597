-- A lost commit, behind the one frame that is the first that does not pass.
use Rattle.std.proofs.Common.{◌≡◌, ◌↔◌, ℕ, ◌+◌, ◌<◌, ◌≤◌, Bool, IsTrue, List, inl, inr, arith, length, subst}
use Rattle.std.proofs.lemmas.Bool.{cases_lt}
use Rattle.sqlite_wal.specs.Format.{IsSigned, be32}
use Rattle.sqlite_wal.specs.Recovery.{frame_at, header}
use Rattle.brk_cli_log.specs.Damage.{HasCommitsBehind, HasLostCommit, IsFirstInvalid}

-- `HasLostCommit` of a log with pages of this size.
abbrev HasLostCommitOf : ℕ → List ℕ → Type 0
HasLostCommitOf p log = IsSigned (header log) × ((k : ℕ) × IsFirstInvalid p log k × ((i : ℕ) × ((j : ℕ) × HasCommitsBehind p log k i j)))

-- Two commits behind `k`, of the first `count` frames.
abbrev pub HasPair : ℕ → List ℕ → ℕ → ℕ → Type 0
HasPair p log count k = (i : ℕ) × ((j : ℕ) × (j < count) × HasCommitsBehind p log k i j)

-- There is one first frame that does not pass.
same_first : (p : ℕ) (log : List ℕ) (k x : ℕ) → IsFirstInvalid p log k → IsFirstInvalid p log x → x ≡ k
same_first p log k x one other =
    elim (cases_lt x k) [
      | inl low ↦ absurd (other.here (one.before x low))
      | inr from_k ↦ elim (cases_lt k x) [
        | inl high ↦ absurd (one.here (other.before k high))
        | inr to_k ↦ omega (arith, from_k, to_k)
      ]
    ]

lost_of : (p : ℕ) (log : List ℕ) (k count : ℕ) (found : Bool) → IsSigned (header log) → IsFirstInvalid p log k
    → ((i : ℕ) → frame_at p i + (24 + p) ≤ length log → i < count) → (IsTrue found ↔ HasPair p log count k) → IsTrue found ↔ HasLostCommitOf p log
lost_of p log k count found signed first whole pair = (
  λ yes. let some = pair.0 yes in (signed, (k, first, (some.0, (some.1.0, some.1.2)))),
  λ lost.
      let commits = subst (λ (x : ℕ). HasCommitsBehind p log x lost.1.2.0 lost.1.2.1.0) (same_first p log k lost.1.0 first lost.1.1) lost.1.2.1.1 in
      let last = commits.chain lost.1.2.1.0 (omega (arith, commits.later)) (omega arith) in
      pair.1 (lost.1.2.0, (lost.1.2.1.0, whole lost.1.2.1.0 last.within, commits)),
)

pub lost_commit : (p : ℕ) (log : List ℕ) (k count : ℕ) (found : Bool) → p ≡ be32 log 8 → IsSigned (header log) → IsFirstInvalid p log k
    → ((i : ℕ) → frame_at p i + (24 + p) ≤ length log → i < count) → (IsTrue found ↔ HasPair p log count k) → IsTrue found ↔ HasLostCommit log
lost_commit p log k count found size signed first whole pair =
    subst (λ (x : ℕ). IsTrue found ↔ HasLostCommitOf x log) size (lost_of p log k count found signed first whole pair)
