-- The last mark of a commit in a chain, and two marks, after one frame more.
use Rattle.std.proofs.Common.{◌≡◌, ◌⊎◌, ℕ, ◌+◌, ◌<◌, List, Option, None, Some, inl, inr, arith, sym, subst}
use Rattle.std.proofs.lemmas.Bool.{cases_lt}
use Rattle.sqlite_wal.specs.Recovery.{Passes}
use Rattle.brk_cli_log.specs.Chains.{HasNoneBefore, IsKind, IsLastMark, IsSecondCommit, mark_after}
use Rattle.brk_cli_log.specs.Damage.{BeginsCounted, Commits, HasCommitsBehind, IsShut}
use Rattle.brk_cli_log.specs.declared.behind.FrameKind.{FrameKind}
use Rattle.brk_cli_log.specs.declared.behind.FrameKind.TheVariants.{Broken, Commit, Linked}

-- A number below n + 1 is below n, or n.
below_or_here : (i n : ℕ) → i < n + 1 → (i < n) ⊎ (i ≡ n)
below_or_here i n h = elim (cases_lt i n) [ inl low ↦ inl low | inr high ↦ inr (omega (arith, h, high)) ]

pub first_mark : (page_size : ℕ) (log : List ℕ) (k : ℕ) → IsLastMark page_size log k (k + 1) None
first_mark page_size log k i behind before chain commits = absurd (omega (arith, behind, before))

pub none_at_first : (page_size : ℕ) (log : List ℕ) (k : ℕ) → HasNoneBefore page_size log k (k + 1)
none_at_first page_size log k i j before pair = absurd (omega (arith, before, pair.behind, pair.later))

-- The last mark stays if the next frame passes and has none.
linked_mark : (page_size : ℕ) (log : List ℕ) (k n : ℕ) (mark : Option ℕ) → Passes page_size log n → ¬ Commits page_size log n
    → IsLastMark page_size log k n mark → IsLastMark page_size log k (n + 1) mark
linked_mark page_size log k n None passes quiet last = λ i behind before chain commits.
    elim (below_or_here i n before) [
      | inl low ↦ last i behind low (λ m from to. chain m from (omega (arith, to))) commits
      | inr here ↦ quiet (subst (λ (x : ℕ). Commits page_size log x) here commits)
    ]
linked_mark page_size log k n (Some i) passes quiet last = (
  last.0,
  omega (arith, last.1),
  λ m from to. elim (below_or_here m n to) [
    | inl low ↦ last.2 m from low
    | inr here ↦ subst (λ (x : ℕ). Passes page_size log x) (sym here) passes
  ],
  last.3,
  λ m from to commits. elim (below_or_here m n to) [
    | inl low ↦ last.4 m from low commits
    | inr here ↦ quiet (subst (λ (x : ℕ). Commits page_size log x) here commits)
  ],
)

pub next_mark : (page_size : ℕ) (log : List ℕ) (k n : ℕ) (mark : Option ℕ) (kind : FrameKind) → k < n → IsKind page_size log n kind
    → IsLastMark page_size log k n mark → IsLastMark page_size log k (n + 1) (mark_after mark kind n)
next_mark page_size log k n mark Broken behind is last = λ i after before chain commits.
    is (chain n (omega (arith, before)) (omega arith))
next_mark page_size log k n mark Linked behind is last = linked_mark page_size log k n mark is.0 is.1 last
next_mark page_size log k n mark Commit behind is last = (
  behind,
  omega arith,
  λ m from to. let here : m ≡ n = omega (arith, from, to) in subst (λ (x : ℕ). Passes page_size log x) (sym here) is.0,
  is.1,
  λ m from to commits. absurd (omega (arith, from, to)),
)

pub found_pair : (page_size : ℕ) (log : List ℕ) (k n : ℕ) (mark : Option ℕ) (kind : FrameKind) → IsKind page_size log n kind
    → IsLastMark page_size log k n mark → IsSecondCommit page_size log k mark kind → (i : ℕ) × HasCommitsBehind page_size log k i n
found_pair page_size log k n (Some i) Commit is last second = (
  i,
  record {
    behind = last.0;
    later = last.1;
    chain = λ m from to. elim (below_or_here m n (omega (arith, to))) [
      | inl low ↦ last.2 m from low
      | inr here ↦ subst (λ (x : ℕ). Passes page_size log x) (sym here) is.0
    ];
    first = last.3;
    second = is.1;
    synced = second;
  },
)
found_pair page_size log k n None Commit is last second = absurd second
found_pair page_size log k n (Some i) Broken is last second = absurd second
found_pair page_size log k n None Broken is last second = absurd second
found_pair page_size log k n (Some i) Linked is last second = absurd second
found_pair page_size log k n None Linked is last second = absurd second

-- The frame n, which has a mark, is the second of no pair, if the last mark was not synced before it.
no_pair_at : (page_size : ℕ) (log : List ℕ) (k n : ℕ) (mark : Option ℕ) → IsLastMark page_size log k n mark → HasNoneBefore page_size log k n
    → ¬ IsSecondCommit page_size log k mark Commit → (i : ℕ) → HasCommitsBehind page_size log k i n → ⊥
no_pair_at page_size log k n None last none single i pair =
    last i pair.behind pair.later (λ m from to. pair.chain m from (omega (arith, to))) pair.first
no_pair_at page_size log k n (Some m) last none single i pair =
    elim (cases_lt i m) [
      | inl before ↦ none i m last.1 (record {
        behind = pair.behind;
        later = before;
        chain = λ x from to. pair.chain x from (omega (arith, to, last.1));
        first = pair.first;
        second = last.3;
        synced = pair.synced;
      })
      | inr from_here ↦ elim (cases_lt m i) [
        | inl after ↦ last.4 i after pair.later pair.first
        | inr to_here ↦
            let here : i ≡ m = omega (arith, from_here, to_here) in
            single (subst (λ (x : ℕ). (¬ IsShut page_size log k) ⊎ BeginsCounted page_size log (x + 1)) here pair.synced)
      ]
    ]

at_kind : (page_size : ℕ) (log : List ℕ) (k n : ℕ) (mark : Option ℕ) (kind : FrameKind) → IsKind page_size log n kind
    → IsLastMark page_size log k n mark → HasNoneBefore page_size log k n → ¬ IsSecondCommit page_size log k mark kind
    → (i : ℕ) → HasCommitsBehind page_size log k i n → ⊥
at_kind page_size log k n mark Broken is last none single i pair = is (pair.chain n (omega (arith, pair.later)) (omega arith))
at_kind page_size log k n mark Linked is last none single i pair = is.1 pair.second
at_kind page_size log k n mark Commit is last none single i pair = no_pair_at page_size log k n mark last none single i pair

-- One frame more is no second commit, and none before it is.
pub none_more : (page_size : ℕ) (log : List ℕ) (k n : ℕ) (mark : Option ℕ) (kind : FrameKind) → IsKind page_size log n kind
    → IsLastMark page_size log k n mark → HasNoneBefore page_size log k n → ¬ IsSecondCommit page_size log k mark kind
    → HasNoneBefore page_size log k (n + 1)
none_more page_size log k n mark kind is last none single i j before pair =
    elim (below_or_here j n before) [
      | inl low ↦ none i j low pair
      | inr here ↦ at_kind page_size log k n mark kind is last none single i (subst (λ (x : ℕ). HasCommitsBehind page_size log k i x) here pair)
    ]
