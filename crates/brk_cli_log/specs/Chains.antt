-- The frames behind a frame that does not pass, read in order.
use Rattle.std.specs.Prelude.{◌⊎◌, ℕ, List, Option, None, Some, ◌+◌, ◌<◌, ◌≤◌}
use Rattle.sqlite_wal.specs.Recovery.{Passes}
use Rattle.brk_cli_log.specs.Damage.{BeginsCounted, Commits, HasCommitsBehind, IsShut}
use Rattle.brk_cli_log.specs.declared.behind.FrameKind.{FrameKind}
use Rattle.brk_cli_log.specs.declared.behind.FrameKind.TheVariants as kind

-- What the frame `n` is.
abbrev pub IsKind : ℕ → List ℕ → ℕ → FrameKind → Type 0
IsKind page_size log n kind.Broken = ¬ Passes page_size log n
IsKind page_size log n kind.Linked = Passes page_size log n × ¬ Commits page_size log n
IsKind page_size log n kind.Commit = Passes page_size log n × Commits page_size log n

-- The last frame with the mark of a commit, in the chain behind `k` that ends with the frame before
-- `n`, or none.
abbrev pub IsLastMark : ℕ → List ℕ → ℕ → ℕ → Option ℕ → Type 0
IsLastMark page_size log k n None =
    (i : ℕ) → k < i → i < n → ((m : ℕ) → i ≤ m → m < n → Passes page_size log m) → Commits page_size log i → ⊥
IsLastMark page_size log k n (Some i) =
    (k < i) × (i < n) × ((m : ℕ) → i ≤ m → m < n → Passes page_size log m) × Commits page_size log i
    × ((m : ℕ) → i < m → m < n → Commits page_size log m → ⊥)

-- The last mark after one frame more, `n`, of this kind.
abbrev pub mark_after : Option ℕ → FrameKind → ℕ → Option ℕ
mark_after mark kind.Broken n = None
mark_after mark kind.Linked n = mark
mark_after mark kind.Commit n = Some n

-- A frame of this kind has the mark of a commit behind that of the frame `mark`, which was synced
-- before it was written.
abbrev pub IsSecondCommit : ℕ → List ℕ → ℕ → Option ℕ → FrameKind → Type 0
IsSecondCommit page_size log k (Some i) kind.Commit = (¬ IsShut page_size log k) ⊎ BeginsCounted page_size log (i + 1)
IsSecondCommit page_size log k mark kind = ⊥

-- No frame before `n` ends a second commit behind `k`.
abbrev pub HasNoneBefore : ℕ → List ℕ → ℕ → ℕ → Type 0
HasNoneBefore page_size log k n = (i j : ℕ) → j < n → HasCommitsBehind page_size log k i j → ⊥
