-- A log that no crash leaves. The kit's definitions say which frames pass: those that have the salts
-- of the header, and whose sum goes on from the sum that is stored in the frame before.
use Rattle.std.specs.Prelude.{◌≡◌, ◌≢◌, ◌⊎◌, ℕ, List, ◌+◌, ◌<◌, ◌≤◌, ◌==◌, if◌then◌else◌, length, slice_index}
use Rattle.sqlite_wal.specs.Format.{IsSigned, be32, commit_size, count_page, page_number}
use Rattle.sqlite_wal.specs.Recovery.{Passes, frame, frame_at, header}
use Rattle.brk_cli_log.specs.Commits.{HasCommit}
use Rattle.brk_cli_log.specs.declared.reading.LogReading.{LogReading}
use Rattle.brk_cli_log.specs.declared.reading.LogReading.TheVariants as reading

-- The header's own sum is wrong, and its first byte is not the 0 that marks a log that is being
-- emptied. The kit writes that byte back only after it has synced the rest of the header.
abbrev pub HasBrokenHeader : List ℕ → Type 0
HasBrokenHeader log = (slice_index log 0 ≢ 0) × ¬ IsSigned (header log)

-- The frame `k` is the first one that does not pass. A frame that the log does not have whole does
-- not pass.
pub record IsFirstInvalid (page_size : ℕ) (log : List ℕ) (k : ℕ) : Type 0 where
  pub before : (i : ℕ) → i < k → Passes page_size log i
  pub here : ¬ Passes page_size log k

-- The first byte of the salt of the frame `k` is the one that keeps a transaction from being read
-- before it is committed: 0, or 1 if the salt of the header begins with 0.
abbrev pub IsShut : ℕ → List ℕ → ℕ → Type 0
IsShut page_size log k = slice_index log (frame_at page_size k + 8) ≡ (if slice_index log 16 == 0 then 1 else 0)

-- The frames from `i` to `j` pass: one chain.
abbrev pub IsChain : ℕ → List ℕ → ℕ → ℕ → Type 0
IsChain page_size log i j = (m : ℕ) → i ≤ m → m ≤ j → Passes page_size log m

-- The frame `i` has the mark of a commit.
abbrev pub Commits : ℕ → List ℕ → ℕ → Type 0
Commits page_size log i = commit_size (frame page_size log i) ≢ 0

-- The frame `i` begins a commit of the kind that is only written behind one that was synced.
abbrev pub BeginsCounted : ℕ → List ℕ → ℕ → Type 0
BeginsCounted page_size log i = page_number (frame page_size log i) ≡ count_page

-- Behind the frame `k` two frames of one chain, `i` and `j`, have the mark of a commit. A transaction
-- that was written in parts, and not committed, has more than one mark too: it begins at a frame that
-- is shut, and no part of it begins as a counted commit does.
pub record HasCommitsBehind (page_size : ℕ) (log : List ℕ) (k i j : ℕ) : Type 0 where
  pub behind : k < i
  pub later : i < j
  pub chain : IsChain page_size log i j
  pub first : Commits page_size log i
  pub second : Commits page_size log j
  pub synced : (¬ IsShut page_size log k) ⊎ BeginsCounted page_size log (i + 1)

-- Behind the first frame that does not pass there is a commit that was synced before another one was
-- written: each commit is synced before the next one begins, so a crash leaves at most one behind
-- such a frame.
abbrev pub HasLostCommit : List ℕ → Type 0
HasLostCommit log =
    IsSigned (header log)
    × ((k : ℕ) × IsFirstInvalid (be32 log 8) log k × ((i : ℕ) × ((j : ℕ) × HasCommitsBehind (be32 log 8) log k i j)))

-- The log is damaged. One of at most 41 bytes has no frame.
abbrev pub IsDamaged : List ℕ → Type 0
IsDamaged log = (41 < length log) × (HasBrokenHeader log ⊎ HasLostCommit log)

-- What the reading says of the log.
abbrev pub IsReadingOf : List ℕ → LogReading → Type 0
IsReadingOf log reading.Damaged = IsDamaged log
IsReadingOf log reading.WithCommit = (¬ IsDamaged log) × HasCommit log
IsReadingOf log reading.WithoutCommit = (¬ IsDamaged log) × ¬ HasCommit log
