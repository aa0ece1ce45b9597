-- The bytes of a log of SQLite: its header, and the frames that end a commit.
use Rattle.std.specs.Prelude.{◌≡◌, ◌≢◌, ◌⊎◌, ℕ, List, ◌+◌, ◌*◌, ◌≤◌, length}
use Rattle.sqlite_wal.specs.Format.{be32}

-- The bytes begin with the header and the magic number of a log of SQLite.
abbrev pub IsLog : List ℕ → Type 0
IsLog log = (32 ≤ length log) × ((be32 log 0 ≡ 0x377f_0682) ⊎ (be32 log 0 ≡ 0x377f_0683))

-- The log is the one that a creation writes before the first page of a database: for pages of 4,096
-- bytes, with a count of checkpoints that nothing else writes.
abbrev pub BeginsDatabase : List ℕ → Type 0
BeginsDatabase log = IsLog log × (be32 log 8 ≡ 4096) × (be32 log 12 ≡ 0xffff_ffff)

-- The frame at the offset `at` has the mark of a commit, the size of the database after it, and the
-- salt of the log's header.
abbrev pub HasCommitMarkAt : List ℕ → ℕ → Type 0
HasCommitMarkAt log at = (be32 log (at + 4) ≢ 0) × (be32 log (at + 8) ≡ be32 log 16) × (be32 log (at + 12) ≡ be32 log 20)

-- The offset of the frame `i` of the log, from 0.
abbrev pub frame_start : List ℕ → ℕ → ℕ
frame_start log i = 32 + i * (24 + be32 log 8)

-- The log has a whole frame with the mark of a commit.
abbrev pub HasCommit : List ℕ → Type 0
HasCommit log = IsLog log × ((i : ℕ) × (frame_start log (i + 1) ≤ length log) × HasCommitMarkAt log (frame_start log i))
