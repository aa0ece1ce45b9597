-- Files that a database may be opened or made over: `file` has the bytes of the file, at most the
-- first 4,097, and `log` those of its log.
use Rattle.std.specs.Prelude.{◌≡◌, ◌⊎◌, ℕ, List, [], ◌∷◌, ◌++◌, ◌≤◌, codes, length, slice_index, take}
use Rattle.brk_cli_log.specs.Commits.{BeginsDatabase, HasCommit}
use Rattle.brk_cli_log.specs.Damage.{IsDamaged}

-- The bytes begin as an SQLite database does.
abbrev pub BeginsAsDatabase : List ℕ → Type 0
BeginsAsDatabase file = take 16 file ≡ codes "SQLite format 3" ++ 0 ∷ []

-- The bytes have the header of an SQLite database, and are as many as its smallest page has.
abbrev pub HasDatabaseHeader : List ℕ → Type 0
HasDatabaseHeader file = (512 ≤ length file) × BeginsAsDatabase file

-- The file is what a creation that was stopped may leave beside its log: any one byte, or a part of
-- the first page that begins with a byte 0.
abbrev pub IsPartOfFirstPage : List ℕ → Type 0
IsPartOfFirstPage file = (length file ≡ 1) ⊎ ((slice_index file 0 ≡ 0) × (length file ≤ 4096))

-- No database was made yet: the file is empty or one byte 0, or it is what a creation that was
-- stopped left beside its log.
abbrev pub IsUnfinished : List ℕ → List ℕ → Type 0
IsUnfinished file log =
    (length file ≡ 0) ⊎ ((length file ≡ 1) × (slice_index file 0 ≡ 0)) ⊎ (IsPartOfFirstPage file × BeginsDatabase log)

-- The log is not damaged, and the file has a database, or none was made yet and the log has no
-- commit.
abbrev pub MayBeOpened : List ℕ → List ℕ → Type 0
MayBeOpened file log = (¬ IsDamaged log) × (HasDatabaseHeader file ⊎ (IsUnfinished file log × ¬ HasCommit log))
