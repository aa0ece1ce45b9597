-- Newly opened or closed connections to database files, and the types of relations of files.
use Rattle.std.specs.Prelude.{ℕ, Bool, List, Result}
use Rattle.sqlite_disk.specs.declared.Disk.{Ghosts}
use Rattle.sqlite_disk.specs.declared.Files.{Files}
use Rattle.sqlite_wal.specs.Reads.{AreClean}
use Rattle.sqlite_store.specs.declared.store.FileStore.{FileStore}
use Rattle.sqlite.specs.Held.{Held, IsNew}
use Rattle.sqlite.specs.State.{HasCleanDisk}
use Rattle.sqlite.specs.Files.{file_state, IsOpened}
use Rattle.sqlite.specs.Closing.{IsCopied}
use Rattle.brk_money.specs.declared.fault.Fault.{Fault}
use Rattle.brk_money.specs.declared.fault.StoreFailed.{StoreFailed}

-- The connection `conn` to a database file is new, and under the disk assumption it is open.
pub record IsNewConnectionToFile {D : Type 0} {g : Ghosts D} (conn : Held (FileStore D g)) : Type 0 where
  -- The connection is open. Vacuous if the disk assumption fails.
  pub opened : HasCleanDisk (file_state conn) → IsOpened conn
  -- The connection is new: in no transaction, with no row changed, last row id 0, no step limit.
  pub fresh : IsNew conn

-- The connection `conn` was open, its last commit is in a database file, also without its log, and
-- a crash exposes only this commit. Vacuous if the disk assumption fails.
abbrev pub HasLastCommitInFile : {D : Type 0} {g : Ghosts D} → Held (FileStore D g) → Type 0
HasLastCommitInFile {D} {g} conn = (files : Files D) × (AreClean g files.log files.db → IsCopied conn files)

-- The type of the relation of finding the file at a path missing or empty (`true`), or neither.
abbrev pub LookRelation : Type 1
LookRelation = List ℕ → Bool → Type 0

-- The type of the relation of opening the file at a path as a database.
abbrev pub ConnectRelation : Type 0 → Type 1
ConnectRelation S = List ℕ → Result (Held S) StoreFailed → Type 0

-- The type of the relation of a close of a connection.
abbrev pub DisconnectRelation : Type 0 → Type 1
DisconnectRelation S = Held S → Result (Unit {0}) StoreFailed → Type 0

-- The type of the relation of a close of a store.
abbrev pub CloseRelation : Type 0 → Type 1
CloseRelation S = Held S → Result (Unit {0}) Fault → Type 0

-- The type of the relation of an open at a path.
abbrev pub OpenRelation : Type 0 → Type 1
OpenRelation S = List ℕ → Result (Held S) Fault → Type 0
