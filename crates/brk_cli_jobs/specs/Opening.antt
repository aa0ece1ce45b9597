-- How a desk in a file was opened, created or closed at a place of files (`FilePlace`). `connects`
-- is the relation of opening the file at a path as a database, `disconnects` that of closing a
-- connection, `finds_blank` that of finding the file missing or empty.
use Rattle.std.specs.Prelude.{◌≡◌, ◌⊎◌, ℕ, true, false, List, Result, Ok, Err}
use Rattle.sqlite_trees.specs.declared.store.Store.{Ghosts}
use Rattle.sqlite.specs.Held.{Held}
use Rattle.brk_money.specs.declared.fault.Condition.TheVariants as condition
use Rattle.brk_money.specs.declared.fault.Fault.{Fault}
use Rattle.brk_money.specs.declared.fault.Fault.TheVariants as fault
use Rattle.brk_money.specs.declared.fault.StoreFailed.{StoreFailed}
use Rattle.brk_store_transactions.specs.Audited.{AdoptPost}
use Rattle.brk_store_transactions.specs.Holds.{CreatePost}
use Rattle.brk_cli_jobs.specs.Files.{CloseRelation, ConnectRelation, DisconnectRelation, LookRelation}

-- The result of closing a desk, by that of closing its connection.
abbrev pub result_of_close : Result (Unit {0}) StoreFailed → Result (Unit {0}) Fault
result_of_close (Ok u) = Ok tt
result_of_close (Err e) = Err fault.Store

-- The postcondition of closing the store `store`: its connection was closed, with this result.
abbrev pub ClosePost : {S : Type 0} → DisconnectRelation S → CloseRelation S
ClosePost disconnects store result = (closed : Result (Unit {0}) StoreFailed) × disconnects store closed × (result ≡ result_of_close closed)

-- The connection was closed, with any result.
abbrev pub IsClosed : {S : Type 0} → DisconnectRelation S → Held S → Type 0
IsClosed disconnects conn = (closed : Result (Unit {0}) StoreFailed) × disconnects conn closed

-- The database of the connection `conn` was adopted as this store; or its adoption failed with this
-- fault, and the connection after it was closed.
abbrev pub AdoptsConnection : {S : Type 0} → Ghosts S → DisconnectRelation S → Held S → Result (Held S) Fault → Type 0
AdoptsConnection g disconnects conn (Ok store) = AdoptPost g conn store (Ok tt)
AdoptsConnection {S} g disconnects conn (Err fault) = (left : Held S) × AdoptPost g conn left (Err fault) × IsClosed disconnects left

-- The file at `path` could not be opened as a database, and the result is the fault `Store`.
abbrev pub FailsToConnect : {S : Type 0} → ConnectRelation S → List ℕ → Result (Held S) Fault → Type 0
FailsToConnect connects path result = (e : StoreFailed) × connects path (Err e) × (result ≡ Err fault.Store)

-- The file at `path` was opened as a database, which was adopted (`AdoptsConnection`); or it could
-- not be opened.
abbrev pub AdoptsFile : {S : Type 0} → Ghosts S → ConnectRelation S → DisconnectRelation S → List ℕ → Result (Held S) Fault → Type 0
AdoptsFile {S} g connects disconnects path result =
    FailsToConnect connects path result ⊎ ((conn : Held S) × connects path (Ok conn) × AdoptsConnection g disconnects conn result)

-- The postcondition of opening an existing desk: the file at `path` was found missing or empty, and
-- the result is `Damaged(Schema)`; or it was found neither, and `AdoptsFile` holds.
abbrev pub OpenPost : {S : Type 0} → Ghosts S → LookRelation → ConnectRelation S → DisconnectRelation S → List ℕ → Result (Held S) Fault → Type 0
OpenPost g finds_blank connects disconnects path result =
    (finds_blank path true × (result ≡ Err (fault.Damaged condition.Schema)))
    ⊎ (finds_blank path false × AdoptsFile g connects disconnects path result)

-- After a new desk was closed with the result `closed`: `Ok`: the file at `path` was opened again
-- and adopted (`AdoptsFile`). `Err`: the result is the fault of the close.
abbrev pub AdoptsAfterClose : {S : Type 0} → Ghosts S → ConnectRelation S → DisconnectRelation S → List ℕ → Result (Unit {0}) Fault → Result (Held S) Fault
    → Type 0
AdoptsAfterClose g connects disconnects path (Ok u) result = AdoptsFile g connects disconnects path result
AdoptsAfterClose g connects disconnects path (Err fault) result = result ≡ Err fault

-- A desk was created over the connection `first` and closed, and then adopted from its file.
pub record CreatesDesk {S : Type 0} (g : Ghosts S) (connects : ConnectRelation S) (disconnects : DisconnectRelation S) (path : List ℕ) (first : Held S)
    (result : Result (Held S) Fault) : Type 0 where
  pub desk : Held S
  pub created : CreatePost g first desk (Ok tt)
  pub closed : Result (Unit {0}) Fault
  pub shut : ClosePost disconnects desk closed
  pub adopted : AdoptsAfterClose g connects disconnects path closed result

-- The creation of a desk over the connection `first` failed with `Damaged(NotEmpty)`, the fault for
-- a database that has a table with the name of a desk's table; and this database was adopted.
abbrev pub AdoptsDesk : {S : Type 0} → Ghosts S → DisconnectRelation S → Held S → Result (Held S) Fault → Type 0
AdoptsDesk {S} g disconnects first result =
    (conn : Held S) × CreatePost g first conn (Err (fault.Damaged condition.NotEmpty)) × AdoptsConnection g disconnects conn result

-- The creation of a desk over the connection `first` failed with `Store`, which is the result, and
-- the connection after it was closed.
abbrev pub FailsToCreate : {S : Type 0} → Ghosts S → DisconnectRelation S → Held S → Result (Held S) Fault → Type 0
FailsToCreate {S} g disconnects first result =
    (left : Held S) × CreatePost g first left (Err fault.Store) × IsClosed disconnects left × (result ≡ Err fault.Store)

-- The postcondition of opening a desk that is created if there is none: the file at `path` was
-- opened as a database, and a desk was created and adopted (`CreatesDesk`), or adopted because it
-- exists (`AdoptsDesk`), or neither; or the file could not be opened.
abbrev pub OpenOrCreatePost : {S : Type 0} → Ghosts S → ConnectRelation S → DisconnectRelation S → List ℕ → Result (Held S) Fault → Type 0
OpenOrCreatePost {S} g connects disconnects path result =
    FailsToConnect connects path result
    ⊎ ((first : Held S) × connects path (Ok first)
    × (CreatesDesk g connects disconnects path first result ⊎ AdoptsDesk g disconnects first result ⊎ FailsToCreate g disconnects first result))
