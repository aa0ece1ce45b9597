-- The output of a statement, which changes nothing. `from` and `to` are UTC days since 1970-01-01.
-- Output conditions (`Appends`) are vacuous if the writer's content before is unknown.
use Rattle.std.specs.Prelude.{◌≡◌, ◌⊎◌, ℕ, List, [], IfErr, Option, Some, Result, Ok, Err, length, map, nat_lt, false, IsTrue}
use Rattle.std.specs.Io.KnownBytes.{Appends}
use Rattle.sqlite_trees.specs.declared.store.Store.{Ghosts}
use Rattle.sqlite.specs.Held.{Held, state}
use Rattle.sqlite.specs.State.{HasCleanDisk, Survives}
use Rattle.brk_money.specs.Spelling.{Text}
use Rattle.brk_model.specs.Joins.{account_row_with_id}
use Rattle.brk_model.specs.Run.{IsCallFault}
use Rattle.brk_model.specs.Statement.{sorted_cash_rows_of_account, text_of_lines, lot_line, holding_rows_of_account, statement, statement_lines}
use Rattle.brk_model.specs.Tables.{AccountRow, Tables}
use Rattle.brk_store_transactions.specs.Holds.{HoldsRows, WasOpenAndIsUnchanged}
use Rattle.brk_report_lines.specs.Written.{FailsWithinFirstLines, WritesProperPrefixOfLines, WritesLinesAndPartOfNext}
use Rattle.brk_io.specs.declared.report_fault.LinesFault.{LinesFault}
use Rattle.brk_io.specs.declared.report_fault.ReportFault.{ReportFault}
use Rattle.brk_io.specs.declared.report_fault.ReportFault.TheVariants.{Refused, Desk, Write}

-- The call between `old` and `new` changes nothing: the rows and an open database are unchanged,
-- and a crash exposes only prior crash states. `g` is the specification of the storage `S`.
pub record PreservesDesk {S : Type 0} (g : Ghosts S) (old new : Held S) : Type 0 where
  -- The store holds after the call the rows that it held before.
  pub same_rows : (t : Tables) → HoldsRows g old t → HoldsRows g new t
  -- A database that is open after the call was open before and is unchanged.
  pub unchanged_if_open : HasCleanDisk (state g new) → IsTrue (state g new).is_open → WasOpenAndIsUnchanged (state g old) (state g new)
  -- A crash exposes only prior crash states. Vacuous if the disk assumption fails.
  pub survives : Survives (state g old) (state g new) (λ _. ⊥)

-- All tables that the store held in the state `old` satisfy `So`. Vacuous if the disk assumption
-- fails up to the state `new`, or if the store was open in `old` without the tables of a desk. If
-- it was closed in `old`, all values of `Tables` satisfy `So`.
abbrev pub HoldsForStoredTables : {S : Type 0} → Ghosts S → Held S → Held S → (Tables → Type 0) → Type 0
HoldsForStoredTables g old new So = HasCleanDisk (state g new) → (t : Tables) → HoldsRows g old t → So t

-- ---- the parts of a statement

-- The result of writing a line for each lot of `account`, sorted by symbol, then opening stamp.
-- `Ok`: exactly these were written, `count` in number. `Err`: as `FailsWithinFirstLines` specifies.
abbrev pub WritesLotLines : Tables → ℕ → Option Text → Option Text → Result ℕ LinesFault → Type 0
WritesLotLines t account old new (Ok count) =
    Appends old new (text_of_lines (map lot_line (holding_rows_of_account t account))) × (count ≡ length (holding_rows_of_account t account))
WritesLotLines t account old new (Err e) = FailsWithinFirstLines (map lot_line (holding_rows_of_account t account)) old new e

-- ---- the whole

-- The day `to` is not before the day `from`, the account with the id `account` exists, and `lines`
-- are the lines of its statement from the day `from` to the day `to`, both included.
abbrev pub AreStatementLines : Tables → ℕ → ℕ → ℕ → List Text → Type 0
AreStatementLines t account from to lines =
    (nat_lt to from ≡ false)
    × ((a : AccountRow) × (account_row_with_id t account ≡ Some a) × (lines ≡ statement_lines t a from to (sorted_cash_rows_of_account t account)))

-- The result of writing the statement of `account` from the day `from` to `to`, both included.
-- `Ok`: exactly the model's text was written. `Refused`: the model refuses so; the output is not
-- specified here. `Desk`: the fault is `Memory` or `Store`, and nothing was written, or the first
-- lines whole, perhaps none and never the last. `Write`: the first lines whole, perhaps none, and a
-- prefix of the next with its line feed, perhaps empty or all of it.
abbrev pub WritesStatement : Tables → ℕ → ℕ → ℕ → Option Text → Option Text → Result (Unit {0}) ReportFault → Type 0
WritesStatement t account from to old new (Ok u) = (text : Text) × (statement t account from to ≡ Ok text) × Appends old new text
WritesStatement t account from to old new (Err (Refused refusal)) = statement t account from to ≡ Err refusal
WritesStatement t account from to old new (Err (Desk fault)) =
    IsCallFault fault × (Appends old new [] ⊎ ((lines : List Text) × AreStatementLines t account from to lines × WritesProperPrefixOfLines lines old new))
WritesStatement t account from to old new (Err Write) = (lines : List Text) × AreStatementLines t account from to lines × WritesLinesAndPartOfNext lines old new

-- The fault is a refusal, a fault of the desk, `Memory` or `Store`, or a fault of the writer.
abbrev pub IsReportFaultOtherThanDamage : ReportFault → Type 0
IsReportFaultOtherThanDamage (Refused refusal) = Unit {0}
IsReportFaultOtherThanDamage (Desk fault) = IsCallFault fault
IsReportFaultOtherThanDamage Write = Unit {0}

-- The postcondition of writing the statement of `account` from the day `from` to `to`: output as
-- `WritesStatement` specifies, a fault of the desk is `Memory` or `Store`, the desk is unchanged,
-- and a refusal writes nothing. `before` and `after` are the writer's content.
pub record StatementPost {S : Type 0} (g : Ghosts S) (old new : Held S) (account from to : ℕ) (before after : Option Text)
    (result : Result (Unit {0}) ReportFault) : Type 0 where
  -- The output for all rows that the store held before; vacuous as `HoldsForStoredTables` states.
  pub written : HoldsForStoredTables g old new (λ t. WritesStatement t account from to before after result)
  -- A fault of the desk is `Memory` or `Store`. This does not depend on the disk assumption.
  pub fault : IfErr result IsReportFaultOtherThanDamage
  -- The desk is unchanged.
  pub desk_unchanged : PreservesDesk g old new
  -- Nothing is written if the statement is refused.
  pub unwritten : (refusal : _) → result ≡ Err (Refused refusal) → after ≡ before
