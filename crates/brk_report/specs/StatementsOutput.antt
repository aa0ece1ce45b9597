-- The output of the statements of several accounts, one after the other, which changes nothing.
-- `from` and `to` are UTC days since 1970-01-01. Output conditions (`Appends`) are vacuous if the
-- writer's content before is unknown.
use Rattle.std.specs.Prelude.{◌≡◌, ◌⊎◌, ℕ, List, [], ◌∷◌, IfErr, Option, Some, Result, Ok, Err, flat_map, nat_lt, false}
use Rattle.std.specs.Option.{option_map_or}
use Rattle.std.specs.Io.KnownBytes.{Appends}
use Rattle.sqlite_trees.specs.declared.store.Store.{Ghosts}
use Rattle.sqlite.specs.Held.{Held}
use Rattle.brk_money.specs.Spelling.{Text}
use Rattle.brk_money.specs.declared.fault.Fault.TheVariants.{Store}
use Rattle.brk_model.specs.Joins.{account_row_with_id}
use Rattle.brk_model.specs.Run.{IsCallFault}
use Rattle.brk_model.specs.Statement.{sorted_cash_rows_of_account, statement_lines, text_of_lines}
use Rattle.brk_model.specs.Statements.{accounts_or_refusal, statements}
use Rattle.brk_model.specs.Tables.{AccountRow, Tables}
use Rattle.brk_report.specs.StatementOutput.{HoldsForStoredTables, IsReportFaultOtherThanDamage, PreservesDesk}
use Rattle.brk_report_lines.specs.Written.{WritesLinesAndPartOfNext, WritesProperPrefixOfLines}
use Rattle.brk_io.specs.declared.report_fault.ReportFault.{ReportFault}
use Rattle.brk_io.specs.declared.report_fault.ReportFault.TheVariants.{Refused, Desk, Write}

-- The lines of the statement of the account with the id `account`, none if there is no account.
abbrev pub lines_of_account : Tables → ℕ → ℕ → ℕ → List Text
lines_of_account t from to account =
    option_map_or (λ a. statement_lines t a from to (sorted_cash_rows_of_account t a.id)) (account_row_with_id t account) []

-- The day `to` is not before the day `from`, the customer exists, if one is asked for, and `lines`
-- are the lines of the statements of its accounts, or of all, one statement after the other.
abbrev pub AreLinesOfStatements : Tables → Option ℕ → ℕ → ℕ → List Text → Type 0
AreLinesOfStatements t customer from to lines =
    (nat_lt to from ≡ false)
    × ((accounts : List ℕ) × (accounts_or_refusal t customer ≡ Ok accounts) × (lines ≡ flat_map (lines_of_account t from to) accounts))

-- The result of writing the statements of the accounts of `customer`, or of all accounts, from the
-- day `from` to `to`, both included. `Ok`: exactly the model's text was written. `Refused`: the
-- model refuses so; the output is not specified here. `Desk`: the fault is `Memory` or `Store`, and
-- nothing was written, or the first lines whole, perhaps none and never the last. `Write`: the first
-- lines whole, perhaps none, and a prefix of the next with its line feed, perhaps empty or all of it.
abbrev pub WritesStatements : Tables → Option ℕ → ℕ → ℕ → Option Text → Option Text → Result (Unit {0}) ReportFault → Type 0
WritesStatements t customer from to old new (Ok u) = (text : Text) × (statements t customer from to ≡ Ok text) × Appends old new text
WritesStatements t customer from to old new (Err (Refused refusal)) = statements t customer from to ≡ Err refusal
WritesStatements t customer from to old new (Err (Desk fault)) =
    IsCallFault fault
    × (Appends old new [] ⊎ ((lines : List Text) × AreLinesOfStatements t customer from to lines × WritesProperPrefixOfLines lines old new))
WritesStatements t customer from to old new (Err Write) =
    (lines : List Text) × AreLinesOfStatements t customer from to lines × WritesLinesAndPartOfNext lines old new

-- The postcondition of writing the statements of the accounts of `customer`, or of all accounts:
-- output as `WritesStatements` specifies, a fault of the desk is `Memory` or `Store`, the desk is
-- unchanged, and a refusal writes nothing. `before` and `after` are the writer's content.
pub record StatementsPost {S : Type 0} (g : Ghosts S) (old new : Held S) (customer : Option ℕ) (from to : ℕ) (before after : Option Text)
    (result : Result (Unit {0}) ReportFault) : Type 0 where
  -- The output for all rows that the store held before; vacuous as `HoldsForStoredTables` states.
  pub written : HoldsForStoredTables g old new (λ t. WritesStatements t customer from to before after result)
  -- A fault of the desk is `Memory` or `Store`. This does not depend on the disk assumption.
  pub fault : IfErr result IsReportFaultOtherThanDamage
  -- The desk is unchanged.
  pub desk_unchanged : PreservesDesk g old new
  -- Nothing is written if the statements are refused.
  pub unwritten : (refusal : _) → result ≡ Err (Refused refusal) → after ≡ before

-- ---- the accounts that were read

-- The account with the id `account` exists.
abbrev pub HasAccount : Tables → ℕ → Type 0
HasAccount t account = (a : AccountRow) × (account_row_with_id t account ≡ Some a)

-- Each of the accounts exists.
abbrev pub HasAccounts : Tables → List ℕ → Type 0
HasAccounts t [] = Unit {0}
HasAccounts t (account ∷ accounts) = HasAccount t account × HasAccounts t accounts

-- The result of writing `lines`, which are never refused. `Ok`: exactly these were written. `Desk`:
-- the fault is `Memory` or `Store`, and the first lines were written whole, perhaps none and never
-- the last. `Write`: the first lines whole, perhaps none, and a prefix of the next.
abbrev pub WritesReportLines : List Text → Option Text → Option Text → Result (Unit {0}) ReportFault → Type 0
WritesReportLines lines old new (Ok u) = Appends old new (text_of_lines lines)
WritesReportLines lines old new (Err (Refused refusal)) = ⊥
WritesReportLines lines old new (Err (Desk fault)) = IsCallFault fault × WritesProperPrefixOfLines lines old new
WritesReportLines lines old new (Err Write) = WritesLinesAndPartOfNext lines old new

-- The result, with the fault `Store` of the desk in place of a refusal.
abbrev pub without_refusal : Result (Unit {0}) ReportFault → Result (Unit {0}) ReportFault
without_refusal (Ok u) = Ok u
without_refusal (Err (Refused refusal)) = Err (Desk Store)
without_refusal (Err (Desk fault)) = Err (Desk fault)
without_refusal (Err Write) = Err Write

-- The fault is one of the desk, `Memory` or `Store`, or one of the writer, and no refusal.
abbrev pub IsFaultOfCallOrWriter : ReportFault → Type 0
IsFaultOfCallOrWriter (Refused refusal) = ⊥
IsFaultOfCallOrWriter (Desk fault) = IsCallFault fault
IsFaultOfCallOrWriter Write = Unit {0}

-- The postcondition of writing `lines` of the tables, if `Exist` holds of them (`WritesReportLines`):
-- a fault of the desk is `Memory` or `Store`, nothing is refused, and the desk is unchanged.
pub record ReportLinesPost {S : Type 0} (g : Ghosts S) (old new : Held S) (Exist : Tables → Type 0) (lines : Tables → List Text) (before after : Option Text)
    (result : Result (Unit {0}) ReportFault) : Type 0 where
  pub written : HoldsForStoredTables g old new (λ t. Exist t → WritesReportLines (lines t) before after result)
  pub fault : IfErr result IsFaultOfCallOrWriter
  pub desk_unchanged : PreservesDesk g old new
