-- The postconditions of a desk's calls: a query, a run and an audit (of a command: `CommandPost`).
-- `g` is the specification of the storage `S`; `old` and `new` are the connection before and after
-- a call. `brk_store_transactions/specs/Holds.antt` explains `state`, `HasCleanDisk`, `is_open`,
-- `Survives` and disk contents (`Trees`). A clause with the premise `HasCleanDisk` for the new
-- state, and the promise on crashes in `survives`, are vacuous if the disk assumption fails by the
-- return of the call.
use Rattle.brk_model.specs.Form.{has_utf8_texts}
use Rattle.std.specs.Prelude.{◌≡◌, ℕ, List, None, map, length, Result, IfOk, IfErr, IsTrue}
use Rattle.std.specs.List.{AllByRecursion}
use Rattle.sqlite_trees.specs.declared.store.Store.{Ghosts}
use Rattle.sqlite_trees.specs.Tree.{Trees}
use Rattle.sqlite.specs.Held.{Held, state}
use Rattle.sqlite.specs.State.{HasCleanDisk, Survives}
use Rattle.brk_money.specs.declared.fault.Fault.{Fault}
use Rattle.brk_money.specs.declared.refusal.Refusal.{Refusal}
use Rattle.brk_model.specs.Adopted.{base_of_tables}
use Rattle.brk_model.specs.Ask.{ask}
use Rattle.brk_model.specs.Base.{Base, empty_base}
use Rattle.brk_model.specs.Upgraded.{tables_upgraded_from_schema}
use Rattle.brk_model.specs.Schemas.{third_schema}
use Rattle.brk_model.specs.Sheets.{sheets}
use Rattle.brk_model.specs.Queries.{Query}
use Rattle.brk_model.specs.Run.{IsCallFault, Run}
use Rattle.brk_model.specs.Tables.{Tables, tables_without_rows}
use Rattle.brk_trade_rows.specs.Schemas.{abstract_schema}
use Rattle.brk_trade_rows.specs.declared.schema.Schema as typed_schema
use Rattle.brk_trade_books.specs.Runs.{IsRunWithSumsAndTaxes}
use Rattle.brk_audit_theorems.specs.Passing.{PassesAudit}
use Rattle.brk_audit_theorems.specs.Runs.{CallMeetsAuditFormats}
use Rattle.brk_store_transactions.specs.Audited.{AuditPost, AuditAnswerSatisfies, Represents}
use Rattle.brk_store_transactions.specs.Holds.{IsDiskContentOfRows, HoldsRows, WasOpenAndIsUnchanged, CrashStatesSatisfy}
use Rattle.brk_desk_queries.specs.QueryResults.{model_query_result}
use Rattle.brk_view_rows.specs.Carried.{HasRowsOfQuery}
use Rattle.brk_view_rows.specs.Queries.{abstract_query}
use Rattle.brk_view_rows.specs.declared.view.View.{View}
use Rattle.brk_desk.specs.Booked.{CommandPost, PreservesRepresentation}
use Rattle.brk_desk.specs.Answers.{outcome_of_command, model_outcome, outcome_of_query}
use Rattle.brk_desk_commands.specs.Commands.{abstract_command}
use Rattle.brk_desk.specs.Keys.{optional_model_key}
use Rattle.brk_desk.specs.Commands.{model_call}
use Rattle.brk_desk.specs.CrashBases.{AcknowledgesNothing, CrashMayExposeBase}
use Rattle.brk_desk.specs.CommandAnswers.{CommandAnswer}
use Rattle.brk_desk.specs.declared.call.Call.{Call}
use Rattle.brk_desk.specs.declared.call.Call.TheVariants as call
use Rattle.brk_desk.specs.declared.call.Outcome.{Outcome}
use Rattle.brk_desk.specs.declared.call.Outcome.TheVariants as desk_outcome

-- The postcondition of a query, which writes nothing: the result is the model's for every base that
-- the store represented, or the fault `Memory` or `Store`. A view has the rows that
-- `HasRowsOfQuery` specifies. The store represents every base that it represented, a database that
-- is still open is unchanged, and a crash exposes only prior crash states.
pub record AskPost {S : Type 0} (g : Ghosts S) (old new : Held S) (query : Query) (result : Result (Result View Refusal) Fault) : Type 0 where
  -- At `Ok`, the model's result for each represented base, under the disk assumption.
  pub answered : HasCleanDisk (state g new) → IfOk result (λ seen. (base : Base) → Represents g old base → ask base query ≡ model_query_result seen)
  -- A view satisfies `HasRowsOfQuery`: it has the variant of the query and, for recent trades, an
  -- account's status, looked-up trades and touched lots, the trades or lot changes that the query
  -- selects from the tables of the base, also in columns that no text shows (`answered` is on texts
  -- only). Vacuous if the disk assumption fails.
  pub has_rows : HasCleanDisk (state g new)
      → IfOk result (λ seen. IfOk seen (λ view. (base : Base) → Represents g old base → HasRowsOfQuery query view (sheets base)))
  -- The store represents every base that it represented before. Vacuous once it is closed.
  pub same_bases : PreservesRepresentation g old new
  -- A fault is `Memory` or `Store`, also if the disk assumption fails. A refusal is no fault.
  pub fault : IfErr result IsCallFault
  -- A crash after the call exposes only states that a crash before the call could expose.
  pub survives : Survives (state g old) (state g new) (λ _. ⊥)
  -- A database that is open after the call was open before it and is unchanged.
  pub unchanged_if_open : HasCleanDisk (state g new) → IsTrue (state g new).is_open → WasOpenAndIsUnchanged (state g old) (state g new)
  -- If the disk assumption holds after the call, it held before.
  pub clean : HasCleanDisk (state g new) → HasCleanDisk (state g old)

-- The call `call`, executed at the clock reading `now`, turned the desk from `old` to `new`: its
-- result has the outcome `outcome` and satisfies `CommandPost` (a command) or `AskPost` (a query).
abbrev pub OutcomePost : {S : Type 0} → Ghosts S → Held S → Held S → ℕ → Call → Outcome → Type 0
OutcomePost g old new now (call.Do command key) outcome =
    (result : Result CommandAnswer Fault) × (outcome ≡ outcome_of_command result)
    × CommandPost g old new now (abstract_command command) (optional_model_key key) result
OutcomePost g old new now (call.Ask query) outcome =
    (result : Result (Result View Refusal) Fault) × (outcome ≡ outcome_of_query result) × AskPost g old new (abstract_query query) result

-- No outcome acknowledges a change: none is `Did` with the answer `Done`.
abbrev pub OutcomesAcknowledgeNothing : List Outcome → Type 0
OutcomesAcknowledgeNothing outcomes = AllByRecursion AcknowledgesNothing (map model_outcome outcomes)

-- If the outcome is a fault, it is `Memory` or `Store`. Vacuous otherwise.
abbrev pub FailsOnlyWithMemoryOrStore : Outcome → Type 0
FailsOnlyWithMemoryOrStore (desk_outcome.Failed fault) = IsCallFault fault
FailsOnlyWithMemoryOrStore _ = Unit {0}

-- `trees` contain the tables, with texts in UTF-8, of some base that a crash may expose after the
-- calls from `base` (`CrashMayExposeBase`): with the change of every acknowledged command, and of
-- at most one command more, which returned a fault and after which no change was acknowledged.
abbrev pub IsDiskContentWithAcknowledgedCommands : Base → List (ℕ × Call) → List Outcome → Trees → Type 0
IsDiskContentWithAcknowledgedCommands base calls outcomes trees =
    (after : Base) × CrashMayExposeBase base (map model_call calls) (map model_outcome outcomes) after × IsDiskContentOfRows (sheets after) trees
    × IsTrue (has_utf8_texts (sheets after))

-- The store was open before the calls, and for each base that it represented, `trees` are disk
-- contents that a crash may expose after the calls (`IsDiskContentWithAcknowledgedCommands`).
abbrev pub CrashMayExposeDiskContent : {S : Type 0} → Ghosts S → Held S → List (ℕ × Call) → List Outcome → Trees → Type 0
CrashMayExposeDiskContent g old calls outcomes trees =
    IsTrue (state g old).is_open × ((base : Base) → Represents g old base → IsDiskContentWithAcknowledgedCommands base calls outcomes trees)

-- The postcondition of calls that were executed in order, from the state `old` to `new`. Under the
-- disk assumption, for every base that the store represented, the calls with their outcomes are a
-- run of the model (`Run`), and the store represents the base after it. The other clauses are on
-- the number and the faults of the outcomes, an unchanged database, the store and the disk
-- assumption before the calls, crashes, and the formats of commands and keys.
pub record RunPost {S : Type 0} (g : Ghosts S) (old new : Held S) (calls : List (ℕ × Call)) (outcomes : List Outcome) : Type 0 where
  -- There is exactly one outcome for each call.
  pub count : length outcomes ≡ length calls
  -- The calls refine a run of the model, under the disk assumption up to the last return.
  pub refines_model : HasCleanDisk (state g new) → (base : Base) → Represents g old base
      → (after : Base) × Represents g new after × Run base (map model_call calls) (map model_outcome outcomes) after
  -- Each fault is `Memory` or `Store`.
  pub fault : AllByRecursion FailsOnlyWithMemoryOrStore outcomes
  -- Without `Done`, a database that is open after the calls was open before and is unchanged.
  pub unchanged_if_open : HasCleanDisk (state g new) → IsTrue (state g new).is_open → OutcomesAcknowledgeNothing outcomes
      → WasOpenAndIsUnchanged (state g old) (state g new)
  -- If the store is open after the calls, it was open before.
  pub was_open : HasCleanDisk (state g new) → IsTrue (state g new).is_open → IsTrue (state g old).is_open
  -- A crash after the calls exposes a prior crash state or, only if the store was open, tables with
  -- the acknowledged commands (`IsDiskContentWithAcknowledgedCommands`).
  pub survives : Survives (state g old) (state g new) (CrashMayExposeDiskContent g old calls outcomes)
  -- If some outcome is `Done`, a crash exposes only tables with the acknowledged commands.
  pub durable : HasCleanDisk (state g new) → (base : Base) → Represents g old base → ¬ OutcomesAcknowledgeNothing outcomes
      → CrashStatesSatisfy g new (IsDiskContentWithAcknowledgedCommands base calls outcomes)
  -- If a crash before the calls could expose only the tables of `base`, one after them exposes only
  -- tables with the acknowledged commands (`IsDiskContentWithAcknowledgedCommands`).
  pub stays_durable : HasCleanDisk (state g new) → (base : Base) → Represents g old base → CrashStatesSatisfy g old (IsDiskContentOfRows (sheets base))
      → CrashStatesSatisfy g new (IsDiskContentWithAcknowledgedCommands base calls outcomes)
  -- If the disk assumption holds after the calls, it held before.
  pub clean : HasCleanDisk (state g new) → HasCleanDisk (state g old)
  -- By their types, the commands meet the formats of an audit, and their keys are well-formed.
  pub well_formed : AllByRecursion CallMeetsAuditFormats (map model_call calls)

-- After the calls from `base` the store represents some base `after` whose tables pass the audit of
-- schema 3, and the calls are a run of the model from `base` to `after`. The broker totals,
-- balances (with openings) and holding summaries of `after` equal the sums over its completed
-- trades, cash rows and lots; each trade that an accepted `CompleteTrade` completed has the tax of
-- its completion, on exactly the shares that it closed (`IsRunWithSumsAndTaxes`; also the books
-- invariant of `after` and conditions on its lots).
abbrev pub ReachesBasePassingAudit : {S : Type 0} → Ghosts S → Held S → Base → List (ℕ × Call) → List Outcome → Type 0
ReachesBasePassingAudit g new base calls outcomes =
    (after : Base) × Represents g new after × PassesAudit third_schema (sheets after)
    × IsRunWithSumsAndTaxes base (map model_call calls) (map model_outcome outcomes) after

-- The guarantee of a run for the books. Under the disk assumption the calls reach a base that
-- passes the audit (`ReachesBasePassingAudit`) from any represented base, from tables without rows,
-- and from rows in UTF-8 of any schema that pass their audit and were upgraded to schema 3.
pub record RunGuarantee {S : Type 0} (g : Ghosts S) (old new : Held S) (calls : List (ℕ × Call)) (outcomes : List Outcome) : Type 0 where
  -- From any base that the store represented before the calls.
  pub from_represented_base : HasCleanDisk (state g new) → (base : Base) → Represents g old base → ReachesBasePassingAudit g new base calls outcomes
  -- From the empty base, if the tables had no rows before the calls.
  pub from_empty_tables : HasCleanDisk (state g new) → HoldsRows g old tables_without_rows → ReachesBasePassingAudit g new empty_base calls outcomes
  -- From the base of the rows `rows` of any schema, if the store held them upgraded to schema 3,
  -- and the rows before pass the audit of their schema and have texts in UTF-8.
  pub from_audited_rows : HasCleanDisk (state g new) → (schema : typed_schema.Schema) (rows : Tables)
      → HoldsRows g old (tables_upgraded_from_schema (abstract_schema schema) rows) → IsTrue (has_utf8_texts rows) → PassesAudit (abstract_schema schema) rows
      → ReachesBasePassingAudit g new (base_of_tables rows) calls outcomes

-- The postcondition of an audit of the desk's store, which writes nothing: it satisfies `AuditPost`
-- (an audit of a store); the store represents every base that it represented; and under the disk
-- assumption, if it represented one, the result is not `Damaged`.
pub record DeskAuditPost {S : Type 0} (g : Ghosts S) (old new : Held S) (result : Result (Unit {0}) Fault) : Type 0 where
  -- The call satisfies the postcondition of an audit of a store.
  pub audited : AuditPost g old new result
  -- If the store represented a base, the result is not `Damaged`, under the disk assumption.
  pub undamaged : HasCleanDisk (state g new) → (base : Base) → Represents g old base → AuditAnswerSatisfies result (λ failing. failing ≡ None)
  -- The store represents every base that it represented before. Vacuous once it is closed.
  pub same_bases : PreservesRepresentation g old new
