-- The postcondition of executing a query and writing its view. The desk's tables are unchanged.
use Rattle.std.specs.Prelude.{◌≡◌, ◌⊎◌, ℕ, Option, Result, Ok, Err, take}
use Rattle.std.specs.Io.KnownBytes.{Appends}
use Rattle.sqlite_trees.specs.declared.store.Store.{Ghosts}
use Rattle.sqlite.specs.Held.{Held}
use Rattle.brk_ask.specs.Printed.{printed_view_text}
use Rattle.brk_ask.specs.declared.form.Form.{Form}
use Rattle.brk_desk.specs.CallPosts.{AskPost}
use Rattle.brk_model.specs.Forms.{ReadResult}
use Rattle.brk_model.specs.Queries.{Query}
use Rattle.brk_money.specs.Spelling.{Text}
use Rattle.brk_money.specs.declared.fault.Fault.{Fault}
use Rattle.brk_money.specs.declared.fault.Fault.TheVariants.{Memory}
use Rattle.brk_money.specs.declared.refusal.Refusal.{Refusal}
use Rattle.brk_io.specs.declared.report_fault.ReportFault.{ReportFault}
use Rattle.brk_io.specs.declared.report_fault.ReportFault.TheVariants.{Refused, Desk, Write}
use Rattle.brk_view_rows.specs.Views.{records_of_view}
use Rattle.brk_view_rows.specs.declared.view.View.{View}

-- The result `result` is the fault `fault`, and the writer's content is unchanged.
abbrev pub FailsWritingNothing : Option Text → Option Text → Result (Unit {0}) ReportFault → ReportFault → Type 0
FailsWritingNothing before after result fault = (after ≡ before) × (result ≡ Err fault)

-- The result of writing `text`. `Ok`: exactly `text` was written. `Desk`: memory ran out, and
-- nothing was written. `Write`: a prefix of `text` was written, perhaps empty or all of it. Never
-- `Refused`. `Ok` and `Write` state nothing if the writer's content before is unknown.
abbrev pub WritesTextOrFails : Text → Option Text → Option Text → Result (Unit {0}) ReportFault → Type 0
WritesTextOrFails text before after (Ok u) = Appends before after text
WritesTextOrFails text before after (Err (Refused refusal)) = ⊥
WritesTextOrFails text before after (Err (Desk fault)) = (after ≡ before) × (fault ≡ Memory)
WritesTextOrFails text before after (Err Write) = (k : ℕ) × Appends before after (take k text)

-- The desk's answer to `query` was written in the format `form`: a view as `WritesTextOrFails`
-- specifies; a refusal or a fault of the desk is `result`, and nothing is written.
abbrev pub WritesViewOrFails : Form → Query → Result (Result View Refusal) Fault → Option Text → Option Text → Result (Unit {0}) ReportFault → Type 0
WritesViewOrFails form query (Ok (Ok view)) before after result = WritesTextOrFails (printed_view_text form query (records_of_view view)) before after result
WritesViewOrFails form query (Ok (Err refusal)) before after result = FailsWritingNothing before after result (Refused refusal)
WritesViewOrFails form query (Err fault) before after result = FailsWritingNothing before after result (Desk fault)

-- The desk executed exactly the parsed query, with output and result by `WritesViewOrFails`. If the
-- query is malformed, `result` is its refusal, the desk is unchanged, and nothing was written.
abbrev pub AsksQueryAndWritesView : {S : Type 0} → Ghosts S → Held S → Held S → Form → ReadResult Query → Option Text → Option Text
    → Result (Unit {0}) ReportFault → Type 0
AsksQueryAndWritesView g old new form (Ok query) before after result =
    (seen : Result (Result View Refusal) Fault) × AskPost g old new query seen × WritesViewOrFails form query seen before after result
AsksQueryAndWritesView g old new form (Err refusal) before after result = (new ≡ old) × FailsWritingNothing before after result (Refused refusal)

-- The postcondition of parsing a query and printing its view: `AsksQueryAndWritesView`, or memory
-- ran out before the query was executed, and the desk and the writer's content are unchanged.
abbrev pub PrintViewPost : {S : Type 0} → Ghosts S → Held S → Held S → Form → ReadResult Query → Option Text → Option Text → Result (Unit {0}) ReportFault
    → Type 0
PrintViewPost g old new form query before after result =
    AsksQueryAndWritesView g old new form query before after result ⊎ ((new ≡ old) × FailsWritingNothing before after result (Desk Memory))
