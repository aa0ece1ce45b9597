-- The text or the refusal of a job that reads a desk in a file.
use Rattle.std.proofs.Common.{◌≡◌, ◌⊎◌, inl, inr, ℕ, Bool, true, false, List, Option, Some, None, Ok, Err, Result, codes, map, refl, sym, subst, ◌∙◌, ap}
use Rattle.std.specs.Borrow.{Bor}
use Rattle.std.specs.Global.{Global}
use Rattle.std.specs.Io.KnownBytes.{Appends}
use Rattle.std.specs.Prelude.{String, string_bytes}
use Rattle.sqlite.specs.Held.{Held, state}
use Rattle.sqlite.specs.State.{HasCleanDisk}
use Rattle.sqlite_trees.specs.declared.store.Store.{Ghosts}
use Rattle.brk_ask.specs.Asked.{PrintViewPost, WritesViewOrFails}
use Rattle.brk_ask.specs.Printed.{printed_view_text}
use Rattle.brk_ask.specs.declared.form.Form.{Form}
use Rattle.brk_cli_args.specs.declared.job.Job.{Job}
use Rattle.brk_cli_args.specs.declared.job.Job.TheVariants as job
use Rattle.brk_cli_exit.specs.Ending.{ending_after_close}
use Rattle.brk_cli_exit.specs.declared.ending.Ending.{Ending}
use Rattle.brk_cli_exit.specs.declared.ending.Ending.TheVariants as ending
use Rattle.brk_desk.specs.CallPosts.{AskPost}
use Rattle.brk_explain.specs.LinesOutput.{WriteLinesPost}
use Rattle.brk_io.specs.declared.report_fault.ReportFault.{ReportFault}
use Rattle.brk_io.specs.declared.report_fault.ReportFault.TheVariants as report
use Rattle.brk_model.specs.Base.{Base}
use Rattle.brk_model.specs.Ask.{parse_query}
use Rattle.brk_model.specs.Forms.{ReadResult}
use Rattle.brk_model.specs.Queries as model
use Rattle.brk_model.specs.Sheets.{sheets}
use Rattle.brk_model.specs.Statement.{statement, text_of_lines}
use Rattle.brk_model.specs.Statements.{statements}
use Rattle.brk_model_explain.specs.Explain.{ExplainRequest, explanation, read_explain_request}
use Rattle.brk_money.specs.Spelling.{Text}
use Rattle.brk_money.specs.declared.fault.Fault.{Fault}
use Rattle.brk_money.specs.declared.refusal.Refusal.{Refusal}
use Rattle.brk_report.specs.StatementOutput.{StatementPost}
use Rattle.brk_report.specs.StatementsOutput.{StatementsPost}
use Rattle.brk_store_transactions.specs.Audited.{Represents}
use Rattle.brk_view_rows.specs.declared.view.View.{View}
use Rattle.brk_cli_jobs.proofs.Printed.{both_done}
use Rattle.brk_cli_jobs.specs.Endings.{ending_of_report, ending_of_statement}
use Rattle.brk_cli_jobs.specs.Files.{CloseRelation, OpenRelation}
use Rattle.brk_cli_jobs.specs.JobText.{ModelRefuses, PrintsJobAt, PrintsJobOfFile, WritesExactly, text_of_explanation, text_of_job, text_of_view, text_or_refusal}
use Rattle.brk_cli_jobs.specs.Jobs.{ExecutesJob, InputAndOutput, WritesExplanation, WritesStatementOfAccount, WritesStatementsOfAccounts, WritesView}
use Rattle.brk_cli_jobs.specs.Places.{ExecutesJobAndCloses, ExecutesJobInExistingFile, ExecutesJobOnOpened, ExecutesJobOnStore, OpensUnlessRefused, PrintsOkAfterAudit, RunsJob, place_of_job}
use Rattle.brk_cli_jobs.specs.Words.{result_of_words, without_value}

-- a job that was refused was refused before the close
refused_before : (reached : Ending) (closed : Result (Unit {0}) Fault) (refusal : Refusal)
    → ending_after_close reached closed ≡ ending.Statement (report.Refused refusal) → reached ≡ ending.Statement (report.Refused refusal)
refused_before ending.Done (Ok u) refusal e = absurd (cc)
refused_before ending.Done (Err fault) refusal e = absurd (cc)
refused_before (ending.Open fault) closed refusal e = e
refused_before (ending.Batch fault) closed refusal e = e
refused_before (ending.Statement fault) closed refusal e = e
refused_before (ending.Serve fault) closed refusal e = e
refused_before ending.Net closed refusal e = e
refused_before ending.Output closed refusal e = e
refused_before ending.ClosedPipe closed refusal e = e
refused_before (ending.Usage fault) closed refusal e = e

-- what a job printed on the store `old`, which it left as `new`: `text` is its text, `words` the result of its words
record PrintsOnStore {S : Type 0} (g : Ghosts S) (words : Result (Unit {0}) Refusal) (text : Base → Option (Result Text Refusal)) (old new : Held S)
    (io : InputAndOutput) (end : Ending) : Type 0 where
  done : end ≡ ending.Done → HasCleanDisk (state g new) → (base : Base) → Represents g old base → WritesExactly (text base) io × Represents g new base
  refused : (refusal : Refusal) → end ≡ ending.Statement (report.Refused refusal)
      → (io.after ≡ io.before) × ((words ≡ Err refusal) ⊎ (HasCleanDisk (state g new) → (base : Base) → Represents g old base → text base ≡ Some (Err refusal)))

abbrev statement_text : ℕ → ℕ → ℕ → Base → Option (Result Text Refusal)
statement_text account from to base = Some (statement (sheets base) account from to)

abbrev statements_text : Option ℕ → ℕ → ℕ → Base → Option (Result Text Refusal)
statements_text customer from to base = Some (statements (sheets base) customer from to)

abbrev view_text : Form → ReadResult model.Query → Base → Option (Result Text Refusal)
view_text form read base = Some (text_of_view form base read)

abbrev explanation_text : ReadResult ExplainRequest → Base → Option (Result Text Refusal)
explanation_text read base = Some (text_of_explanation (sheets base) read)

module _ {S : Type 0} (g : Ghosts S) (old new : Held S) (io : InputAndOutput) (end : Ending) where
  -- an ending that is neither `Done` nor a refusal
  neither : (words : Result (Unit {0}) Refusal) (text : Base → Option (Result Text Refusal)) → ¬ (end ≡ ending.Done)
      → ((refusal : Refusal) → ¬ (end ≡ ending.Statement (report.Refused refusal))) → PrintsOnStore g words text old new io end
  neither words text undone unrefused = record {
    done = λ is. absurd (undone is);
    refused = λ refusal is. absurd (unrefused refusal is);
  }

  failed_to_open : (words : Result (Unit {0}) Refusal) (text : Base → Option (Result Text Refusal)) (fault : Fault) → end ≡ ending.Open fault
      → PrintsOnStore g words text old new io end
  failed_to_open words text fault ended = neither words text (λ is. let e = sym ended ∙ is in cc) (λ refusal is. let e = sym ended ∙ is in cc)

  failed_on_desk : (words : Result (Unit {0}) Refusal) (text : Base → Option (Result Text Refusal)) (fault : Fault) → end ≡ ending.Statement (report.Desk fault)
      → PrintsOnStore g words text old new io end
  failed_on_desk words text fault ended = neither words text (λ is. let e = sym ended ∙ is in cc) (λ refusal is. let e = sym ended ∙ is in cc)

  failed_to_write : (words : Result (Unit {0}) Refusal) (text : Base → Option (Result Text Refusal)) (closed : Bool) → end ≡ ending_of_report closed (Err report.Write)
      → PrintsOnStore g words text old new io end
  failed_to_write words text true ended = neither words text (λ is. let e = sym ended ∙ is in cc) (λ refusal is. let e = sym ended ∙ is in cc)
  failed_to_write words text false ended = neither words text (λ is. let e = sym ended ∙ is in cc) (λ refusal is. let e = sym ended ∙ is in cc)

  wrote : (words : Result (Unit {0}) Refusal) (text : Base → Option (Result Text Refusal)) → end ≡ ending.Done
      → (HasCleanDisk (state g new) → (base : Base) → Represents g old base → WritesExactly (text base) io × Represents g new base)
      → PrintsOnStore g words text old new io end
  wrote words text ended printed = record {
    done = λ is. printed;
    refused = λ refusal is. let e = sym ended ∙ is in absurd (cc);
  }

  refused_so : (words : Result (Unit {0}) Refusal) (text : Base → Option (Result Text Refusal)) (refusal : Refusal)
      → end ≡ ending.Statement (report.Refused refusal) → io.after ≡ io.before
      → (words ≡ Err refusal) ⊎ (HasCleanDisk (state g new) → (base : Base) → Represents g old base → text base ≡ Some (Err refusal))
      → PrintsOnStore g words text old new io end
  refused_so words text refusal ended unwritten by = record {
    done = λ is. let e = sym ended ∙ is in absurd (cc);
    refused = λ other is.
        let e = sym ended ∙ is in
        let same : refusal ≡ other = cc in (
          unwritten,
          subst (λ (r : Refusal). (words ≡ Err r) ⊎ (HasCleanDisk (state g new) → (base : Base) → Represents g old base → text base ≡ Some (Err r))) same by,
        );
  }

  -- ---- a statement

  statement_printed : (words : Result (Unit {0}) Refusal) (account from to : ℕ) → WritesStatementOfAccount g account from to old new io end
      → PrintsOnStore g words (statement_text account from to) old new io end
  statement_printed words account from to ran = by_result ran.0 ran.1 ran.2
    where
      by_result : (result : Result (Unit {0}) ReportFault) → end ≡ ending_of_statement result → StatementPost g old new account from to io.before io.after result
          → PrintsOnStore g words (statement_text account from to) old new io end
      by_result (Ok u) ended post = wrote words (statement_text account from to) ended (λ clean base keeps.
          let it = post.written clean (sheets base) keeps.rows in (
            subst (λ (r : Result Text Refusal). WritesExactly (Some r) io) (sym it.1) it.2,
            record { rows = post.desk_unchanged.same_rows (sheets base) keeps.rows; consistent = keeps.consistent },
          ))
      by_result (Err (report.Refused refusal)) ended post = refused_so words (statement_text account from to) refusal ended (post.unwritten refusal refl)
          (inr (λ clean base keeps. ap (λ (r : Result Text Refusal). Some r) (post.written clean (sheets base) keeps.rows)))
      by_result (Err (report.Desk fault)) ended post = failed_on_desk words (statement_text account from to) fault ended
      by_result (Err report.Write) ended post = failed_to_write words (statement_text account from to) false ended

  -- ---- the statements of several accounts

  statements_printed : (words : Result (Unit {0}) Refusal) (customer : Option ℕ) (from to : ℕ) → WritesStatementsOfAccounts g customer from to old new io end
      → PrintsOnStore g words (statements_text customer from to) old new io end
  statements_printed words customer from to ran = by_result ran.0 ran.1 ran.2
    where
      by_result : (result : Result (Unit {0}) ReportFault) → end ≡ ending_of_statement result → StatementsPost g old new customer from to io.before io.after result
          → PrintsOnStore g words (statements_text customer from to) old new io end
      by_result (Ok u) ended post = wrote words (statements_text customer from to) ended (λ clean base keeps.
          let it = post.written clean (sheets base) keeps.rows in (
            subst (λ (r : Result Text Refusal). WritesExactly (Some r) io) (sym it.1) it.2,
            record { rows = post.desk_unchanged.same_rows (sheets base) keeps.rows; consistent = keeps.consistent },
          ))
      by_result (Err (report.Refused refusal)) ended post = refused_so words (statements_text customer from to) refusal ended (post.unwritten refusal refl)
          (inr (λ clean base keeps. ap (λ (r : Result Text Refusal). Some r) (post.written clean (sheets base) keeps.rows)))
      by_result (Err (report.Desk fault)) ended post = failed_on_desk words (statements_text customer from to) fault ended
      by_result (Err report.Write) ended post = failed_to_write words (statements_text customer from to) false ended

  -- ---- a view

  module _ (form : Form) (closed : Bool) (result : Result (Unit {0}) ReportFault) (ended : end ≡ ending_of_report closed result) where
    view_written : (query : model.Query) (view : View) → AskPost g old new query (Ok (Ok view))
        → WritesViewOrFails form query (Ok (Ok view)) io.before io.after result
        → PrintsOnStore g (Ok tt) (view_text form (Ok query)) old new io end
    view_written query view asked written = by_result result refl
      where
        by_result : (r : Result (Unit {0}) ReportFault) → result ≡ r → PrintsOnStore g (Ok tt) (view_text form (Ok query)) old new io end
        by_result (Ok u) is =
            let wrote_all = subst (λ (r : Result (Unit {0}) ReportFault). WritesViewOrFails form query (Ok (Ok view)) io.before io.after r) is written in
            wrote (Ok tt) (view_text form (Ok query)) (ended ∙ ap (ending_of_report closed) is) (λ clean base keeps. (
              subst (λ (r : Result model.View Refusal). WritesExactly (Some (text_or_refusal (printed_view_text form query) r)) io)
                  (sym (asked.answered clean base keeps)) wrote_all,
              asked.same_bases base keeps,
            ))
        by_result (Err (report.Refused refusal)) is =
            absurd (subst (λ (r : Result (Unit {0}) ReportFault). WritesViewOrFails form query (Ok (Ok view)) io.before io.after r) is written)
        by_result (Err (report.Desk fault)) is = failed_on_desk (Ok tt) (view_text form (Ok query)) fault (ended ∙ ap (ending_of_report closed) is)
        by_result (Err report.Write) is = failed_to_write (Ok tt) (view_text form (Ok query)) closed (ended ∙ ap (ending_of_report closed) is)

    view_asked : (query : model.Query) (seen : Result (Result View Refusal) Fault) → AskPost g old new query seen
        → WritesViewOrFails form query seen io.before io.after result
        → PrintsOnStore g (Ok tt) (view_text form (Ok query)) old new io end
    view_asked query (Ok (Ok view)) asked written = view_written query view asked written
    view_asked query (Ok (Err refusal)) asked written =
        refused_so (Ok tt) (view_text form (Ok query)) refusal (ended ∙ ap (ending_of_report closed) written.1) written.0
        (inr (λ clean base keeps. ap (λ (r : Result model.View Refusal). Some (text_or_refusal (printed_view_text form query) r)) (asked.answered clean base keeps)))
    view_asked query (Err fault) asked written =
        failed_on_desk (Ok tt) (view_text form (Ok query)) fault (ended ∙ ap (ending_of_report closed) written.1)

    view_of_words : (read : ReadResult model.Query) → PrintViewPost g old new form read io.before io.after result
        → PrintsOnStore g (without_value read) (view_text form read) old new io end
    view_of_words (Ok query) (inl asked) = view_asked query asked.0 asked.1 asked.2
    view_of_words (Err refusal) (inl failed) =
        refused_so (Err refusal) (λ base. Some (Err refusal)) refusal (ended ∙ ap (ending_of_report closed) failed.1.1) failed.1.0 (inl refl)
    view_of_words read (inr failed) =
        failed_on_desk (without_value read) (view_text form read) Rattle.brk_money.specs.declared.fault.Fault.TheVariants.Memory
        (ended ∙ ap (ending_of_report closed) failed.1.1)

  view_printed : (form : Form) (read : ReadResult model.Query) → WritesView g form read old new io end
      → PrintsOnStore g (without_value read) (view_text form read) old new io end
  view_printed form read (inl failed) = failed_to_open (without_value read) (view_text form read) _ failed.0
  view_printed form read (inr ran) = view_of_words form ran.1 ran.0 ran.2 read ran.3

  -- ---- an explanation

  lines_written : (closed : Bool) (request : ExplainRequest) (result : Result (Unit {0}) ReportFault) → end ≡ ending_of_report closed result
      → WriteLinesPost g old new (λ t. explanation t request) io.before io.after result
      → PrintsOnStore g (Ok tt) (explanation_text (Ok request)) old new io end
  lines_written closed request (Ok u) ended post = wrote (Ok tt) (explanation_text (Ok request)) ended (λ clean base keeps.
      let it = post.written clean (sheets base) keeps.rows in (
        subst (λ (r : Result (List Text) Refusal). WritesExactly (Some (text_or_refusal text_of_lines r)) io) (sym it.1) it.2,
        record { rows = post.keeps.same_rows (sheets base) keeps.rows; consistent = keeps.consistent },
      ))
  lines_written closed request (Err (report.Refused refusal)) ended post =
      refused_so (Ok tt) (explanation_text (Ok request)) refusal ended (post.unwritten refusal refl)
      (inr (λ clean base keeps. ap (λ (r : Result (List Text) Refusal). Some (text_or_refusal text_of_lines r)) (post.written clean (sheets base) keeps.rows)))
  lines_written closed request (Err (report.Desk fault)) ended post =
      failed_on_desk (Ok tt) (explanation_text (Ok request)) fault ended
  lines_written closed request (Err report.Write) ended post =
      failed_to_write (Ok tt) (explanation_text (Ok request)) closed ended

  explanation_printed : (read : ReadResult ExplainRequest) → WritesExplanation g read old new io end
      → PrintsOnStore g (without_value read) (explanation_text read) old new io end
  explanation_printed read (inl failed) = failed_to_open (without_value read) (explanation_text read) _ failed.0
  explanation_printed (Ok request) (inr ran) = lines_written ran.1 request ran.0 ran.2 ran.3
  explanation_printed (Err refusal) (inr ran) =
      refused_so (Err refusal) (λ base. Some (Err refusal)) refusal (ran.2 ∙ ap (ending_of_report ran.1) ran.3.1.1) ran.3.1.0 (inl refl)

-- ---- the opening and the close

module _ {S R : Type 0} (g : Ghosts S) (opens : OpenRelation S) (closes : CloseRelation S) (machine : Bor R) (path : List ℕ) (io : InputAndOutput) where
  -- what the job printed on the store that was opened, with the words and the texts of the job
  abbrev JobPrints : Job → Held S → Held S → Ending → Type 0
  JobPrints j old new end = PrintsOnStore g (result_of_words j) (λ base. text_of_job base j) old new io end

  closed_after : (j : Job) (store : Held S) (end : Ending) → opens path (Ok store) → (ran : ExecutesJobAndCloses g closes machine j store io end)
      → JobPrints j store ran.new ran.reached → PrintsJobOfFile g opens closes path j io end
  closed_after j store end opened ran printed = record {
    done = λ is.
        let both = both_done ran.reached ran.closed (sym ran.ended ∙ is) in
        record {
          first = store;
          last = ran.new;
          opened = opened;
          closed = subst (λ (c : Result (Unit {0}) Fault). closes ran.new c) both.1 ran.shut;
          printed = printed.done both.0;
        };
    refused = λ refusal is.
        let it = printed.refused refusal (refused_before ran.reached ran.closed refusal (sym ran.ended ∙ is)) in (it.0, by refusal it.1);
  }
    where
      by : (refusal : Refusal)
          → (result_of_words j ≡ Err refusal)
          ⊎ (HasCleanDisk (state g ran.new) → (base : Base) → Represents g store base → text_of_job base j ≡ Some (Err refusal))
          → ModelRefuses g opens closes path j refusal
      by refusal (inl wrong) = inl wrong
      by refusal (inr refused) = inr (record {
        first = store;
        last = ran.new;
        closed = ran.closed;
        opened = opened;
        shut = ran.shut;
        refused = refused;
      })

  unopened : (j : Job) (end : Ending) (fault : Fault) → end ≡ ending.Open fault → PrintsJobOfFile g opens closes path j io end
  unopened j end fault ended = record {
    done = λ is. let e = sym ended ∙ is in absurd (cc);
    refused = λ refusal is. let e = sym ended ∙ is in absurd (cc);
  }

  -- a job other than serving, which does `Executes` on a store
  module _ (j : Job) (closing : (store : Held S) (end : Ending) → ExecutesJobOnStore g opens closes machine j path store io end → ExecutesJobAndCloses g closes machine j store io end)
      (printing : (old new : Held S) (end : Ending) → ExecutesJob g machine j old new io end → JobPrints j old new end) where
    on_opened : (result : Result (Held S) Fault) (end : Ending) → opens path result → ExecutesJobOnOpened g opens closes machine j path result io end
        → PrintsJobOfFile g opens closes path j io end
    on_opened (Ok store) end opened ran =
        let it = closing store end ran in closed_after j store end opened it (printing store it.new it.reached it.executed)
    on_opened (Err fault) end opened failed = unopened j end fault failed.0

    unless_refused : (words : Result (Unit {0}) Refusal) (end : Ending) → result_of_words j ≡ words
        → OpensUnlessRefused words g opens closes machine j path io end → PrintsJobOfFile g opens closes path j io end
    unless_refused (Ok u) end is ran = on_opened ran.result end ran.opened ran.executed
    unless_refused (Err refusal) end is failed = record {
      done = λ done. let e = sym failed.0 ∙ done in absurd (cc);
      refused = λ other so.
          let e = sym failed.0 ∙ so in
          let same : refusal ≡ other = cc in (failed.1, inl (is ∙ ap (λ (r : Refusal). Err r) same));
    }

    in_existing_file : (end : Ending) → ExecutesJobInExistingFile g opens closes machine j path io end → PrintsJobOfFile g opens closes path j io end
    in_existing_file end (inl failed) = unopened j end _ failed.1.0
    in_existing_file end (inr ran) = unless_refused (result_of_words j) end refl ran

  -- ---- an audit

  audit_written : (db : String Global) (store : Held S) (end reached : Ending) (mid : Option Text) → opens path (Ok store)
      → (ran : ExecutesJobAndCloses g closes machine (job.Audit db) store (record { input = io.input; before = io.before; after = mid }) reached)
      → PrintsOkAfterAudit (job.Audit db) reached mid io.after end → PrintsJobOfFile g opens closes path (job.Audit db) io end
  audit_written db store end reached mid opened ran printed = by_close ran.closed refl
    where
      -- the ending of the job, after this close
      reaches : (closed : Result (Unit {0}) Fault) → ran.closed ≡ closed → reached ≡ ending_after_close ending.Done closed
      reaches closed is = ran.ended ∙ ap (λ (e : Ending). ending_after_close e ran.closed) ran.executed.0 ∙ ap (ending_after_close ending.Done) is

      ok_written : ran.closed ≡ Ok tt → PrintsOkAfterAudit (job.Audit db) ending.Done mid io.after end → PrintsJobOfFile g opens closes path (job.Audit db) io end
      ok_written is (inl ok) = record {
        done = λ done. record {
          first = store;
          last = ran.new;
          opened = opened;
          closed = subst (λ (c : Result (Unit {0}) Fault). closes ran.new c) is ran.shut;
          printed = λ clean base keeps. (
            subst (λ (m : Option Text). Appends m io.after (codes "ok\n")) ran.executed.2 ok.1,
            subst (λ (s : Held S). Represents g s base) (sym ran.executed.1) keeps,
          );
        };
        refused = λ refusal so. let e = sym ok.0 ∙ so in absurd (cc);
      }
      ok_written is (inr failed) = record {
        done = λ done. let e = sym failed.0 ∙ done in absurd (cc);
        refused = λ refusal so. let e = sym failed.0 ∙ so in absurd (cc);
      }

      by_close : (closed : Result (Unit {0}) Fault) → ran.closed ≡ closed → PrintsJobOfFile g opens closes path (job.Audit db) io end
      by_close (Ok u) is = ok_written is (subst (λ (e : Ending). PrintsOkAfterAudit (job.Audit db) e mid io.after end) (reaches (Ok tt) is) printed)
      by_close (Err fault) is = unopened (job.Audit db) end fault (subst (λ (e : Ending). PrintsOkAfterAudit (job.Audit db) e mid io.after end) (reaches (Err fault) is) printed).0

  audit_opened : (db : String Global) (result : Result (Held S) Fault) (end reached : Ending) (mid : Option Text) → opens path result
      → ExecutesJobOnOpened g opens closes machine (job.Audit db) path result (record { input = io.input; before = io.before; after = mid }) reached
      → PrintsOkAfterAudit (job.Audit db) reached mid io.after end → PrintsJobOfFile g opens closes path (job.Audit db) io end
  audit_opened db (Ok store) end reached mid opened ran printed = audit_written db store end reached mid opened ran printed
  audit_opened db (Err fault) end reached mid opened failed printed =
      unopened (job.Audit db) end fault (subst (λ (e : Ending). PrintsOkAfterAudit (job.Audit db) e mid io.after end) failed.0 printed).0

  audited : (db : String Global) (end reached : Ending) (mid : Option Text)
      → ExecutesJobInExistingFile g opens closes machine (job.Audit db) path (record { input = io.input; before = io.before; after = mid }) reached
      → PrintsOkAfterAudit (job.Audit db) reached mid io.after end → PrintsJobOfFile g opens closes path (job.Audit db) io end
  audited db end reached mid (inl none) printed = absurd none.0
  audited db end reached mid (inr ran) printed = audit_opened db ran.result end reached mid ran.opened ran.executed printed

module _ {S R : Type 0} (g : Ghosts S) (creates opens : OpenRelation S) (closes : CloseRelation S) (machine : Bor R) where
  -- a job other than an audit has the ending and the content that it reached
  same_run : (j : Job) (path : List ℕ) (io : InputAndOutput) (end reached : Ending) (mid : Option Text) → (end ≡ reached) × (io.after ≡ mid)
      → ExecutesJobInExistingFile g opens closes machine j path (record { input = io.input; before = io.before; after = mid }) reached
      → ExecutesJobInExistingFile g opens closes machine j path io end
  same_run j path io end reached mid is ran =
      subst (λ (e : Ending). ExecutesJobInExistingFile g opens closes machine j path io e) (sym is.0)
      (subst (λ (m : Option Text). ExecutesJobInExistingFile g opens closes machine j path (record { input = io.input; before = io.before; after = m }) reached) (sym is.1) ran)

  pub told : (j : Job) (io : InputAndOutput) (end : Ending) → RunsJob g creates opens closes machine j io end
      → PrintsJobAt g opens closes j (place_of_job j) io end
  told (job.Statement db account from to) io end ran =
      let j = job.Statement db account from to in
      in_existing_file g opens closes machine (string_bytes db) io j (λ store e ran. ran)
      (λ old new e did. statement_printed g old new io e (result_of_words j) account from to did) end
      (same_run j (string_bytes db) io end ran.reached ran.mid ran.printed ran.executed)
  told (job.Statements db from to customer) io end ran =
      let j = job.Statements db from to customer in
      in_existing_file g opens closes machine (string_bytes db) io j (λ store e ran. ran)
      (λ old new e did. statements_printed g old new io e (result_of_words j) customer from to did) end
      (same_run j (string_bytes db) io end ran.reached ran.mid ran.printed ran.executed)
  told (job.Ask db json heads view arguments) io end ran =
      let j = job.Ask db json heads view arguments in
      in_existing_file g opens closes machine (string_bytes db) io j (λ store e ran. ran)
      (λ old new e did. view_printed g old new io e (record { json = json; heads = heads }) (parse_query (string_bytes view) (map string_bytes arguments.items)) did) end
      (same_run j (string_bytes db) io end ran.reached ran.mid ran.printed ran.executed)
  told (job.Explain db words) io end ran =
      let j = job.Explain db words in
      in_existing_file g opens closes machine (string_bytes db) io j (λ store e ran. ran)
      (λ old new e did. explanation_printed g old new io e (read_explain_request (map string_bytes words.items)) did) end
      (same_run j (string_bytes db) io end ran.reached ran.mid ran.printed ran.executed)
  told (job.Audit db) io end ran = audited g opens closes machine (string_bytes db) io db end ran.reached ran.mid ran.executed ran.printed
  told (job.Batch None existing at) io end ran = tt
  told (job.Batch (Some path) false at) io end ran = tt
  told (job.Batch (Some path) true at) io end ran = tt
  told (job.Serve port None existing at streams) io end ran = tt
  told (job.Serve port (Some path) false at streams) io end ran = tt
  told (job.Serve port (Some path) true at streams) io end ran = tt
