-- A batch of well-formed rows preserves the books invariant and the audit invariant.
use Rattle.std.proofs.Common.{◌≡◌, ◌≤◌, ℕ, ◌+◌, true, List, [], ◌∷◌, length, ap, subst, arith, Some}
use Rattle.std.specs.Prelude.{IfOk, Ok, Err, nat_le}
use Rattle.std.specs.List.{AllByRecursion}
use Rattle.std.proofs.lemmas.Bool.{and_from, le-leb}
use Rattle.brk_money.specs.Spelling.{Text}
use Rattle.brk_model.specs.Limits.{greatest_id}
use Rattle.brk_model.specs.Base.{Base}
use Rattle.brk_model.specs.Batch.{step_of_row}
use Rattle.brk_model.specs.Answers.{RowsAreAnswered, Fields, ResultOfRows, result_of_rows, result_of_row_and_later_rows}
use Rattle.brk_model.specs.Commands.{Answer, Command}
use Rattle.brk_model.specs.Form.{is_id}
use Rattle.brk_model.specs.Formed.{IsWellFormedCommand}
use Rattle.brk_model.specs.Forms.{ReadResult, is_batch_name}
use Rattle.brk_model.specs.Parse.{parse_row}
use Rattle.brk_model.specs.Rows.{row_fields}
use Rattle.brk_model.specs.Run.{Ask, Call, Do}
use Rattle.brk_audit_theorems.specs.InForm.{MeetsAuditFormats}
use Rattle.brk_audit_theorems.specs.Runs.{CallMeetsAuditFormats, IsWellFormedCall}
use Rattle.brk_audit_theorems.proofs.Parsed.{parsed_in_form}
use Rattle.brk_audit_theorems.proofs.SoundRuns.{Both, keyed_both}

pub formed_in_form : (command : Command) → IsWellFormedCommand command → MeetsAuditFormats command
formed_in_form command e = subst (λ r. IfOk r MeetsAuditFormats) e (parsed_in_form (row_fields command))

pub formed_calls : (calls : List (ℕ × Call)) → AllByRecursion IsWellFormedCall calls → AllByRecursion CallMeetsAuditFormats calls
formed_calls [] f = tt
formed_calls ((now, Do command key) ∷ calls) f = ((formed_in_form command f.0.0, f.0.1), formed_calls calls f.1)
formed_calls ((now, Ask query) ∷ calls) f = (tt, formed_calls calls f.1)

-- the rows from a number on that a row may have
rows_both : (batch : Text) (rows : List Fields) (n : ℕ) (base : Base) (moments : List ℕ) → is_batch_name batch ≡ true → 1 ≤ n → n + length rows ≤ greatest_id + 1
    → Both base → Both (result_of_rows parse_row step_of_row batch n base moments rows).base
rows_both batch [] n base moments e low high h = h
rows_both batch (row ∷ rows) n base moments e low high h =
    by_read (parse_row row) (parsed_in_form row) (λ b left. result_of_rows parse_row step_of_row batch (n + 1) b left rows) base moments
    (λ b left k. rows_both batch rows (n + 1) b left e (omega (arith, low)) (omega (arith, high)) k) h
  where
    by_read : (r : ReadResult Command) → IfOk r MeetsAuditFormats → (more : Base → List ℕ → ResultOfRows Base) (base : Base) (moments : List ℕ)
        → ((b : Base) (left : List ℕ) → Both b → Both (more b left).base) → Both base → Both (result_of_row_and_later_rows step_of_row r (record { batch = batch; n = n }) base moments more).base
    by_read (Err refusal) form more base moments each h = each base moments h
    by_read (Ok command) form more base [] each h = h
    by_read (Ok command) form more base (moment ∷ moments) each h =
        each (step_of_row base moment command (record { batch = batch; n = n })).1 moments
        (keyed_both base moment command (Some (record { batch = batch; n = n })) h form
        (and_from (is_batch_name batch) (is_id n) e (and_from (nat_le 1 n) (nat_le n greatest_id) (le-leb 1 n low) (le-leb n greatest_id (omega (arith, high))))))

pub batch_both : (base : Base) (name : Text) (moments : List ℕ) (rows : List Fields) (answers : List Answer) (after : Base) → is_batch_name name ≡ true → length rows ≤ greatest_id
    → RowsAreAnswered parse_row step_of_row name base moments rows answers after → Both base → Both after
batch_both base name moments rows answers after e l a h =
    subst Both (ap (λ (r : ResultOfRows Base). r.base) a) (rows_both name rows 1 base moments e (omega arith) (omega (arith, l)) h)
