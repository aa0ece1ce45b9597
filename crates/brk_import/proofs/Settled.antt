-- A batch with one more decided row.
use Rattle.std.proofs.Common.{◌≡◌, ◌∙◌, ℕ, ◌+◌, List, [], ◌∷◌, ◌++◌, length, refl, arith, sym, ap}
use Rattle.std.specs.Prelude.{Ok}
use Rattle.std.specs.List.{AllByRecursion}
use Rattle.std.proofs.lemmas.List.{length-append}
use Rattle.brk_money.specs.Spelling.{Text}
use Rattle.brk_model.specs.Answers.{Fields, RowStep}
use Rattle.brk_model_theorems.specs.RowCalls.{CallsHaveAnswers, RowCall, result_of_row_call, calls_of_rows, well_formed_rows_from, rows_with_well_formed_row}
use Rattle.brk_model_theorems.specs.RowCalls.{answers_interleaved_with_refusals, RowsAreAnsweredByCalls}
use Rattle.brk_model.specs.Batch.{BatchRowsAreDecided}
use Rattle.brk_model.specs.Commands.{Answer}
use Rattle.brk_model.specs.Forms.{ReadResult}
use Rattle.brk_model.specs.Input.{IsEndRecord}
use Rattle.brk_model_theorems.proofs.RowLaws.{answered-of, calls-of-decided}
use Rattle.brk_import_engine.proofs.Pushes.{calls_length, calls_push, formed_push, run_push, woven_push}

-- calls in turn have one answer each
turned : {S X : Type 0} (step : RowStep S X) (base after : S) (calls : List (RowCall X)) (answers : List Answer) → CallsHaveAnswers step base calls answers after → length answers ≡ length calls
turned step base after [] [] r = refl
turned step base after [] (a ∷ rs) r = absurd r
turned step base after (c ∷ cs) [] r = absurd r
turned step base after (c ∷ cs) (a ∷ rs) r = let more = turned step (result_of_row_call step base c).1 after cs rs r.1 in omega arith

module _ {S X : Type 0} (form : Fields → ReadResult X) (step : RowStep S X) (name : Text) (base mid after : S) (moments : List ℕ) (rows : List Fields) (answers : List Answer)
    (h : BatchRowsAreDecided form step name base moments rows answers mid) (row : Fields) (command : X) (formed : form row ≡ Ok command) (moment : ℕ) (answer : Answer)
    (acted : step mid moment command (record { batch = name; n = 1 + length rows }) ≡ (answer, after)) where
  asked : RowsAreAnsweredByCalls form step name base moments rows answers mid
  asked = calls-of-decided h

  calls : well_formed_rows_from form 1 (rows ++ row ∷ []) ≡ well_formed_rows_from form 1 rows ++ (1 + length rows, command) ∷ []
  calls = formed_push form 1 rows row ∙ ap (λ (o : ReadResult X). well_formed_rows_from form 1 rows ++ rows_with_well_formed_row o (1 + length rows) []) formed

  longer : length (well_formed_rows_from form 1 (rows ++ row ∷ [])) ≡ length (well_formed_rows_from form 1 rows) + 1
  longer = ap length calls ∙ length-append (well_formed_rows_from form 1 rows) ((1 + length rows, command) ∷ [])

  run : CallsHaveAnswers step base (calls_of_rows name (moments ++ moment ∷ []) (well_formed_rows_from form 1 (rows ++ row ∷ []))) (asked.replies ++ answer ∷ []) after
  run =
      rw (calls, calls_push name moments (well_formed_rows_from form 1 rows) moment (1 + length rows, command) asked.one_each)
      (run_push step base mid after _ asked.replies _ answer asked.run acted)

  replied : length asked.replies ≡ length (well_formed_rows_from form 1 rows)
  replied = turned step base mid (calls_of_rows name moments (well_formed_rows_from form 1 rows)) asked.replies asked.run ∙ calls_length name moments (well_formed_rows_from form 1 rows) asked.one_each

  wove : answers_interleaved_with_refusals form (rows ++ row ∷ []) (asked.replies ++ answer ∷ []) ≡ answers_interleaved_with_refusals form rows asked.replies ++ answer ∷ []
  wove = rw formed at (woven_push form 1 rows row asked.replies (answer ∷ []) replied)

  pub settled_push : AllByRecursion (λ r. ¬ (IsEndRecord r)) (rows ++ row ∷ []) → BatchRowsAreDecided form step name base (moments ++ moment ∷ []) (rows ++ row ∷ []) (answers ++ answer ∷ []) after
  settled_push only = record {
    named = h.named;
    rows_only = only;
    answered = answered-of form step name base after (moments ++ moment ∷ []) (rows ++ row ∷ []) (answers ++ answer ∷ []) (record {
      replies = asked.replies ++ answer ∷ [];
      one_each = length-append moments (moment ∷ []) ∙ ap (λ (n : ℕ). n + 1) asked.one_each ∙ sym longer;
      run = run;
      all = ap (λ (l : List Answer). l ++ answer ∷ []) asked.all ∙ sym wove;
    });
    each = length-append answers (answer ∷ []) ∙ ap (λ (n : ℕ). n + 1) h.each ∙ sym (length-append rows (row ∷ []));
  }
