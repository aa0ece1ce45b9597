-- The rows of a batch, one after another, have the answers of their calls.
use Rattle.std.proofs.Common.{◌≡◌, ◌≤◌, ℕ, suc, ◌+◌, List, [], ◌∷◌, length, take, refl, sym, ◌∙◌, ap, subst, arith, Ok, Err}
use Rattle.brk_money.specs.Spelling.{Text}
use Rattle.brk_model.specs.Forms.{ReadResult}
use Rattle.brk_model.specs.Commands.{Answer, Refused}
use Rattle.brk_model.specs.Answers.{Fields, RowStep, ResultOfRows, result_with_answer_in_front, result_of_row_and_later_rows, result_of_rows, RowsAreAnswered}
use Rattle.brk_model.specs.Batch.{BatchRowsAreDecided}
use Rattle.brk_model_theorems.specs.RowCalls.{CallsHaveAnswers, rows_with_well_formed_row, well_formed_rows_from, calls_of_rows, answers_to_row_and_rest}
use Rattle.brk_model_theorems.specs.RowCalls.{answers_interleaved_with_refusals, RowsAreAnsweredByCalls}

-- The result with these answers and this base, of rows that take all clock readings.
abbrev whole_result : {B : Type 0} → List Answer → B → ResultOfRows B
whole_result answers base = record { answers = answers; base = base; moments = [] }

module _ {B C : Type 0} (form : Fields → ReadResult C) (step : RowStep B C) (batch : Text) where
  -- the calls of the rows have these answers, so the rows have these and the refusals
  result-by-calls : (rows : List Fields) (n : ℕ) (base after : B) (moments : List ℕ) (replies : List Answer) → length moments ≡ length (well_formed_rows_from form n rows)
      → CallsHaveAnswers step base (calls_of_rows batch moments (well_formed_rows_from form n rows)) replies after
      → result_of_rows form step batch n base moments rows ≡ whole_result (answers_interleaved_with_refusals form rows replies) after
  result-by-calls [] n base after [] [] e r = ap (λ (b : B). whole_result [] b) (sym r)
  result-by-calls [] n base after [] (reply ∷ replies) e r = absurd r
  result-by-calls [] n base after (moment ∷ moments) replies e r = absurd (omega (e, arith))
  result-by-calls (row ∷ rows) n base after moments replies e r =
      one (form row) (well_formed_rows_from form (n + 1) rows) (λ b left. result_of_rows form step batch (n + 1) b left rows) (answers_interleaved_with_refusals form rows) base moments replies
      (λ b left others l h. result-by-calls rows (n + 1) b after left others l h) e r
    where
      one : (r : ReadResult C) (rest : List (ℕ × C)) (more : B → List ℕ → ResultOfRows B) (woven : List Answer → List Answer) (base : B) (moments : List ℕ) (replies : List Answer)
          → ((b : B) (left : List ℕ) (others : List Answer) → length left ≡ length rest → CallsHaveAnswers step b (calls_of_rows batch left rest) others after
          → more b left ≡ whole_result (woven others) after)
          → length moments ≡ length (rows_with_well_formed_row r n rest) → CallsHaveAnswers step base (calls_of_rows batch moments (rows_with_well_formed_row r n rest)) replies after
          → result_of_row_and_later_rows step r (record { batch = batch; n = n }) base moments more ≡ whole_result (answers_to_row_and_rest r woven replies) after
      one (Err refusal) rest more woven base moments replies each e r = ap (result_with_answer_in_front (Refused refusal)) (each base moments replies e r)
      one (Ok command) rest more woven base [] replies each e r = absurd (omega (e, arith))
      one (Ok command) rest more woven base (moment ∷ moments) [] each e r = absurd r
      one (Ok command) rest more woven base (moment ∷ moments) (reply ∷ replies) each e r =
          let after : B = (step base moment command (record { batch = batch; n = n })).1 in
          ap (λ (a : Answer). result_with_answer_in_front a (more after moments)) (sym r.0)
          ∙ ap (result_with_answer_in_front reply) (each after moments replies (omega (e, arith)) r.1)

  -- The calls of the rows have answers that lead to the base of `result`, and its answers are these
  -- and the refusals.
  record ResultByCalls (base : B) (moments : List ℕ) (rows : List (ℕ × C)) (woven : List Answer → List Answer) (result : ResultOfRows B) : Type 0 where
    pub replies : List Answer
    pub one_each : length moments ≡ length rows
    pub run : CallsHaveAnswers step base (calls_of_rows batch moments rows) replies result.base
    pub all : result.answers ≡ woven replies

  none-taken : (base : B) (moments : List ℕ) → moments ≡ [] → CallsHaveAnswers step base (calls_of_rows batch moments []) [] base
  none-taken base [] h = refl
  none-taken base (moment ∷ moments) h = refl

  -- rows that have an answer each, and take all clock readings, have those of their calls
  calls-by-result : (rows : List Fields) (n : ℕ) (base : B) (moments : List ℕ) → length (result_of_rows form step batch n base moments rows).answers ≡ length rows
      → (result_of_rows form step batch n base moments rows).moments ≡ []
      → ResultByCalls base moments (well_formed_rows_from form n rows) (answers_interleaved_with_refusals form rows) (result_of_rows form step batch n base moments rows)
  calls-by-result [] n base moments l h = record { replies = []; one_each = ap length h; run = none-taken base moments h; all = refl }
  calls-by-result (row ∷ rows) n base moments l h =
      one (form row) (well_formed_rows_from form (n + 1) rows) (λ b left. result_of_rows form step batch (n + 1) b left rows) (answers_interleaved_with_refusals form rows) (length rows) base moments
      (λ b left k g. calls-by-result rows (n + 1) b left k g) l h
    where
      one : (r : ReadResult C) (rest : List (ℕ × C)) (more : B → List ℕ → ResultOfRows B) (woven : List Answer → List Answer) (size : ℕ) (base : B) (moments : List ℕ)
          → ((b : B) (left : List ℕ) → length (more b left).answers ≡ size → (more b left).moments ≡ [] → ResultByCalls b left rest woven (more b left))
          → length (result_of_row_and_later_rows step r (record { batch = batch; n = n }) base moments more).answers ≡ suc size
          → (result_of_row_and_later_rows step r (record { batch = batch; n = n }) base moments more).moments ≡ []
          → ResultByCalls base moments (rows_with_well_formed_row r n rest) (answers_to_row_and_rest r woven)
          (result_of_row_and_later_rows step r (record { batch = batch; n = n }) base moments more)
      one (Err refusal) rest more woven size base moments each l h =
          let k = each base moments (omega (l, arith)) h in
          record { replies = k.replies; one_each = k.one_each; run = k.run; all = ap (λ (l : List Answer). Refused refusal ∷ l) k.all }
      one (Ok command) rest more woven size base [] each l h = absurd (omega (l, arith))
      one (Ok command) rest more woven size base (moment ∷ moments) each l h =
          let answered : Answer × B = step base moment command (record { batch = batch; n = n }) in
          let k = each answered.1 moments (omega (l, arith)) h in
          record { replies = answered.0 ∷ k.replies; one_each = ap suc k.one_each; run = (refl, k.run); all = ap (λ (l : List Answer). answered.0 ∷ l) k.all }

  pub answered-of : (base after : B) (moments : List ℕ) (rows : List Fields) (answers : List Answer) → RowsAreAnsweredByCalls form step batch base moments rows answers after
      → RowsAreAnswered form step batch base moments rows answers after
  answered-of base after moments rows answers h =
      result-by-calls rows 1 base after moments h.replies h.one_each h.run ∙ ap (λ (l : List Answer). whole_result l after) (sym h.all)

  pub calls-of : (base after : B) (moments : List ℕ) (rows : List Fields) (answers : List Answer) → RowsAreAnswered form step batch base moments rows answers after → length answers ≡ length rows
      → RowsAreAnsweredByCalls form step batch base moments rows answers after
  calls-of base after moments rows answers h each =
      let all : (result_of_rows form step batch 1 base moments rows).answers ≡ answers = ap (λ (r : ResultOfRows B). r.answers) h in
      let led : (result_of_rows form step batch 1 base moments rows).base ≡ after = ap (λ (r : ResultOfRows B). r.base) h in
      let k = calls-by-result rows 1 base moments (ap length all ∙ each) (ap (λ (r : ResultOfRows B). r.moments) h) in
      record {
        replies = k.replies;
        one_each = k.one_each;
        run = subst (λ (b : B). CallsHaveAnswers step base (calls_of_rows batch moments (well_formed_rows_from form 1 rows)) k.replies b) led k.run;
        all = sym all ∙ k.all;
      }

  -- The first clock readings, one for each well-formed row, are enough for the rows: each row has
  -- an answer, and these readings alone lead to the same answers and base.
  abbrev TakesFirst : ℕ → (List ℕ → ResultOfRows B) → List ℕ → ℕ → Type 0
  TakesFirst count result moments size = (result (take count moments) ≡ whole_result (result moments).answers (result moments).base) × (length (result moments).answers ≡ size)

  pub takes-first : (rows : List Fields) (n : ℕ) (base : B) (moments : List ℕ) → length (well_formed_rows_from form n rows) ≤ length moments
      → TakesFirst (length (well_formed_rows_from form n rows)) (λ ms. result_of_rows form step batch n base ms rows) moments (length rows)
  takes-first [] n base moments h = (refl, refl)
  takes-first (row ∷ rows) n base moments h =
      one (form row) (well_formed_rows_from form (n + 1) rows) (λ b left. result_of_rows form step batch (n + 1) b left rows) (length rows) base moments
      (λ b left k. takes-first rows (n + 1) b left k) h
    where
      one : (r : ReadResult C) (rest : List (ℕ × C)) (more : B → List ℕ → ResultOfRows B) (size : ℕ) (base : B) (moments : List ℕ)
          → ((b : B) (left : List ℕ) → length rest ≤ length left → TakesFirst (length rest) (more b) left size)
          → length (rows_with_well_formed_row r n rest) ≤ length moments
          → TakesFirst (length (rows_with_well_formed_row r n rest)) (λ ms. result_of_row_and_later_rows step r (record { batch = batch; n = n }) base ms more) moments (suc size)
      one (Err refusal) rest more size base moments each h =
          let k = each base moments h in (ap (result_with_answer_in_front (Refused refusal)) k.0, ap suc k.1)
      one (Ok command) rest more size base [] each h = absurd (omega (h, arith))
      one (Ok command) rest more size base (moment ∷ moments) each h =
          let answered : Answer × B = step base moment command (record { batch = batch; n = n }) in
          let k = each answered.1 moments (omega (h, arith)) in
          (ap (result_with_answer_in_front answered.0) k.0, ap suc k.1)

-- the calls of the rows that a batch decided
pub calls-of-decided : {B C : Type 0} {form : Fields → ReadResult C} {step : RowStep B C} {name : Text} {base : B} {moments : List ℕ} {rows : List Fields} {answers : List Answer} {after : B}
    → BatchRowsAreDecided form step name base moments rows answers after → RowsAreAnsweredByCalls form step name base moments rows answers after
calls-of-decided {form = form} {step = step} {name = name} {base = base} {moments = moments} {rows = rows} {answers = answers} {after = after} s =
    calls-of form step name base after moments rows answers s.answered s.each
