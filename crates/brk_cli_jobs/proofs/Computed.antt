-- A batch that completed printed the text that the model's function computes.
use Rattle.std.proofs.Common.{◌≡◌, ◌≤◌, ℕ, zero, suc, Bool, true, false, cond, List, [], ◌∷◌, ◌++◌, length, take, replicate, refl, sym, ◌∙◌, ap, arith, Option, Some, None, codes}
use Rattle.std.specs.Prelude.{decimal}
use Rattle.std.specs.List.{AllByRecursion}
use Rattle.brk_money.specs.Spelling.{Text}
use Rattle.brk_model.specs.Answers.{Fields, RowStep, ResultOfRows, result_of_rows}
use Rattle.brk_model.specs.Commands.{Answer}
use Rattle.brk_model.specs.Computed.{answers_and_base_of_rows, batch_name_of_header, has_correct_row_count, is_end_record, result_of_batch_records, result_of_batch_rows}
use Rattle.brk_model.specs.Computed.{result_of_complete_batch, result_of_optionally_named_batch, result_without_end_line, split_at_end_record, split_with_row_in_front, RowsAndEndRecord}
use Rattle.brk_model.specs.Forms.{ReadResult, is_batch_name}
use Rattle.brk_model.specs.Input.{IsBatchName, IsEndRecord, batch_header, correct_end_record}
use Rattle.brk_model_theorems.specs.RowCalls.{well_formed_rows_from}
use Rattle.brk_model_theorems.proofs.BatchLaws.{end_is, formed-few, same}
use Rattle.brk_model_theorems.proofs.RowLaws.{calls-of, takes-first}

-- ---- clock readings that are all the same

pub all_same : (t : ℕ) (moments : List ℕ) → AllByRecursion (λ m. m ≡ t) moments → moments ≡ replicate (length moments) t
all_same t [] h = refl
all_same t (m ∷ moments) h = ap (λ (x : ℕ). x ∷ moments) h.0 ∙ ap (λ (l : List ℕ). t ∷ l) (all_same t moments h.1)

length_same : (t k : ℕ) → length (replicate k t) ≡ k
length_same t zero = refl
length_same t (suc k) = ap suc (length_same t k)

pub take_same : (t n k : ℕ) → n ≤ k → take n (replicate k t) ≡ replicate n t
take_same t zero k h = refl
take_same t (suc n) zero h = absurd (omega (h, arith))
take_same t (suc n) (suc k) h = ap (λ (l : List ℕ). t ∷ l) (take_same t n k (omega (h, arith)))

-- ---- rows, the header and the end record

module _ {B C : Type 0} (form : Fields → ReadResult C) (step : RowStep B C) where
  -- rows that have these answers at readings that are all `t` have them at enough readings of `t`
  pub same_answers : (name : Text) (base after : B) (t k : ℕ) (moments : List ℕ) (rows : List Fields) (answers : List Answer)
      → result_of_rows form step name 1 base moments rows ≡ record { answers = answers; base = after; moments = [] } → length answers ≡ length rows
      → AllByRecursion (λ m. m ≡ t) moments → length rows ≤ k
      → answers_and_base_of_rows form step name base (replicate k t) rows ≡ (answers, after)
  same_answers name base after t k moments rows answers told each all enough =
      let few = formed-few form 1 rows in
      let called = calls-of form step name base after moments rows answers told each in
      let fits : length (well_formed_rows_from form 1 rows) ≤ k = omega (few, enough, arith) in
      let long = length_same t k in
      let first = takes-first form step name rows 1 base (replicate k t) (omega (fits, long, arith)) in
      let taken : take (length (well_formed_rows_from form 1 rows)) (replicate k t) ≡ moments =
      take_same t (length (well_formed_rows_from form 1 rows)) k fits ∙ ap (λ (n : ℕ). replicate n t) (sym called.one_each) ∙ sym (all_same t moments all) in
      let both = sym first.0 ∙ ap (λ (ms : List ℕ). result_of_rows form step name 1 base ms rows) taken ∙ told in
      ap (λ (r : ResultOfRows B). (r.answers, r.base)) both

not_end : (row : Fields) → ¬ (IsEndRecord row) → is_end_record row ≡ false
not_end row h = at (is_end_record row) refl
  where
    at : (b : Bool) → is_end_record row ≡ b → b ≡ false
    at true e = absurd (h (end_is row e))
    at false e = refl

right_end : (n : ℕ) → has_correct_row_count n (correct_end_record n) ≡ true
right_end n = same (decimal n) (decimal n) refl

end_record : (n : ℕ) → is_end_record (correct_end_record n) ≡ true
end_record n = same (codes "end") (codes "end") refl

split_rows : (rows : List Fields) (n : ℕ) (more : List Fields) → AllByRecursion (λ row. ¬ (IsEndRecord row)) rows
    → split_at_end_record (rows ++ correct_end_record n ∷ more) ≡ (rows, Some (correct_end_record n))
split_rows [] n more h = ap (λ (b : Bool). cond b ([], Some (correct_end_record n)) (split_with_row_in_front (correct_end_record n) (split_at_end_record more))) (end_record n)
split_rows (row ∷ rows) n more h =
    ap (λ (b : Bool). cond b ([], Some row) (split_with_row_in_front row (split_at_end_record (rows ++ correct_end_record n ∷ more)))) (not_end row h.0)
    ∙ ap (split_with_row_in_front row) (split_rows rows n more h.1)

named : (name : Text) → IsBatchName name → batch_name_of_header (batch_header name) ≡ Some name
named name h =
    ap (λ (b : Bool). cond b (cond (is_batch_name name) (Some name) None) None) (same (codes "batch") (codes "batch") refl)
    ∙ ap (λ (b : Bool). cond b (Some name) None) h

longer : (rows : List Fields) (last : Fields) (more : List Fields) → length rows ≤ length (rows ++ last ∷ more)
longer [] last more = omega arith
longer (row ∷ rows) last more = let h = longer rows last more in omega (h, arith)

pub appended : (rows : List Fields) (last : Fields) (more : List Fields) → (rows ++ (last ∷ [])) ++ more ≡ rows ++ last ∷ more
appended [] last more = refl
appended (row ∷ rows) last more = ap (λ (rs : List Fields). row ∷ rs) (appended rows last more)

module _ {B C : Type 0} (form : Fields → ReadResult C) (step : RowStep B C) where
  -- the whole batch
  pub completes : (name : Text) (base after : B) (t : ℕ) (moments : List ℕ) (rows more : List Fields) (answers : List Answer) (all : List Fields)
      → all ≡ batch_header name ∷ (rows ++ correct_end_record (length rows) ∷ more) → IsBatchName name → AllByRecursion (λ row. ¬ (IsEndRecord row)) rows
      → result_of_rows form step name 1 base moments rows ≡ record { answers = answers; base = after; moments = [] } → length answers ≡ length rows
      → AllByRecursion (λ m. m ≡ t) moments
      → result_of_batch_records form step base (replicate (length all) t) all ≡ result_of_complete_batch (answers, after)
  completes name base after t moments rows more answers all is isname only told each same_t =
      let last : Fields = correct_end_record (length rows) in
      let rest : List Fields = rows ++ last ∷ more in
      let ts : List ℕ = replicate (suc (length rest)) t in
      let long = longer rows last more in
      ap (λ (l : List Fields). result_of_batch_records form step base (replicate (length l) t) l) is
      ∙ ap (λ (n : Option Text). result_of_optionally_named_batch form step n base ts rest) (named name isname)
      ∙ ap (λ (s : RowsAndEndRecord). result_of_batch_rows form step name base ts s) (split_rows rows (length rows) more only)
      ∙ ap (λ (b : Bool). cond b (result_of_complete_batch (answers_and_base_of_rows form step name base ts rows)) (result_without_end_line (answers_and_base_of_rows form step name base ts rows) Rattle.brk_model.specs.Batch.BadEnd)) (right_end (length rows))
      ∙ ap (λ (r : List Answer × B). result_of_complete_batch r) (same_answers form step name base after t (suc (length rest)) moments rows answers told each same_t (omega (long, arith)))
