-- The retry of a batch that was interrupted after some rows, of which one more may have been
-- accepted.
use Rattle.std.proofs.Common.{◌≡◌, ◌⊎◌, ℕ, ◌+◌, Bool, true, false, List, [], ◌∷◌, ◌++◌, length, take, drop, refl, sym, ◌∙◌, ap, subst, arith, inl, inr, append_assoc, Ok, Err, append-nil, Some}
use Rattle.std.specs.List.{AllByRecursion}
use Rattle.csv.specs.Reading.{records, default_config}
use Rattle.brk_money.specs.Spelling.{Text}
use Rattle.brk_money.specs.declared.refusal.Refusal.TheVariants.{BadText}
use Rattle.brk_model.specs.Base.{Base}
use Rattle.brk_model.specs.Forms.{ReadResult}
use Rattle.brk_model.specs.Records.{Key}
use Rattle.brk_model.specs.Commands.{Command, Answer, Done, Again, Refused}
use Rattle.brk_model.specs.Answers.{Fields}
use Rattle.brk_model_theorems.specs.RowCalls.{CallsHaveAnswers, calls_of_rows, well_formed_rows_from, rows_with_well_formed_row, answers_interleaved_with_refusals, answers_to_row_and_rest}
use Rattle.brk_model.specs.Batch.{BatchRowsAreDecided, step_of_row}
use Rattle.brk_model.specs.Input.{BeginsWithRecords, IsEndRecord, correct_end_record, batch_header}
use Rattle.brk_model.specs.Lines.{refused_answer_count, is_refused_answer}
use Rattle.brk_model.specs.Parse.{parse_by_first_field, row_parsers}
use Rattle.brk_model_theorems.specs.Laws.{NextRowLeadsTo, IsCompletedByRetry, IsBaseAfterInterruption}
use Rattle.brk_model_theorems.proofs.AgainLaws.{first-same, name-same, none-first, others-same, right_end}
use Rattle.brk_model_theorems.proofs.BatchLaws.{All-front}
use Rattle.brk_model_theorems.proofs.PartLaws.{completed-by, joined, none-with, prefix}
use Rattle.brk_model_theorems.proofs.RunLaws.{keyed_step-says}

-- the law of completion by its record
pub completed : (form : Fields → ReadResult Command) (name : Text) (base mid last : Base) (moments others : List ℕ) (front more : List Fields) (answers told : List Answer)
    → refused_answer_count answers ≡ 0 → BatchRowsAreDecided form step_of_row name base moments front answers mid → BatchRowsAreDecided form step_of_row name mid others (front ++ more) told last
    → IsCompletedByRetry form name base moments others (front ++ more) answers told last
completed form name base mid last moments others front more answers told none one two =
    let c = completed-by form name base mid last moments others front more answers told none one two in
    record {
      again = ap (λ (n : ℕ). take n told) one.each ∙ c.0;
      settled = subst (λ (n : ℕ). BatchRowsAreDecided form step_of_row name base (moments ++ drop (length moments) others) (front ++ more) (answers ++ drop n told) last) (sym one.each) c.1;
    }

none-joined : (answers : List Answer) (answer : Answer) → refused_answer_count answers ≡ 0 → is_refused_answer answer ≡ false → refused_answer_count (answers ++ answer ∷ []) ≡ 0
none-joined [] answer none h = none-with answer [] h none
none-joined (a ∷ answers) answer none h = let k = none-first a answers none in none-with a (answers ++ answer ∷ []) k.0 (none-joined answers answer k.1 h)

module _ (form : Fields → ReadResult Command) (name : Text) (base mid stood : Base) (moments : List ℕ) (front : List Fields) (answers : List Answer)
    (one : BatchRowsAreDecided form step_of_row name base moments front answers mid)
    (moment : ℕ) (answer : Answer) (row : Fields) (command : Command) (formed : form row ≡ Ok command)
    (booked : step_of_row mid moment command (record { batch = name; n = length front + 1 }) ≡ (answer, stood)) where
  -- the first rows and the one that was booked, as if it had been answered
  with-booked : AllByRecursion (λ row. ¬ (IsEndRecord row)) (front ++ row ∷ [])
      → BatchRowsAreDecided form step_of_row name base (moments ++ moment ∷ []) (front ++ row ∷ []) (answers ++ answer ∷ []) stood
  with-booked only =
      subst (λ told. BatchRowsAreDecided form step_of_row name base (moments ++ moment ∷ []) (front ++ row ∷ []) (answers ++ told) stood) told
      (joined form name base mid stood moments (moment ∷ []) front (row ∷ []) answers (answer ∷ []) one only lates run)
    where
      number : ℕ
      number = 1 + length front

      calls : rows_with_well_formed_row (form row) number [] ≡ (number, command) ∷ []
      calls = ap (λ (r : ReadResult Command). rows_with_well_formed_row r number []) formed

      lates : length (moment ∷ []) ≡ length (well_formed_rows_from form number (row ∷ []))
      lates = sym (ap (λ (l : List (ℕ × Command)). length l) calls)

      same : step_of_row mid moment command (record { batch = name; n = number }) ≡ (answer, stood)
      same = ap (λ (n : ℕ). step_of_row mid moment command (record { batch = name; n = n })) (omega arith) ∙ booked

      run : CallsHaveAnswers step_of_row mid (calls_of_rows name (moment ∷ []) (well_formed_rows_from form number (row ∷ []))) (answer ∷ []) stood
      run = subst (λ (l : List (ℕ × Command)). CallsHaveAnswers step_of_row mid (calls_of_rows name (moment ∷ []) l) (answer ∷ []) stood) (sym calls)
          (ap (λ (r : Answer × Base). r.0) (sym same), ap (λ (r : Answer × Base). r.1) (sym same))

      told : answers_interleaved_with_refusals form (row ∷ []) (answer ∷ []) ≡ answer ∷ []
      told = ap (λ (r : ReadResult Command). answers_to_row_and_rest r (answers_interleaved_with_refusals form []) (answer ∷ [])) formed

-- a row that was refused left what stood
refused-leaves : (mid stood : Base) (moment : ℕ) (command : Command) (key : Key) (answer : Answer) → step_of_row mid moment command key ≡ (answer, stood)
    → is_refused_answer answer ≡ true → stood ≡ mid
refused-leaves mid stood moment command key (Done reply) e h = absurd (cc)
refused-leaves mid stood moment command key (Again line) e h = absurd (cc)
refused-leaves mid stood moment command key (Refused refusal) e h = keyed_step-says mid moment command _ (Refused refusal) stood e

-- where the next row was booked too
pub booked-completed : (form : Fields → ReadResult Command) (name : Text) (base mid stood last : Base) (moments others : List ℕ) (front more : List Fields)
    (answers told : List Answer) (moment : ℕ) (answer : Answer)
    → refused_answer_count answers ≡ 0 → BatchRowsAreDecided form step_of_row name base moments front answers mid → NextRowLeadsTo form name mid front more moment answer stood
    → BatchRowsAreDecided form step_of_row name stood others (front ++ more) told last
    → IsCompletedByRetry form name base moments others (front ++ more) answers told last
    ⊎ IsCompletedByRetry form name base (moments ++ moment ∷ []) others (front ++ more) (answers ++ answer ∷ []) told last
booked-completed form name base mid stood last moments others front more answers told moment answer none one w two = by_answer (is_refused_answer answer) refl
  where
    rows : front ++ more ≡ (front ++ w.row ∷ []) ++ w.rest
    rows = ap (λ (l : List Fields). front ++ l) w.next ∙ sym (append_assoc front (w.row ∷ []) w.rest)

    all : BatchRowsAreDecided form step_of_row name stood others ((front ++ w.row ∷ []) ++ w.rest) told last
    all = subst (λ (l : List Fields). BatchRowsAreDecided form step_of_row name stood others l told last) rows two

    first : BatchRowsAreDecided form step_of_row name base (moments ++ moment ∷ []) (front ++ w.row ∷ []) (answers ++ answer ∷ []) stood
    first = with-booked form name base mid stood moments front answers one moment answer w.row w.command w.formed w.booked
        (All-front (λ row. ¬ (IsEndRecord row)) (front ++ w.row ∷ []) w.rest all.rows_only)

    by_answer : (b : Bool) → is_refused_answer answer ≡ b
        → IsCompletedByRetry form name base moments others (front ++ more) answers told last
        ⊎ IsCompletedByRetry form name base (moments ++ moment ∷ []) others (front ++ more) (answers ++ answer ∷ []) told last
    by_answer true h =
        inl (completed form name base mid last moments others front more answers told none one
        (subst (λ b. BatchRowsAreDecided form step_of_row name b others (front ++ more) told last) (refused-leaves mid stood moment w.command _ answer w.booked h) two))
    by_answer false h =
        inr (subst (λ (l : List Fields). IsCompletedByRetry form name base (moments ++ moment ∷ []) others l (answers ++ answer ∷ []) told last) (sym rows)
        (completed form name base stood last (moments ++ moment ∷ []) others (front ++ w.row ∷ []) w.rest (answers ++ answer ∷ []) told (none-joined answers answer none h) first all))

pub stopped-completed : (form : Fields → ReadResult Command) (name : Text) (base mid stood last : Base) (moments others : List ℕ) (front more : List Fields) (answers told : List Answer)
    → refused_answer_count answers ≡ 0 → BatchRowsAreDecided form step_of_row name base moments front answers mid → IsBaseAfterInterruption form name mid front more stood
    → BatchRowsAreDecided form step_of_row name stood others (front ++ more) told last
    → IsCompletedByRetry form name base moments others (front ++ more) answers told last
    ⊎ ((moment : ℕ) × (answer : Answer) × NextRowLeadsTo form name mid front more moment answer stood
    × IsCompletedByRetry form name base (moments ++ moment ∷ []) others (front ++ more) (answers ++ answer ∷ []) told last)
stopped-completed form name base mid stood last moments others front more answers told none one (inl same) two =
    inl (completed form name base mid last moments others front more answers told none one (subst (λ b. BatchRowsAreDecided form step_of_row name b others (front ++ more) told last) same two))
stopped-completed form name base mid stood last moments others front more answers told none one (inr (moment, answer, w)) two =
    elim (booked-completed form name base mid stood last moments others front more answers told moment answer none one w two) [ inl c ↦ inl c | inr c ↦ inr (moment, answer, w, c) ]

-- ---- the rows of the text

-- the rows that were settled, and those that follow up to the end
pub rows-go-on : (text name other : Text) (rows others : List Fields) → AllByRecursion (λ row. ¬ (IsEndRecord row)) rows → BeginsWithRecords (Some text) (batch_header name ∷ rows)
    → BeginsWithRecords (Some text) (batch_header other ∷ (others ++ correct_end_record (length others) ∷ [])) → (name ≡ other) × ((back : List Fields) × (others ≡ rows ++ back))
rows-go-on text name other rows others only begins whole = (
  name-same name other _ _ same,
  prefix rows others begins.0 (correct_end_record (length others)) whole.0 only (right_end (length others))
      (others-same (batch_header name) (batch_header other) _ _ same),
)
  where
    same : batch_header name ∷ (rows ++ begins.0) ≡ batch_header other ∷ (others ++ correct_end_record (length others) ∷ whole.0)
    same = sym begins.1 ∙ whole.1 ∙ ap (λ (l : List Fields). batch_header other ∷ l) (append_assoc others (correct_end_record (length others) ∷ []) whole.0)

after-front : (front : List Fields) (x y : Fields) (xs ys : List Fields) → front ++ x ∷ xs ≡ front ++ y ∷ ys → x ≡ y
after-front [] x y xs ys e = first-same x y xs ys e
after-front (row ∷ front) x y xs ys e = after-front front x y xs ys (others-same row row _ _ e)

-- a row behind them that is not the end is the next of them
pub next-goes-on : (text name other : Text) (rows others : List Fields) (row : Fields) → AllByRecursion (λ row. ¬ (IsEndRecord row)) rows
    → BeginsWithRecords (Some text) (batch_header name ∷ (rows ++ row ∷ []))
    → BeginsWithRecords (Some text) (batch_header other ∷ (others ++ correct_end_record (length others) ∷ [])) → ((n : ℕ) → row ≡ correct_end_record n → ⊥)
    → (name ≡ other) × ((rest : List Fields) × (others ≡ rows ++ row ∷ rest))
next-goes-on text name other rows others row only begins whole apart = (on.0, by_back on.1.0 on.1.1)
  where
    records_are : records default_config text ≡ batch_header name ∷ (rows ++ row ∷ begins.0)
    records_are = begins.1 ∙ ap (λ (l : List Fields). batch_header name ∷ l) (append_assoc rows (row ∷ []) begins.0)

    on : (name ≡ other) × ((back : List Fields) × (others ≡ rows ++ back))
    on = rows-go-on text name other rows others only (row ∷ begins.0, records_are) whole

    same : rows ++ row ∷ begins.0 ≡ others ++ correct_end_record (length others) ∷ whole.0
    same = others-same (batch_header name) (batch_header other) _ _
        (sym records_are ∙ whole.1 ∙ ap (λ (l : List Fields). batch_header other ∷ l) (append_assoc others (correct_end_record (length others) ∷ []) whole.0))

    by_back : (back : List Fields) → others ≡ rows ++ back → (rest : List Fields) × (others ≡ rows ++ row ∷ rest)
    by_back [] e =
        absurd (apart (length others) (after-front rows row (correct_end_record (length others)) begins.0 whole.0
        (same ∙ ap (λ (l : List Fields). l ++ correct_end_record (length others) ∷ whole.0) (e ∙ append-nil rows))))
    by_back (r ∷ rest) e =
        let next : row ≡ r = after-front rows row r begins.0 (rest ++ correct_end_record (length others) ∷ whole.0)
        (same ∙ ap (λ (l : List Fields). l ++ correct_end_record (length others) ∷ whole.0) e ∙ append_assoc rows (r ∷ rest) (correct_end_record (length others) ∷ whole.0)) in
        (rest, e ∙ ap (λ (f : Fields). rows ++ f ∷ rest) (sym next))

-- an end record is no row in form
pub end-apart : (n : ℕ) (command : Command) → parse_by_first_field row_parsers (correct_end_record n) ≡ Ok command → ⊥
end-apart n command e = let no : Err BadText ≡ Ok command = e in absurd (cc)
