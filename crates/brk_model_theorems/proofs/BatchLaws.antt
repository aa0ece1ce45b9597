-- The function that computes a batch returns the specified result.
use Rattle.std.proofs.Common.{◌≡◌, ◌≤◌, ◌⊎◌, inl, inr, ℕ, suc, ◌+◌, Bool, true, false, cond, List, [], ◌∷◌, ◌++◌, length, take, refl, ◌∙◌, ap, subst, arith, Option, Some, None, Ok, Err, codes}
use Rattle.std.specs.Prelude.{bytes_eq, decimal}
use Rattle.std.specs.List.{AllByRecursion}
use Rattle.std.proofs.lemmas.Slice.Eq.{bytes_eq-Decides}
use Rattle.csv.specs.Reading.{records, default_config}
use Rattle.csv.specs.Records.{field_at}
use Rattle.brk_money.specs.Spelling.{Text}
use Rattle.brk_money.specs.declared.refusal.Refusal.TheVariants.{BadText}
use Rattle.brk_model.specs.Base.{Base}
use Rattle.brk_model.specs.Forms.{ReadResult, is_batch_name}
use Rattle.brk_model.specs.Parse.{parse_row}
use Rattle.brk_model.specs.Commands.{Answer, Refused}
use Rattle.brk_model.specs.Answers.{Fields, RowStep}
use Rattle.brk_model_theorems.specs.RowCalls.{RowCall, CallsHaveAnswers, result_of_row_call, RowsAreAnsweredByCalls, well_formed_rows_from}
use Rattle.brk_model_theorems.specs.RowCalls.{rows_with_well_formed_row, calls_of_rows, answers_interleaved_with_refusals, answers_to_row_and_rest}
use Rattle.brk_model.specs.Input.{input_text, BeginsWithRecords, HasExactlyRecords, IsBatchName, IsEndRecord, batch_header, correct_end_record}
use Rattle.brk_model.specs.Batch.{BatchResult, BadEnd, BatchRowsAreDecided, IsResultOfTextWithHeader, IsResultOfTextWithoutHeader, IsResultOfBatch, step_of_row}
use Rattle.brk_model.specs.Computed.{AnswersAndBase, answers_and_base_of_rows, is_end_record, RowsAndEndRecord, split_with_row_in_front, split_at_end_record}
use Rattle.brk_model.specs.Computed.{batch_name_of_header, has_correct_row_count, result_without_end_line, result_of_complete_batch, result_with_end_record}
use Rattle.brk_model.specs.Computed.{result_without_end_record, result_of_batch_rows, result_of_optionally_named_batch, result_of_batch_records, result_of_batch_input}
use Rattle.brk_model_theorems.proofs.RowLaws.{takes-first}

-- ---- the calls of rows

pub length-calls : {C : Type 0} (name : Text) (moments : List ℕ) (rows : List (ℕ × C)) → length rows ≤ length moments → length (calls_of_rows name moments rows) ≡ length rows
length-calls name [] [] h = refl
length-calls name [] (row ∷ rows) h = absurd (omega (h, arith))
length-calls name (moment ∷ moments) [] h = refl
length-calls name (moment ∷ moments) (row ∷ rows) h = ap suc (length-calls name moments rows (omega (h, arith)))

-- ---- the rows in form, and all of them

pub formed-few : {C : Type 0} (form : Fields → ReadResult C) (n : ℕ) (rows : List Fields) → length (well_formed_rows_from form n rows) ≤ length rows
formed-few form n [] = omega arith
formed-few form n (row ∷ rows) = one (form row) n (well_formed_rows_from form (n + 1) rows) (length rows) (formed-few form (n + 1) rows)
  where
    one : {C : Type 0} (r : ReadResult C) (n : ℕ) (rest : List (ℕ × C)) (k : ℕ) → length rest ≤ k → length (rows_with_well_formed_row r n rest) ≤ suc k
    one (Ok command) n rest k h = omega (h, arith)
    one (Err refusal) n rest k h = omega (h, arith)

pub length-woven : {C : Type 0} (form : Fields → ReadResult C) (n : ℕ) (rows : List Fields) (answers : List Answer)
    → length answers ≡ length (well_formed_rows_from form n rows) → length (answers_interleaved_with_refusals form rows answers) ≡ length rows
length-woven form n [] answers h = refl
length-woven form n (row ∷ rows) answers h =
    one (form row) n (well_formed_rows_from form (n + 1) rows) (answers_interleaved_with_refusals form rows) (length rows) answers
    (length-woven form (n + 1) rows) h
  where
    one : {C : Type 0} (r : ReadResult C) (n : ℕ) (rest : List (ℕ × C)) (more : List Answer → List Answer) (k : ℕ) (answers : List Answer)
        → ((others : List Answer) → length others ≡ length rest → length (more others) ≡ k) → length answers ≡ length (rows_with_well_formed_row r n rest)
        → length (answers_to_row_and_rest r more answers) ≡ suc k
    one (Ok command) n rest more k [] each h = absurd (omega (h, arith))
    one (Ok command) n rest more k (answer ∷ answers) each h = ap suc (each answers (omega (h, arith)))
    one (Err refusal) n rest more k answers each h = ap suc (each answers h)

length-turns : {B C : Type 0} (step : RowStep B C) (base after : B) (calls : List (RowCall C)) (answers : List Answer) → CallsHaveAnswers step base calls answers after → length answers ≡ length calls
length-turns step base after [] [] r = refl
length-turns step base after [] (answer ∷ answers) r = absurd r
length-turns step base after (call ∷ calls) [] r = absurd r
length-turns step base after (call ∷ calls) (answer ∷ answers) r = ap suc (length-turns step (result_of_row_call step base call).1 after calls answers r.1)

-- rows that are answered by their calls have one answer each
pub one-each : {B C : Type 0} (form : Fields → ReadResult C) (step : RowStep B C) (name : Text) (base after : B) (moments : List ℕ) (rows : List Fields) (answers : List Answer)
    → RowsAreAnsweredByCalls form step name base moments rows answers after → length answers ≡ length rows
one-each {C = C} form step name base after moments rows answers h =
    let formed : List (ℕ × C) = well_formed_rows_from form 1 rows in
    ap length h.all
    ∙ length-woven form 1 rows h.replies
    (length-turns step base after (calls_of_rows name moments formed) h.replies h.run ∙ length-calls name moments formed (omega (h.one_each, arith)))

-- ---- records that end a batch

pub sound : (xs ys : List ℕ) → bytes_eq xs ys ≡ true → xs ≡ ys
sound xs ys h = (bytes_eq-Decides xs ys).0 h

pub same : (xs ys : List ℕ) → xs ≡ ys → bytes_eq xs ys ≡ true
same xs ys h = (bytes_eq-Decides xs ys).1 h

pub some-inj : {X : Type 0} {x y : X} → Some x ≡ Some y → x ≡ y
some-inj {X = X} {x = x} e = ap (value x) e
  where
    value : {X : Type 0} → X → Option X → X
    value d None = d
    value d (Some x) = x

pub end_is : (row : Fields) → is_end_record row ≡ true → IsEndRecord row
unfolding field_at
end_is [] h = absurd (cc)
end_is (word ∷ fields) h = ap Some (sound word (codes "end") h)

pub is_end_of : (row : Fields) → IsEndRecord row → is_end_record row ≡ true
unfolding field_at
is_end_of [] h = absurd (cc)
is_end_of (word ∷ fields) h = same word (codes "end") (some-inj h)

pub no_end : (row : Fields) → is_end_record row ≡ false → ¬ (IsEndRecord row)
no_end row h e = let k = is_end_of row e in absurd (cc)

-- The split is that of the rows: none before the end record is an end record.
abbrev pub Splits : List Fields → RowsAndEndRecord → Type 0
Splits rows (front, Some last) = AllByRecursion (λ row. ¬ (IsEndRecord row)) front × IsEndRecord last × ((more : List Fields) × (rows ≡ front ++ last ∷ more))
Splits rows (front, None) = AllByRecursion (λ row. ¬ (IsEndRecord row)) front × (rows ≡ front)

pub with_row-Splits : (row : Fields) (rows : List Fields) (split : RowsAndEndRecord) → ¬ (IsEndRecord row) → Splits rows split → Splits (row ∷ rows) (split_with_row_in_front row split)
with_row-Splits row rows (front, Some last) h s = ((h, s.0), s.1, (s.2.0, ap (λ rs. row ∷ rs) s.2.1))
with_row-Splits row rows (front, None) h s = ((h, s.0), ap (λ rs. row ∷ rs) s.1)

pub splits_one : (row : Fields) (rows : List Fields) (b : Bool) → is_end_record row ≡ b → Splits rows (split_at_end_record rows)
    → Splits (row ∷ rows) (cond b ([], Some row) (split_with_row_in_front row (split_at_end_record rows)))
splits_one row rows true h s = (tt, end_is row h, (rows, refl))
splits_one row rows false h s = with_row-Splits row rows (split_at_end_record rows) (no_end row h) s

pub splits : (rows : List Fields) → Splits rows (split_at_end_record rows)
splits [] = (tt, refl)
splits (row ∷ rows) = splits_one row rows (is_end_record row) refl (splits rows)

-- ---- the header and the right end

second_of : Fields → Text
second_of [] = []
second_of (word ∷ []) = []
second_of (word ∷ count ∷ more) = count

first_of : Fields → Text
first_of [] = []
first_of (word ∷ more) = word

-- The record is the header of the batch with this well-formed name; without a name, it is the
-- header of no well-formed name.
abbrev pub HeaderHasOptionalName : Fields → Option Text → Type 0
HeaderHasOptionalName header (Some name) = (header ≡ batch_header name) × IsBatchName name
HeaderHasOptionalName header None = (name : Text) → IsBatchName name → header ≡ batch_header name → ⊥

pub header_says : (header : Fields) → HeaderHasOptionalName header (batch_name_of_header header)
unfolding second_of first_of
header_says [] = λ name named e. absurd (cc)
header_says (word ∷ []) = λ name named e. absurd (cc)
header_says (word ∷ count ∷ more ∷ fields) = λ name named e. absurd (cc)
header_says (word ∷ name ∷ []) = at (bytes_eq word (codes "batch")) refl (is_batch_name name) refl
  where
    at : (b : Bool) → bytes_eq word (codes "batch") ≡ b → (n : Bool) → is_batch_name name ≡ n → HeaderHasOptionalName (word ∷ name ∷ []) (cond b (cond n (Some name) None) None)
    at true h true k = (ap (λ w. w ∷ name ∷ []) (sound word (codes "batch") h), k)
    at true h false k = λ other named e. let q : name ≡ other = ap second_of e in absurd (cc)
    at false h n k = λ other named e. let q = same word (codes "batch") (ap first_of e) in absurd (cc)

-- The record is the correct end record of `n` rows if the Boolean is true, and is not if it is
-- false.
abbrev pub IsCorrectEndRecordExactlyIf : ℕ → Fields → Bool → Type 0
IsCorrectEndRecordExactlyIf n last true = last ≡ correct_end_record n
IsCorrectEndRecordExactlyIf n last false = last ≡ correct_end_record n → ⊥

pub right_says : (n : ℕ) (last : Fields) → IsEndRecord last → IsCorrectEndRecordExactlyIf n last (has_correct_row_count n last)
unfolding field_at second_of
right_says n [] h = λ e. absurd (cc)
right_says n (word ∷ []) h = λ e. absurd (cc)
right_says n (word ∷ count ∷ more ∷ fields) h = λ e. absurd (cc)
right_says n (word ∷ count ∷ []) h = at (bytes_eq count (decimal n)) refl
  where
    at : (b : Bool) → bytes_eq count (decimal n) ≡ b → IsCorrectEndRecordExactlyIf n (word ∷ count ∷ []) b
    at true k = ap (λ w. w ∷ count ∷ []) (some-inj h) ∙ ap (λ c. codes "end" ∷ c ∷ []) (sound count (decimal n) k)
    at false k = λ e. let q = same count (decimal n) (ap second_of e) in absurd (cc)

-- ---- the batch

-- rows that are none of them an end record, settled
pub settles : {B C : Type 0} (form : Fields → ReadResult C) (step : RowStep B C) (name : Text) (base : B) (moments : List ℕ) (rows : List Fields)
    → IsBatchName name → AllByRecursion (λ row. ¬ (IsEndRecord row)) rows → length rows ≤ length moments
    → BatchRowsAreDecided form step name base (take (length (well_formed_rows_from form 1 rows)) moments) rows
    (answers_and_base_of_rows form step name base moments rows).0 (answers_and_base_of_rows form step name base moments rows).1
settles form step name base moments rows named only h =
    let few = formed-few form 1 rows in
    let enough : length (well_formed_rows_from form 1 rows) ≤ length moments = omega (few, h, arith) in
    let k = takes-first form step name rows 1 base moments enough in
    record { named = named; rows_only = only; answered = k.0; each = k.1 }

-- The batch is the result of the text with the first `n` clock readings, for some `n`.
abbrev pub Comes : {B C : Type 0} → (Fields → ReadResult C) → RowStep B C → B → List ℕ → Text → BatchResult B → Type 0
Comes form step base moments text batch =
    (n : ℕ) × (IsResultOfTextWithHeader form step base (take n moments) (Some text) batch ⊎ IsResultOfTextWithoutHeader base (take n moments) (Some text) batch)

append-assoc : {X : Type 0} (xs ys zs : List X) → xs ++ (ys ++ zs) ≡ (xs ++ ys) ++ zs
append-assoc [] ys zs = refl
append-assoc (x ∷ xs) ys zs = ap (λ rs. x ∷ rs) (append-assoc xs ys zs)

length-append_one : {X : Type 0} (xs : List X) (y : X) (zs : List X) → length (xs ++ y ∷ zs) ≡ suc (length xs + length zs)
length-append_one [] y zs = omega arith
length-append_one (x ∷ xs) y zs = let h = length-append_one xs y zs in omega (h, arith)

-- the rows before an end record, right or wrong
pub ends_with : {B C : Type 0} (form : Fields → ReadResult C) (step : RowStep B C) (name : Text) (base : B) (moments : List ℕ) (text : Text) (rows : List Fields) (last : Fields) (more : List Fields)
    → IsBatchName name → AllByRecursion (λ row. ¬ (IsEndRecord row)) rows → IsEndRecord last → records default_config text ≡ batch_header name ∷ (rows ++ last ∷ more) → length rows ≤ length moments
    → Comes form step base moments text (result_with_end_record form step name base moments rows last)
ends_with {B = B} form step name base moments text rows last more named only end all h = at (has_correct_row_count (length rows) last) (right_says (length rows) last end)
  where
    run : AnswersAndBase B
    run = answers_and_base_of_rows form step name base moments rows

    at : (b : Bool) → IsCorrectEndRecordExactlyIf (length rows) last b → Comes form step base moments text (cond b (result_of_complete_batch run) (result_without_end_line run BadEnd))
    at true k = (
      length (well_formed_rows_from form 1 rows),
      inl (record {
        name = name;
        rows = rows;
        answers = run.0;
        told = run.0;
        settled = settles form step name base moments rows named only h;
        ends = ((more, all ∙ ap (λ l. batch_header name ∷ (rows ++ l ∷ more)) k ∙ ap (λ rs. batch_header name ∷ rs) (append-assoc rows (correct_end_record (length rows) ∷ []) more)), refl, refl);
        counted = refl;
      }),
    )
    at false k = (
      length (well_formed_rows_from form 1 rows),
      inl (record {
        name = name;
        rows = rows;
        answers = run.0;
        told = run.0;
        settled = settles form step name base moments rows named only h;
        ends = ((last, end, k, (more, all ∙ ap (λ rs. batch_header name ∷ rs) (append-assoc rows (last ∷ []) more))), refl, refl);
        counted = refl;
      }),
    )

-- all but the last of some rows, and the last
pub last_of : {X : Type 0} (x : X) (xs : List X) → (last : X) × (x ∷ xs ≡ take (length xs) (x ∷ xs) ++ last ∷ [])
last_of x [] = (x, refl)
last_of x (y ∷ ys) = let k = last_of y ys in (k.0, ap (λ zs. x ∷ zs) k.1)

pub All-front : {X : Type 0} (P : X → Type 0) (xs ys : List X) → AllByRecursion P (xs ++ ys) → AllByRecursion P xs
All-front P [] ys h = tt
All-front P (x ∷ xs) ys h = (h.0, All-front P xs ys h.1)

pub All-back : {X : Type 0} (P : X → Type 0) (xs ys : List X) → AllByRecursion P (xs ++ ys) → AllByRecursion P ys
All-back P [] ys h = h
All-back P (x ∷ xs) ys h = All-back P xs ys h.1

-- rows with no end record after them
pub cuts_off : {B C : Type 0} (form : Fields → ReadResult C) (step : RowStep B C) (name : Text) (base : B) (moments : List ℕ) (text : Text) (rows : List Fields)
    → IsBatchName name → AllByRecursion (λ row. ¬ (IsEndRecord row)) rows → records default_config text ≡ batch_header name ∷ rows → length rows ≤ length moments
    → Comes form step base moments text (result_without_end_record form step name base moments rows)
cuts_off form step name base moments text [] named only all h = (
  length (well_formed_rows_from form 1 []),
  inl (record {
    name = name;
    rows = [];
    answers = (answers_and_base_of_rows form step name base moments []).0;
    told = [];
    settled = settles form step name base moments [] named only h;
    ends = (inl (refl, all, refl), refl);
    counted = refl;
  }),
)
cuts_off {B = B} form step name base moments text (row ∷ rows) named only all h = (
  length (well_formed_rows_from form 1 front),
  inl (record {
    name = name;
    rows = front;
    answers = run.0;
    told = run.0 ++ Refused BadText ∷ [];
    settled = settles form step name base moments front named (All-front P front (end.0 ∷ []) only') enough;
    ends = (inr (end.0, (All-back P front (end.0 ∷ []) only').0, all ∙ ap (λ rs. batch_header name ∷ rs) end.1, refl), refl);
    counted = refl;
  }),
)
  where
    P : Fields → Type 0
    P r = ¬ (IsEndRecord r)

    front : List Fields
    front = take (length rows) (row ∷ rows)

    run : AnswersAndBase B
    run = answers_and_base_of_rows form step name base moments front

    end : (last : Fields) × (row ∷ rows ≡ front ++ last ∷ [])
    end = last_of row rows

    only' : AllByRecursion P (front ++ end.0 ∷ [])
    only' = subst (AllByRecursion P) end.1 only

    enough : length front ≤ length moments
    enough = let k = length-append_one front end.0 [] in let e = ap length end.1 in omega (k, e, h, arith)

-- the records after a header
pub comes_named : {B C : Type 0} (form : Fields → ReadResult C) (step : RowStep B C) (name : Text) (base : B) (moments : List ℕ) (text : Text) (rest : List Fields) (split : RowsAndEndRecord)
    → IsBatchName name → records default_config text ≡ batch_header name ∷ rest → length rest ≤ length moments → Splits rest split
    → Comes form step base moments text (result_of_batch_rows form step name base moments split)
comes_named form step name base moments text rest (rows, Some last) named all h s =
    ends_with form step name base moments text rows last s.2.0 named s.0 s.1 (all ∙ ap (λ rs. batch_header name ∷ rs) s.2.1)
    (let k = length-append_one rows last s.2.0 in let e = ap length s.2.1 in omega (k, e, h, arith))
comes_named form step name base moments text rest (rows, None) named all h s =
    cuts_off form step name base moments text rows named s.0 (all ∙ ap (λ rs. batch_header name ∷ rs) s.1) (let e = ap length s.1 in omega (e, h, arith))

-- a batch without a header
pub comes_headless : {B C : Type 0} (form : Fields → ReadResult C) (step : RowStep B C) (base : B) (moments : List ℕ) (text : Text)
    → (HasExactlyRecords (Some text) [] ⊎ ((first : Fields) × BeginsWithRecords (Some text) (first ∷ []) × ((name : Text) → IsBatchName name → first ≡ batch_header name → ⊥)))
    → Comes form step base moments text (result_of_optionally_named_batch form step None base moments [])
comes_headless form step base moments text h =
    (0, inr (record { headless = h; ending = refl; asked = refl; unchanged = refl; told = refl; counted = refl }))

-- by the name in the header
pub comes_headed : {B C : Type 0} (form : Fields → ReadResult C) (step : RowStep B C) (base : B) (moments : List ℕ) (text : Text) (header : Fields) (rest : List Fields) (name : Option Text)
    → records default_config text ≡ header ∷ rest → length rest ≤ length moments → HeaderHasOptionalName header name
    → Comes form step base moments text (result_of_optionally_named_batch form step name base moments rest)
comes_headed form step base moments text header rest (Some name) all h says =
    comes_named form step name base moments text rest (split_at_end_record rest) says.1 (all ∙ ap (λ r. r ∷ rest) says.0) h (splits rest)
comes_headed form step base moments text header rest None all h says =
    comes_headless form step base moments text (inr (header, (rest, all), says))

pub comes : {B C : Type 0} (form : Fields → ReadResult C) (step : RowStep B C) (base : B) (moments : List ℕ) (text : Text) (all : List Fields)
    → records default_config text ≡ all → length all ≤ length moments → Comes form step base moments text (result_of_batch_records form step base moments all)
comes form step base moments text [] e h = comes_headless form step base moments text (inl e)
comes form step base moments text (header ∷ rest) e h =
    comes_headed form step base moments text header rest (batch_name_of_header header) e (omega (h, arith)) (header_says header)

-- the function gives the batch text, and takes the first of the moments
pub computes : (base : Base) (moments : List ℕ) (input : Text) → length (records default_config (input_text input)) ≤ length moments
    → (n : ℕ) × IsResultOfBatch parse_row step_of_row base (take n moments) input (result_of_batch_input base moments input)
unfolding result_of_batch_input
computes base moments input h = comes parse_row step_of_row base moments (input_text input) (records default_config (input_text input)) refl h
