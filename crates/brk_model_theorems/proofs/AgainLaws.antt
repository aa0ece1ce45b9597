-- A retry of a complete batch: its rows are stored under their keys, so it changes nothing.
use Rattle.std.proofs.Common.{◌≡◌, ℕ, ◌+◌, suc, Bool, true, false, cond, List, [], ◌∷◌, ◌++◌, length, map, refl, sym, ◌∙◌, ap, subst, arith, append_assoc, inl, inr, Some, Ok, Err}
use Rattle.std.specs.List.{AllByRecursion}
use Rattle.std.proofs.lemmas.List.Sums.{sum_by-cons}
use Rattle.csv.specs.Reading.{records, default_config}
use Rattle.csv.specs.Records.{field_at}
use Rattle.brk_money.specs.Spelling.{Text}
use Rattle.brk_model.specs.Records.{Key}
use Rattle.brk_model.specs.Base.{Base}
use Rattle.brk_model.specs.Forms.{ReadResult}
use Rattle.brk_model.specs.Commands.{Command, Answer, Refused}
use Rattle.brk_model.specs.Keyed.{keyed_step}
use Rattle.brk_model.specs.Answers.{Fields}
use Rattle.brk_model_theorems.specs.RowCalls.{RowCall, CallsHaveAnswers, result_of_row_call, rows_with_well_formed_row, well_formed_rows_from, calls_of_rows}
use Rattle.brk_model_theorems.specs.RowCalls.{answers_interleaved_with_refusals, answers_to_row_and_rest, RowsAreAnsweredByCalls}
use Rattle.brk_model.specs.Input.{input_text, IsBatchName, IsEndRecord, batch_header, correct_end_record}
use Rattle.brk_model.specs.Lines.{answer_lines_from, batch_end_line, is_refused_answer, refused_answer_count}
use Rattle.brk_model.specs.Batch.{BatchResult, BatchEnding, CorrectEnd, BadHeader, NoEnd, BadEnd, BatchRowsAreDecided, IsResultOfBatch, HasNoHeader}
use Rattle.brk_model.specs.Batch.{MatchesEnding, IsResultOfTextWithHeader, step_of_row}
use Rattle.brk_model.specs.Computed.{result_of_complete_batch}
use Rattle.brk_model_theorems.specs.Laws.{SomeRunLeadsTo, IsCompleteBatchWithoutRefusals, answer_to_retry}
use Rattle.brk_model_theorems.proofs.KeptLaws.{Grows, grows-on, run-grows, still, remembers, answers-again}
use Rattle.brk_model_theorems.proofs.RunLaws.{rows-run}
use Rattle.brk_model_theorems.proofs.RowLaws.{calls-of-decided}
use Rattle.brk_model_theorems.proofs.BatchLaws.{length-calls, All-back}

-- ---- the calls of a batch

pub length-turned : (calls : List (RowCall Command)) (answers : List Answer) (base after : Base) → CallsHaveAnswers step_of_row base calls answers after → length answers ≡ length calls
length-turned [] [] base after r = refl
length-turned [] (answer ∷ answers) base after r = absurd r
length-turned (call ∷ calls) [] base after r = absurd r
length-turned (call ∷ calls) (answer ∷ answers) base after r = ap suc (length-turned calls answers (result_of_row_call step_of_row base call).1 after r.1)

-- No answer of the list is a refusal.
abbrev pub NoAnswerIsRefused : List Answer → Type 0
NoAnswerIsRefused answers = AllByRecursion (λ answer. is_refused_answer answer ≡ false) answers

-- the same rows over a later base, at other moments
pub in-turn-again : (name : Text) (rows : List (ℕ × Command)) (moments others : List ℕ) (replies told : List Answer) (base after later last : Base)
    → length moments ≡ length rows → length others ≡ length rows → NoAnswerIsRefused replies → CallsHaveAnswers step_of_row base (calls_of_rows name moments rows) replies after → Grows after later
    → CallsHaveAnswers step_of_row later (calls_of_rows name others rows) told last → (told ≡ map answer_to_retry replies) × (last ≡ later)
in-turn-again name [] [] [] [] [] base after later last l m none r g s = (refl, s)
in-turn-again name [] [] [] [] (t ∷ told) base after later last l m none r g s = absurd s
in-turn-again name [] [] [] (reply ∷ replies) told base after later last l m none r g s = absurd r
in-turn-again name [] [] (o ∷ others) replies told base after later last l m none r g s = absurd (omega (m, arith))
in-turn-again name [] (moment ∷ moments) others replies told base after later last l m none r g s = absurd (omega (l, arith))
in-turn-again name (row ∷ rows) [] others replies told base after later last l m none r g s = absurd (omega (l, arith))
in-turn-again name (row ∷ rows) (moment ∷ moments) [] replies told base after later last l m none r g s = absurd (omega (m, arith))
in-turn-again name (row ∷ rows) (moment ∷ moments) (o ∷ others) [] told base after later last l m none r g s = absurd r
in-turn-again name (row ∷ rows) (moment ∷ moments) (o ∷ others) (reply ∷ replies) [] base after later last l m none r g s = absurd s
in-turn-again name (row ∷ rows) (moment ∷ moments) (o ∷ others) (reply ∷ replies) (t ∷ told) base after later last l m none r g s =
    let rest = in-turn-again name rows moments others replies told mid after later last (omega (l, arith)) (omega (m, arith)) none.1 r.1 g onward in
    (ap (λ a. a ∷ told) (s.0 ∙ ap (λ a. a.0) answered) ∙ ap (λ a. answer_to_retry reply ∷ a) rest.0, rest.1)
  where
    key : Key
    key = record { batch = name; n = row.0 }

    mid : Base
    mid = (keyed_step base moment row.1 (Some key)).1

    grown : Grows mid later
    grown = let run = rows-run mid (calls_of_rows name moments rows) replies after r.1 in grows-on mid after later (run-grows _ _ mid after run) g

    answered : keyed_step later o row.1 (Some key) ≡ (answer_to_retry reply, later)
    answered = answers-again later o row.1 key reply (still mid later key row.1 reply grown (remembers base moment row.1 key reply mid (ap (λ a. (a, mid)) (sym r.0)) none.0))

    onward : CallsHaveAnswers step_of_row later (calls_of_rows name others rows) told last
    onward = subst (λ a. CallsHaveAnswers step_of_row a.1 (calls_of_rows name others rows) told last) answered s.1

-- ---- the answers of form between them

-- a row that form refuses is refused again
pub woven-again : {C : Type 0} (form : Fields → ReadResult C) (rows : List Fields) (replies : List Answer)
    → answers_interleaved_with_refusals form rows (map answer_to_retry replies) ≡ map answer_to_retry (answers_interleaved_with_refusals form rows replies)
woven-again form [] replies = refl
woven-again form (row ∷ rows) replies = one (form row) (answers_interleaved_with_refusals form rows) replies (woven-again form rows)
  where
    one : {C : Type 0} (r : ReadResult C) (more : List Answer → List Answer) (replies : List Answer) → ((others : List Answer) → more (map answer_to_retry others) ≡ map answer_to_retry (more others))
        → answers_to_row_and_rest r more (map answer_to_retry replies) ≡ map answer_to_retry (answers_to_row_and_rest r more replies)
    one (Ok command) more [] each = each []
    one (Ok command) more (reply ∷ replies) each = ap (λ l. answer_to_retry reply ∷ l) (each replies)
    one (Err refusal) more replies each = ap (λ l. Refused refusal ∷ l) (each replies)

pub none-first : (answer : Answer) (answers : List Answer) → refused_answer_count (answer ∷ answers) ≡ 0 → (is_refused_answer answer ≡ false) × (refused_answer_count answers ≡ 0)
none-first answer answers h = at (is_refused_answer answer) (sym (sum_by-cons (λ a. cond (is_refused_answer a) 1 0) answer answers) ∙ h)
  where
    at : (b : Bool) → cond b 1 0 + refused_answer_count answers ≡ 0 → (b ≡ false) × (refused_answer_count answers ≡ 0)
    at true k = absurd (omega (k, arith))
    at false k = (refl, omega (k, arith))

-- where no row is refused, no call of the run is
pub none-woven : {C : Type 0} (form : Fields → ReadResult C) (n : ℕ) (rows : List Fields) (replies : List Answer) → length replies ≡ length (well_formed_rows_from form n rows)
    → refused_answer_count (answers_interleaved_with_refusals form rows replies) ≡ 0 → NoAnswerIsRefused replies
none-woven form n [] [] l h = tt
none-woven form n [] (reply ∷ replies) l h = absurd (omega (l, arith))
none-woven form n (row ∷ rows) replies l h = one (form row) n (well_formed_rows_from form (n + 1) rows) (answers_interleaved_with_refusals form rows) replies (none-woven form (n + 1) rows) l h
  where
    one : {C : Type 0} (r : ReadResult C) (n : ℕ) (rest : List (ℕ × C)) (more : List Answer → List Answer) (replies : List Answer)
        → ((others : List Answer) → length others ≡ length rest → refused_answer_count (more others) ≡ 0 → NoAnswerIsRefused others)
        → length replies ≡ length (rows_with_well_formed_row r n rest) → refused_answer_count (answers_to_row_and_rest r more replies) ≡ 0 → NoAnswerIsRefused replies
    one (Ok command) n rest more [] each l h = tt
    one (Ok command) n rest more (reply ∷ replies) each l h =
        let k = none-first reply (more replies) h in (k.0, each replies (omega (l, arith)) k.1)
    one (Err refusal) n rest more replies each l h = let k = none-first (Refused refusal) (more replies) h in absurd (cc)

-- the rows of a batch settled again
pub settled-again : (form : Fields → ReadResult Command) (name : Text) (moments others : List ℕ) (rows : List Fields) (answers told : List Answer)
    (base after later last : Base) → refused_answer_count answers ≡ 0
    → BatchRowsAreDecided form step_of_row name base moments rows answers after → Grows after later → BatchRowsAreDecided form step_of_row name later others rows told last
    → (told ≡ map answer_to_retry answers) × (last ≡ later)
settled-again form name moments others rows answers told base after later last none first g second =
    (two.all ∙ ap (answers_interleaved_with_refusals form rows) again.0 ∙ woven-again form rows one.replies ∙ ap (map answer_to_retry) (sym one.all), again.1)
  where
    one : RowsAreAnsweredByCalls form step_of_row name base moments rows answers after
    one = calls-of-decided first

    two : RowsAreAnsweredByCalls form step_of_row name later others rows told last
    two = calls-of-decided second

    formed : List (ℕ × Command)
    formed = well_formed_rows_from form 1 rows

    each : length one.replies ≡ length formed
    each = length-turned (calls_of_rows name moments formed) one.replies base after one.run ∙ length-calls name moments formed (omega (one.one_each, arith))

    done : NoAnswerIsRefused one.replies
    done = none-woven form 1 rows one.replies each (ap refused_answer_count (sym one.all) ∙ none)

    again : (two.replies ≡ map answer_to_retry one.replies) × (last ≡ later)
    again = in-turn-again name formed moments others one.replies two.replies base after later last one.one_each two.one_each done one.run g two.run

-- ---- the records of the text

first_of : {X : Type 0} → X → List X → X
first_of d [] = d
first_of d (x ∷ xs) = x

others_of : {X : Type 0} → List X → List X
others_of [] = []
others_of (x ∷ xs) = xs

pub first-same : {X : Type 0} (x y : X) (xs ys : List X) → x ∷ xs ≡ y ∷ ys → x ≡ y
unfolding first_of
first-same x y xs ys e = ap (first_of x) e

pub others-same : {X : Type 0} (x y : X) (xs ys : List X) → x ∷ xs ≡ y ∷ ys → xs ≡ ys
unfolding others_of
others-same x y xs ys e = ap others_of e

-- None of the rows is an end record.
abbrev pub NoRowIsEndRecord : List Fields → Type 0
NoRowIsEndRecord rows = AllByRecursion (λ row. ¬ (IsEndRecord row)) rows

no-end-within : (rows others : List Fields) (end : Fields) (more : List Fields) → IsEndRecord end → rows ++ end ∷ more ≡ others → NoRowIsEndRecord others → ⊥
no-end-within rows others end more h e only = (All-back (λ row. ¬ (IsEndRecord row)) rows (end ∷ more) (subst NoRowIsEndRecord (sym e) only)).0 h

-- the first end record parts the rows in one way
pub ends-first : (rows others : List Fields) (end last : Fields) (more rest : List Fields) → NoRowIsEndRecord rows → NoRowIsEndRecord others → IsEndRecord end
    → IsEndRecord last → rows ++ end ∷ more ≡ others ++ last ∷ rest → (rows ≡ others) × (end ≡ last)
ends-first [] [] end last more rest only all h k e = (refl, first-same end last more rest e)
ends-first [] (other ∷ others) end last more rest only all h k e = absurd (all.0 (subst IsEndRecord (first-same end other more (others ++ last ∷ rest) e) h))
ends-first (row ∷ rows) [] end last more rest only all h k e = absurd (only.0 (subst IsEndRecord (sym (first-same row last (rows ++ end ∷ more) rest e)) k))
ends-first (row ∷ rows) (other ∷ others) end last more rest only all h k e =
    let tails = ends-first rows others end last more rest only.1 all.1 h k (others-same row other (rows ++ end ∷ more) (others ++ last ∷ rest) e) in
    (ap (λ r. r ∷ rows) (first-same row other _ _ e) ∙ ap (λ rs. other ∷ rs) tails.0, tails.1)

All-joined : {X : Type 0} (P : X → Type 0) (xs : List X) (y : X) → AllByRecursion P xs → P y → AllByRecursion P (xs ++ y ∷ [])
All-joined P [] y h k = (k, tt)
All-joined P (x ∷ xs) y h k = (h.0, All-joined P xs y h.1 k)

second_of : Fields → Text
second_of [] = []
second_of (word ∷ []) = []
second_of (word ∷ name ∷ more) = name

pub name-same : (name other : Text) (rows others : List Fields) → batch_header name ∷ rows ≡ batch_header other ∷ others → name ≡ other
unfolding second_of
name-same name other rows others e = ap second_of (first-same (batch_header name) (batch_header other) rows others e)

pub right_end : (n : ℕ) → IsEndRecord (correct_end_record n)
unfolding field_at
right_end n = refl

-- ---- the batch

made : Text → Base → BatchEnding → ℕ → BatchResult Base
made text base ending rows = record { text = text; base = base; ending = ending; rows = rows }

-- a batch of these answers, from its parts
by_parts : (batch : BatchResult Base) (answers : List Answer) (base : Base) → batch.text ≡ answer_lines_from 1 answers ++ batch_end_line answers → batch.base ≡ base → batch.ending ≡ CorrectEnd
    → batch.rows ≡ length answers → batch ≡ result_of_complete_batch {B = Base} (answers, base)
unfolding made
by_parts batch answers base t b e n =
    let text : Text = answer_lines_from 1 answers ++ batch_end_line answers in
    ap (λ x. made x batch.base batch.ending batch.rows) t ∙ ap (λ x. made text x batch.ending batch.rows) b ∙ ap (λ x. made text base x batch.rows) e ∙ ap (made text base CorrectEnd) n

-- The records of the input begin with the header of the batch `name`, the rows and their correct
-- end record.
abbrev pub HasRecords : Text → Text → List Fields → Type 0
HasRecords input name rows = (more : List Fields) × (records default_config (input_text input) ≡ batch_header name ∷ (rows ++ correct_end_record (length rows) ∷ more))

-- the second one ends well, and has the same rows
by_ending : (input name other : Text) (rows others : List Fields) (answers told : List Answer) (ending : BatchEnding) (out : Text) → NoRowIsEndRecord rows → NoRowIsEndRecord others
    → HasRecords input name rows → MatchesEnding (Some (input_text input)) ending other others answers told out
    → (ending ≡ CorrectEnd) × (name ≡ other) × (rows ≡ others) × (told ≡ answers) × (out ≡ answer_lines_from 1 answers ++ batch_end_line answers)
by_ending input name other rows others answers told CorrectEnd out only all has ends =
    let end = correct_end_record (length others) in
    let e = sym has.1 ∙ ends.0.1 ∙ ap (λ rs. batch_header other ∷ rs) (append_assoc others (end ∷ []) ends.0.0) in
    let tail = others-same (batch_header name) (batch_header other) _ _ e in
    let k = ends-first rows others (correct_end_record (length rows)) end has.0 ends.0.0 only all (right_end (length rows)) (right_end (length others)) tail in
    (refl, name-same name other _ _ e, k.0, ends.1, ends.2)
by_ending input name other rows others answers told BadEnd out only all has ends =
    let last = ends.0.0 in
    let e = sym has.1 ∙ ends.0.3.1 ∙ ap (λ rs. batch_header other ∷ rs) (append_assoc others (last ∷ []) ends.0.3.0) in
    let tail = others-same (batch_header name) (batch_header other) _ _ e in
    let k = ends-first rows others (correct_end_record (length rows)) last has.0 ends.0.3.0 only all (right_end (length rows)) ends.0.1 tail in
    absurd (ends.0.2 (sym k.1 ∙ ap (λ rs. correct_end_record (length rs)) k.0))
by_ending input name other rows others answers told NoEnd out only all has (inl cut, said) =
    let e = others-same (batch_header name) (batch_header other) _ _ (sym has.1 ∙ cut.1) in
    absurd (no-end-within rows [] (correct_end_record (length rows)) has.0 (right_end (length rows)) e tt)
by_ending input name other rows others answers told NoEnd out only all has (inr cut, said) =
    let e = others-same (batch_header name) (batch_header other) _ _ (sym has.1 ∙ cut.2) in
    let none = All-joined (λ row. ¬ (IsEndRecord row)) others cut.0 all cut.1 in
    absurd (no-end-within rows (others ++ cut.0 ∷ []) (correct_end_record (length rows)) has.0 (right_end (length rows)) e none)
by_ending input name other rows others answers told BadHeader out only all has ends = absurd ends

-- the records of the first one
pub by_first : (input name : Text) (rows : List Fields) (answers told : List Answer) (ending : BatchEnding) (out : Text) → ending ≡ CorrectEnd
    → MatchesEnding (Some (input_text input)) ending name rows answers told out
    → HasRecords input name rows
by_first input name rows answers told CorrectEnd out well ends = (ends.0.0, ends.0.1 ∙ ap (λ rs. batch_header name ∷ rs) (append_assoc rows (correct_end_record (length rows) ∷ []) ends.0.0))
by_first input name rows answers told BadHeader out well ends = absurd ends
by_first input name rows answers told NoEnd out well ends = absurd (cc)
by_first input name rows answers told BadEnd out well ends = absurd (cc)

-- a batch with such records is not without a header
no-header : (input name : Text) (rest : List Fields) → IsBatchName name → records default_config (input_text input) ≡ batch_header name ∷ rest → HasNoHeader (Some (input_text input)) → ⊥
no-header input name rest named e (inl empty) = let no = sym empty ∙ e in absurd (cc)
no-header input name rest named e (inr begins) = begins.2 name named (first-same begins.0 (batch_header name) begins.1.0 rest (sym begins.1.1 ∙ e))

by_kind : (form : Fields → ReadResult Command) (base later : Base) (moments others : List ℕ) (input : Text) (answers : List Answer) (first second : BatchResult Base)
    (one : IsResultOfTextWithHeader form step_of_row base moments (Some (input_text input)) first) → one.answers ≡ answers → refused_answer_count answers ≡ 0 → HasRecords input one.name one.rows
    → Grows first.base later → IsResultOfBatch form step_of_row later others input second → second ≡ result_of_complete_batch {B = Base} (map answer_to_retry answers, later)
by_kind form base later moments others input answers first second one these none has g (inr two) = absurd (no-header input one.name _ one.settled.named has.1 two.headless)
by_kind form base later moments others input answers first second one these none has g (inl two) =
    by_parts second (map answer_to_retry answers) later (k.4 ∙ ap (λ a. answer_lines_from 1 a ++ batch_end_line a) same) again.1 k.0 (two.counted ∙ ap length (k.3 ∙ same))
  where
    k : (second.ending ≡ CorrectEnd) × (one.name ≡ two.name) × (one.rows ≡ two.rows) × (two.told ≡ two.answers) × (second.text ≡ answer_lines_from 1 two.answers ++ batch_end_line two.answers)
    k = by_ending input one.name two.name one.rows two.rows two.answers two.told second.ending second.text one.settled.rows_only two.settled.rows_only has two.ends

    named : BatchRowsAreDecided form step_of_row one.name later others two.rows two.answers second.base
    named = subst (λ n. BatchRowsAreDecided form step_of_row n later others two.rows two.answers second.base) (sym k.1) two.settled

    settled : BatchRowsAreDecided form step_of_row one.name later others one.rows two.answers second.base
    settled = subst (λ rs. BatchRowsAreDecided form step_of_row one.name later others rs two.answers second.base) (sym k.2) named

    again : (two.answers ≡ map answer_to_retry one.answers) × (second.base ≡ later)
    again = settled-again form one.name moments others one.rows one.answers two.answers base first.base later second.base (ap refused_answer_count these ∙ none) one.settled g settled

    same : two.answers ≡ map answer_to_retry answers
    same = again.0 ∙ ap (map answer_to_retry) these

pub comes-again : (form : Fields → ReadResult Command) (base later : Base) (moments others : List ℕ) (input : Text) (answers : List Answer)
    (first second : BatchResult Base) → IsCompleteBatchWithoutRefusals form base moments input answers first
    → SomeRunLeadsTo first.base later → IsResultOfBatch form step_of_row later others input second → second ≡ result_of_complete_batch {B = Base} (map answer_to_retry answers, later)
comes-again form base later moments others input answers first second went leads two =
    let one : IsResultOfTextWithHeader form step_of_row base moments (Some (input_text input)) first = went.answered in
    let has = by_first input one.name one.rows one.answers one.told first.ending first.text went.ended one.ends in
    by_kind form base later moments others input answers first second one went.these went.none_refused has (run-grows leads.0 leads.1 first.base later leads.2) two
