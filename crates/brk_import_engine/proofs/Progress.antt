-- The progress of a batch.
use Rattle.std.proofs.Common.{◌≡◌, ◌+◌, ◌++◌, ◌∷◌, [], ℕ, List, Bool, refl, length, arith, cond, count_by}
use Rattle.std.specs.Prelude.{Option}
use Rattle.std.specs.List.{AllByRecursion}
use Rattle.std.specs.Io.KnownBytes.{Appends}
use Rattle.std.proofs.KnownBytes.{Appends-trans}
use Rattle.std.proofs.lemmas.Grind.{fold-append}
use Rattle.std.proofs.lemmas.List.Sums.{sum_by-cons}
use Rattle.csv.specs.declared.reader.Reader.{Reader}
use Rattle.csv.specs.Reading.{source_of}
use Rattle.brk_money.specs.Spelling.{Text}
use Rattle.brk_model.specs.Answers.{Fields, RowStep}
use Rattle.brk_model.specs.Batch.{BatchRowsAreDecided}
use Rattle.brk_model.specs.Commands.{Again, Answer, Done, Refused}
use Rattle.brk_model.specs.Forms.{ReadResult}
use Rattle.brk_model.specs.Input.{batch_header}
use Rattle.brk_model.specs.Lines.{answer_line, repeated_answer_count, done_answer_count, refused_answer_count, is_repeated_answer, is_done_answer, is_refused_answer, answer_lines_from}
use Rattle.brk_import_engine.specs.Counts.{counts_with_answer, counts_of_answers}
use Rattle.brk_io.specs.Moments.{ClockReturnsMomentsInSequence}
use Rattle.brk_import_engine.specs.Reading.{ReaderIsAfterRecords}
use Rattle.brk_import_engine.specs.declared.counts.Counts.{Counts}
use Rattle.brk_import_engine.proofs.Pushes.{lines_push}

-- The start of a batch after its header: its name, the base, the clock, the writer's content and
-- the reader.
pub record BatchStartWithBase (S C R : Type 0) : Type 0 where
  pub name : Text
  pub base : S
  pub clock : C
  pub old : Option Text
  pub reader : Reader R

-- A position in a batch: the number of decided rows, their counts, the record after them, the base,
-- the clock and the reader.
pub record BatchPositionWithBase (S C R : Type 0) : Type 0 where
  pub settled : ℕ
  pub counts : Counts
  pub row : Fields
  pub after : S
  pub later : C
  pub reader : Reader R

-- The reader is after these records of the text.
abbrev pub IsReaderAfterRecords : {R : Type 0} → (R → Option Text) → Option Text → List Fields → Reader R → Type 0
IsReaderAfterRecords rem text records reader = ReaderIsAfterRecords text records reader.state (source_of rem reader)

-- The rows before the position `now` are decided from the start of the batch.
pub record HasDecidedRows {S X C R : Type 0} (form : Fields → ReadResult X) (step : RowStep S X) (gives : C → ℕ → C → Type 0) (rem : R → Option Text)
    (start : BatchStartWithBase S C R) (now : BatchPositionWithBase S C R) : Type 0 where
  pub rows : List Fields
  pub answers : List Answer
  pub moments : List ℕ
  pub taken : ClockReturnsMomentsInSequence gives start.clock moments now.later
  pub settled : BatchRowsAreDecided form step start.name start.base moments rows answers now.after
  pub size : length rows ≡ now.settled
  pub counts : now.counts ≡ counts_of_answers answers
  pub stands : (text : Option Text) → IsReaderAfterRecords rem text (batch_header start.name ∷ []) start.reader
      → IsReaderAfterRecords rem text (batch_header start.name ∷ (rows ++ (now.row ∷ []))) now.reader

count_push : (test : Answer → Bool) (all : List Answer) (answer : Answer) → count_by test (all ++ (answer ∷ [])) ≡ count_by test all + cond (test answer) 1 0
count_push test all answer = fold-append (λ (n : ℕ) (x : Answer). n + cond (test x) 1 0) 0 all (answer ∷ [])

pub all_push : {A : Type 0} (P : A → Type 0) (xs : List A) (x : A) → AllByRecursion P xs → P x → AllByRecursion P (xs ++ (x ∷ []))
all_push P [] x h p = (p, tt)
all_push P (y ∷ ys) x h p = (h.0, all_push P ys x h.1 p)

pub counts_push : (all : List Answer) (answer : Answer) → counts_with_answer (counts_of_answers all) answer ≡ counts_of_answers (all ++ (answer ∷ []))
counts_push all answer = rw (count_push is_done_answer all answer, count_push is_repeated_answer all answer, count_push is_refused_answer all answer) refl

-- the next line was written
pub told_more : (old mid new : Option Text) (answers all : List Answer) (answer : Answer) (n : ℕ) → Appends old mid (answer_lines_from 1 answers) → Appends mid new (answer_line n answer)
    → n ≡ 1 + length answers → all ≡ answers ++ (answer ∷ []) → Appends old new (answer_lines_from 1 all)
told_more old mid new answers all answer n wrote more place split = rw (split, lines_push 1 answers answer) (Appends-trans _ _ _ _ _ wrote (rw place at more))

count_next : (test : Answer → Bool) (answer : Answer) (all : List Answer) → count_by test (answer ∷ all) ≡ cond (test answer) 1 0 + count_by test all
count_next test answer all = sum_by-cons (λ (x : Answer). cond (test x) 1 0) answer all

-- the three counts of the answers add up to their number
pub counts_whole : (all : List Answer) → done_answer_count all + repeated_answer_count all + refused_answer_count all ≡ length all
counts_whole [] = refl
counts_whole (answer ∷ all) =
    let ones : cond (is_done_answer answer) 1 0 + cond (is_repeated_answer answer) 1 0 + cond (is_refused_answer answer) 1 0 ≡ 1 = one_word answer in
    let more = counts_whole all in
    omega (arith, count_next is_done_answer answer all, count_next is_repeated_answer answer all, count_next is_refused_answer answer all)
  where
    one_word : (answer : Answer) → cond (is_done_answer answer) 1 0 + cond (is_repeated_answer answer) 1 0 + cond (is_refused_answer answer) 1 0 ≡ 1
    one_word (Done reply) = refl
    one_word (Again line) = refl
    one_word (Refused refusal) = refl
