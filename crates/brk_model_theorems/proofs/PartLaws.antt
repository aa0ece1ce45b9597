-- The rows of a batch in two parts, and a batch whose first part was decided before.
use Rattle.std.proofs.Common.{◌≡◌, ℕ, ◌+◌, zero, suc, false, cond, Some, List, [], ◌∷◌, ◌++◌, length, take, drop, map, refl, sym, ◌∙◌, ap, subst, arith, append-nil, Ok, Err}
use Rattle.std.specs.List.{AllByRecursion}
use Rattle.std.proofs.lemmas.List.Sums.{sum_by-cons}
use Rattle.brk_money.specs.Spelling.{Text}
use Rattle.brk_model.specs.Base.{Base}
use Rattle.brk_model.specs.Forms.{ReadResult}
use Rattle.brk_model.specs.Commands.{Command, Answer, Refused}
use Rattle.brk_model.specs.Answers.{Fields}
use Rattle.brk_model_theorems.specs.RowCalls.{RowCall, CallsHaveAnswers, result_of_row_call, rows_with_well_formed_row, well_formed_rows_from, calls_of_rows}
use Rattle.brk_model_theorems.specs.RowCalls.{answers_interleaved_with_refusals, answers_to_row_and_rest, RowsAreAnsweredByCalls}
use Rattle.brk_model.specs.Batch.{BatchRowsAreDecided, BatchResult, IsResultOfTextWithHeader, step_of_row}
use Rattle.brk_model.specs.Input.{BeginsWithRecords, IsEndRecord, correct_end_record, batch_header, input_text}
use Rattle.brk_model.specs.Lines.{refused_answer_count, is_refused_answer}
use Rattle.brk_model_theorems.specs.Laws.{SomeRunLeadsTo, IsCompleteBatchWithoutRefusals, answer_to_retry}
use Rattle.brk_model_theorems.proofs.AgainLaws.{HasRecords, by_first, first-same, length-turned, name-same, none-first, others-same, right_end, settled-again}
use Rattle.brk_model_theorems.proofs.BatchLaws.{All-front, length-calls, length-woven}
use Rattle.brk_model_theorems.proofs.KeptLaws.{Grows, grows-on, run-grows}
use Rattle.brk_model_theorems.proofs.RowLaws.{answered-of, calls-of-decided}
use Rattle.brk_model_theorems.proofs.RunLaws.{rows-run}

-- ---- lists in two parts

take-front : {X : Type 0} (xs ys : List X) → take (length xs) (xs ++ ys) ≡ xs
take-front [] ys = refl
take-front (x ∷ xs) ys = ap (λ zs. x ∷ zs) (take-front xs ys)

drop-front : {X : Type 0} (xs ys : List X) → drop (length xs) (xs ++ ys) ≡ ys
drop-front [] ys = refl
drop-front (x ∷ xs) ys = drop-front xs ys

-- The list in two parts, of which the first has `n` elements.
record Parts {X : Type 0} (n : ℕ) (xs : List X) : Type 0 where
  pub front : List X
  pub back : List X
  pub are : xs ≡ front ++ back
  pub counted : length front ≡ n

parts : {X : Type 0} (n k : ℕ) (xs : List X) → length xs ≡ n + k → Parts n xs
parts zero k xs e = record { front = []; back = xs; are = refl; counted = refl }
parts (suc n) k [] e = absurd (omega (e, arith))
parts (suc n) k (x ∷ xs) e = let p = parts n k xs (omega (e, arith)) in record { front = x ∷ p.front; back = p.back; are = ap (λ zs. x ∷ zs) p.are; counted = ap suc p.counted }

-- ---- calls in two parts

formed-joined : {C : Type 0} (form : Fields → ReadResult C) (n : ℕ) (front more : List Fields)
    → well_formed_rows_from form n (front ++ more) ≡ well_formed_rows_from form n front ++ well_formed_rows_from form (n + length front) more
formed-joined form n [] more = ap (λ m. well_formed_rows_from form m more) (omega arith)
formed-joined form n (row ∷ front) more =
    ap (rows_with_well_formed_row (form row) n) (formed-joined form (n + 1) front more ∙ ap (λ m. well_formed_rows_from form (n + 1) front ++ well_formed_rows_from form m more) (omega arith))
    ∙ one (form row) n (well_formed_rows_from form (n + 1) front) (well_formed_rows_from form (n + length (row ∷ front)) more)
  where
    one : {C : Type 0} (r : ReadResult C) (n : ℕ) (xs ys : List (ℕ × C)) → rows_with_well_formed_row r n (xs ++ ys) ≡ rows_with_well_formed_row r n xs ++ ys
    one (Ok command) n xs ys = refl
    one (Err refusal) n xs ys = refl

calls-joined : {C : Type 0} (name : Text) (early late : List ℕ) (xs ys : List (ℕ × C)) → length early ≡ length xs
    → calls_of_rows name (early ++ late) (xs ++ ys) ≡ calls_of_rows name early xs ++ calls_of_rows name late ys
calls-joined name [] late [] ys e = refl
calls-joined name [] late (x ∷ xs) ys e = absurd (omega (e, arith))
calls-joined name (m ∷ early) late [] ys e = absurd (omega (e, arith))
calls-joined name (m ∷ early) late (x ∷ xs) ys e =
    ap (λ calls. record { key = record { batch = name; n = x.0 }; now = m; command = x.1 } ∷ calls) (calls-joined name early late xs ys (omega (e, arith)))

-- The answers to the calls in two parts, and the base between them.
record Turned (base : Base) (front more : List (RowCall Command)) (answers : List Answer) (after : Base) : Type 0 where
  pub mid : Base
  pub first : List Answer
  pub rest : List Answer
  pub are : answers ≡ first ++ rest
  pub before : CallsHaveAnswers step_of_row base front first mid
  pub then : CallsHaveAnswers step_of_row mid more rest after

turned : (base : Base) (front more : List (RowCall Command)) (answers : List Answer) (after : Base)
    → CallsHaveAnswers step_of_row base (front ++ more) answers after → Turned base front more answers after
turned base [] more answers after r = record { mid = base; first = []; rest = answers; are = refl; before = refl; then = r }
turned base (call ∷ front) more [] after r = absurd r
turned base (call ∷ front) more (answer ∷ answers) after r =
    let t = turned (result_of_row_call step_of_row base call).1 front more answers after r.1 in
    record { mid = t.mid; first = answer ∷ t.first; rest = t.rest; are = ap (λ l. answer ∷ l) t.are; before = (r.0, t.before); then = t.then }

pub in-turn-joined : (base mid after : Base) (front more : List (RowCall Command)) (first rest : List Answer)
    → CallsHaveAnswers step_of_row base front first mid → CallsHaveAnswers step_of_row mid more rest after
    → CallsHaveAnswers step_of_row base (front ++ more) (first ++ rest) after
in-turn-joined base mid after [] more [] rest r s = subst (λ b. CallsHaveAnswers step_of_row b more rest after) r s
in-turn-joined base mid after [] more (answer ∷ first) rest r s = absurd r
in-turn-joined base mid after (call ∷ front) more [] rest r s = absurd r
in-turn-joined base mid after (call ∷ front) more (answer ∷ first) rest r s = (r.0, in-turn-joined (result_of_row_call step_of_row base call).1 mid after front more first rest r.1 s)

woven-joined : {C : Type 0} (form : Fields → ReadResult C) (n : ℕ) (front more : List Fields) (first rest : List Answer) → length first ≡ length (well_formed_rows_from form n front)
    → answers_interleaved_with_refusals form (front ++ more) (first ++ rest) ≡ answers_interleaved_with_refusals form front first ++ answers_interleaved_with_refusals form more rest
woven-joined form n [] more [] rest e = refl
woven-joined form n [] more (answer ∷ first) rest e = absurd (omega (e, arith))
woven-joined form n (row ∷ front) more first rest e =
    one (form row) n (well_formed_rows_from form (n + 1) front) (answers_interleaved_with_refusals form (front ++ more))
    (answers_interleaved_with_refusals form front) (answers_interleaved_with_refusals form more rest) first rest
    (λ answers. woven-joined form (n + 1) front more answers rest) e
  where
    one : {C : Type 0} (r : ReadResult C) (n : ℕ) (formed : List (ℕ × C)) (whole part : List Answer → List Answer) (back first rest : List Answer)
        → ((answers : List Answer) → length answers ≡ length formed → whole (answers ++ rest) ≡ part answers ++ back)
        → length first ≡ length (rows_with_well_formed_row r n formed) → answers_to_row_and_rest r whole (first ++ rest) ≡ answers_to_row_and_rest r part first ++ back
    one (Ok command) n formed whole part back [] rest each e = absurd (omega (e, arith))
    one (Ok command) n formed whole part back (answer ∷ first) rest each e = ap (λ l. answer ∷ l) (each first (omega (e, arith)))
    one (Err refusal) n formed whole part back first rest each e = ap (λ l. Refused refusal ∷ l) (each first e)

-- ---- rows in two parts

-- The decided rows of a batch in two parts, with the clock readings and the answers of each part,
-- and the base between them.
record Parted (form : Fields → ReadResult Command) (name : Text) (base : Base) (moments : List ℕ) (front more : List Fields) (answers : List Answer) (after : Base) : Type 0 where
  pub mid : Base
  pub early : List ℕ
  pub late : List ℕ
  pub first : List Answer
  pub rest : List Answer
  pub replies : List Answer
  pub moments_are : moments ≡ early ++ late
  pub answers_are : answers ≡ first ++ rest
  pub settled : BatchRowsAreDecided form step_of_row name base early front first mid
  pub one_each : length late ≡ length (well_formed_rows_from form (1 + length front) more)
  pub run : CallsHaveAnswers step_of_row mid (calls_of_rows name late (well_formed_rows_from form (1 + length front) more)) replies after
  pub all : rest ≡ answers_interleaved_with_refusals form more replies

length-joined : {X : Type 0} (xs ys : List X) → length (xs ++ ys) ≡ length xs + length ys
length-joined [] ys = omega arith
length-joined (x ∷ xs) ys = let h = length-joined xs ys in omega (h, arith)

parted : (form : Fields → ReadResult Command) (name : Text) (base : Base) (moments : List ℕ) (front more : List Fields) (answers : List Answer) (after : Base)
    → BatchRowsAreDecided form step_of_row name base moments (front ++ more) answers after → Parted form name base moments front more answers after
parted form name base moments front more answers after s = record {
  mid = t.mid;
  early = p.front;
  late = p.back;
  first = answers_interleaved_with_refusals form front t.first;
  rest = answers_interleaved_with_refusals form more t.rest;
  replies = t.rest;
  moments_are = p.are;
  answers_are = c.all ∙ ap (answers_interleaved_with_refusals form (front ++ more)) t.are ∙ woven-joined form 1 front more t.first t.rest firsts;
  settled = record {
    named = s.named;
    rows_only = All-front (λ row. ¬ (IsEndRecord row)) front more s.rows_only;
    answered = answered-of form step_of_row name base t.mid p.front front (answers_interleaved_with_refusals form front t.first)
        (record { replies = t.first; one_each = p.counted; run = t.before; all = refl });
    each = length-woven form 1 front t.first firsts;
  };
  one_each = lates;
  run = t.then;
  all = refl;
}
  where
    c : RowsAreAnsweredByCalls form step_of_row name base moments (front ++ more) answers after
    c = calls-of-decided s

    own : List (ℕ × Command)
    own = well_formed_rows_from form 1 front

    others : List (ℕ × Command)
    others = well_formed_rows_from form (1 + length front) more

    counted : length moments ≡ length own + length others
    counted = c.one_each ∙ ap length (formed-joined form 1 front more) ∙ length-joined own others

    p : Parts (length own) moments
    p = parts (length own) (length others) moments counted

    lates : length p.back ≡ length others
    lates = let a = ap length p.are ∙ length-joined p.front p.back in let b = p.counted in let c = counted in omega (a, b, c, arith)

    t : Turned base (calls_of_rows name p.front own) (calls_of_rows name p.back others) c.replies after
    t = turned base (calls_of_rows name p.front own) (calls_of_rows name p.back others) c.replies after
        (subst (λ calls. CallsHaveAnswers step_of_row base calls c.replies after)
        (ap (λ ms. calls_of_rows name ms (well_formed_rows_from form 1 (front ++ more))) p.are ∙ ap (calls_of_rows name (p.front ++ p.back)) (formed-joined form 1 front more)
        ∙ calls-joined name p.front p.back own others p.counted) c.run)

    firsts : length t.first ≡ length own
    firsts = length-turned (calls_of_rows name p.front own) t.first base t.mid t.before ∙ length-calls name p.front own (let e = p.counted in omega (e, arith))

-- the second part after another settling of the first one
pub joined : (form : Fields → ReadResult Command) (name : Text) (base mid after : Base) (early late : List ℕ) (front more : List Fields) (first replies : List Answer)
    → BatchRowsAreDecided form step_of_row name base early front first mid → AllByRecursion (λ row. ¬ (IsEndRecord row)) (front ++ more)
    → length late ≡ length (well_formed_rows_from form (1 + length front) more)
    → CallsHaveAnswers step_of_row mid (calls_of_rows name late (well_formed_rows_from form (1 + length front) more)) replies after
    → BatchRowsAreDecided form step_of_row name base (early ++ late) (front ++ more) (first ++ answers_interleaved_with_refusals form more replies) after
joined form name base mid after early late front more first replies s only lates r = record {
  named = s.named;
  rows_only = only;
  answered = answered-of form step_of_row name base after (early ++ late) (front ++ more) (first ++ answers_interleaved_with_refusals form more replies) (record {
    replies = c.replies ++ replies;
    one_each = counted;
    run = subst (λ calls. CallsHaveAnswers step_of_row base calls (c.replies ++ replies) after) (sym calls)
        (in-turn-joined base mid after (calls_of_rows name early own) (calls_of_rows name late others) c.replies replies c.run r);
    all = told;
  });
  each = ap length told ∙ length-woven form 1 (front ++ more) (c.replies ++ replies) enough;
}
  where
    c : RowsAreAnsweredByCalls form step_of_row name base early front first mid
    c = calls-of-decided s

    own : List (ℕ × Command)
    own = well_formed_rows_from form 1 front

    others : List (ℕ × Command)
    others = well_formed_rows_from form (1 + length front) more

    calls : calls_of_rows name (early ++ late) (well_formed_rows_from form 1 (front ++ more)) ≡ calls_of_rows name early own ++ calls_of_rows name late others
    calls = ap (calls_of_rows name (early ++ late)) (formed-joined form 1 front more) ∙ calls-joined name early late own others c.one_each

    firsts : length c.replies ≡ length own
    firsts = length-turned (calls_of_rows name early own) c.replies base mid c.run ∙ length-calls name early own (let e = c.one_each in omega (e, arith))

    rests : length replies ≡ length others
    rests = length-turned (calls_of_rows name late others) replies mid after r ∙ length-calls name late others (let e = lates in omega (e, arith))

    all_formed : length (well_formed_rows_from form 1 (front ++ more)) ≡ length own + length others
    all_formed = ap length (formed-joined form 1 front more) ∙ length-joined own others

    counted : length (early ++ late) ≡ length (well_formed_rows_from form 1 (front ++ more))
    counted = let a = length-joined early late in let b = c.one_each in let c = lates in let d = all_formed in omega (a, b, c, d, arith)

    enough : length (c.replies ++ replies) ≡ length (well_formed_rows_from form 1 (front ++ more))
    enough = let a = length-joined c.replies replies in let b = firsts in let c = rests in let d = all_formed in omega (a, b, c, d, arith)

    told : first ++ answers_interleaved_with_refusals form more replies ≡ answers_interleaved_with_refusals form (front ++ more) (c.replies ++ replies)
    told = ap (λ l. l ++ answers_interleaved_with_refusals form more replies) c.all ∙ sym (woven-joined form 1 front more c.replies replies firsts)

-- ---- a part settled again

pub none-with : (x : Answer) (xs : List Answer) → is_refused_answer x ≡ false → refused_answer_count xs ≡ 0 → refused_answer_count (x ∷ xs) ≡ 0
none-with x xs h k = sum_by-cons (λ a. cond (is_refused_answer a) 1 0) x xs ∙ (λ i. cond (h i) 1 0 + k i)

none-front : (xs ys : List Answer) → refused_answer_count (xs ++ ys) ≡ 0 → refused_answer_count xs ≡ 0
none-front [] ys h = refl
none-front (x ∷ xs) ys h = let k = none-first x (xs ++ ys) h in none-with x xs k.0 (none-front xs ys k.1)

-- the first rows of those that were settled before
pub part-again : (form : Fields → ReadResult Command) (name : Text) (base after later last : Base) (moments others : List ℕ) (front more : List Fields) (answers told : List Answer)
    → refused_answer_count answers ≡ 0 → BatchRowsAreDecided form step_of_row name base moments (front ++ more) answers after → Grows after later
    → BatchRowsAreDecided form step_of_row name later others front told last
    → (told ≡ map answer_to_retry (take (length front) answers)) × (last ≡ later)
part-again form name base after later last moments others front more answers told none one g two =
    let p = parted form name base moments front more answers after one in
    let grown : Grows p.mid later =
    grows-on p.mid after later
    (run-grows _ _ p.mid after (rows-run p.mid (calls_of_rows name p.late (well_formed_rows_from form (1 + length front) more)) p.replies after p.run)) g in
    let again = settled-again form name p.early others front p.first told base p.mid later last (none-front p.first p.rest (ap refused_answer_count (sym p.answers_are) ∙ none)) p.settled grown two in
    let same : take (length front) answers ≡ p.first =
    ap (λ (n : ℕ). take n answers) (sym p.settled.each) ∙ ap (take (length p.first)) p.answers_are ∙ take-front p.first p.rest in
    (again.0 ∙ ap (map answer_to_retry) (sym same), again.1)

-- rows of which the first ones were settled before
pub completed-by : (form : Fields → ReadResult Command) (name : Text) (base mid last : Base) (moments others : List ℕ) (front more : List Fields) (answers told : List Answer)
    → refused_answer_count answers ≡ 0 → BatchRowsAreDecided form step_of_row name base moments front answers mid → BatchRowsAreDecided form step_of_row name mid others (front ++ more) told last
    → (take (length front) told ≡ map answer_to_retry answers)
    × BatchRowsAreDecided form step_of_row name base (moments ++ drop (length moments) others) (front ++ more) (answers ++ drop (length front) told) last
completed-by form name base mid last moments others front more answers told none one two =
    (ap (λ (n : ℕ). take n told) (sym p.settled.each) ∙ ap (take (length p.first)) p.answers_are ∙ take-front p.first p.rest ∙ again.0, whole)
  where
    p : Parted form name mid others front more told last
    p = parted form name mid others front more told last two

    again : (p.first ≡ map answer_to_retry answers) × (p.mid ≡ mid)
    again = settled-again form name moments p.early front answers p.first base mid mid p.mid none one ([], sym (append-nil mid.kept)) p.settled

    lates : drop (length moments) others ≡ p.late
    lates =
        ap (λ (n : ℕ). drop n others) ((calls-of-decided one).one_each ∙ sym (calls-of-decided p.settled).one_each) ∙ ap (drop (length p.early)) p.moments_are ∙ drop-front p.early p.late

    rests : drop (length front) told ≡ answers_interleaved_with_refusals form more p.replies
    rests = ap (λ (n : ℕ). drop n told) (sym p.settled.each) ∙ ap (drop (length p.first)) p.answers_are ∙ drop-front p.first p.rest ∙ p.all

    both : BatchRowsAreDecided form step_of_row name base (moments ++ p.late) (front ++ more) (answers ++ answers_interleaved_with_refusals form more p.replies) last
    both =
        joined form name base mid last moments p.late front more answers p.replies one two.rows_only p.one_each
        (subst (λ b. CallsHaveAnswers step_of_row b (calls_of_rows name p.late (well_formed_rows_from form (1 + length front) more)) p.replies last) again.1 p.run)

    whole : BatchRowsAreDecided form step_of_row name base (moments ++ drop (length moments) others) (front ++ more) (answers ++ drop (length front) told) last
    whole =
        subst (λ ms. BatchRowsAreDecided form step_of_row name base (moments ++ ms) (front ++ more) (answers ++ drop (length front) told) last) (sym lates)
        (subst (λ l. BatchRowsAreDecided form step_of_row name base (moments ++ p.late) (front ++ more) (answers ++ l) last) (sym rests) both)

-- ---- the rows of a text

-- the rows before the first end record begin with those that were settled
pub prefix : (rows others rest : List Fields) (end : Fields) (more : List Fields) → AllByRecursion (λ row. ¬ (IsEndRecord row)) rows → IsEndRecord end → rows ++ rest ≡ others ++ end ∷ more
    → (back : List Fields) × (others ≡ rows ++ back)
prefix [] others rest end more only h e = (others, refl)
prefix (row ∷ rows) [] rest end more only h e = absurd (only.0 (subst IsEndRecord (sym (first-same row end (rows ++ rest) more e)) h))
prefix (row ∷ rows) (other ∷ others) rest end more only h e =
    let p = prefix rows others rest end more only.1 h (others-same row other (rows ++ rest) (others ++ end ∷ more) e) in
    (p.0, (λ i. sym (first-same row other (rows ++ rest) (others ++ end ∷ more) e) i ∷ p.1 i))

-- whatever rows of a batch that went through are settled again change nothing
pub rows-again : (form : Fields → ReadResult Command) (base later last : Base) (moments others : List ℕ) (input : Text) (answers told : List Answer)
    (first : BatchResult Base) (name : Text) (rows : List Fields)
    → IsCompleteBatchWithoutRefusals form base moments input answers first → SomeRunLeadsTo first.base later → BeginsWithRecords (Some (input_text input)) (batch_header name ∷ rows)
    → BatchRowsAreDecided form step_of_row name later others rows told last → (told ≡ map answer_to_retry (take (length rows) answers)) × (last ≡ later)
rows-again form base later last moments others input answers told first name rows went leads begins two =
    (again.0 ∙ ap (λ l. map answer_to_retry (take (length rows) l)) went.these, again.1)
  where
    one : IsResultOfTextWithHeader form step_of_row base moments (Some (input_text input)) first
    one = went.answered

    has : HasRecords input one.name one.rows
    has = by_first input one.name one.rows one.answers one.told first.ending first.text went.ended one.ends

    same : batch_header name ∷ (rows ++ begins.0) ≡ batch_header one.name ∷ (one.rows ++ correct_end_record (length one.rows) ∷ has.0)
    same = sym begins.1 ∙ has.1

    names : one.name ≡ name
    names = sym (name-same name one.name (rows ++ begins.0) (one.rows ++ correct_end_record (length one.rows) ∷ has.0) same)

    back : (back : List Fields) × (one.rows ≡ rows ++ back)
    back = prefix rows one.rows begins.0 (correct_end_record (length one.rows)) has.0 two.rows_only (right_end (length one.rows))
        (others-same (batch_header name) (batch_header one.name) (rows ++ begins.0) (one.rows ++ correct_end_record (length one.rows) ∷ has.0) same)

    named : BatchRowsAreDecided form step_of_row name base moments one.rows one.answers first.base
    named = subst (λ n. BatchRowsAreDecided form step_of_row n base moments one.rows one.answers first.base) names one.settled

    settled : BatchRowsAreDecided form step_of_row name base moments (rows ++ back.0) one.answers first.base
    settled = subst (λ rs. BatchRowsAreDecided form step_of_row name base moments rs one.answers first.base) back.1 named

    again : (told ≡ map answer_to_retry (take (length rows) one.answers)) × (last ≡ later)
    again =
        part-again form name base first.base later last moments others rows back.0 one.answers told (ap refused_answer_count went.these ∙ went.none_refused) settled
        (run-grows leads.0 leads.1 first.base later leads.2) two
