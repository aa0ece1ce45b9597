-- Lists of rows, answers, clock readings and lines with one more element at the end.
use Rattle.std.proofs.Common.{◌≡◌, ◌+◌, ◌++◌, ◌∷◌, [], ℕ, List, sym, ap, ◌∙◌, refl, length, arith, append_assoc, add-zero, subst, map}
use Rattle.std.specs.Prelude.{Bool, Ok, Err}
use Rattle.std.proofs.lemmas.List.{append-nil, length-append, map-append}
use Rattle.brk_money.specs.Spelling.{Text}
use Rattle.brk_model.specs.Answers.{Fields, RowStep}
use Rattle.brk_model_theorems.specs.RowCalls.{CallsHaveAnswers, RowCall, result_of_row_call, calls_of_rows, well_formed_rows_from, rows_with_well_formed_row}
use Rattle.brk_model_theorems.specs.RowCalls.{answers_interleaved_with_refusals, answers_to_row_and_rest}
use Rattle.brk_model.specs.Commands.{Answer, Refused}
use Rattle.brk_model.specs.Forms.{ReadResult}
use Rattle.brk_model.specs.Lines.{answer_line, answer_lines_from}
use Rattle.brk_model.specs.Records.{Key}
use Rattle.brk_model.specs.Run.{Did}
use Rattle.brk_import_engine.specs.Answers.{RowHasAnswer}
use Rattle.brk_import_engine.specs.Script.{RowCallRelation, RowCalls, recording_step}
use Rattle.brk_io.proofs.Calls.{made_then}
use Rattle.brk_io.specs.Calls.{IsCallSequence}
use Rattle.brk_io.specs.Moments.{ClockReturnsMomentsInSequence}

pub moments_push : {C : Type 0} (gives : C → ℕ → C → Type 0) (old mid new : C) (ms : List ℕ) (m : ℕ)
    → ClockReturnsMomentsInSequence gives old ms mid → gives mid m new → ClockReturnsMomentsInSequence gives old (ms ++ (m ∷ [])) new
moments_push {C} gives old mid new [] m e h = let G : C → Type 0 = λ c. gives c m new in (new, subst G e h, refl)
moments_push gives old mid new (x ∷ xs) m e h = (e.0, e.1, moments_push gives e.0 mid new xs m e.2 h)

pub run_push : {S X : Type 0} (step : RowStep S X) (base mid after : S) (calls : List (RowCall X)) (answers : List Answer) (call : RowCall X) (answer : Answer)
    → CallsHaveAnswers step base calls answers mid → result_of_row_call step mid call ≡ (answer, after) → CallsHaveAnswers step base (calls ++ (call ∷ [])) (answers ++ (answer ∷ [])) after
run_push step base mid after [] [] call answer h e = rw (← h, e) (refl, refl)
run_push step base mid after [] (a ∷ rs) call answer h e = absurd h
run_push step base mid after (c ∷ cs) [] call answer h e = absurd h
run_push step base mid after (c ∷ cs) (a ∷ rs) call answer h e = (h.0, run_push step (result_of_row_call step base c).1 mid after cs rs call answer h.1 e)

pub calls_push : {X : Type 0} (batch : Text) (ms : List ℕ) (fs : List (ℕ × X)) (m : ℕ) (f : ℕ × X) → length ms ≡ length fs
    → calls_of_rows batch (ms ++ (m ∷ [])) (fs ++ (f ∷ [])) ≡ calls_of_rows batch ms fs ++ (record { key = record { batch = batch; n = f.0 }; now = m; command = f.1 } ∷ [])
calls_push batch [] [] m f e = refl
calls_push batch [] (g ∷ gs) m f e = absurd (omega arith)
calls_push batch (x ∷ xs) [] m f e = absurd (omega arith)
calls_push batch (x ∷ xs) (g ∷ gs) m f e = let more = calls_push batch xs gs m f (omega arith) in cc

pub calls_length : {X : Type 0} (batch : Text) (ms : List ℕ) (fs : List (ℕ × X)) → length ms ≡ length fs → length (calls_of_rows batch ms fs) ≡ length fs
calls_length batch [] [] e = refl
calls_length batch [] (g ∷ gs) e = absurd (omega arith)
calls_length batch (x ∷ xs) [] e = absurd (omega arith)
calls_length batch (x ∷ xs) (g ∷ gs) e = let more = calls_length batch xs gs (omega arith) in omega arith

formed_append : {X : Type 0} (o : ReadResult X) (n : ℕ) (a b : List (ℕ × X)) → rows_with_well_formed_row o n (a ++ b) ≡ rows_with_well_formed_row o n a ++ b
formed_append (Ok command) n a b = refl
formed_append (Err refusal) n a b = refl

pub formed_push : {X : Type 0} (form : Fields → ReadResult X) (n : ℕ) (rows : List Fields) (row : Fields)
    → well_formed_rows_from form n (rows ++ (row ∷ [])) ≡ well_formed_rows_from form n rows ++ rows_with_well_formed_row (form row) (n + length rows) []
formed_push form n [] row = rw (add-zero n) refl
formed_push form n (x ∷ xs) row =
    let place : (n + 1) + length xs ≡ n + length (x ∷ xs) = omega arith in
    ap (rows_with_well_formed_row (form x) n) (formed_push form (n + 1) xs row ∙ ap (λ (k : ℕ). well_formed_rows_from form (n + 1) xs ++ rows_with_well_formed_row (form row) k []) place)
    ∙ formed_append (form x) n (well_formed_rows_from form (n + 1) xs) (rows_with_well_formed_row (form row) (n + length (x ∷ xs)) [])

woven_go : {X : Type 0} (o : ReadResult X) (n : ℕ) (fs : List (ℕ × X)) (rs extra end : List Answer) (more longer : List Answer → List Answer)
    → length rs ≡ length (rows_with_well_formed_row o n fs) → ((bs : List Answer) → length bs ≡ length fs → longer (bs ++ extra) ≡ more bs ++ end)
    → answers_to_row_and_rest o longer (rs ++ extra) ≡ answers_to_row_and_rest o more rs ++ end
woven_go (Err k) n fs rs extra end more longer e h = ap (λ (l : List Answer). Refused k ∷ l) (h rs e)
woven_go (Ok c) n fs [] extra end more longer e h = absurd (omega arith)
woven_go (Ok c) n fs (a ∷ rs) extra end more longer e h = ap (λ (l : List Answer). a ∷ l) (h rs (omega arith))

pub woven_push : {X : Type 0} (form : Fields → ReadResult X) (n : ℕ) (rows : List Fields) (row : Fields) (rs extra : List Answer) → length rs ≡ length (well_formed_rows_from form n rows)
    → answers_interleaved_with_refusals form (rows ++ (row ∷ [])) (rs ++ extra) ≡ answers_interleaved_with_refusals form rows rs ++ answers_to_row_and_rest (form row) (λ _. []) extra
woven_push form n [] row [] extra e = refl
woven_push form n [] row (a ∷ rs) extra e = absurd (omega arith)
woven_push form n (x ∷ xs) row rs extra e =
    woven_go (form x) n (well_formed_rows_from form (n + 1) xs) rs extra (answers_to_row_and_rest (form row) (λ _. []) extra)
    (answers_interleaved_with_refusals form xs) (answers_interleaved_with_refusals form (xs ++ (row ∷ []))) e
    (λ bs h. woven_push form (n + 1) xs row bs extra h)

pub lines_push : (n : ℕ) (all : List Answer) (answer : Answer) → answer_lines_from n (all ++ (answer ∷ [])) ≡ answer_lines_from n all ++ answer_line (n + length all) answer
lines_push n [] answer = rw (add-zero n) (append-nil (answer_line n answer))
lines_push n (x ∷ xs) answer =
    let place : (n + 1) + length xs ≡ n + length (x ∷ xs) = omega arith in
    ap (λ (l : Text). answer_line n x ++ l) (lines_push (n + 1) xs answer ∙ ap (λ (k : ℕ). answer_lines_from (n + 1) xs ++ answer_line k answer) place)
    ∙ sym (append_assoc (answer_line n x) (answer_lines_from (n + 1) xs) (answer_line (n + length (x ∷ xs)) answer))

-- The calls refine steps of the model: for every base that the desk `first` represented, the calls
-- have the answers `replies` from this base, and the desk represents the base after them. Vacuous
-- if the disk assumption fails.
abbrev pub CallsRefineSteps : {D S X : Type 0} → (D → Type 0) → (D → S → Type 0) → RowStep S X → D → D → List (RowCall X) → List Answer → Type 0
CallsRefineSteps {S = S} meets_disk_assumption represents step first desk calls replies =
    meets_disk_assumption desk → (base : S) → represents first base → (after : S) × represents desk after × CallsHaveAnswers step base calls replies after

-- The call of a row as a clock reading, a command and a key.
abbrev pub desk_call_of_row_call : {X : Type 0} → RowCall X → ℕ × (X × Key)
desk_call_of_row_call call = (call.now, (call.command, call.key))

-- The desk changed from `first` to `last` only by these calls of rows, in order, with the answers
-- `replies`.
abbrev pub CallsHaveReplies : {D X : Type 0} → RowCallRelation D X → D → List (RowCall X) → List Answer → D → Type 0
CallsHaveReplies acts first calls replies last = IsCallSequence acts first (map desk_call_of_row_call calls) (map Did replies) last

-- one call more was answered
called_push : {D X : Type 0} (acts : RowCallRelation D X) (first mid last : D) (calls : List (RowCall X)) (replies : List Answer) (call : RowCall X) (answer : Answer)
    → CallsHaveReplies acts first calls replies mid → acts mid call.now (call.command, call.key) (Did answer) last → CallsHaveReplies acts first (calls ++ (call ∷ [])) (replies ++ (answer ∷ [])) last
called_push acts first mid last calls replies call answer made acted =
    rw (map-append desk_call_of_row_call calls (call ∷ []), map-append Did replies (answer ∷ []))
    (made_then acts first mid last (map desk_call_of_row_call calls) (desk_call_of_row_call call ∷ []) (map Did replies) (Did answer ∷ []) made (last, acted, refl))

-- The rows have these answers, with one clock reading for each well-formed row, and the desk
-- changed from `first` to `desk` only by their calls.
pub record RowsHaveAnswers {D S X C : Type 0} (meets_disk_assumption : D → Type 0) (represents : Bool → D → S → Type 0) (acts : RowCallRelation D X)
    (form : Fields → ReadResult X) (step : RowStep S X) (gives : C → ℕ → C → Type 0)
    (batch : Text) (first : D) (clock : C) (rows : List Fields) (answers : List Answer) (desk : D) (later : C) : Type 0 where
  pub moments : List ℕ
  pub replies : List Answer
  pub taken : ClockReturnsMomentsInSequence gives clock moments later
  pub one_each : length moments ≡ length (well_formed_rows_from form 1 rows)
  pub replied : length replies ≡ length (well_formed_rows_from form 1 rows)
  pub all : answers ≡ answers_interleaved_with_refusals form rows replies
  pub made : CallsHaveReplies acts first (calls_of_rows batch moments (well_formed_rows_from form 1 rows)) replies desk
  pub follows : (sure : Bool) → CallsRefineSteps meets_disk_assumption (represents sure) step first desk (calls_of_rows batch moments (well_formed_rows_from form 1 rows)) replies

-- one more row, answered as its form says
pub answered_push : {D S X C : Type 0} (meets_disk_assumption : D → Type 0) (represents : Bool → D → S → Type 0) (acts : RowCallRelation D X)
    (form : Fields → ReadResult X) (step : RowStep S X) (gives : C → ℕ → C → Type 0)
    (batch : Text) (first mid desk : D) (clock c later : C) (rows : List Fields) (answers : List Answer) (row : Fields) (answer : Answer)
    → RowsHaveAnswers meets_disk_assumption represents acts form step gives batch first clock rows answers mid c → (meets_disk_assumption desk → meets_disk_assumption mid)
    → (o : ReadResult X) → form row ≡ o → RowHasAnswer meets_disk_assumption represents acts step gives o batch (1 + length rows) answer mid desk c later
    → RowsHaveAnswers meets_disk_assumption represents acts form step gives batch first clock (rows ++ (row ∷ [])) (answers ++ (answer ∷ [])) desk later
answered_push {X = X} meets_disk_assumption represents acts form step gives batch first mid desk clock c later rows answers row answer h earlier (Err k) e a =
    let formed = formed_push form 1 rows row ∙ ap (λ (o : ReadResult X). well_formed_rows_from form 1 rows ++ rows_with_well_formed_row o (1 + length rows) []) e
    ∙ append-nil (well_formed_rows_from form 1 rows) in
    let wove = rw (append-nil h.replies, e) at (woven_push form 1 rows row h.replies [] h.replied) in
    record {
      moments = h.moments;
      replies = h.replies;
      taken = rw a.2 h.taken;
      one_each = rw formed h.one_each;
      replied = rw formed h.replied;
      all = ap (λ (l : List Answer). l ++ (answer ∷ [])) h.all ∙ ap (λ (t : Answer). answers_interleaved_with_refusals form rows h.replies ++ (t ∷ [])) a.0 ∙ sym wove;
      made = rw (formed, a.1) h.made;
      follows = rw (formed, a.1) h.follows;
    }
answered_push {S = S} {X = X} meets_disk_assumption represents acts form step gives batch first mid desk clock c later rows answers row answer h earlier (Ok command) e a =
    let formed = formed_push form 1 rows row ∙ ap (λ (o : ReadResult X). well_formed_rows_from form 1 rows ++ rows_with_well_formed_row o (1 + length rows) []) e in
    let wove = rw e at (woven_push form 1 rows row h.replies (answer ∷ []) h.replied) in
    let longer : length (well_formed_rows_from form 1 (rows ++ (row ∷ []))) ≡ length (well_formed_rows_from form 1 rows) + 1 =
    ap length formed ∙ length-append (well_formed_rows_from form 1 rows) ((1 + length rows, command) ∷ []) in
    record {
      moments = h.moments ++ (a.0 ∷ []);
      replies = h.replies ++ (answer ∷ []);
      taken = moments_push gives clock c later h.moments a.0 h.taken a.1;
      one_each = length-append h.moments (a.0 ∷ []) ∙ ap (λ (n : ℕ). n + 1) h.one_each ∙ sym longer;
      replied = length-append h.replies (answer ∷ []) ∙ ap (λ (n : ℕ). n + 1) h.replied ∙ sym longer;
      all = ap (λ (l : List Answer). l ++ (answer ∷ [])) h.all ∙ sym wove;
      made = rw (formed, calls_push batch h.moments (well_formed_rows_from form 1 rows) a.0 (1 + length rows, command) h.one_each)
          (called_push acts first mid desk (calls_of_rows batch h.moments (well_formed_rows_from form 1 rows)) h.replies _ answer h.made a.2);
      follows = λ sure good base stood.
          let before = h.follows sure (earlier good) base stood in
          let now = a.3 sure good before.0 before.1 in (
            now.0,
            now.1,
            rw (formed, calls_push batch h.moments (well_formed_rows_from form 1 rows) a.0 (1 + length rows, command) h.one_each)
                (run_push step base before.0 now.0 _ h.replies _ answer before.2 now.2),
          );
    }

-- a desk that answers by a list of answers, one for each call, gives just these and records just
-- those
pub recorded_turns : {X : Type 0} (calls : List (RowCall X)) (answers : List Answer) (before : RowCalls X) → length answers ≡ length calls
    → CallsHaveAnswers recording_step (answers, before) calls answers ([], before ++ map desk_call_of_row_call calls)
recorded_turns {X} [] [] before e = ap (λ (l : RowCalls X). let both : List Answer × RowCalls X = ([], l) in both) (append-nil before)
recorded_turns [] (a ∷ rs) before e = absurd (omega arith)
recorded_turns (c ∷ cs) [] before e = absurd (omega arith)
recorded_turns {X} (c ∷ cs) (a ∷ rs) before e = (
  refl,
  subst (λ (l : RowCalls X). CallsHaveAnswers recording_step (rs, before ++ (desk_call_of_row_call c ∷ [])) cs rs ([], l))
      (append_assoc before (desk_call_of_row_call c ∷ []) (map desk_call_of_row_call cs))
      (recorded_turns cs rs (before ++ (desk_call_of_row_call c ∷ [])) (omega arith)),
)

-- the clock readings of the calls are those that they took
pub calls_taken : {X : Type 0} (batch : Text) (ms : List ℕ) (fs : List (ℕ × X)) → length ms ≡ length fs → map (λ (c : ℕ × (X × Key)). c.0) (map desk_call_of_row_call (calls_of_rows batch ms fs)) ≡ ms
calls_taken batch [] [] e = refl
calls_taken batch [] (g ∷ gs) e = absurd (omega arith)
calls_taken batch (x ∷ xs) [] e = absurd (omega arith)
calls_taken batch (x ∷ xs) (g ∷ gs) e = let more = calls_taken batch xs gs (omega arith) in cc
