-- The output of a batch: one line for each answer, and the `end` line.
use Rattle.std.specs.Prelude.{ℕ, ◌+◌, Bool, true, false, List, [], ◌∷◌, ◌++◌, count_by, codes, decimal}
use Rattle.brk_money.specs.Spelling.{Text}
use Rattle.brk_money.specs.Kinds.{refusal_text}
use Rattle.brk_model.specs.Commands.{Answer, Done, Again, Refused}
use Rattle.brk_model.specs.Rows.{comma_separated_text, line_text}

-- The text of an answer: its word (`ok`, `again` or `no`) and its fields, separated by commas.
abbrev pub answer_text : Answer → Text
answer_text (Done reply) = codes "ok," ++ line_text reply
answer_text (Again line) = codes "again," ++ line
answer_text (Refused refusal) = codes "no," ++ refusal_text refusal

-- The output line of row `n`: its number, a comma, the text of its answer and a line feed.
abbrev pub answer_line : ℕ → Answer → Text
answer_line n answer = decimal n ++ 44 ∷ answer_text answer ++ 10 ∷ []

-- The output lines of the answers, numbered `n`, `n + 1` and so on.
abbrev pub answer_lines_from : ℕ → List Answer → Text
answer_lines_from n [] = []
answer_lines_from n (answer ∷ answers) = answer_line n answer ++ answer_lines_from (n + 1) answers

-- True if the answer is `Done`: the command was accepted now.
abbrev pub is_done_answer : Answer → Bool
is_done_answer (Done reply) = true
is_done_answer (Again line) = false
is_done_answer (Refused refusal) = false

-- True if the answer is `Again`: the stored reply to an earlier attempt under the same key.
abbrev pub is_repeated_answer : Answer → Bool
is_repeated_answer (Done reply) = false
is_repeated_answer (Again line) = true
is_repeated_answer (Refused refusal) = false

-- True if the answer is `Refused`: the command or the row was refused.
abbrev pub is_refused_answer : Answer → Bool
is_refused_answer (Done reply) = false
is_refused_answer (Again line) = false
is_refused_answer (Refused refusal) = true

-- The number of answers that are `Done`.
abbrev pub done_answer_count : List Answer → ℕ
done_answer_count answers = count_by is_done_answer answers

-- The number of answers that are `Again`.
abbrev pub repeated_answer_count : List Answer → ℕ
repeated_answer_count answers = count_by is_repeated_answer answers

-- The number of answers that are `Refused`.
abbrev pub refused_answer_count : List Answer → ℕ
refused_answer_count answers = count_by is_refused_answer answers

-- The last output line of a complete batch: `end`, and the numbers of `Done`, `Again` and `Refused`
-- answers, separated by commas, and a line feed.
abbrev pub batch_end_line : List Answer → Text
batch_end_line answers =
    comma_separated_text (codes "end" ∷ decimal (done_answer_count answers) ∷ decimal (repeated_answer_count answers) ∷ decimal (refused_answer_count answers)
    ∷ [])
    ++ 10
    ∷ []
