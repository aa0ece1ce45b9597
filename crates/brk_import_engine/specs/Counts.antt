-- The number of rows of a batch by the kind of their answer.
use Rattle.std.specs.Prelude.{◌+◌, ◌∷◌, ◌++◌, [], List, codes, if◌then◌else◌}
use Rattle.std.specs.Fmt.{decimal}
use Rattle.brk_money.specs.Spelling.{Text}
use Rattle.brk_model.specs.Commands.{Answer}
use Rattle.brk_model.specs.Lines.{repeated_answer_count, done_answer_count, refused_answer_count, is_repeated_answer, is_done_answer, is_refused_answer}
use Rattle.brk_model.specs.Rows.{comma_separated_text}
use Rattle.brk_import_engine.specs.declared.counts.Counts.{Counts}

-- The number of accepted (`ok`), of repeated (`again`) and of refused answers (`no`) in `answers`.
abbrev pub counts_of_answers : List Answer → Counts
counts_of_answers answers = record { ok = done_answer_count answers; again = repeated_answer_count answers; no = refused_answer_count answers }

-- `counts` with 1 added to the number of answers of the kind of `answer`.
abbrev pub counts_with_answer : Counts → Answer → Counts
counts_with_answer counts answer = record {
  ok = counts.ok + (if is_done_answer answer then 1 else 0);
  again = counts.again + (if is_repeated_answer answer then 1 else 0);
  no = counts.no + (if is_refused_answer answer then 1 else 0);
}

-- The bytes of the end line of a batch with these counts: `end,OK,AGAIN,NO` and a line feed.
abbrev pub end_line_with_counts : Counts → Text
end_line_with_counts counts = comma_separated_text (codes "end" ∷ decimal counts.ok ∷ decimal counts.again ∷ decimal counts.no ∷ []) ++ 10 ∷ []
