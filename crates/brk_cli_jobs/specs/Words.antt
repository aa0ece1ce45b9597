-- The words of a view or of an explanation in a job, which are parsed before its file is opened.
use Rattle.std.specs.Prelude.{Result, Ok, Err, map, string_bytes}
use Rattle.brk_cli_args.specs.declared.job.Job.{Job}
use Rattle.brk_cli_args.specs.declared.job.Job.TheVariants as job
use Rattle.brk_model.specs.Ask.{parse_query}
use Rattle.brk_model.specs.Forms.{ReadResult}
use Rattle.brk_model_explain.specs.Explain.{read_explain_request}
use Rattle.brk_money.specs.declared.refusal.Refusal.{Refusal}

-- `Ok` without the value that was parsed, or the refusal.
abbrev pub without_value : {A : Type 0} → ReadResult A → Result (Unit {0}) Refusal
without_value (Ok value) = Ok tt
without_value (Err refusal) = Err refusal

-- The refusal of a job's malformed query of a view or request for an explanation, if there is one.
abbrev pub result_of_words : Job → Result (Unit {0}) Refusal
result_of_words (job.Batch db existing at) = Ok tt
result_of_words (job.Statement db account from to) = Ok tt
result_of_words (job.Statements db from to customer) = Ok tt
result_of_words (job.Audit db) = Ok tt
result_of_words (job.Ask db json heads view arguments) = without_value (parse_query (string_bytes view) (map string_bytes arguments.items))
result_of_words (job.Explain db words) = without_value (read_explain_request (map string_bytes words.items))
result_of_words (job.Serve port db existing at streams) = Ok tt

-- The job asks for a view or an explanation: its words are parsed before its file is opened.
abbrev pub HasWords : Job → Type 0
HasWords (job.Batch db existing at) = ⊥
HasWords (job.Statement db account from to) = ⊥
HasWords (job.Statements db from to customer) = ⊥
HasWords (job.Audit db) = ⊥
HasWords (job.Ask db json heads view arguments) = Unit {0}
HasWords (job.Explain db words) = Unit {0}
HasWords (job.Serve port db existing at streams) = ⊥
