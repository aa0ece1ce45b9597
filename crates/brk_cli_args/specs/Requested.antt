-- The job that the arguments of a subcommand request: each field has the value of its own argument.
use Rattle.std.specs.Prelude.{◌≡◌, ℕ, Bool, List, Option, codes, map, option_map, string_bytes}
use Rattle.clap.specs.Matches.{first_value}
use Rattle.clap.specs.declared.parser.matches.Found.{Found}
use Rattle.brk_money.specs.Spelling.{Text, day_text}
use Rattle.brk_cli_args.specs.Arguments.{IsFlagOf, IsNumberOf, IsNumberOr, IsOptionalIdOf, IsOptionalStampOf, text_of_argument, texts_of_argument}
use Rattle.brk_cli_args.specs.declared.job.Job.{Job}
use Rattle.brk_cli_args.specs.declared.job.Job.TheVariants as job

-- A batch: the path of its file, if it has one, whether the file must have a desk, and the reading of
-- its clock.
pub record RequestsBatch (found : Found) (db : Option Text) (existing : Bool) (at : Option ℕ) : Type 0 where
  pub db_argument : db ≡ first_value found (codes "db")
  pub existing_argument : IsFlagOf found (codes "existing") existing
  pub at_argument : IsOptionalStampOf found (codes "at") at

-- A statement: the path of its file, its account, and its first and its last day.
pub record RequestsStatement (found : Found) (db : Text) (account from to : ℕ) : Type 0 where
  pub db_argument : db ≡ text_of_argument found (codes "db")
  pub account_argument : IsNumberOf found (codes "account") account
  pub from_argument : text_of_argument found (codes "from") ≡ day_text from
  pub to_argument : text_of_argument found (codes "to") ≡ day_text to

-- Statements: the path of their file, their first and their last day, and the customer, if one is
-- named.
pub record RequestsStatements (found : Found) (db : Text) (from to : ℕ) (customer : Option ℕ) : Type 0 where
  pub db_argument : db ≡ text_of_argument found (codes "db")
  pub from_argument : text_of_argument found (codes "from") ≡ day_text from
  pub to_argument : text_of_argument found (codes "to") ≡ day_text to
  pub customer_argument : IsOptionalIdOf found (codes "customer") customer

-- A view: the path of its file, its format, its name and its arguments in order.
pub record RequestsView (found : Found) (db : Text) (json heads : Bool) (view : Text) (arguments : List Text) : Type 0 where
  pub db_argument : db ≡ text_of_argument found (codes "db")
  pub json_argument : IsFlagOf found (codes "json") json
  pub heads_argument : IsFlagOf found (codes "heads") heads
  pub view_argument : view ≡ text_of_argument found (codes "view")
  pub arguments_argument : arguments ≡ texts_of_argument found (codes "arguments")

-- An explanation: the path of its file, and its words in order.
pub record RequestsExplanation (found : Found) (db : Text) (words : List Text) : Type 0 where
  pub db_argument : db ≡ text_of_argument found (codes "db")
  pub words_argument : words ≡ texts_of_argument found (codes "words")

-- A service: its port, the path of its file, if it has one, whether the file must have a desk, the
-- reading of its clock, and the number of its streams. 0 and 1 are in place of a port and of a number
-- of streams that are missing.
pub record RequestsService (found : Found) (port : ℕ) (db : Option Text) (existing : Bool) (at : Option ℕ) (streams : ℕ) : Type 0 where
  pub port_argument : IsNumberOr 16 0 found (codes "port") port
  pub db_argument : db ≡ first_value found (codes "db")
  pub existing_argument : IsFlagOf found (codes "existing") existing
  pub at_argument : IsOptionalStampOf found (codes "at") at
  pub streams_argument : IsNumberOr 32 1 found (codes "streams") streams

-- The job is the one of the subcommand `name`, with the values of its arguments. Any name but those
-- of the other subcommands is a batch's.
abbrev pub IsRequestedJob : List ℕ → Found → Job → Type 0
IsRequestedJob name found (job.Batch db existing at) = RequestsBatch found (option_map string_bytes db) existing at
IsRequestedJob name found (job.Statement db account from to) = (name ≡ codes "statement") × RequestsStatement found (string_bytes db) account from to
IsRequestedJob name found (job.Statements db from to customer) = (name ≡ codes "statements") × RequestsStatements found (string_bytes db) from to customer
IsRequestedJob name found (job.Audit db) = (name ≡ codes "audit") × (string_bytes db ≡ text_of_argument found (codes "db"))
IsRequestedJob name found (job.Ask db json heads view arguments) =
    (name ≡ codes "ask") × RequestsView found (string_bytes db) json heads (string_bytes view) (map string_bytes arguments.items)
IsRequestedJob name found (job.Explain db words) = (name ≡ codes "explain") × RequestsExplanation found (string_bytes db) (map string_bytes words.items)
IsRequestedJob name found (job.Serve port db existing at streams) =
    (name ≡ codes "serve") × RequestsService found port (option_map string_bytes db) existing at streams
