-- The effect of an accepted command on the tables of a base.
use Rattle.std.specs.Prelude.{◌≡◌, ℕ, None, Ok}
use Rattle.brk_model.specs.Records.{Key, Kept}
use Rattle.brk_model.specs.Base.{Base}
use Rattle.brk_model.specs.Tables.{Tables, security_row, last_trade_row}
use Rattle.brk_model.specs.Sheets.{sheets}
use Rattle.brk_model.specs.Commands.{Command, Listing, Reply}
use Rattle.brk_model.specs.Rows.{row_text, line_text}
use Rattle.brk_model.specs.Tests.{stamp_of_next_command, refusal_of_command}
use Rattle.brk_model.specs.Step.{base_after_accepted_command, security_of_listing, step}
use Rattle.brk_trade_rows.specs.Changes.{tables_with_last_stamp, tables_with_last_trade, tables_with_security}
use Rattle.brk_trade_books.specs.Books.{BooksInvariant}

-- The base after the command, as if `base` accepted it at the clock reading `now`.
abbrev pub base_after_command : Base → ℕ → Command → Base
base_after_command base now command = base_after_accepted_command base (stamp_of_next_command base now) command

-- If the base satisfies the books invariant and the command is accepted at the clock reading `now`,
-- the base after the command satisfies the books invariant. Vacuous otherwise.
abbrev pub PreservesBooksInvariant : Base → ℕ → Command → Type 0
PreservesBooksInvariant base now command =
    BooksInvariant base → refusal_of_command base now command ≡ None → BooksInvariant (base_after_command base now command)

-- If the base satisfies the books invariant and accepts the command at `now`, the tables after it
-- are those before it with `change` applied and its stamp as the last stamp. Vacuous otherwise.
abbrev pub HasTableEffect : Base → ℕ → Command → (Tables → Tables) → Type 0
HasTableEffect base now command change =
    BooksInvariant base → refusal_of_command base now command ≡ None
    → sheets (base_after_command base now command) ≡ tables_with_last_stamp (stamp_of_next_command base now) (change (sheets base))

-- The tables with the rows of SECURITY and of LAST_TRADE of the listing `l` added, the latter with
-- the listing's price, the volume 0 and the stamp `stamp`.
abbrev pub tables_with_listing : ℕ → Listing → Tables → Tables
tables_with_listing stamp l t =
    tables_with_last_trade (last_trade_row (security_of_listing stamp l)) (tables_with_security (security_row (security_of_listing stamp l)) t)

-- The row of KEPT that stores the text of the command and of its reply under `key`.
abbrev pub stored_reply_row : Key → Command → Reply → Kept
stored_reply_row key command reply = record { key = key; row_text = row_text command; line = line_text reply }

-- At `now` the base accepts the command with `reply`; the base after it satisfies the books
-- invariant, and its tables are the earlier ones with `change` applied and the last stamp `stamp`.
pub record IsAcceptedWithEffect (base : Base) (now : ℕ) (command : Command) (stamp : ℕ) (reply : Reply) (change : Tables → Tables) : Type 0 where
  pub steps : step base now command ≡ Ok (reply, base_after_command base now command)
  pub rows : sheets (base_after_command base now command) ≡ tables_with_last_stamp stamp (change (sheets base))
  pub books_after : BooksInvariant (base_after_command base now command)
