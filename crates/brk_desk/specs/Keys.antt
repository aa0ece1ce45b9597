-- The rows of KEPT, which store accepted commands and their replies under keys.
use Rattle.std.specs.Prelude.{◌≡◌, ◌&&◌, ◌==◌, find, Option, Some, None, Result, Ok, bytes_eq, option_map}
use Rattle.sqlite_trees.specs.declared.store.Store.{Ghosts}
use Rattle.sqlite.specs.Held.{Held}
use Rattle.brk_money.specs.declared.fault.StoreFailed.{StoreFailed}
use Rattle.brk_model.specs.Commands.{Command, Reply}
use Rattle.brk_model.specs.Records.{Key, Kept}
use Rattle.brk_model.specs.Tables.{Tables}
use Rattle.brk_trade_books.specs.Steps.{stored_reply_row}
use Rattle.brk_ref.specs.Records.{abstract_kept_row, abstract_key}
use Rattle.brk_ref.specs.declared.key.Kept as row
use Rattle.brk_ref.specs.declared.key.Key as given
use Rattle.brk_store_transactions.specs.Holds.{ReadPost}
use Rattle.brk_trade_rows.specs.Changes.{tables_with_stored_reply}

-- The key of the model that the key of a command represents, or `None` if the command has no key.
abbrev pub optional_model_key : Option given.Key → Option Key
optional_model_key key = option_map abstract_key key

-- The first row of KEPT with the batch name and row number of the key; `None` without a key or row.
abbrev pub kept_row_under_key : Tables → Option Key → Option Kept
kept_row_under_key t None = None
kept_row_under_key t (Some key) = find (λ k. bytes_eq k.key.batch key.batch && (k.key.n == key.n)) t.kept

-- `t` and, if there is a key, one more row of KEPT, in key order, with `command` and `reply`.
abbrev pub tables_with_stored_command : Option Key → Command → Reply → Tables → Tables
tables_with_stored_command None command reply t = t
tables_with_stored_command (Some key) command reply t = tables_with_stored_reply (stored_reply_row key command reply) t

-- The postcondition of reading the row of KEPT under a key: a read (`ReadPost`) of that row, or of
-- `None` if there is none. Without a key the result is `None`, and the store is unchanged.
abbrev pub ReadStoredReplyPost : {S : Type 0} → Ghosts S → Held S → Held S → Option Key → Result (Option row.Kept) StoreFailed → Type 0
ReadStoredReplyPost g old new None result = (new ≡ old) × (result ≡ Ok None)
ReadStoredReplyPost g old new (Some key) result = ReadPost g old new result (λ kept t. option_map abstract_kept_row kept ≡ kept_row_under_key t (Some key))
