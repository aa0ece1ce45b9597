-- The lots of an account in a security, read page by page.
use Rattle.std.specs.Prelude.{ℕ, ◌==◌, ◌&&◌, List, bytes_eq, drop, filter, take}
use Rattle.brk_money.specs.Spelling.{Text}
use Rattle.brk_model.specs.Tables.{Tables, HoldingRow}
use Rattle.brk_ref.specs.Rows.{lots_oldest_first}

-- The greatest number of rows of a page: 4.
abbrev pub page_size : ℕ
page_size = 4

-- The elements of `xs` after the first `skipped`, at most `page_size` of them.
abbrev pub page_after_skipped : {X : Type 0} → ℕ → List X → List X
page_after_skipped skipped xs = take page_size (drop skipped xs)

-- The rows of the lots of `account` in `symbol`, by opening stamp, then by trade, ascending.
abbrev pub position_lots_by_age : ℕ → Text → Tables → List HoldingRow
position_lots_by_age account symbol t = lots_oldest_first (filter (λ r. (r.account == account) && bytes_eq r.symbol symbol) t.holdings)
