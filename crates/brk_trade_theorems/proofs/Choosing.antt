-- A text update selects the rows of the trades that the model selects.
use Rattle.std.proofs.Common.{◌≡◌, ℕ, ◌==◌, ◌&&◌, Bool, true, false, List, refl, ap, ◌∙◌, map, filter, take, Option, Some, None}
use Rattle.std.specs.Prelude.{bytes_eq}
use Rattle.std.specs.Option.{option_map_or}
use Rattle.std.specs.List.{AllByRecursion}
use Rattle.brk_money.specs.Kinds.{is_same_trade_status}
use Rattle.brk_money.specs.Spelling.{Text}
use Rattle.brk_money.specs.declared.status.Status.TheVariants.{Canceled, Completed}
use Rattle.brk_model.specs.Base.{Base, completed_trades, is_completed, last_status_change, last_status_stamp_of_trade}
use Rattle.brk_model.specs.Joins.{trade_rows_oldest_first}
use Rattle.brk_model.specs.Lists.{is_pair_less}
use Rattle.brk_model.specs.LookupView.{row_stamp_is_between}
use Rattle.brk_model.specs.Names.{TradesAreNumberedFrom}
use Rattle.brk_model.specs.Records.{StatusChange, Trade}
use Rattle.brk_model.specs.Sheets.{sheets}
use Rattle.brk_model.specs.Tables.{TradeRow, trade_row}
use Rattle.brk_model.specs.Updates.{trade_stamp_is_between, trades_oldest_first}
use Rattle.brk_trade_rows.specs.Chosen.{first_twenty_completed_cash_trade_rows_of_symbol, first_twenty_completed_trade_rows_of_account, first_twenty_completed_trade_rows}
use Rattle.brk_trade_books.proofs.LotReading.{All-sort}
use Rattle.brk_trade_books.proofs.Same.{All-filter}
use Rattle.brk_trade_books.proofs.TradeReading.{trades_in_order}
use Rattle.brk_trade_theorems.proofs.Through.{All-both, All-passed, All-take, filter-both, filter-map, sort-map, take-map}

-- the trades that are chosen
abbrev pub chosen_trades : Base → (Trade → Bool) → ℕ → ℕ → List Trade
chosen_trades base test first last = take 20 (trades_oldest_first (filter (λ t. test t && trade_stamp_is_between first last t) (completed_trades base)))

mark_completed : (o : Option StatusChange) → is_same_trade_status (option_map_or (λ m. m.status) o Canceled) Completed ≡ option_map_or (λ m. is_same_trade_status m.status Completed) o false
mark_completed None = refl
mark_completed (Some m) = refl

-- a test of rows that is one of trades
pub chosen_rows : (base : Base) (row_test : TradeRow → Bool) (test : Trade → Bool) (first last : ℕ) → TradesAreNumberedFrom 1 base.trades → ((t : Trade) → row_test (trade_row t) ≡ test t)
    → first_twenty_completed_trade_rows (λ r. row_test r && row_stamp_is_between first last r) (sheets base) ≡ map trade_row (chosen_trades base test first last)
chosen_rows base row_test test first last n same =
    let wanted : Trade → Bool = λ t. test t && trade_stamp_is_between first last t in
    ap (λ rows. take 20 (trade_rows_oldest_first (filter (λ r. is_same_trade_status r.status Completed && (row_test r && row_stamp_is_between first last r)) rows))) (trades_in_order base n)
    ∙ ap (λ rows. take 20 (trade_rows_oldest_first rows))
    (filter-map (λ r. is_same_trade_status r.status Completed && (row_test r && row_stamp_is_between first last r)) (λ t. is_completed t && wanted t) trade_row base.trades
    (λ t i. mark_completed (last_status_change t) i && (same t i && trade_stamp_is_between first last t))
    ∙ ap (map trade_row) (filter-both is_completed wanted base.trades))
    ∙ ap (take 20)
    (sort-map (λ t u. is_pair_less (last_status_stamp_of_trade t) (last_status_stamp_of_trade u) t.id u.id) (λ a b. is_pair_less a.stamp b.stamp a.id b.id)
    trade_row (filter wanted (completed_trades base)) (λ a b. refl))
    ∙ take-map trade_row 20 (trades_oldest_first (filter wanted (completed_trades base)))

pub account_rows : (base : Base) (account first last : ℕ) → TradesAreNumberedFrom 1 base.trades
    → first_twenty_completed_trade_rows_of_account account first last (sheets base) ≡ map trade_row (chosen_trades base (λ t. t.account == account) first last)
account_rows base account first last n = chosen_rows base (λ r. r.account == account) (λ t. t.account == account) first last n (λ t. refl)

pub symbol_rows : (base : Base) (symbol : Text) (first last : ℕ) → TradesAreNumberedFrom 1 base.trades
    → first_twenty_completed_cash_trade_rows_of_symbol symbol first last (sheets base) ≡ map trade_row (chosen_trades base (λ t. t.is_cash && bytes_eq t.symbol symbol) first last)
symbol_rows base symbol first last n =
    chosen_rows base (λ r. r.is_cash && bytes_eq r.symbol symbol) (λ t. t.is_cash && bytes_eq t.symbol symbol) first last n (λ t. refl)

-- what holds of each trade holds of those that are chosen, and each passes the test
pub of_chosen : (P : Trade → Type 0) (base : Base) (test : Trade → Bool) (first last : ℕ) → AllByRecursion P base.trades
    → AllByRecursion (λ t. P t × ((test t && trade_stamp_is_between first last t) ≡ true)) (chosen_trades base test first last)
of_chosen P base test first last h =
    let wanted : Trade → Bool = λ t. test t && trade_stamp_is_between first last t in
    let Q : Trade → Type 0 = λ t. P t × (wanted t ≡ true) in
    All-take Q 20 (trades_oldest_first (filter wanted (completed_trades base)))
    (All-sort Q (λ t u. is_pair_less (last_status_stamp_of_trade t) (last_status_stamp_of_trade u) t.id u.id) (filter wanted (completed_trades base))
    (All-both P (λ t. wanted t ≡ true) (filter wanted (completed_trades base))
    (All-filter P wanted (completed_trades base) (All-filter P is_completed base.trades h)) (All-passed wanted (completed_trades base))))
