-- The lots that are read of an account in a symbol form a position, and its summary is their sum.
use Rattle.std.proofs.Common.{◌≡◌, ℕ, Bool, List, [], ◌∷◌, refl, ap, map, ◌∙◌, ℤ, pos, ◌+ℤ◌}
use Rattle.std.specs.Prelude.{Option, Some, None, is_some, option_map, true, unwrap_or}
use Rattle.brk_lots.specs.Books.{lot_quantity_sum}
use Rattle.brk_lots.specs.Lots.{shares_of_lots}
use Rattle.brk_lots.specs.Sources.{YieldsPosition}
use Rattle.brk_lots.specs.declared.lot.Lot.{Lot}
use Rattle.brk_lots.proofs.Books.{quantities_add_up}
use Rattle.brk_lots.proofs.Ends.{walk_of}
use Rattle.brk_model.specs.Base.{Base, account_with_id, completed_trades, last_status_stamp_of_trade, security_with_symbol}
use Rattle.brk_model.specs.Derived.{deal_of_trade, deals_of_position, trades_of_position, shares_of_position, holding_summary_quantity}
use Rattle.brk_model.specs.Lists.{sort_by, sort_by_key, total_by}
use Rattle.brk_model.specs.Records.{Trade}
use Rattle.brk_model.specs.Shares.{replay, signed_by_side}
use Rattle.brk_model.specs.Sheets.{sheets}
use Rattle.brk_model.specs.Tables.{SummaryRow}
use Rattle.brk_money.specs.Kinds.{side_of_trade_type}
use Rattle.brk_money.specs.Spelling.{Text}
use Rattle.brk_trade_books.specs.Books.{BooksInvariant}
use Rattle.brk_trade_books.specs.OrderReads.{PositionLotsSatisfy}
use Rattle.brk_trade_books.specs.TradeReads.{lots_of_position, summary_quantity_or_zero, summary_row_of_position}
use Rattle.brk_trade_books.proofs.LotOrder.{position_read, shares_read}
use Rattle.brk_trade_books.proofs.SumReading.{total-map}
use Rattle.brk_trade_books.proofs.Summaries.{reads_held}
use Rattle.brk_trade_books.proofs.Worth.{total-insert}

pub lots_given : (base : Base) (account : ℕ) (symbol : Text) (lifo : Bool) (given : List Lot → Type 0) → BooksInvariant base → PositionLotsSatisfy (sheets base) account symbol lifo given
    → YieldsPosition given lifo (lots_of_position (sheets base) account symbol)
lots_given base account symbol lifo given books k = (k, walk_of (lots_of_position (sheets base) account symbol) (position_read base account symbol books))

-- ---- in all

total-sort : {X : Type 0} (f : X → ℤ) (before : X → X → Bool) (xs : List X) → total_by f (sort_by before xs) ≡ total_by f xs
unfolding total_by sort_by
total-sort f before [] = refl
total-sort f before (x ∷ xs) = total-insert f before x (sort_by before xs) ∙ ap (λ n. f x +ℤ n) (total-sort f before xs)

deals_summed : (done : List Trade) (account : ℕ) (symbol : Text)
    → total_by (λ d. signed_by_side d.side d.qty) (map deal_of_trade (sort_by_key last_status_stamp_of_trade (trades_of_position done account symbol))) ≡ holding_summary_quantity done account symbol
unfolding holding_summary_quantity
deals_summed done account symbol =
    total-map (λ d. signed_by_side d.side d.qty) deal_of_trade (sort_by_key last_status_stamp_of_trade (trades_of_position done account symbol))
    ∙ total-sort (λ t. signed_by_side (side_of_trade_type t.kind) t.qty) _ (trades_of_position done account symbol)

shares_spelled : (base : Base) (account : ℕ) (symbol : Text) → BooksInvariant base
    → shares_of_lots (lots_of_position (sheets base) account symbol) ≡ replay (deals_of_position (completed_trades base) account symbol)
unfolding shares_of_position
shares_spelled base account symbol books = shares_read base account symbol books

-- the lots add up to the trades
pub total_is : (base : Base) (account : ℕ) (symbol : Text) → BooksInvariant base
    → lot_quantity_sum (lots_of_position (sheets base) account symbol) ≡ holding_summary_quantity (completed_trades base) account symbol
total_is base account symbol books =
    quantities_add_up (deals_of_position (completed_trades base) account symbol) (lots_of_position (sheets base) account symbol) (shares_spelled base account symbol books)
    ∙ deals_summed (completed_trades base) account symbol

-- the number of a summary, or 0 where there is none
number_or : (o : Option SummaryRow) → unwrap_or (option_map (λ r. r.qty) o) (pos 0) ≡ summary_quantity_or_zero o
number_or None = refl
number_or (Some r) = refl

pub held_read : (base : Base) (account : ℕ) (symbol : Text) (held : Option ℤ) → BooksInvariant base → is_some (account_with_id base account) ≡ true → is_some (security_with_symbol base symbol) ≡ true
    → held ≡ option_map (λ r. r.qty) (summary_row_of_position (sheets base) account symbol) → unwrap_or held (pos 0) ≡ holding_summary_quantity (completed_trades base) account symbol
held_read base account symbol held books a s e =
    ap (λ o. unwrap_or o (pos 0)) e ∙ number_or (summary_row_of_position (sheets base) account symbol) ∙ reads_held base account symbol books a s
