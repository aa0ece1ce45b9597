-- The view of an account's last trades, from the rows read, is the model's.
use Rattle.std.proofs.Common.{◌≡◌, ℕ, ◌==◌, List, true, false, Some, None, Ok, Err, sym, ap, ◌∙◌, map, find}
use Rattle.std.specs.Global.{Vec}
use Rattle.std.specs.Prelude.{flat_map, is_none, option_map}
use Rattle.brk_money.specs.declared.refusal.Refusal.TheVariants.{NoAccount}
use Rattle.brk_ref.specs.Rows.{abstract_history_row, abstract_trade_row}
use Rattle.brk_ref.specs.declared.history_row.HistoryRow as read
use Rattle.brk_ref.specs.declared.trade_row.TradeRow as read_trade
use Rattle.brk_model.specs.Ask.{view_of_base, ask, checks_of_query}
use Rattle.brk_model.specs.Base.{Base, account_with_id}
use Rattle.brk_model.specs.Derived.{postings_of_base}
use Rattle.brk_model.specs.Joins.{history_rows_with_trade_id}
use Rattle.brk_model.specs.PositionView.{last_ten_trade_rows, recent_trades_view}
use Rattle.brk_model.specs.Queries.{RecentOf}
use Rattle.brk_model.specs.Sheets.{sheets}
use Rattle.brk_model.specs.Tables.{AccountRow, Tables, account_row, tables_of_base}
use Rattle.brk_model.specs.Views.{view_of_tables}
use Rattle.brk_trade_books.proofs.Reading.{is_none-map, reads_account}
use Rattle.brk_view_rows.specs.Views.{records_of_view}
use Rattle.brk_view_rows.specs.declared.view.View.{View}
use Rattle.brk_view_rows.specs.declared.view.View.TheVariants as views
use Rattle.brk_view_theorems.proofs.RecentRows.{same_recent}
use Rattle.brk_desk_queries.specs.QueryResults.{AnswersQueryAsModel}
use Rattle.brk_desk_queries.proofs.Tested.{answered, carried_as, is_missing, is_there, refused}

-- The view has the records of `recent_trades_view`, for each account of which `trades` and
-- `history` are the last ten trades and their history.
abbrev pub IsViewOfRecentTrades : List read_trade.TradeRow → List read.HistoryRow → View → Type 0
IsViewOfRecentTrades trades history view = (t : Tables) (account : ℕ) → map abstract_trade_row trades ≡ last_ten_trade_rows t account
    → map abstract_history_row history ≡ flat_map (λ row. history_rows_with_trade_id t row.id) (last_ten_trade_rows t account) → records_of_view view ≡ recent_trades_view t account

-- `trades` are the last ten trades of the account, the most recent first, and `history` is their
-- history.
abbrev pub AreRecentTradesWithHistory : ℕ → List read_trade.TradeRow → List read.HistoryRow → Tables → Type 0
AreRecentTradesWithHistory account trades history t = (map abstract_trade_row trades ≡ last_ten_trade_rows t account)
    × (map abstract_history_row history ≡ flat_map (λ row. history_rows_with_trade_id t row.id) (last_ten_trade_rows t account))

pub account_missing : (base : Base) (id : ℕ) (t : Tables) → t ≡ sheets base → None ≡ find (λ r. r.id == id) t.accounts → is_none (account_with_id base id) ≡ true
account_missing base id t s e =
    sym (is_none-map (account_row base.accounts (postings_of_base base)) (account_with_id base id))
    ∙ is_missing (option_map (account_row base.accounts (postings_of_base base)) (account_with_id base id)) (e ∙ ap (λ x. find (λ r. r.id == id) x.accounts) s ∙ reads_account base id)

pub account_there : (base : Base) (id : ℕ) (a : AccountRow) (t : Tables) → t ≡ sheets base → Some a ≡ find (λ r. r.id == id) t.accounts → is_none (account_with_id base id) ≡ false
account_there base id a t s e =
    sym (is_none-map (account_row base.accounts (postings_of_base base)) (account_with_id base id))
    ∙ is_there a (option_map (account_row base.accounts (postings_of_base base)) (account_with_id base id)) (e ∙ ap (λ x. find (λ r. r.id == id) x.accounts) s ∙ reads_account base id)

pub no_account : (id : ℕ) (t : Tables) → None ≡ find (λ r. r.id == id) t.accounts → AnswersQueryAsModel (RecentOf id) (Err NoAccount) t
unfolding ask checks_of_query
no_account id t e = (λ base books sound s. refused (is_none (account_with_id base id)) NoAccount (view_of_base base (RecentOf id)) (account_missing base id t s e), tt)

pub recent_seen : (id : ℕ) (a : AccountRow) (trades : Vec read_trade.TradeRow) (history sorted : Vec read.HistoryRow) (view : View) → IsViewOfRecentTrades trades.items history.items view
    → view ≡ views.Recent (record { trades = trades; history = sorted })
    → (t : Tables) → Some a ≡ find (λ r. r.id == id) t.accounts → AreRecentTradesWithHistory id trades.items history.items t → AnswersQueryAsModel (RecentOf id) (Ok view) t
unfolding ask checks_of_query view_of_base view_of_tables
recent_seen id a trades history sorted view is shown t e w = (
  λ base books sound s.
      answered (is_none (account_with_id base id)) NoAccount (recent_trades_view (tables_of_base base) id) (account_there base id a t s e)
      ∙ ap Ok (sym (is t id w.0 w.1 ∙ ap (λ x. recent_trades_view x id) s ∙ same_recent base id books sound)),
  λ base books sound s. carried_as (RecentOf id) view (views.Recent (record { trades = trades; history = sorted })) t shown w.0,
)
