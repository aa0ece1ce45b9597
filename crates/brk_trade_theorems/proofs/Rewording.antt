-- The tables of a base after texts of its trades change: no other column changes.
use Rattle.std.proofs.Common.{◌≡◌, ℕ, ◌==◌, not, List, [], ◌∷◌, ◌++◌, refl, sym, ap, ◌∙◌, map, filter, length, pos, ◌+ℤ◌}
use Rattle.std.specs.Prelude.{flat_map, nat_lt, sum_by, bytes_eq}
use Rattle.std.proofs.lemmas.List.{length-map}
use Rattle.brk_money.specs.Kinds.{side_of_trade_type}
use Rattle.brk_money.specs.Spelling.{Text}
use Rattle.brk_money.specs.declared.status.Status.TheVariants.{Pending}
use Rattle.brk_model.specs.Lists.{is_zero, sort_by_key, total_by}
use Rattle.brk_model.specs.Records.{Account, Broker, Movement, SettleRule, Trade}
use Rattle.brk_model.specs.Base.{Base, broker_id_in_accounts, completed_trades, has_last_status, is_completed, last_status_stamp_of_trade, opening_balance_in_accounts}
use Rattle.brk_model.specs.Shares.{lot_quantity, replay, signed_by_side}
use Rattle.brk_model.specs.Derived.{Posting, balance_of_account, cash_trades, commission_total_of_broker, deal_of_trade, deals_of_position, trades_of_account}
use Rattle.brk_model.specs.Derived.{trades_of_broker, trades_of_position, pending_trades, postings_to_account, posting_of_movement, posting_of_trade, postings}
use Rattle.brk_model.specs.Derived.{postings_sorted_by_stamp, shares_of_position, holding_summary_quantity, trade_count_of_broker}
use Rattle.brk_model.specs.Tables.{HoldingRow, CashRow, SettlementRow, SummaryRow, TradeRow, account_row, broker_row, rows_by_position, history_rows}
use Rattle.brk_model.specs.Tables.{holding_row, holding_history_over_deals, holding_history_rows_of_lot, numbered_cash_move_rows, request_row, settlement_row}
use Rattle.brk_model.specs.Tables.{summary_rows, tables_of_base_in_schema, tables_from_completed_trades, trade_row}
use Rattle.brk_model.specs.Schemas.{third_schema}
use Rattle.brk_model.specs.Keys.{account_key, broker_key, rows_sorted_by_key, history_key, holding_history_key, holding_key, cash_move_key, request_key, settlement_key, summary_key, trade_key}
use Rattle.brk_model.specs.Sheets.{sheets, tables_sorted_by_key}
use Rattle.brk_trade_books.proofs.Places.{map-append}
use Rattle.brk_trade_theorems.proofs.Through.{filter-map, flat_map-map, map-map, sort-map, sum-map, total-map}

-- a posting without its text
abbrev pub no_name : Posting → Posting
no_name p = record p { name = [] }

-- a balance does not hang on texts
nameless_balance : (accounts : List Account) (ps : List Posting) (account : ℕ) → balance_of_account accounts ps account ≡ balance_of_account accounts (map no_name ps) account
unfolding balance_of_account
nameless_balance accounts ps account =
    ap (λ n. opening_balance_in_accounts accounts account +ℤ n)
    (sym (ap (total_by (λ p. p.amount)) (filter-map (λ p. p.account == account) (λ p. p.account == account) no_name ps (λ p. refl))
    ∙ total-map (λ p. p.amount) no_name (postings_to_account ps account)))

-- a trade with other words
abbrev pub reworded : (Trade → Text) → (Trade → Text) → (Trade → Text) → Trade → Trade
reworded x y z t = record t { executor = x t; cash_type = y t; cash_name = z t }

module _ (x y z : Trade → Text) where
  abbrev f : Trade → Trade
  f = reworded x y z

  pub done_reworded : (ts : List Trade) → filter is_completed (map f ts) ≡ map f (filter is_completed ts)
  done_reworded ts = filter-map is_completed is_completed f ts (λ t. refl)

  of_position_reworded : (done : List Trade) (account : ℕ) (symbol : Text) → trades_of_position (map f done) account symbol ≡ map f (trades_of_position done account symbol)
  of_position_reworded done account symbol =
      ap (filter (λ t. bytes_eq t.symbol symbol)) (filter-map (λ t. t.account == account) (λ t. t.account == account) f done (λ t. refl))
      ∙ filter-map (λ t. bytes_eq t.symbol symbol) (λ t. bytes_eq t.symbol symbol) f (trades_of_account done account) (λ t. refl)

  deals_reworded : (done : List Trade) (account : ℕ) (symbol : Text) → deals_of_position (map f done) account symbol ≡ deals_of_position done account symbol
  deals_reworded done account symbol =
      ap (λ ts. map deal_of_trade (sort_by_key last_status_stamp_of_trade ts)) (of_position_reworded done account symbol)
      ∙ ap (map deal_of_trade)
      (sort-map (λ t u. nat_lt (last_status_stamp_of_trade t) (last_status_stamp_of_trade u))
      (λ t u. nat_lt (last_status_stamp_of_trade t) (last_status_stamp_of_trade u)) f (trades_of_position done account symbol) (λ a b. refl))
      ∙ map-map deal_of_trade f (sort_by_key last_status_stamp_of_trade (trades_of_position done account symbol))

  shares_reworded : (done : List Trade) (account : ℕ) (symbol : Text) → shares_of_position (map f done) account symbol ≡ shares_of_position done account symbol
  unfolding shares_of_position
  shares_reworded done account symbol = ap replay (deals_reworded done account symbol)

  summary_reworded : (done : List Trade) (account : ℕ) (symbol : Text) → holding_summary_quantity (map f done) account symbol ≡ holding_summary_quantity done account symbol
  unfolding holding_summary_quantity
  summary_reworded done account symbol =
      ap (total_by (λ t. signed_by_side (side_of_trade_type t.kind) t.qty)) (of_position_reworded done account symbol)
      ∙ total-map (λ t. signed_by_side (side_of_trade_type t.kind) t.qty) f (trades_of_position done account symbol)

  -- the postings of trades with other texts, and of movements
  abbrev pub postings_with : List Account → List Trade → List Movement → List Posting
  postings_with accounts done ms = map (λ t. record (posting_of_trade accounts t) { name = z t }) (cash_trades done) ++ map posting_of_movement ms

  posted_reworded : (accounts : List Account) (done : List Trade) (ms : List Movement) → postings accounts (map f done) ms ≡ postings_with accounts done ms
  posted_reworded accounts done ms =
      ap (λ ps. ps ++ map posting_of_movement ms)
      (ap (map (posting_of_trade accounts)) (filter-map (λ t. t.is_cash) (λ t. t.is_cash) f done (λ t. refl)) ∙ map-map (posting_of_trade accounts) f (cash_trades done))

  -- but for the texts they are the same
  pub posted_nameless : (accounts : List Account) (done : List Trade) (ms : List Movement) → map no_name (postings_with accounts done ms) ≡ map no_name (postings accounts done ms)
  posted_nameless accounts done ms =
      map-append no_name (map (λ t. record (posting_of_trade accounts t) { name = z t }) (cash_trades done)) (map posting_of_movement ms)
      ∙ ap (λ ps. ps ++ map no_name (map posting_of_movement ms))
      (map-map no_name (λ t. record (posting_of_trade accounts t) { name = z t }) (cash_trades done) ∙ sym (map-map no_name (posting_of_trade accounts) (cash_trades done)))
      ∙ sym (map-append no_name (map (posting_of_trade accounts) (cash_trades done)) (map posting_of_movement ms))

  balance_reworded : (accounts : List Account) (done : List Trade) (ms : List Movement) (account : ℕ)
      → balance_of_account accounts (postings accounts (map f done) ms) account ≡ balance_of_account accounts (postings accounts done ms) account
  balance_reworded accounts done ms account =
      nameless_balance accounts (postings accounts (map f done) ms) account
      ∙ ap (λ ps. balance_of_account accounts ps account) (ap (map no_name) (posted_reworded accounts done ms) ∙ posted_nameless accounts done ms)
      ∙ sym (nameless_balance accounts (postings accounts done ms) account)

  of_broker_reworded : (accounts : List Account) (done : List Trade) (broker : ℕ) → trades_of_broker accounts (map f done) broker ≡ map f (trades_of_broker accounts done broker)
  of_broker_reworded accounts done broker =
      filter-map (λ t. broker_id_in_accounts accounts t.account == broker) (λ t. broker_id_in_accounts accounts t.account == broker) f done (λ t. refl)

  count_reworded : (accounts : List Account) (done : List Trade) (broker : ℕ) → trade_count_of_broker accounts (map f done) broker ≡ trade_count_of_broker accounts done broker
  unfolding trade_count_of_broker
  count_reworded accounts done broker = ap length (of_broker_reworded accounts done broker) ∙ length-map (trades_of_broker accounts done broker) f

  commissions_reworded : (accounts : List Account) (done : List Trade) (broker : ℕ) → commission_total_of_broker accounts (map f done) broker ≡ commission_total_of_broker accounts done broker
  unfolding commission_total_of_broker
  commissions_reworded accounts done broker =
      ap (sum_by (λ t. t.commission)) (of_broker_reworded accounts done broker) ∙ sum-map (λ t. t.commission) f (trades_of_broker accounts done broker)

  -- ---- table by table

  trades_reworded : (ts : List Trade) → map trade_row (map f ts) ≡ map (λ t. record (trade_row t) { executor = x t }) ts
  trades_reworded ts = map-map trade_row f ts

  history_reworded : (ts : List Trade) → flat_map history_rows (map f ts) ≡ flat_map history_rows ts
  history_reworded ts = flat_map-map history_rows f ts

  requests_reworded : (accounts : List Account) (ts : List Trade) → map (request_row accounts) (pending_trades (map f ts)) ≡ map (request_row accounts) (pending_trades ts)
  requests_reworded accounts ts =
      ap (map (request_row accounts)) (filter-map (has_last_status Pending) (has_last_status Pending) f ts (λ t. refl)) ∙ map-map (request_row accounts) f (pending_trades ts)

  holding_reworded : (done : List Trade) (t : Trade) → holding_row (map f done) (f t) ≡ holding_row done t
  holding_reworded done t = λ i. record (holding_row done t) { qty = lot_quantity (shares_reworded done t.account t.symbol i) t.id }

  holdings_reworded : (done : List Trade) → map (holding_row (map f done)) (map f done) ≡ map (holding_row done) done
  holdings_reworded done = map-map (holding_row (map f done)) f done ∙ (λ i. map (λ t. holding_reworded done t i) done)

  summaries_reworded : (base : Base) (done : List Trade) → rows_by_position base (summary_rows (map f done)) ≡ rows_by_position base (summary_rows done)
  summaries_reworded base done =
      λ i. rows_by_position base
      (λ account symbol. filter (λ (row : SummaryRow). not (is_zero row.qty))
      (record { account = account; symbol = symbol; qty = summary_reworded done account symbol i } ∷ []))

  lots_reworded : (done : List Trade) (t : Trade) → holding_history_rows_of_lot (map f done) (f t) ≡ holding_history_rows_of_lot done t
  lots_reworded done t =
      ap (holding_history_over_deals t.id []) (deals_reworded done t.account t.symbol)

  lot_changes_reworded : (done : List Trade) → flat_map (holding_history_rows_of_lot (map f done)) (map f done) ≡ flat_map (holding_history_rows_of_lot done) done
  lot_changes_reworded done = flat_map-map (holding_history_rows_of_lot (map f done)) f done ∙ (λ i. flat_map (λ t. lots_reworded done t i) done)

  settlements_reworded : (accounts : List Account) (rule : SettleRule) (done : List Trade)
      → map (settlement_row accounts rule) (map f done) ≡ map (λ t. record (settlement_row accounts rule t) { cash_type = y t }) done
  settlements_reworded accounts rule done = map-map (settlement_row accounts rule) f done

  -- ---- all tables

  abbrev pub base_reworded : Base → Base
  base_reworded base = record base { trades = map f base.trades }

  abbrev pub trades_with : Base → List TradeRow
  trades_with base = rows_sorted_by_key trade_key (map (λ t. record (trade_row t) { executor = x t }) base.trades)

  abbrev pub settlements_with : Base → List SettlementRow
  settlements_with base = rows_sorted_by_key settlement_key (map (λ t. record (settlement_row base.accounts base.rule t) { cash_type = y t }) (completed_trades base))

  abbrev pub moves_with : Base → List CashRow
  moves_with base = rows_sorted_by_key cash_move_key (numbered_cash_move_rows 1 (postings_sorted_by_stamp (postings_with base.accounts (completed_trades base) base.movements)))

  upon : (base : Base) → tables_sorted_by_key (tables_from_completed_trades third_schema (base_reworded base) (map f (completed_trades base)))
      ≡ record (sheets base) { trades = trades_with base; settlements = settlements_with base; moves = moves_with base }
  unfolding tables_of_base_in_schema tables_sorted_by_key
  upon base =
      let done : List Trade = completed_trades base in
      λ i. record (sheets base) {
        brokers = rows_sorted_by_key broker_key
            (map (λ (b : Broker). record (broker_row base.accounts done b)
            { trades = pos (count_reworded base.accounts done b.id i); commissions = commissions_reworded base.accounts done b.id i }) base.brokers);
        accounts = rows_sorted_by_key account_key
            (map (λ (a : Account). record (account_row base.accounts (postings base.accounts done base.movements) a)
            { balance = balance_reworded base.accounts done base.movements a.id i }) base.accounts);
        trades = rows_sorted_by_key trade_key (trades_reworded base.trades i);
        history = rows_sorted_by_key history_key (history_reworded base.trades i);
        requests = rows_sorted_by_key request_key (requests_reworded base.accounts base.trades i);
        holdings = rows_sorted_by_key holding_key (filter (λ (row : HoldingRow). not (is_zero row.qty)) (holdings_reworded done i));
        summaries = rows_sorted_by_key summary_key (summaries_reworded base done i);
        holding_history = rows_sorted_by_key holding_history_key (lot_changes_reworded done i);
        settlements = rows_sorted_by_key settlement_key (settlements_reworded base.accounts base.rule done i);
        moves = rows_sorted_by_key cash_move_key (numbered_cash_move_rows 1 (postings_sorted_by_stamp (posted_reworded base.accounts done base.movements i)));
      }

  pub tables_reworded : (base : Base)
      → sheets (base_reworded base) ≡ record (sheets base) { trades = trades_with base; settlements = settlements_with base; moves = moves_with base }
  unfolding tables_of_base_in_schema
  tables_reworded base = ap (λ done. tables_sorted_by_key (tables_from_completed_trades third_schema (base_reworded base) done)) (done_reworded base.trades) ∙ upon base
