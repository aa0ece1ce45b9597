-- The tables after a result are the tables before it with the rows of the result.
use Rattle.std.proofs.Common.{◌≡◌, ◌<◌, ℕ, ◌==◌, Bool, true, false, not, cond, List, [], ◌∷◌, ◌++◌, refl, sym, subst, ◌∙◌, ap, map, filter, ℤ, pos, Option, Some, None, length, ◌+◌}
use Rattle.std.specs.Prelude.{flat_map, unwrap_or}
use Rattle.std.specs.Option.{option_map_or}
use Rattle.std.specs.List.{AllByRecursion}
use Rattle.std.proofs.lemmas.Bool.{eqb-false, eq-eqb}
use Rattle.brk_money.specs.Kinds.{is_same_trade_status, trade_status_code}
use Rattle.brk_money.specs.declared.status.Status.{Status}
use Rattle.brk_money.specs.declared.status.Status.TheVariants.{Completed, Active, Submitted, Pending, Canceled}
use Rattle.brk_model.specs.Lists.{is_zero, update_where}
use Rattle.brk_model.specs.Records.{Account, StatusChange, Security, Trade}
use Rattle.brk_model.specs.Base.{Base, account_with_id, broker_id_in_accounts, completed_trades, has_last_status, is_completed, last_status_change, last_status_stamp_of_trade, security_with_symbol}
use Rattle.brk_model.specs.Derived.{Posting, balance_of_account, commission_total_of_broker, deal_of_trade, postings_sorted_by_stamp, pending_trades}
use Rattle.brk_model.specs.Derived.{posting_of_trade, postings, postings_of_base, trade_count_of_broker}
use Rattle.brk_model.specs.Results.{trade_after_completion, deal_of_result, base_after_result}
use Rattle.brk_model.specs.Shares as model
use Rattle.brk_model.specs.Shares.{Touch}
use Rattle.brk_model.specs.Tables.{BrokerRow, HistoryRow, CashRow, SummaryRow, Tables, TradeRow, account_row, broker_row, history_rows, holding_row}
use Rattle.brk_model.specs.Tables.{cash_move_row as numbered_row, numbered_cash_move_rows, request_row, settlement_row, tables_of_base_in_schema, trade_row}
use Rattle.brk_lots.proofs.HistoryRows.{rows_of_lots_are}
use Rattle.brk_lots.specs.HistoryRows.{lot_rows_with_quantity_change}
use Rattle.brk_model.specs.Keys.{number, word, account_key, broker_key, rows_sorted_by_key, history_key, holding_history_key, holding_key, insert_row_by_key}
use Rattle.brk_model.specs.Keys.{cash_move_key, request_key, settlement_key, summary_key, trade_key}
use Rattle.brk_model.specs.Sheets.{sheets, tables_sorted_by_key}
use Rattle.brk_model.specs.Names.{TradesAreNumberedFrom}
use Rattle.brk_trade_books.specs.Books.{BooksInvariant, IsNotCompletion}
use Rattle.brk_trade_books.specs.Results.{ResultRows, tables_with_cash_row_if_cash_trade, holding_history_row_of_touch}
use Rattle.brk_trade_books.specs.Results.{tables_with_trade_completed_and_history, tables_with_touched_holding, tables_with_lots_opened, tables_after_result}
use Rattle.brk_trade_books.specs.Results.{result_rows_of_trade, result_rows_of_deal, tables_with_summary_changed, tables_with_lots_touched}
use Rattle.brk_trade_rows.specs.Changes.{tables_with_broker_totals, tables_with_lot_change, tables_with_settlement}
use Rattle.brk_trade_books.specs.Trading.{history_row_of_status}
use Rattle.brk_trade_books.proofs.Order.{NewKey, by_key-map, by_key-middle}
use Rattle.brk_trade_books.proofs.Same.{NonePass, All-append, All-filter, All-map, All-mapped, flat_map-append, map-last}
use Rattle.brk_trade_books.proofs.Places.{append_assoc, filter-not_one, filter-one, map-append, update_where-one}
use Rattle.brk_trade_books.proofs.Numbering.{ids_other, last_of_marked, numbered_after, numbered_before, status_of_marked}
use Rattle.brk_trade_books.proofs.Moving.{history_of_others}
use Rattle.brk_trade_books.proofs.Completing.{Completes}
use Rattle.brk_trade_books.proofs.LotSetting.{set_lot, set_lots}
use Rattle.brk_trade_books.proofs.Holdings.{holdings_after, open_lots}
use Rattle.brk_trade_books.proofs.Histories.{histories_after, put_changes, put_openings}
use Rattle.brk_trade_books.proofs.Summaries.{all_summaries, is_of, changed_summary_rows, summaries_after}
use Rattle.brk_trade_books.proofs.Sums.{accounts_after, brokers_after, cash_after, margin_accounts, margin_cash, posted_before, settlements_after, with_numbers, with_other_balance}

-- ---- a trade at the market, and once it is completed

at_market : (o : Option StatusChange) → option_map_or (λ m. is_same_trade_status m.status Submitted) o false ≡ true
    → (option_map_or (λ m. is_same_trade_status m.status Completed) o false ≡ false) × (option_map_or (λ m. is_same_trade_status m.status Pending) o false ≡ false)
at_market None h = (refl, refl)
at_market (Some m) h = by_status m.status h
  where
    by_status : (s : Status) → is_same_trade_status s Submitted ≡ true → (is_same_trade_status s Completed ≡ false) × (is_same_trade_status s Pending ≡ false)
    by_status Completed h = absurd (cc)
    by_status Active h = (refl, refl)
    by_status Submitted h = (refl, refl)
    by_status Pending h = absurd (cc)
    by_status Canceled h = (refl, refl)

pub submitted_not_completed : (t : Trade) → has_last_status Submitted t ≡ true → is_completed t ≡ false
submitted_not_completed t h = (at_market (last_status_change t) h).0

submitted_not_pending : (t : Trade) → has_last_status Submitted t ≡ true → has_last_status Pending t ≡ false
submitted_not_pending t h = (at_market (last_status_change t) h).1

pub status_then : (base : Base) (stamp price : ℕ) (t : Trade) (wanted : Status) → has_last_status wanted (trade_after_completion base stamp price t) ≡ is_same_trade_status Completed wanted
unfolding trade_after_completion
status_then base stamp price t wanted = status_of_marked stamp Completed wanted t

pub moment_then : (base : Base) (stamp price : ℕ) (t : Trade) → last_status_stamp_of_trade (trade_after_completion base stamp price t) ≡ stamp
unfolding trade_after_completion
moment_then base stamp price t = ap (λ o. option_map_or (λ m. m.stamp) o 0) (last_of_marked stamp Completed t)

pub deal_then : (base : Base) (stamp price : ℕ) (t : Trade) → deal_of_trade (trade_after_completion base stamp price t) ≡ deal_of_result stamp price t
unfolding trade_after_completion
deal_then base stamp price t = λ i. record (deal_of_result stamp price t) { stamp = moment_then base stamp price t i }

-- ---- TRADE

abbrev completed_row : TradeRow → TradeRow → TradeRow
completed_row c r = record r { status = Completed; stamp = c.stamp; price = Some (unwrap_or c.price 0); commission = c.commission; tax = c.tax }

trades_after : (base : Base) (stamp price : ℕ) (xs : List Trade) (t : Trade) (ys : List Trade) → ids_other t.id xs → ids_other t.id ys
    → rows_sorted_by_key trade_key (map trade_row (xs ++ trade_after_completion base stamp price t ∷ ys))
    ≡ update_where (λ r. r.id == t.id) (completed_row (trade_row (trade_after_completion base stamp price t))) (rows_sorted_by_key trade_key (map trade_row (xs ++ t ∷ ys)))
unfolding trade_after_completion
trades_after base stamp price xs t ys g h =
    let u : Trade = trade_after_completion base stamp price t in
    let c : TradeRow = trade_row u in
    let row : c ≡ completed_row c (trade_row t) = λ i. record c { status = option_map_or (λ m. m.status) (last_of_marked stamp Completed t i) Canceled } in
    let change : TradeRow → TradeRow = λ r. cond (r.id == t.id) (completed_row c r) r in
    ap (rows_sorted_by_key trade_key) (map-append trade_row xs (u ∷ ys)
    ∙ ap (λ r. map trade_row xs ++ r ∷ map trade_row ys) row
    ∙ sym (update_where-one (λ r. r.id == t.id) (completed_row c) (map trade_row xs) (trade_row t) (map trade_row ys)
    (All-mapped _ trade_row xs g) (eq-eqb t.id t.id refl) (All-mapped _ trade_row ys h))
    ∙ ap (map change) (sym (map-append trade_row xs (t ∷ ys))))
    ∙ by_key-map trade_key trade_key change (map trade_row (xs ++ t ∷ ys)) (λ r. same_key c r (r.id == t.id))
  where
    same_key : (c r : TradeRow) (b : Bool) → trade_key (cond b (completed_row c r) r) ≡ trade_key r
    same_key c r true = refl
    same_key c r false = refl

-- ---- TRADE_HISTORY

first_of : List ℕ → ℕ
first_of [] = 0
first_of (c ∷ cs) = c

second_of : List ℕ → ℕ
second_of [] = 0
second_of (c ∷ []) = 0
second_of (c ∷ d ∷ cs) = d

no_completion : (s : Status) → is_same_trade_status s Completed ≡ false → trade_status_code s ≡ trade_status_code Completed → ⊥
unfolding first_of second_of
no_completion Completed g e = absurd (cc)
no_completion Active g e = eqb-false 65 67 refl (ap first_of e)
no_completion Submitted g e = eqb-false 83 67 refl (ap first_of e)
no_completion Pending g e = eqb-false 80 67 refl (ap first_of e)
no_completion Canceled g e = eqb-false 78 77 refl (ap second_of e)

own_history : (stamp : ℕ) (t : Trade) → AllByRecursion IsNotCompletion t.marks → NewKey history_key (history_row_of_status t.id Completed stamp) (history_rows t)
own_history stamp t h =
    All-mapped (λ r. history_key r ≡ history_key (history_row_of_status t.id Completed stamp) → ⊥) (λ m. history_row_of_status t.id m.status m.stamp) t.marks
    (All-map t.marks (λ m g e. no_completion m.status g (code_of t.id (trade_status_code m.status) (trade_status_code Completed) e)) h)
  where
    code_of : (n : ℕ) (a b : List ℕ) → number n ∷ word a ∷ [] ≡ number n ∷ word b ∷ [] → a ≡ b
    code_of n a b e = cc

history_after : (base : Base) (stamp price : ℕ) (xs : List Trade) (t : Trade) (ys : List Trade) → ids_other t.id xs → AllByRecursion IsNotCompletion t.marks
    → rows_sorted_by_key history_key (flat_map history_rows (xs ++ trade_after_completion base stamp price t ∷ ys))
    ≡ insert_row_by_key history_key (history_row_of_status t.id Completed stamp) (rows_sorted_by_key history_key (flat_map history_rows (xs ++ t ∷ ys)))
unfolding trade_after_completion
history_after base stamp price xs t ys g h =
    let row : HistoryRow = history_row_of_status t.id Completed stamp in
    let H : List Trade → List HistoryRow = flat_map history_rows in
    let after : H (xs ++ trade_after_completion base stamp price t ∷ ys) ≡ (H xs ++ history_rows t) ++ row ∷ H ys =
    flat_map-append history_rows xs (trade_after_completion base stamp price t ∷ ys)
    ∙ ap (λ rows. H xs ++ (rows ++ H ys)) (map-last (λ m. history_row_of_status t.id m.status m.stamp) t.marks (record { stamp = stamp; status = Completed }))
    ∙ ap (λ rows. H xs ++ rows) (append_assoc (history_rows t) (row ∷ []) (H ys))
    ∙ sym (append_assoc (H xs) (history_rows t) (row ∷ H ys)) in
    let before : H (xs ++ t ∷ ys) ≡ (H xs ++ history_rows t) ++ H ys =
    flat_map-append history_rows xs (t ∷ ys) ∙ sym (append_assoc (H xs) (history_rows t) (H ys)) in
    ap (rows_sorted_by_key history_key) after
    ∙ by_key-middle history_key (H xs ++ history_rows t) row (H ys)
    (All-append (λ r. history_key r ≡ history_key row → ⊥) (H xs) (history_rows t) (history_of_others row xs g) (own_history stamp t h))
    ∙ ap (λ rows. insert_row_by_key history_key row (rows_sorted_by_key history_key rows)) (sym before)

-- ---- the rows of a result, table by table

left_is : (touch : Touch) (t : Tables) → tables_with_touched_holding touch t ≡ record t { holdings = set_lot touch t.holdings }
left_is touch t = by_test (is_zero touch.after)
  where
    by_test : (b : Bool)
        → cond b (record t { holdings = filter (λ r. not (r.trade == touch.lot)) t.holdings })
        (record t { holdings = update_where (λ r. r.trade == touch.lot) (λ r. record r { qty = touch.after }) t.holdings })
        ≡ record t { holdings = cond b (filter (λ r. not (r.trade == touch.lot)) t.holdings) (update_where (λ r. r.trade == touch.lot) (λ r. record r { qty = touch.after }) t.holdings) }
    by_test true = refl
    by_test false = refl

touched_are : (id : ℕ) (touched : List Touch) (t : Tables)
    → tables_with_lots_touched id touched t ≡ record t { holdings = set_lots touched t.holdings; holding_history = put_changes id touched t.holding_history }
touched_are id [] t = refl
touched_are id (touch ∷ touched) t =
    ap (λ t. tables_with_lots_touched id touched (tables_with_lot_change (holding_history_row_of_touch id touch) t)) (left_is touch t)
    ∙ touched_are id touched (tables_with_lot_change (holding_history_row_of_touch id touch) (record t { holdings = set_lot touch t.holdings }))

opened_are : (u : Trade) (opened : List model.Lot) (t : Tables)
    → tables_with_lots_opened (trade_row u) opened t ≡ record t { holdings = open_lots u opened t.holdings; holding_history = put_openings opened t.holding_history }
opened_are u [] t = refl
opened_are u (lot ∷ opened) t = opened_are u opened _

summary_is : (before after : ℤ) (row : SummaryRow) (t : Tables) → tables_with_summary_changed before after row t ≡ record t { summaries = changed_summary_rows before after row t.summaries }
summary_is before after row t = by_test (is_zero after) (is_zero before)
  where
    F : Tables
    F = record t { summaries = filter (λ r. not (is_of row.account row.symbol r)) t.summaries }

    I : Tables
    I = record t { summaries = insert_row_by_key summary_key row t.summaries }

    U : Tables
    U = record t { summaries = update_where (is_of row.account row.symbol) (λ r. record r { qty = row.qty }) t.summaries }

    by_test : (b c : Bool) → cond b F (cond c I U) ≡ record t { summaries = cond b F.summaries (cond c I.summaries U.summaries) }
    by_test true c = refl
    by_test false true = refl
    by_test false false = refl

cash_is : (u : Trade) (c : ResultRows) (t : Tables) → tables_with_cash_row_if_cash_trade u.is_cash c.cash u.account c.balance t
    ≡ record t { accounts = cond u.is_cash (map (with_other_balance u.account c.balance) t.accounts) t.accounts; moves = cond u.is_cash (insert_row_by_key cash_move_key c.cash t.moves) t.moves }
cash_is u c t = by_test u.is_cash
  where
    by_test : (b : Bool) → tables_with_cash_row_if_cash_trade b c.cash u.account c.balance t
        ≡ record t { accounts = cond b (map (with_other_balance u.account c.balance) t.accounts) t.accounts; moves = cond b (insert_row_by_key cash_move_key c.cash t.moves) t.moves }
    by_test true = refl
    by_test false = refl

-- ---- all tables

-- what is known of a trade that is completed
pub record IsResult (base : Base) (stamp price : ℕ) (t : Trade) (xs ys : List Trade) : Type 0 where
  pub books : BooksInvariant base
  pub stands : base.trades ≡ xs ++ t ∷ ys
  pub submitted : has_last_status Submitted t ≡ true
  pub later : AllByRecursion (λ u. last_status_stamp_of_trade u < stamp) (completed_trades base)
  pub moved : AllByRecursion (λ m. m.stamp < stamp) base.movements

-- its trades, with the trade completed
pub trades_then : (base : Base) (stamp price : ℕ) (t : Trade) (xs ys : List Trade) → IsResult base stamp price t xs ys
    → update_where (λ u. u.id == t.id) (trade_after_completion base stamp price) base.trades ≡ xs ++ trade_after_completion base stamp price t ∷ ys
trades_then base stamp price t xs ys k =
    let n : TradesAreNumberedFrom 1 (xs ++ t ∷ ys) = subst (TradesAreNumberedFrom 1) k.stands k.books.numbered in
    ap (update_where (λ u. u.id == t.id) (trade_after_completion base stamp price)) k.stands
    ∙ update_where-one (λ u. u.id == t.id) (trade_after_completion base stamp price) xs t ys (numbered_before 1 xs t ys n) (eq-eqb t.id t.id refl) (numbered_after 1 xs t ys n)

pub done_then : (base : Base) (stamp price : ℕ) (t : Trade) (xs ys : List Trade) → IsResult base stamp price t xs ys
    → completed_trades (base_after_result base stamp price t) ≡ filter is_completed xs ++ trade_after_completion base stamp price t ∷ filter is_completed ys
done_then base stamp price t xs ys k =
    ap (filter is_completed) (trades_then base stamp price t xs ys k) ∙ filter-one is_completed xs (trade_after_completion base stamp price t) ys (status_then base stamp price t Completed)

pub done_now : (base : Base) (stamp price : ℕ) (t : Trade) (xs ys : List Trade) → IsResult base stamp price t xs ys → completed_trades base ≡ filter is_completed xs ++ filter is_completed ys
done_now base stamp price t xs ys k = ap (filter is_completed) k.stands ∙ filter-not_one is_completed xs t ys (submitted_not_completed t k.submitted)

pub completes : (base : Base) (stamp price : ℕ) (t : Trade) (xs ys : List Trade) → IsResult base stamp price t xs ys
    → Completes base (filter is_completed xs) (trade_after_completion base stamp price t) (filter is_completed ys)
unfolding trade_after_completion
completes base stamp price t xs ys k =
    let n : TradesAreNumberedFrom 1 (xs ++ t ∷ ys) = subst (TradesAreNumberedFrom 1) k.stands k.books.numbered in
    record {
      books = k.books;
      split = done_now base stamp price t xs ys k;
      last = subst (λ (m : ℕ). AllByRecursion (λ u. last_status_stamp_of_trade u < m) (completed_trades base)) (sym (moment_then base stamp price t)) k.later;
      fresh = subst (ids_other t.id) (sym (done_now base stamp price t xs ys k))
          (All-append (λ u. (u.id == t.id) ≡ false) (filter is_completed xs) (filter is_completed ys)
          (All-filter (λ u. (u.id == t.id) ≡ false) is_completed xs (numbered_before 1 xs t ys n)) (All-filter (λ u. (u.id == t.id) ≡ false) is_completed ys (numbered_after 1 xs t ys n)));
    }

-- the rows of a result, table by table
abbrev rows_set : Trade → ResultRows → Tables → Tables
rows_set u c t = record t {
  brokers = map (with_numbers c.broker c.trades c.commissions) t.brokers;
  accounts = cond u.is_cash (map (with_other_balance u.account c.balance) t.accounts) t.accounts;
  trades = update_where (λ r. r.id == u.id) (completed_row (trade_row u)) t.trades;
  history = insert_row_by_key history_key (history_row_of_status u.id Completed (last_status_stamp_of_trade u)) t.history;
  holdings = open_lots u c.opened (set_lots c.touched t.holdings);
  summaries = changed_summary_rows c.before c.after (record { account = u.account; symbol = u.symbol; qty = c.after }) t.summaries;
  holding_history = put_openings c.opened (put_changes u.id c.touched t.holding_history);
  settlements = insert_row_by_key settlement_key c.settlement t.settlements;
  moves = cond u.is_cash (insert_row_by_key cash_move_key c.cash t.moves) t.moves;
}

rows_are : (u : Trade) (c : ResultRows) (t : Tables) → tables_after_result (record c { trade = trade_row u }) t ≡ rows_set u c t
rows_are u c t =
    ap (λ x. C (S (B (M (tables_with_lots_opened (trade_row u) c.opened x))))) (touched_are u.id c.touched (tables_with_trade_completed_and_history (trade_row u) t))
    ∙ ap (λ x. C (S (B (M x)))) (opened_are u c.opened touched)
    ∙ ap (λ x. C (S (B x))) (summary_is c.before c.after row opened)
    ∙ cash_is u c (S (B (record opened { summaries = changed_summary_rows c.before c.after row opened.summaries })))
  where
    B : Tables → Tables
    B x = tables_with_broker_totals c.broker c.trades c.commissions x

    C : Tables → Tables
    C x = tables_with_cash_row_if_cash_trade u.is_cash c.cash u.account c.balance x

    S : Tables → Tables
    S x = tables_with_settlement c.settlement x

    row : SummaryRow
    row = record { account = u.account; symbol = u.symbol; qty = c.after }

    M : Tables → Tables
    M x = tables_with_summary_changed c.before c.after row x

    done : Tables
    done = tables_with_trade_completed_and_history (trade_row u) t

    touched : Tables
    touched = record done { holdings = set_lots c.touched done.holdings; holding_history = put_changes u.id c.touched done.holding_history }

    opened : Tables
    opened = record touched { holdings = open_lots u c.opened touched.holdings; holding_history = put_openings c.opened touched.holding_history }

pub sheets_then : (base : Base) (stamp price : ℕ) (t : Trade) (xs ys : List Trade) → IsResult base stamp price t xs ys → (a : Account) (s : Security)
    → account_with_id base t.account ≡ Some a → security_with_symbol base t.symbol ≡ Some s → AllByRecursion IsNotCompletion t.marks
    → sheets (base_after_result base stamp price t) ≡ tables_after_result (result_rows_of_trade base stamp price t) (sheets base)
unfolding tables_of_base_in_schema tables_sorted_by_key trade_after_completion
sheets_then base stamp price t xs ys k a s ea es marks =
    moved ∙ sym (rows_are u c (sheets base)) ∙ (λ i. tables_after_result (result_rows_of_deal base (sym then i) (deal_then base stamp price t i) u) (sheets base))
  where
    u : Trade
    u = trade_after_completion base stamp price t

    A : List Trade
    A = filter is_completed xs

    Z : List Trade
    Z = filter is_completed ys

    done : List Trade
    done = A ++ u ∷ Z

    after : Base
    after = base_after_result base stamp price t

    c : ResultRows
    c = result_rows_of_deal base done (deal_of_trade u) u

    all : update_where (λ v. v.id == t.id) (trade_after_completion base stamp price) base.trades ≡ xs ++ u ∷ ys
    all = trades_then base stamp price t xs ys k

    then : completed_trades after ≡ done
    then = done_then base stamp price t xs ys k

    now : completed_trades base ≡ A ++ Z
    now = done_now base stamp price t xs ys k

    m : Completes base A u Z
    m = completes base stamp price t xs ys k

    n : TradesAreNumberedFrom 1 (xs ++ t ∷ ys)
    n = subst (TradesAreNumberedFrom 1) k.stands k.books.numbered

    front : ids_other t.id xs
    front = numbered_before 1 xs t ys n

    others : NonePass (λ v. v.id == u.id) A
    others = All-filter (λ v. (v.id == t.id) ≡ false) is_completed xs front

    broker : ℕ
    broker = broker_id_in_accounts base.accounts u.account

    numbers : BrokerRow → BrokerRow
    numbers = with_numbers broker (pos (trade_count_of_broker base.accounts done broker)) (commission_total_of_broker base.accounts done broker)

    brokers : rows_sorted_by_key broker_key (map (broker_row base.accounts (completed_trades after)) base.brokers) ≡ map numbers (sheets base).brokers
    brokers =
        ap (λ ts. rows_sorted_by_key broker_key (map (broker_row base.accounts ts) base.brokers)) then ∙ brokers_after base.accounts base.brokers A u Z
        ∙ ap (λ ts. map numbers (rows_sorted_by_key broker_key (map (broker_row base.accounts ts) base.brokers))) (sym now)

    posted : List Posting
    posted = postings base.accounts done base.movements

    accounts : (b : Bool) → t.is_cash ≡ b → rows_sorted_by_key account_key (map (account_row base.accounts (postings_of_base after)) base.accounts)
        ≡ cond t.is_cash (map (with_other_balance u.account (balance_of_account base.accounts posted u.account)) (sheets base).accounts) (sheets base).accounts
    accounts true e =
        ap (λ ts. rows_sorted_by_key account_key (map (account_row base.accounts (postings base.accounts ts base.movements)) base.accounts)) then
        ∙ accounts_after base.accounts base.accounts A u Z base.movements
        ∙ ap (λ ts. map (with_other_balance u.account (balance_of_account base.accounts posted u.account))
        (rows_sorted_by_key account_key (map (account_row base.accounts (postings base.accounts ts base.movements)) base.accounts))) (sym now)
        ∙ sym (ap (λ b. cond b (map (with_other_balance u.account (balance_of_account base.accounts posted u.account)) (sheets base).accounts) (sheets base).accounts) e)
    accounts false e =
        ap (λ ts. rows_sorted_by_key account_key (map (account_row base.accounts (postings base.accounts ts base.movements)) base.accounts)) then
        ∙ margin_accounts base.accounts base.accounts A u Z base.movements e
        ∙ ap (λ ts. rows_sorted_by_key account_key (map (account_row base.accounts (postings base.accounts ts base.movements)) base.accounts)) (sym now)
        ∙ sym (ap (λ b. cond b (map (with_other_balance u.account (balance_of_account base.accounts posted u.account)) (sheets base).accounts) (sheets base).accounts) e)

    trades : rows_sorted_by_key trade_key (map trade_row after.trades) ≡ update_where (λ r. r.id == u.id) (completed_row (trade_row u)) (sheets base).trades
    trades =
        ap (λ ts. rows_sorted_by_key trade_key (map trade_row ts)) all ∙ trades_after base stamp price xs t ys front (numbered_after 1 xs t ys n)
        ∙ ap (λ ts. update_where (λ r. r.id == u.id) (completed_row (trade_row u)) (rows_sorted_by_key trade_key (map trade_row ts))) (sym k.stands)

    history : rows_sorted_by_key history_key (flat_map history_rows after.trades)
        ≡ insert_row_by_key history_key (history_row_of_status u.id Completed (last_status_stamp_of_trade u)) (sheets base).history
    history =
        ap (λ ts. rows_sorted_by_key history_key (flat_map history_rows ts)) all ∙ history_after base stamp price xs t ys front marks
        ∙ (λ i. insert_row_by_key history_key (history_row_of_status u.id Completed (sym (moment_then base stamp price t) i)) (rows_sorted_by_key history_key (flat_map history_rows (sym k.stands i))))

    requests : rows_sorted_by_key request_key (map (request_row base.accounts) (pending_trades after.trades)) ≡ (sheets base).requests
    requests =
        ap (λ ts. rows_sorted_by_key request_key (map (request_row base.accounts) (pending_trades ts))) all
        ∙ ap (λ ts. rows_sorted_by_key request_key (map (request_row base.accounts) ts))
        (filter-not_one (has_last_status Pending) xs u ys (status_then base stamp price t Pending) ∙ sym (filter-not_one (has_last_status Pending) xs t ys (submitted_not_pending t k.submitted))
        ∙ ap pending_trades (sym k.stands))

    settlements : rows_sorted_by_key settlement_key (map (settlement_row base.accounts base.rule) (completed_trades after))
        ≡ insert_row_by_key settlement_key (settlement_row base.accounts base.rule u) (sheets base).settlements
    settlements =
        ap (λ ts. rows_sorted_by_key settlement_key (map (settlement_row base.accounts base.rule) ts)) then ∙ settlements_after base.accounts base.rule A u Z others
        ∙ ap (λ ts. insert_row_by_key settlement_key (settlement_row base.accounts base.rule u) (rows_sorted_by_key settlement_key (map (settlement_row base.accounts base.rule) ts))) (sym now)

    -- what was posted before
    M : Tables → List CashRow
    M x = cond u.is_cash (insert_row_by_key cash_move_key c.cash x.moves) x.moves

    before : AllByRecursion (λ p. p.stamp < last_status_stamp_of_trade u) (postings base.accounts (A ++ Z) base.movements)
    before =
        subst (λ (m : ℕ). AllByRecursion (λ p. p.stamp < m) (postings base.accounts (A ++ Z) base.movements)) (sym (moment_then base stamp price t))
        (posted_before base.accounts (A ++ Z) base.movements stamp (subst (AllByRecursion (λ v. last_status_stamp_of_trade v < stamp)) now k.later) k.moved)

    row_of : List Trade → CashRow
    row_of ts = numbered_row (length (postings base.accounts ts base.movements) + 1) (posting_of_trade base.accounts u)

    cash : (b : Bool) → t.is_cash ≡ b → rows_sorted_by_key cash_move_key (numbered_cash_move_rows 1 (postings_sorted_by_stamp (postings_of_base after))) ≡ M (sheets base)
    cash true e =
        ap (λ ts. rows_sorted_by_key cash_move_key (numbered_cash_move_rows 1 (postings_sorted_by_stamp (postings base.accounts ts base.movements)))) then
        ∙ cash_after base.accounts A u Z base.movements e before
        ∙ ap (λ ts. insert_row_by_key cash_move_key (row_of ts)
        (rows_sorted_by_key cash_move_key (numbered_cash_move_rows 1 (postings_sorted_by_stamp (postings base.accounts ts base.movements))))) (sym now)
        ∙ sym (ap (λ b. cond b (insert_row_by_key cash_move_key (row_of (completed_trades base)) (sheets base).moves) (sheets base).moves) e)
    cash false e =
        ap (λ ts. rows_sorted_by_key cash_move_key (numbered_cash_move_rows 1 (postings_sorted_by_stamp (postings base.accounts ts base.movements)))) then ∙ margin_cash base.accounts A u Z base.movements e
        ∙ ap (λ ts. rows_sorted_by_key cash_move_key (numbered_cash_move_rows 1 (postings_sorted_by_stamp (postings base.accounts ts base.movements)))) (sym now)
        ∙ sym (ap (λ b. cond b (insert_row_by_key cash_move_key (row_of (completed_trades base)) (sheets base).moves) (sheets base).moves) e)

    holdings : (sheets after).holdings ≡ open_lots u c.opened (set_lots c.touched (sheets base).holdings)
    holdings = ap (λ ts. rows_sorted_by_key holding_key (filter (λ row. not (is_zero row.qty)) (map (holding_row ts) ts))) then ∙ holdings_after base A u Z m

    summaries : (sheets after).summaries ≡ changed_summary_rows c.before c.after (record { account = u.account; symbol = u.symbol; qty = c.after }) (sheets base).summaries
    summaries = ap (λ ts. rows_sorted_by_key summary_key (all_summaries base ts)) then ∙ summaries_after base A u Z m a s ea es

    histories : (sheets after).holding_history ≡ put_openings c.opened (put_changes u.id c.touched (sheets base).holding_history)
    histories =
        ap (rows_sorted_by_key holding_history_key) (rows_of_lots_are (completed_trades after) (completed_trades after))
        ∙ ap (λ ts. rows_sorted_by_key holding_history_key (flat_map (lot_rows_with_quantity_change ts) ts)) then ∙ histories_after base A u Z m
        ∙ ap (λ rows. put_openings c.opened (put_changes u.id c.touched rows)) (sym (ap (rows_sorted_by_key holding_history_key) (rows_of_lots_are (completed_trades base) (completed_trades base))))

    moved : sheets after ≡ rows_set u c (sheets base)
    moved = λ i. record (sheets base) {
      brokers = brokers i;
      accounts = accounts t.is_cash refl i;
      trades = trades i;
      history = history i;
      requests = requests i;
      holdings = holdings i;
      summaries = summaries i;
      holding_history = histories i;
      settlements = settlements i;
      moves = cash t.is_cash refl i;
    }
