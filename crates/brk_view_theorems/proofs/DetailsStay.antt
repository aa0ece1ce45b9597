-- No run of calls changes the figures in the explanation of a completed trade.
use Rattle.std.proofs.Common.{◌≡◌, ◌≤◌, ℕ, ◌-◌, ◌==◌, eqb, Bool, true, false, cond, List, [], ◌∷◌, ◌++◌, length, Option, Some, None, refl, sym, ◌∙◌, ap, subst}
use Rattle.std.proofs.Common.{map, filter, arith, ℤ, pos, ◌+ℤ◌, is_some, unsigned_abs}
use Rattle.std.specs.Prelude.{bytes_eq, find, flat_map, nat_lt}
use Rattle.std.specs.Option.{option_map_or}
use Rattle.std.specs.List.{AllByRecursion}
use Rattle.std.proofs.lemmas.Bool.{eq-eqb}
use Rattle.std.proofs.lemmas.Int.{ints}
use Rattle.brk_money.specs.Spelling.{Text}
use Rattle.brk_money.specs.declared.tax_status.TaxStatus.TheVariants.{Untaxed}
use Rattle.brk_model.specs.Base.{Base, account_with_id, account_with_id_in_list, is_completed, last_status_stamp_of_trade, completion_price, trade_with_id}
use Rattle.brk_model.specs.Derived.{Posting, settlement_amount, deal_of_trade, due_day, trades_of_position, postings_of_base}
use Rattle.brk_model.specs.Keys.{rows_sorted_by_key, history_key}
use Rattle.brk_model.specs.Joins.{account_row_with_id}
use Rattle.brk_model.specs.Lists.{sort_by, sort_by_key}
use Rattle.brk_model.specs.Records.{Account, StatusChange, Trade}
use Rattle.brk_model.specs.Run.{Call, Outcome, Run}
use Rattle.brk_model.specs.Shares.{Share, replay, signed_by_side}
use Rattle.brk_model.specs.Sheets.{sheets, tables_sorted_by_key}
use Rattle.brk_model.specs.Tables.{AccountRow, HistoryRow, HoldingHistoryRow, SettlementRow, Tables, account_row, history_rows, tables_of_base_in_schema, trade_row}
use Rattle.brk_lots.specs.HistoryRows.{has_quantity_change}
use Rattle.brk_lots.specs.Lots.{list_reversed_if_lifo, side_of_qty}
use Rattle.brk_lots.specs.Walks.{closed_share_count, touches_of_first_shares}
use Rattle.brk_lots.specs.declared.lot.Lot.{Lot}
use Rattle.brk_lots.specs.declared.lot.Touch.{Touch}
use Rattle.brk_lots.proofs.Ends.{all_end}
use Rattle.brk_model_explain.specs.Trades.{Closing, balance_change_of_trade, closings_of_trade, trade_price_or_zero, trade_stamp_or_zero, sorted_statuses_of_trade}
use Rattle.brk_trade_books.specs.Books.{BooksInvariant, TradeStampIsAtMostLastStamp}
use Rattle.brk_trade_books.proofs.Histories.{filter-flat_map}
use Rattle.brk_trade_books.proofs.LotOrder.{is_some_left, lot_upon, lots_left, of_held, trades_held}
use Rattle.brk_trade_books.proofs.LotReading.{IdsApart, filter-map, numbered_rise, rise_apart}
use Rattle.brk_trade_books.proofs.Order.{append_nil, by_key-filter}
use Rattle.brk_trade_books.proofs.Places.{FoundAt, filter-all, find-at}
use Rattle.brk_trade_books.proofs.RunKeeping.{run_books}
use Rattle.brk_trade_books.proofs.Same.{NonePass, All-map, All-mapped, All-of, filter-none, find-All, flat_map-append, flat_map-empty}
use Rattle.brk_trade_books.proofs.Tested.{All-back, All-front}
use Rattle.brk_view_theorems.specs.Before.{trades_completed_before_stamp}
use Rattle.brk_view_theorems.specs.Balances.{printed_balance_after_trade, balance_at_stamp, printed_balance_before_trade}
use Rattle.brk_view_theorems.specs.Closings.{result_details_in_base}
use Rattle.brk_view_theorems.specs.UnchangedFigures.{PrintsSameFigures}
use Rattle.brk_view_theorems.proofs.Among.{Among, among, ids_around}
use Rattle.brk_view_theorems.proofs.Amounts.{of_holder, settlement_is}
use Rattle.brk_view_theorems.proofs.BalanceStays.{balance_kept, same_account, same_amount}
use Rattle.brk_view_theorems.proofs.BalanceSums.{balances_as_told, moved_is}
use Rattle.brk_view_theorems.proofs.ClosedLots.{closing_at, closings_are, taken_by}
use Rattle.brk_view_theorems.proofs.ClosingLaws.{price_is}
use Rattle.brk_view_theorems.proofs.Held.{held_before, left_all, left_by, lots_by, placed}
use Rattle.brk_view_theorems.proofs.Kept.{IsPast, Keeps, before_core, core, done_by, keeps_run}
use Rattle.brk_view_theorems.proofs.RowStays.{count_kept, number_kept, rows_counted}
use Rattle.brk_view_theorems.proofs.OwnLots.{own_row}
use Rattle.brk_view_theorems.proofs.SameTrade.{id_of, in_done, none_in, same_trade}
use Rattle.brk_view_theorems.proofs.SortedRows.{Split, by, sort_map}
use Rattle.brk_view_theorems.proofs.TradeRows.{IsPlaced, done_found, placed_order, row_by, stamp_is}

-- ---- closings by lots alone

-- the closings of a walk over lots
closings_taken : ℕ → List Lot → List Closing
closings_taken k [] = []
closings_taken k (l ∷ ls) =
    cond (eqb k 0) [] (record
    { lot = l.trade; stamp = l.stamp; price = l.price; before = l.qty; after = signed_by_side (side_of_qty l.qty) (unsigned_abs l.qty - k) }
    ∷ closings_taken (k - unsigned_abs l.qty) ls)

-- the tables tell the stamp and the price of a lot
abbrev IsRead : Tables → Lot → Type 0
IsRead T l = (trade_stamp_or_zero T l.trade ≡ l.stamp) × (trade_price_or_zero T l.trade ≡ l.price)

by_lots : (T : Tables) (id k : ℕ) (ls : List Lot) → AllByRecursion (IsRead T) ls → map (closing_at T id) (touches_of_first_shares k ls) ≡ closings_taken k ls
unfolding closings_taken
by_lots T id k [] h = refl
by_lots T id k (l ∷ ls) h = by_test (eqb k 0) (by_lots T id (k - unsigned_abs l.qty) ls h.1)
  where
    R : List Touch
    R = touches_of_first_shares (k - unsigned_abs l.qty) ls

    C : List Closing
    C = closings_taken (k - unsigned_abs l.qty) ls

    after : ℤ
    after = signed_by_side (side_of_qty l.qty) (unsigned_abs l.qty - k)

    by_test : (b : Bool) → map (closing_at T id) R ≡ C
        → map (closing_at T id) (cond {A = List Touch} b [] (record { lot = l.trade; before = l.qty; after = after } ∷ R))
        ≡ cond {A = List Closing} b [] (record { lot = l.trade; stamp = l.stamp; price = l.price; before = l.qty; after = after } ∷ C)
    by_test true ih = refl
    by_test false ih = λ i. record { lot = l.trade; stamp = h.0.0 i; price = h.0.1 i; before = l.qty; after = after } ∷ ih i

-- the closings of a trade, by the trades before it
abbrev closings_by : Trade → List Trade → List Closing
closings_by t front = closings_taken (taken_by t front) (list_reversed_if_lifo t.is_lifo (lots_by front))

closings_told : (base : Base) (t : Trade) (front back : List Trade) → IsPlaced base t front back → closings_of_trade (sheets base) (trade_row t) ≡ closings_by t front
closings_told base t front back k =
    closings_are base t front back k
    ∙ by_lots (sheets base) t.id (taken_by t front) (list_reversed_if_lifo t.is_lifo (lots_by front))
    (all_end (IsRead (sheets base)) t.is_lifo (lots_by front) (left_all (IsRead (sheets base)) (left_by front) front (All-map front (λ v e. (stamp_is base v e, price_is base v e)) found)))
  where
    found : AllByRecursion (λ v. trade_with_id base v.id ≡ Some v) front
    found =
        All-front (λ v. trade_with_id base v.id ≡ Some v) front (t ∷ back)
        (subst (AllByRecursion (λ v. trade_with_id base v.id ≡ Some v)) k.stands (of_held (λ v. trade_with_id base v.id ≡ Some v) base t.account t.symbol (done_found base k.books)))

-- ---- but for words

deals_core : (ts : List Trade) → map deal_of_trade (map core ts) ≡ map deal_of_trade ts
deals_core [] = refl
deals_core (t ∷ ts) = ap (λ ds. deal_of_trade t ∷ ds) (deals_core ts)

left_core : (ts : List Trade) → left_by (map core ts) ≡ left_by ts
left_core ts = ap replay (deals_core ts)

upon_core : (us : List Share) (ts : List Trade) → map (lot_upon us) (map core ts) ≡ map (lot_upon us) ts
upon_core us [] = refl
upon_core us (t ∷ ts) = ap (λ ls. lot_upon us t ∷ ls) (upon_core us ts)

lots_core : (ts : List Trade) → lots_by (map core ts) ≡ lots_by ts
lots_core ts = ap (λ us. lots_left us (map core ts)) (left_core ts) ∙ ap (filter is_some_left) (upon_core (left_by ts) ts)

closings_core : (t : Trade) (ts : List Trade) → closings_by (core t) (map core ts) ≡ closings_by t ts
closings_core t ts = ap
    (λ ls. closings_taken (closed_share_count (deal_of_trade t).side (deal_of_trade t).qty (list_reversed_if_lifo t.is_lifo ls))
    (list_reversed_if_lifo t.is_lifo ls)) (lots_core ts)

-- the row of its own lot, by the shares before it
abbrev own_by : Trade → List Share → Option HoldingHistoryRow
own_by t us = cond (has_quantity_change (row_by us (deal_of_trade t) t)) (Some (row_by us (deal_of_trade t) t)) None

-- ---- the trades before it

position_core : (ts : List Trade) (account : ℕ) (symbol : Text)
    → map core (sort_by_key last_status_stamp_of_trade (trades_of_position ts account symbol))
    ≡ sort_by_key last_status_stamp_of_trade (trades_of_position (map core ts) account symbol)
position_core ts account symbol =
    sym (sort_map last_status_stamp_of_trade core (trades_of_position ts account symbol))
    ∙ ap (sort_by (by last_status_stamp_of_trade)) (sym (filter-map (λ t. bytes_eq t.symbol symbol) core (filter (λ t. t.account == account) ts))
    ∙ ap (filter (λ t. bytes_eq t.symbol symbol)) (sym (filter-map (λ t. t.account == account) core ts)))

front_is : (base : Base) (t : Trade) (front back : List Trade) → IsPlaced base t front back
    → map core front ≡ sort_by_key last_status_stamp_of_trade
    (trades_of_position (filter (λ u. nat_lt (last_status_stamp_of_trade u) (last_status_stamp_of_trade t)) (done_by base (last_status_stamp_of_trade t)))
    t.account t.symbol)
front_is base t front back k =
    ap (map core) (sym (held_before base t front back k.stands (placed_order base t front back k)))
    ∙ position_core (trades_completed_before_stamp base (last_status_stamp_of_trade t)) t.account t.symbol
    ∙ ap (λ ts. sort_by_key last_status_stamp_of_trade (trades_of_position ts t.account t.symbol)) (before_core base (last_status_stamp_of_trade t))

-- ---- its status changes

abbrev of_trade : ℕ → HistoryRow → Bool
of_trade id r = r.trade == id

none_of : (t : Trade) (id : ℕ) → (t.id == id) ≡ false → filter (of_trade id) (history_rows t) ≡ []
none_of t id e = filter-none (of_trade id) (history_rows t)
    (All-mapped (λ r. of_trade id r ≡ false) (λ (m : StatusChange). record { trade = t.id; status = m.status; stamp = m.stamp }) t.marks
    (All-of t.marks (λ m. e)))

all_of : (t : Trade) → filter (of_trade t.id) (history_rows t) ≡ history_rows t
all_of t =
    filter-all (of_trade t.id) (history_rows t)
    (All-mapped (λ r. of_trade t.id r ≡ true) (λ (m : StatusChange). record { trade = t.id; status = m.status; stamp = m.stamp }) t.marks (All-of t.marks (λ m. eq-eqb t.id t.id refl)))

none_from : (id : ℕ) (ts : List Trade) → NonePass (λ u. u.id == id) ts → flat_map (λ u. filter (of_trade id) (history_rows u)) ts ≡ []
none_from id ts h = flat_map-empty (λ u. filter (of_trade id) (history_rows u)) ts (All-map ts (λ u e. none_of u id e) h)

history_is : (base : Base) → (sheets base).history ≡ rows_sorted_by_key history_key (flat_map history_rows base.trades)
unfolding tables_of_base_in_schema tables_sorted_by_key
history_is base = refl

-- in the order of their stamps, by the trade alone
abbrev statuses_by : Trade → List HistoryRow
statuses_by t = sort_by (λ a b. nat_lt a.stamp b.stamp) (rows_sorted_by_key history_key (history_rows t))

statuses_are : (base : Base) (t : Trade) → BooksInvariant base → trade_with_id base t.id ≡ Some t → sorted_statuses_of_trade (sheets base) t.id ≡ statuses_by t
statuses_are base t books e =
    ap (sort_by (λ (a b : HistoryRow). nat_lt a.stamp b.stamp))
    (ap (filter (of_trade t.id)) (history_is base) ∙ sym (by_key-filter history_key (of_trade t.id) (flat_map history_rows base.trades))
    ∙ ap (rows_sorted_by_key history_key) (filter-flat_map (of_trade t.id) history_rows base.trades ∙ ap (flat_map F) f.stands ∙ flat_map-append F f.before (t ∷ f.after)
    ∙ (λ i. none_from t.id f.before f.others i ++ (F t ++ none_from t.id f.after after i)) ∙ append_nil (F t) ∙ all_of t))
  where
    F : Trade → List HistoryRow
    F u = filter (of_trade t.id) (history_rows u)

    f : FoundAt Trade (λ u. u.id == t.id) t base.trades
    f = find-at (λ u. u.id == t.id) base.trades t e

    after : NonePass (λ u. u.id == t.id) f.after
    after = ids_around f.before t f.after (subst IdsApart f.stands (rise_apart base.trades (numbered_rise 1 base.trades books.numbered)))

-- ---- the whole

-- the stamp of a completed trade is past
past_of : (last : Option ℕ) (t : Trade) → TradeStampIsAtMostLastStamp last t → IsPast last (last_status_stamp_of_trade t)
past_of None t e = absurd e
past_of (Some l) t e = e

stays_by : (base later : Base) (t u : Trade) → BooksInvariant base → BooksInvariant later → Keeps (last_status_stamp_of_trade t) base later → trade_with_id base t.id ≡ Some t → is_completed t ≡ true
    → trade_with_id later t.id ≡ Some u → PrintsSameFigures base later t u
stays_by base later t u books next k e c f = record {
  row = ap trade_row same;
  customer = columns (λ (a : AccountRow). a.customer) (λ a. a.customer) 0 (λ accounts posted a. refl);
  broker = columns (λ (a : AccountRow). a.broker) (λ a. a.broker) 0 (λ accounts posted a. refl);
  tax_status = columns (λ (a : AccountRow). a.tax_status) (λ a. a.tax_status) Untaxed (λ accounts posted a. refl);
  opening = columns (λ (a : AccountRow). a.opening) (λ a. a.opening) (pos 0) (λ accounts posted a. refl);
  statuses = statuses_are later u next found ∙ statuses_same ∙ sym (statuses_are base t books e);
  price = ap completion_price same;
  closings = closings_told later u s'.front s'.back k' ∙ sym (closings_core u s'.front) ∙ (λ i. closings_by (same i) (fronts i)) ∙ closings_core t s.front
      ∙ sym (closings_told base t s.front s.back p);
  own_lot = own_row later u s'.front s'.back k' done ∙ own_same ∙ sym (own_row base t s.front s.back p c);
  settlement = ap (λ (r : SettlementRow). r.amount) (settlement_is later u a') ∙ amounts ∙ sym (ap (λ (r : SettlementRow). r.amount) (settlement_is base t a));
  due = ap (λ (r : SettlementRow). r.due_day) (settlement_is later u a') ∙ days ∙ sym (ap (λ (r : SettlementRow). r.due_day) (settlement_is base t a));
  moved = moves;
  number = number_kept base later t u a a' same k;
  rows = rows_same;
  before = taken_off (printed_balance_before_trade (sheets later) u) (printed_balance_before_trade (sheets base) t)
      (balance_change_of_trade (result_details_in_base later u)) (balance_change_of_trade (result_details_in_base base t)) balances moves;
  after = balances;
}
  where
    same : core u ≡ core t
    same = same_trade (last_status_stamp_of_trade t) base later t.id t u books next k e c (no_more (last_status_stamp_of_trade t)) f
      where
        no_more : (n : ℕ) → n ≤ n
        no_more n = omega arith

    found : trade_with_id later u.id ≡ Some u
    found = ap (trade_with_id later) (id_of later t.id u f) ∙ f

    done : is_completed u ≡ true
    done = ap is_completed same ∙ c

    moment : last_status_stamp_of_trade u ≡ last_status_stamp_of_trade t
    moment = ap last_status_stamp_of_trade same

    a : Among base t
    a = among base t books e c

    a' : Among later u
    a' = among later u next found done

    s : Split Trade t (trades_held base t.account t.symbol)
    s = placed base t e c

    s' : Split Trade u (trades_held later u.account u.symbol)
    s' = placed later u found done

    p : IsPlaced base t s.front s.back
    p = record { books = books; found = e; stands = s.stands }

    k' : IsPlaced later u s'.front s'.back
    k' = record { books = next; found = found; stands = s'.stands }

    known : is_some (account_with_id_in_list base.accounts t.account) ≡ true
    known = find-All (λ v. is_some (account_with_id base v.account) ≡ true) (λ v. v.id == t.id) base.trades t books.accounts e

    account : account_with_id_in_list later.accounts u.account ≡ account_with_id_in_list base.accounts t.account
    account = ap (λ v. account_with_id_in_list later.accounts v.account) same ∙ ap (λ accounts. account_with_id_in_list accounts t.account) k.accounts
        ∙ same_account base.accounts k.more t.account known

    columns : {A : Type 0} (g : AccountRow → A) (h : Account → A) (none : A) → ((accounts : List Account) (posted : List Posting) (b : Account) → g (account_row accounts posted b) ≡ h b)
        → option_map_or g (account_row_with_id (sheets later) u.account) none ≡ option_map_or g (account_row_with_id (sheets base) t.account) none
    columns g h none q =
        of_holder later u.account g h none (λ b. q later.accounts (postings_of_base later) b) ∙ ap (λ o. option_map_or h o none) account
        ∙ sym (of_holder base t.account g h none (λ b. q base.accounts (postings_of_base base) b))

    statuses_same : statuses_by u ≡ statuses_by t
    statuses_same = ap (λ v. sort_by (λ (x y : HistoryRow). nat_lt x.stamp y.stamp) (rows_sorted_by_key history_key (history_rows v))) same

    fronts : map core s'.front ≡ map core s.front
    fronts =
        front_is later u s'.front s'.back k'
        ∙ (λ i. sort_by_key last_status_stamp_of_trade
        (trades_of_position (filter (λ v. nat_lt (last_status_stamp_of_trade v) (moment i)) (done_by later (moment i))) (same i).account (same i).symbol))
        ∙ ap (λ ts. sort_by_key last_status_stamp_of_trade (trades_of_position (filter (λ v. nat_lt (last_status_stamp_of_trade v) (last_status_stamp_of_trade t)) ts) t.account t.symbol)) k.done
        ∙ sym (front_is base t s.front s.back p)

    lefts : left_by s'.front ≡ left_by s.front
    lefts = sym (left_core s'.front) ∙ ap left_by fronts ∙ left_core s.front

    own_same : own_by u (left_by s'.front) ≡ own_by t (left_by s.front)
    own_same = λ i. own_by (same i) (lefts i)

    amounts : settlement_amount later.accounts u ≡ settlement_amount base.accounts t
    amounts = (λ i. settlement_amount (k.accounts i) (same i)) ∙ same_amount base.accounts k.more t known

    days : due_day later.rule u ≡ due_day base.rule t
    days = ap (due_day later.rule) same
        ∙ find-All (λ v. due_day later.rule v ≡ due_day base.rule v) (λ v. v.id == t.id) (done_by base (last_status_stamp_of_trade t)) (core t) k.due
        (in_done base t books e c)

    moves : balance_change_of_trade (result_details_in_base later u) ≡ balance_change_of_trade (result_details_in_base base t)
    moves = moved_is later u a' ∙ (λ i. cond (same i).is_cash (amounts i) (pos 0)) ∙ sym (moved_is base t a)

    balances : printed_balance_after_trade (sheets later) u ≡ printed_balance_after_trade (sheets base) t
    balances =
        (balances_as_told later u next found done).after ∙ (λ i. balance_at_stamp later (moment i) (same i).account)
        ∙ balance_kept (last_status_stamp_of_trade t) base later t.account books known k ∙ sym (balances_as_told base t books e c).after

    rows_same : (result_details_in_base later u).cash_rows ≡ (result_details_in_base base t).cash_rows
    rows_same =
        rows_counted later u.account (last_status_stamp_of_trade u)
        ∙ (λ i. length (filter (λ p. p.account == (same i).account) (filter (λ p. nat_lt p.stamp (moment i)) (postings_of_base later))))
        ∙ count_kept (last_status_stamp_of_trade t) base later (λ n. n == t.account) k ∙ sym (rows_counted base t.account (last_status_stamp_of_trade t))

    taken_off : (x y m n : ℤ) → x +ℤ m ≡ y +ℤ n → m ≡ n → x ≡ y
    taken_off x y m n q r = omega (arith, ints, q, r)

-- the trade is there
still_there : (base later : Base) (t : Trade) → BooksInvariant base → Keeps (last_status_stamp_of_trade t) base later → trade_with_id base t.id ≡ Some t
    → is_completed t ≡ true → (u : Trade) × (trade_with_id later t.id ≡ Some u)
still_there base later t books k e c = by_trade (trade_with_id later t.id) refl
  where
    by_trade : (o : Option Trade) → trade_with_id later t.id ≡ o → (u : Trade) × (trade_with_id later t.id ≡ Some u)
    by_trade (Some u) f = (u, f)
    by_trade None f =
        let none : find (λ v. v.id == t.id) (done_by later (last_status_stamp_of_trade t)) ≡ None = none_in later (last_status_stamp_of_trade t) t.id f in
        let clash : None ≡ Some (core t) = sym none ∙ ap (find (λ v. v.id == t.id)) k.done ∙ in_done base t books e c in absurd (cc)

pub explanations_stay : (base later : Base) (calls : List (ℕ × Call)) (outcomes : List Outcome) (t : Trade) → BooksInvariant base
    → Run base calls outcomes later → trade_with_id base t.id ≡ Some t → is_completed t ≡ true
    → (u : Trade) × (trade_with_id later t.id ≡ Some u) × PrintsSameFigures base later t u
explanations_stay base later calls outcomes t books r e c =
    let a : Among base t = among base t books e c in
    let past : IsPast base.last (last_status_stamp_of_trade t) =
    past_of base.last t (All-back (TradeStampIsAtMostLastStamp base.last) a.front (t ∷ a.back)
    (subst (AllByRecursion (TradeStampIsAtMostLastStamp base.last)) a.stands books.early)).0 in
    let k : Keeps (last_status_stamp_of_trade t) base later = keeps_run (last_status_stamp_of_trade t) base calls outcomes later books past r in
    let u = still_there base later t books k e c in
    (u.0, u.1, stays_by base later t u.0 books (run_books base calls outcomes later books r) k e c u.1)
