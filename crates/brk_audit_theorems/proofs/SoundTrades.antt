-- An accepted order, cancel, feed or text update preserves the audit invariant.
use Rattle.std.proofs.lemmas.Bool.Decides.{nat_tests}
use Rattle.std.proofs.Common.{◌≡◌, ◌<◌, ◌≤◌, ℕ, ◌==◌, ◌+◌, ◌^◌, Bool, true, false, not, cond, List, [], ◌∷◌, ◌++◌, refl, sym, ◌∙◌, ap, subst, map, filter, arith, Option, Some, None, ℤ, ◌+ℤ◌, length}
use Rattle.std.specs.Prelude.{◌&&◌, ◌||◌, IfSome, bytes_eq, codes, find, is_none, is_some, nat_abs, nat_le, sum_by, take, unwrap_or}
use Rattle.std.specs.List.{AllByRecursion}
use Rattle.std.specs.Option.{option_map_or}
use Rattle.std.proofs.lemmas.Bool.{and_from, and_parts, eqb-true, eq-eqb, le-leb, or_left, or_right}
use Rattle.std.proofs.lemmas.List.Sums.{sum_by-cons}
use Rattle.brk_money.specs.OrderTypes.{trade_type_of_order_type, price_of_order_type}
use Rattle.brk_money.specs.Spelling.{Text}
use Rattle.brk_money.specs.Moments.{greatest_day}
use Rattle.brk_money.specs.Kinds.{is_market_type, is_same_trade_status, side_of_trade_type}
use Rattle.brk_money.specs.declared.refusal.Refusal.TheVariants.{NoTrade}
use Rattle.brk_money.specs.declared.status.Status.{Status}
use Rattle.brk_money.specs.declared.status.Status.TheVariants.{Completed, Submitted, Pending, Canceled}
use Rattle.brk_trade_books.proofs.Postings.{balance_parts}
use Rattle.brk_model.specs.Schemas.{third_schema}
use Rattle.brk_model.specs.Limits.{greatest_amount, greatest_charge, greatest_summary_quantity, greatest_id}
use Rattle.brk_model.specs.Lists.{contains_number, contains_text, is_pair_less, total_by, update_where}
use Rattle.brk_model.specs.Records.{Account, Charge, StatusChange, Security, Trade, Movement}
use Rattle.brk_model.specs.Base.{Base, broker_id_in_accounts, charge_for_type_and_tier, completed_trades, has_last_status, is_completed, last_price}
use Rattle.brk_model.specs.Base.{trade_with_status_change, last_status_stamp_of_trade, opening_balance_in_accounts, security_with_symbol, tier_of_account}
use Rattle.brk_model.specs.Base.{trade_with_id}
use Rattle.brk_model.specs.Derived.{settlement_amount, balance_of_account, commission_total_of_broker, holding_summary_quantity, postings_to_account}
use Rattle.brk_model.specs.Derived.{posting_of_movement, postings, due_day_of_completion_stamp}
use Rattle.brk_model.specs.Commands.{Order, Tick, PlaceOrder, FeedTicks, CancelTrade, ChangeExecutors, ChangeCashTypes, ChangeCashNames}
use Rattle.brk_model.specs.Orders.{estimate, first_status, trade_of_order, bid_price_of_order}
use Rattle.brk_model.specs.Feed.{is_triggered_by_tick, security_after_tick, base_after_tick, base_after_ticks}
use Rattle.brk_model.specs.Results.{cash_row_name}
use Rattle.brk_model.specs.Shares.{signed_by_side}
use Rattle.brk_model.specs.Updates.{updated_cash_row_name, updated_cash_type, updated_executor_name, selected_trade_ids, selected_trade_ids_of_account}
use Rattle.brk_model.specs.Updates.{selected_trade_ids_of_symbol, trade_stamp_is_between, trades_oldest_first, toggled_word}
use Rattle.brk_model.specs.Form.{is_well_formed_charge_row, is_cash_type_of_trade, is_up_to_last_stamp, is_price, is_quantity_in_schema, is_tier, is_id}
use Rattle.brk_model.specs.Forms.{is_exchange, is_name, is_symbol}
use Rattle.brk_model.specs.Step.{base_after_command_unstamped}
use Rattle.brk_model.specs.Tests.{stamp_of_next_command, checks_of_command, status_check}
use Rattle.brk_model.specs.Ways.{is_strictly_ascending, is_valid_status_sequence}
use Rattle.brk_model.specs.Names.{TradesAreNumberedFrom}
use Rattle.brk_trade_books.proofs.Same.{All-append, All-map, All-mapped, find-All, map-last}
use Rattle.brk_trade_books.proofs.Places.{FoundAt, find-at, some_of}
use Rattle.brk_trade_books.proofs.Tested.{not_not, passed}
use Rattle.brk_trade_books.proofs.NewKeys.{same_bytes}
use Rattle.brk_trade_books.proofs.Numbering.{numbered_after, pending_not_completed, status_of_marked}
use Rattle.brk_trade_books.proofs.Completions.{completed_tick, completed_unseen, triggered_waits}
use Rattle.brk_trade_books.proofs.Completing.{one_of_id}
use Rattle.brk_trade_books.proofs.LotReading.{All-sort, numbered_rise, rise_apart}
use Rattle.brk_trade_books.proofs.Ordering.{first_not_completed, ordered_done}
use Rattle.brk_audit_theorems.specs.Histories.{HasAscendingStatusStamps}
use Rattle.brk_audit_theorems.proofs.Again.{both_all}
use Rattle.brk_audit_theorems.proofs.Climbs.{In, each_in, of_all}
use Rattle.brk_audit_theorems.proofs.Marks.{filtered}
use Rattle.brk_model_theorems.proofs.Conjunctions.{parts5}
use Rattle.brk_audit_theorems.specs.Sound.{HasDueDayInCalendar, StatusStampIsAtMostLastStamp, AuditInvariant, BaseTradeAuditInvariant, is_well_formed_security}
use Rattle.brk_audit_theorems.specs.InForm.{MeetsAuditFormats, TickMeetsAuditFormats}
use Rattle.brk_audit_theorems.proofs.Bounds.{All-take}
use Rattle.brk_audit_theorems.proofs.OneTrade.{false_true, leaves_way, past_before, past_itself, price_low, qty_low, rising_more, sound_last, updated_all}
use Rattle.brk_audit_theorems.proofs.SoundResult.{commission_within, high}
use Rattle.brk_model_theorems.proofs.Conjunctions.{and5, and6}
use Rattle.brk_audit_theorems.proofs.SoundRecords.{LeavesSound, trade_listed}

-- ---- other trades and securities, and the same completed trades

sound_moved : (c : Base) (ss : List Security) (ts : List Trade) → AuditInvariant c → AllByRecursion (λ s. is_well_formed_security s ≡ true) ss
    → AllByRecursion (λ s. is_up_to_last_stamp c.last s.moment ≡ true) ss
    → AllByRecursion (BaseTradeAuditInvariant (record c { securities = ss; trades = ts })) ts → filter is_completed ts ≡ completed_trades c → AuditInvariant (record c { securities = ss; trades = ts })
sound_moved c ss ts k f m h e =
    record {
      keyed = k.keyed;
      parties = k.parties;
      terms = k.terms;
      listed = record { securities = f; moments = m };
      trades = h;
      cash = k.cash;
      sums = record {
        summaries = subst (λ ts. (account : ℕ) → (symbol : Text) → nat_abs (holding_summary_quantity ts account symbol) ≤ greatest_summary_quantity) (sym e) k.summaries;
        balances = subst (λ ts. (account : ℕ) → nat_abs (balance_of_account c.accounts (postings c.accounts ts c.movements) account) ≤ greatest_amount) (sym e) k.balances;
        commissions = subst (λ ts. (broker : ℕ) → commission_total_of_broker c.accounts ts broker ≤ greatest_amount) (sym e) k.commissions;
      };
    }

-- ---- an order

charge_within : (base : Base) (o : Order) → AllByRecursion (λ c. is_well_formed_charge_row c ≡ true) base.charges
    → nat_le (option_map_or (λ c. c.amount) (charge_for_type_and_tier base (trade_type_of_order_type o.order_type) (tier_of_account base o.account)) 0) greatest_charge ≡ true
charge_within base o h = by_charge (charge_for_type_and_tier base (trade_type_of_order_type o.order_type) (tier_of_account base o.account)) refl
  where
    by_charge : (c : Option Charge) → charge_for_type_and_tier base (trade_type_of_order_type o.order_type) (tier_of_account base o.account) ≡ c
        → nat_le (option_map_or (λ c. c.amount) c 0) greatest_charge ≡ true
    by_charge None e = le-leb 0 greatest_charge (omega arith)
    by_charge (Some c) e = (and_parts (is_tier c.tier) (nat_le c.amount greatest_charge) (find-All (λ c. is_well_formed_charge_row c ≡ true) _ base.charges c h e)).1

last_is_price : (base : Base) (symbol : Text) → AllByRecursion (λ s. is_well_formed_security s ≡ true) base.securities
    → is_some (security_with_symbol base symbol) ≡ true → is_price (last_price base symbol) ≡ true
last_is_price base symbol h known =
    let s : (s : Security) × (security_with_symbol base symbol ≡ Some s) = some_of (security_with_symbol base symbol) known in
    let f = find-All (λ s. is_well_formed_security s ≡ true) (λ u. bytes_eq u.symbol symbol) base.securities s.0 h s.1 in
    ap (λ o. is_price (option_map_or (λ s. s.last_price) o 0)) s.1
    ∙ (parts5 (is_symbol s.0.symbol) (is_name s.0.name) (is_exchange s.0.exchange) (is_name s.0.sector) (is_price s.0.last_price) f).4

requested_is_price : (base : Base) (o : Order) → IfSome (price_of_order_type o.order_type) (λ p. is_price p ≡ true) → is_price (last_price base o.symbol) ≡ true
    → is_price (bid_price_of_order base o) ≡ true
requested_is_price base o form last = by_price (price_of_order_type o.order_type) form
  where
    by_price : (p : Option ℕ) → IfSome p (λ p. is_price p ≡ true) → is_price (unwrap_or p (last_price base o.symbol)) ≡ true
    by_price None f = last
    by_price (Some p) f = f

first_way : (o : Order) → is_valid_status_sequence (first_status (trade_type_of_order_type o.order_type) ∷ []) ≡ true
first_way o = by_market (is_market_type (trade_type_of_order_type o.order_type))
  where
    by_market : (b : Bool) → is_valid_status_sequence (cond b Submitted Pending ∷ []) ≡ true
    by_market true = refl
    by_market false = refl

-- the number of the next trade, where it is tested
next_is_id : (n : ℕ) → nat_le greatest_id n ≡ false → is_id (n + 1) ≡ true
next_is_id n e = grind (arith, nat_tests)

ordered_sound : (base : Base) (stamp : ℕ) (o : Order) (ts : List Trade) → is_id (length base.trades + 1) ≡ true → AuditInvariant base
    → MeetsAuditFormats (PlaceOrder o) → is_some (security_with_symbol base o.symbol) ≡ true
    → BaseTradeAuditInvariant (record base { trades = ts; last = Some stamp }) (trade_of_order base stamp o)
unfolding estimate
ordered_sound base stamp o ts number k form known =
    let u : Trade = trade_of_order base stamp o in
    let now : is_completed u ≡ false = first_not_completed (trade_type_of_order_type o.order_type) in
    let bid : is_price u.bid ≡ true = requested_is_price base o form.price (last_is_price base o.symbol k.securities known) in
    let c : u.commission ≤ 10 ^ 14 = commission_within base o.account (trade_type_of_order_type o.order_type) o.symbol o.qty u.bid k.bands (qty_low o.qty form.qty) (price_low u.bid bid) in
    record {
      alone = record {
        fields = and6 (is_id u.id) (is_quantity_in_schema third_schema u.qty) (is_price u.bid) (nat_le u.charge greatest_charge)
            (nat_le u.commission greatest_amount) (nat_le 0 greatest_amount) number form.qty bid
            (charge_within base o k.charges) (high u.commission c) (le-leb 0 greatest_amount (omega arith));
        stamps = refl;
        way = first_way o;
        priced = ap (λ b. cond b false true) now;
        words = record { settled = λ e. refl; moved = λ e. refl };
        cash_type = λ d. false_true (sym now ∙ d);
      };
      past = (past_itself stamp, tt);
      due = (ap (λ b. not b || nat_le (due_day_of_completion_stamp base.rule stamp) greatest_day) now, tt);
      cash_name = λ d. false_true (sym now ∙ (and_parts (is_completed u) u.is_cash d).0);
      amount = λ d. false_true (sym now ∙ d);
    }

pub sound_order : (base : Base) (now : ℕ) (o : Order) → LeavesSound base now (PlaceOrder o)
unfolding base_after_command_unstamped checks_of_command
sound_order base now o k books form e =
    let p = passed base now (PlaceOrder o) e in
    let stamp : ℕ = stamp_of_next_command base now in
    let c : Base = record base { last = Some stamp } in
    let l : AuditInvariant c = sound_last base now k in
    let t : Trade = trade_of_order base stamp o in
    let ts : List Trade = base.trades ++ t ∷ [] in
    let known : is_some (security_with_symbol base o.symbol) ≡ true = not_not (is_some (security_with_symbol base o.symbol)) p.1.0 in
    sound_moved c base.securities ts l k.securities l.moments
    (All-append (BaseTradeAuditInvariant (record c { trades = ts })) base.trades (t ∷ []) l.trades (ordered_sound base stamp o ts (next_is_id (length base.trades) p.1.1.1.1.1.0) k form known, tt))
    (ordered_done base stamp o)

-- ---- a pending or submitted trade gets another status

stamps_below : (stamp : ℕ) (status : Status) (t : Trade) → HasAscendingStatusStamps t → AllByRecursion (λ m. m.stamp < stamp) t.marks
    → HasAscendingStatusStamps (trade_with_status_change stamp status t)
stamps_below stamp status t r h =
    ap is_strictly_ascending (map-last (λ m. m.stamp) t.marks (record { stamp = stamp; status = status }))
    ∙ rising_more (map (λ m. m.stamp) t.marks) stamp r (All-mapped (λ n. n < stamp) (λ m. m.stamp) t.marks h)

marked_sound : (b : Base) (stamp : ℕ) (status : Status) (t : Trade) → is_valid_status_sequence (Pending ∷ status ∷ []) ≡ true → is_same_trade_status status Completed ≡ false
    → BaseTradeAuditInvariant (record b { last = Some stamp }) t → AllByRecursion (λ m. m.stamp < stamp) t.marks → has_last_status Pending t ≡ true
    → BaseTradeAuditInvariant (record b { last = Some stamp }) (trade_with_status_change stamp status t)
marked_sound b stamp status t w other k below h =
    let u : Trade = trade_with_status_change stamp status t in
    let was : is_completed t ≡ false = pending_not_completed t h in
    let now : is_completed u ≡ false = status_of_marked stamp status Completed t ∙ other in
    let m : StatusChange = record { stamp = stamp; status = status } in
    let price : Bool → Bool = λ b. cond b (option_map_or is_price t.price false) (is_none t.price) in
    record {
      alone = record {
        fields = k.fields;
        stamps = stamps_below stamp status t k.stamps below;
        way = leaves_way stamp status t w k.way h;
        priced = ap price now ∙ sym (ap price was) ∙ k.priced;
        words = record { settled = λ e. k.words.settled was; moved = λ e. k.words.moved (ap (λ b. b && t.is_cash) was) };
        cash_type = λ d. false_true (sym now ∙ d);
      };
      past = All-append (StatusStampIsAtMostLastStamp (Some stamp)) t.marks (m ∷ []) k.past (past_itself stamp, tt);
      due = All-append (HasDueDayInCalendar b.rule) t.marks (m ∷ []) k.due (ap (λ c. not c || nat_le (due_day_of_completion_stamp b.rule stamp) greatest_day) other, tt);
      cash_name = λ d. false_true (sym now ∙ (and_parts (is_completed u) t.is_cash d).0);
      amount = λ d. false_true (sym now ∙ d);
    }

-- ---- a cancel

-- what holds of the trade with an id holds of each trade with that id
named_all : (P : Trade → Type 0) (base : Base) (id : ℕ) (t : Trade) → TradesAreNumberedFrom 1 base.trades → trade_with_id base id ≡ Some t → P t
    → AllByRecursion (λ u. (u.id == id) ≡ true → P u) base.trades
named_all P base id t n e w =
    let f : FoundAt Trade (λ u. u.id == id) t base.trades = find-at (λ u. u.id == id) base.trades t e in
    let same : t.id ≡ id = eqb-true t.id id f.passes in
    let behind = subst (λ m. AllByRecursion (λ u. (u.id == m) ≡ false) f.after) same (numbered_after 1 f.before t f.after (subst (TradesAreNumberedFrom 1) f.stands n)) in
    let others : (us : List Trade) → AllByRecursion (λ u. (u.id == id) ≡ false) us → AllByRecursion (λ u. (u.id == id) ≡ true → P u) us =
    λ us h. All-map us (λ u other same. false_true (sym other ∙ same)) h in
    subst (AllByRecursion (λ u. (u.id == id) ≡ true → P u)) (sym f.stands)
    (All-append (λ u. (u.id == id) ≡ true → P u) f.before (t ∷ f.after) (others f.before f.others) ((λ same. w), others f.after behind))

waiting_named : (base : Base) (id : ℕ) (o : Option Trade) → TradesAreNumberedFrom 1 base.trades → trade_with_id base id ≡ o
    → AllByRecursion (λ test. test.0 ≡ false) (option_map_or (λ t. status_check (has_last_status Pending t) t ∷ []) o ((true, NoTrade) ∷ []))
    → AllByRecursion (λ t. (t.id == id) ≡ true → has_last_status Pending t ≡ true) base.trades
waiting_named base id None n e k = let h : true ≡ false = k.0 in absurd (cc)
waiting_named base id (Some t) n e k = named_all (λ t. has_last_status Pending t ≡ true) base id t n e (not_not (has_last_status Pending t) k.0)

pub sound_cancel : (base : Base) (now id : ℕ) → LeavesSound base now (CancelTrade id)
unfolding base_after_command_unstamped checks_of_command
sound_cancel base now id k books form e =
    let stamp : ℕ = stamp_of_next_command base now in
    let c : Base = record base { last = Some stamp } in
    let l : AuditInvariant c = sound_last base now k in
    let ts : List Trade = update_where (λ t. t.id == id) (trade_with_status_change stamp Canceled) base.trades in
    let waits = waiting_named base id (trade_with_id base id) books.numbered refl (passed base now (CancelTrade id) e) in
    let P : Trade → Type 0 = λ t. BaseTradeAuditInvariant c t × (AllByRecursion (StatusStampIsAtMostLastStamp base.last) t.marks × ((t.id == id) ≡ true → has_last_status Pending t ≡ true)) in
    let past = All-map base.trades (λ t h. h.past) k.trades in
    sound_moved c base.securities ts l k.securities l.moments
    (updated_all P (BaseTradeAuditInvariant (record c { trades = ts })) (λ t. t.id == id) (trade_with_status_change stamp Canceled) base.trades
    (λ t i h. marked_sound base stamp Canceled t refl refl h.0 (All-map t.marks (λ m b. past_before base.last now m.stamp b) h.1.0) (h.1.1 i))
    (λ t h. h.0)
    (both_all (BaseTradeAuditInvariant c) (λ t. AllByRecursion (StatusStampIsAtMostLastStamp base.last) t.marks × ((t.id == id) ≡ true → has_last_status Pending t ≡ true)) base.trades l.trades
    (both_all (λ t. AllByRecursion (StatusStampIsAtMostLastStamp base.last) t.marks) (λ t. (t.id == id) ≡ true → has_last_status Pending t ≡ true) base.trades past waits)))
    (completed_unseen (λ t. t.id == id) (trade_with_status_change stamp Canceled) base.trades (λ t. status_of_marked stamp Canceled Completed t)
    (All-map base.trades (λ t w i. pending_not_completed t (w i)) waits))

-- ---- a feed

-- a trade that waits came to its status before a stamp
abbrev Waits : ℕ → Trade → Type 0
Waits stamp t = has_last_status Pending t ≡ true → AllByRecursion (λ m. m.stamp < stamp) t.marks

names_stay : (stamp : ℕ) (tick : Tick) (symbol : Text) (q : Security → Bool) (ss : List Security)
    → option_map_or (λ s. s.name) (find (λ s. bytes_eq s.symbol symbol) (update_where q (security_after_tick stamp tick) ss)) []
    ≡ option_map_or (λ s. s.name) (find (λ s. bytes_eq s.symbol symbol) ss) []
names_stay stamp tick symbol q [] = refl
names_stay stamp tick symbol q (s ∷ ss) = by_tick (q s) ∙ by_symbol (bytes_eq s.symbol symbol) (names_stay stamp tick symbol q ss)
  where
    Rest : Option Security
    Rest = find (λ s. bytes_eq s.symbol symbol) (update_where q (security_after_tick stamp tick) ss)

    by_tick : (b : Bool) → option_map_or (λ s. s.name) (find (λ s. bytes_eq s.symbol symbol) (cond b (security_after_tick stamp tick s) s ∷ update_where q (security_after_tick stamp tick) ss)) []
        ≡ cond (bytes_eq s.symbol symbol) s.name (option_map_or (λ s. s.name) Rest [])
    by_tick true = by_found (bytes_eq s.symbol symbol) (security_after_tick stamp tick s) refl
      where
        by_found : (c : Bool) (x : Security) → x.name ≡ s.name → option_map_or (λ s. s.name) (cond c (Some x) Rest) [] ≡ cond c s.name (option_map_or (λ s. s.name) Rest [])
        by_found true x e = e
        by_found false x e = refl
    by_tick false = by_found (bytes_eq s.symbol symbol)
      where
        by_found : (c : Bool) → option_map_or (λ s. s.name) (cond c (Some s) Rest) [] ≡ cond c s.name (option_map_or (λ s. s.name) Rest [])
        by_found true = refl
        by_found false = refl

    by_symbol : (c : Bool) → option_map_or (λ s. s.name) Rest [] ≡ option_map_or (λ s. s.name) (find (λ s. bytes_eq s.symbol symbol) ss) []
        → cond c s.name (option_map_or (λ s. s.name) Rest []) ≡ option_map_or (λ s. s.name) (cond c (Some s) (find (λ s. bytes_eq s.symbol symbol) ss)) []
    by_symbol true e = refl
    by_symbol false e = e

ticked_fields : (stamp : ℕ) (tick : Tick) (s : Security) → is_price tick.price ≡ true → is_well_formed_security s ≡ true → is_well_formed_security (security_after_tick stamp tick s) ≡ true
ticked_fields stamp tick s form h =
    let f = parts5 (is_symbol s.symbol) (is_name s.name) (is_exchange s.exchange) (is_name s.sector) (is_price s.last_price) h in
    and5 (is_symbol s.symbol) (is_name s.name) (is_exchange s.exchange) (is_name s.sector) (is_price tick.price) f.0 f.1 f.2 f.3 form

tick_sound : (b : Base) (stamp : ℕ) (tick : Tick) → TickMeetsAuditFormats tick → AuditInvariant (record b { last = Some stamp }) → AllByRecursion (Waits stamp) b.trades
    → AuditInvariant (record (base_after_tick stamp b tick) { last = Some stamp }) × AllByRecursion (Waits stamp) (base_after_tick stamp b tick).trades
tick_sound b stamp tick form k waits =
    let c : Base = record b { last = Some stamp } in
    let q : Security → Bool = λ s. bytes_eq s.symbol tick.symbol in
    let ss : List Security = update_where (λ s. bytes_eq s.symbol tick.symbol) (security_after_tick stamp tick) b.securities in
    let ts : List Trade = update_where (is_triggered_by_tick tick) (trade_with_status_change stamp Submitted) b.trades in
    let P : Trade → Type 0 = λ t. BaseTradeAuditInvariant c t × Waits stamp t in (
      sound_moved c ss ts k
          (updated_all (λ s. is_well_formed_security s ≡ true) (λ s. is_well_formed_security s ≡ true) (λ s. bytes_eq s.symbol tick.symbol)
          (security_after_tick stamp tick) b.securities (λ s i h. ticked_fields stamp tick s form h) (λ s h. h) k.securities)
          (updated_all (λ s. is_up_to_last_stamp (Some stamp) s.moment ≡ true) (λ s. is_up_to_last_stamp (Some stamp) s.moment ≡ true)
          (λ s. bytes_eq s.symbol tick.symbol) (security_after_tick stamp tick) b.securities
          (λ s i h. past_itself stamp) (λ s h. h) k.moments)
          (updated_all P (BaseTradeAuditInvariant (record c { securities = ss; trades = ts })) (is_triggered_by_tick tick) (trade_with_status_change stamp Submitted) b.trades
          (λ t i h. trade_listed c ss (trade_with_status_change stamp Submitted t) (names_stay stamp tick t.symbol q b.securities)
          (marked_sound b stamp Submitted t refl refl h.0 (h.1 (triggered_waits tick t i)) (triggered_waits tick t i)))
          (λ t h. trade_listed c ss t (names_stay stamp tick t.symbol q b.securities) h.0)
          (both_all (BaseTradeAuditInvariant c) (Waits stamp) b.trades k.trades waits))
          (completed_tick b stamp tick),
      updated_all (Waits stamp) (Waits stamp) (is_triggered_by_tick tick) (trade_with_status_change stamp Submitted) b.trades
          (λ t i h w. false_true (sym (status_of_marked stamp Submitted Pending t) ∙ w)) (λ t h. h) waits,
    )

ticks_sound : (b : Base) (stamp : ℕ) (ticks : List Tick) → AllByRecursion TickMeetsAuditFormats ticks → AuditInvariant (record b { last = Some stamp }) → AllByRecursion (Waits stamp) b.trades
    → AuditInvariant (record (base_after_ticks stamp b ticks) { last = Some stamp })
unfolding base_after_ticks
ticks_sound b stamp [] form k waits = k
ticks_sound b stamp (tick ∷ ticks) form k waits = let h = tick_sound b stamp tick form.0 k waits in ticks_sound (base_after_tick stamp b tick) stamp ticks form.1 h.0 h.1

pub sound_feed : (base : Base) (now : ℕ) (ticks : List Tick) → LeavesSound base now (FeedTicks ticks)
unfolding base_after_command_unstamped
sound_feed base now ticks k books form e =
    ticks_sound base (stamp_of_next_command base now) ticks form (sound_last base now k)
    (All-map base.trades (λ t h w. All-map t.marks (λ m b. past_before base.last now m.stamp b) h.past) k.trades)

-- ---- changes of words

-- a trade with other words
abbrev reworded : (Trade → Text) → (Trade → Text) → (Trade → Text) → Trade → Trade
reworded x y z t = record t { executor = x t; cash_type = y t; cash_name = z t }

filter-unseen : (q p : Trade → Bool) (f : Trade → Trade) (ts : List Trade) → ((t : Trade) → q (f t) ≡ q t) → filter q (update_where p f ts) ≡ update_where p f (filter q ts)
filter-unseen q p f [] h = refl
filter-unseen q p f (t ∷ ts) h =
    ap (λ b. cond b (U ∷ filter q (update_where p f ts)) (filter q (update_where p f ts))) (same (p t))
    ∙ ap (λ us. cond (q t) (U ∷ us) us) (filter-unseen q p f ts h) ∙ push (q t)
  where
    U : Trade
    U = cond (p t) (f t) t

    same : (b : Bool) → q (cond b (f t) t) ≡ q t
    same true = h t
    same false = refl

    push : (b : Bool) → cond b (U ∷ update_where p f (filter q ts)) (update_where p f (filter q ts)) ≡ update_where p f (cond b (t ∷ filter q ts) (filter q ts))
    push true = refl
    push false = refl

total-unseen : (g : Trade → ℤ) (p : Trade → Bool) (f : Trade → Trade) (ts : List Trade) → ((t : Trade) → g (f t) ≡ g t) → total_by g (update_where p f ts) ≡ total_by g ts
unfolding total_by
total-unseen g p f [] h = refl
total-unseen g p f (t ∷ ts) h = λ i. same (p t) i +ℤ total-unseen g p f ts h i
  where
    same : (b : Bool) → g (cond b (f t) t) ≡ g t
    same true = h t
    same false = refl

sum-unseen : (g : Trade → ℕ) (p : Trade → Bool) (f : Trade → Trade) (ts : List Trade) → ((t : Trade) → g (f t) ≡ g t) → sum_by g (update_where p f ts) ≡ sum_by g ts
sum-unseen g p f [] h = refl
sum-unseen g p f (t ∷ ts) h =
    sum_by-cons g (cond (p t) (f t) t) (update_where p f ts) ∙ (λ i. same (p t) i + sum-unseen g p f ts h i) ∙ sym (sum_by-cons g t ts)
  where
    same : (b : Bool) → g (cond b (f t) t) ≡ g t
    same true = h t
    same false = refl

done_same : (p : Trade → Bool) (x y z : Trade → Text) (ts : List Trade) → filter is_completed (update_where p (reworded x y z) ts) ≡ update_where p (reworded x y z) (filter is_completed ts)
done_same p x y z ts = filter-unseen is_completed p (reworded x y z) ts (λ t. refl)

same_summary : (p : Trade → Bool) (x y z : Trade → Text) (ts : List Trade) (account : ℕ) (symbol : Text)
    → holding_summary_quantity (filter is_completed (update_where p (reworded x y z) ts)) account symbol ≡ holding_summary_quantity (filter is_completed ts) account symbol
unfolding holding_summary_quantity
same_summary p x y z ts account symbol =
    let f : Trade → Trade = reworded x y z in
    let g : Trade → ℤ = λ t. signed_by_side (side_of_trade_type t.kind) t.qty in
    let A : List Trade → List Trade = filter (λ t. t.account == account) in
    let S : List Trade → List Trade = filter (λ t. bytes_eq t.symbol symbol) in
    ap (λ us. total_by g (S (A us))) (done_same p x y z ts)
    ∙ ap (λ us. total_by g (S us)) (filter-unseen (λ t. t.account == account) p f (filter is_completed ts) (λ t. refl))
    ∙ ap (total_by g) (filter-unseen (λ t. bytes_eq t.symbol symbol) p f (A (filter is_completed ts)) (λ t. refl))
    ∙ total-unseen g p f (S (A (filter is_completed ts))) (λ t. refl)

same_balance : (accounts : List Account) (p : Trade → Bool) (x y z : Trade → Text) (ts : List Trade) (ms : List Movement) (account : ℕ)
    → balance_of_account accounts (postings accounts (filter is_completed (update_where p (reworded x y z) ts)) ms) account
    ≡ balance_of_account accounts (postings accounts (filter is_completed ts) ms) account
same_balance accounts p x y z ts ms account =
    let f : Trade → Trade = reworded x y z in
    let g : Trade → ℤ = settlement_amount accounts in
    let A : List Trade → List Trade = filter (λ t. t.account == account) in
    let C : List Trade → List Trade = filter (λ t. t.is_cash) in
    let moved : ℤ = total_by (λ p. p.amount) (postings_to_account (map posting_of_movement ms) account) in
    balance_parts accounts (filter is_completed (update_where p f ts)) ms account
    ∙ ap (λ n. opening_balance_in_accounts accounts account +ℤ (n +ℤ moved))
    (ap (λ us. total_by g (A (C us))) (done_same p x y z ts)
    ∙ ap (λ us. total_by g (A us)) (filter-unseen (λ t. t.is_cash) p f (filter is_completed ts) (λ t. refl))
    ∙ ap (total_by g) (filter-unseen (λ t. t.account == account) p f (C (filter is_completed ts)) (λ t. refl))
    ∙ total-unseen g p f (A (C (filter is_completed ts))) (λ t. refl))
    ∙ sym (balance_parts accounts (filter is_completed ts) ms account)

same_commissions : (accounts : List Account) (p : Trade → Bool) (x y z : Trade → Text) (ts : List Trade) (broker : ℕ)
    → commission_total_of_broker accounts (filter is_completed (update_where p (reworded x y z) ts)) broker ≡ commission_total_of_broker accounts (filter is_completed ts) broker
unfolding commission_total_of_broker
same_commissions accounts p x y z ts broker =
    let f : Trade → Trade = reworded x y z in
    let B : List Trade → List Trade = filter (λ t. broker_id_in_accounts accounts t.account == broker) in
    ap (λ us. sum_by (λ t. t.commission) (B us)) (done_same p x y z ts)
    ∙ ap (sum_by (λ t. t.commission)) (filter-unseen (λ t. broker_id_in_accounts accounts t.account == broker) p f (filter is_completed ts) (λ t. refl))
    ∙ sum-unseen (λ t. t.commission) p f (B (filter is_completed ts)) (λ t. refl)

-- words may change where they stay of their form
sound_reworded : (c : Base) (p : Trade → Bool) (x y z : Trade → Text) → AuditInvariant c
    → AllByRecursion (BaseTradeAuditInvariant c) (update_where p (reworded x y z) c.trades) → AuditInvariant (record c { trades = update_where p (reworded x y z) c.trades })
sound_reworded c p x y z k h =
    let ts : List Trade = update_where p (reworded x y z) c.trades in
    record {
      keyed = k.keyed;
      parties = k.parties;
      terms = k.terms;
      listed = k.listed;
      trades = h;
      cash = k.cash;
      sums = record {
        summaries = λ account symbol. subst (λ n. nat_abs n ≤ greatest_summary_quantity) (sym (same_summary p x y z c.trades account symbol)) (k.summaries account symbol);
        balances = λ account. subst (λ n. nat_abs n ≤ greatest_amount) (sym (same_balance c.accounts p x y z c.trades c.movements account)) (k.balances account);
        commissions = λ broker. subst (λ n. n ≤ greatest_amount) (sym (same_commissions c.accounts p x y z c.trades broker)) (k.commissions broker);
      };
    }

pub sound_executors : (base : Base) (now : ℕ) (ids : List ℕ) → LeavesSound base now (ChangeExecutors ids)
unfolding base_after_command_unstamped
sound_executors base now ids k books form e =
    let c : Base = record base { last = Some (stamp_of_next_command base now) } in
    let l : AuditInvariant c = sound_last base now k in
    let p : Trade → Bool = λ t. contains_number t.id ids in
    let x : Trade → Text = λ t. updated_executor_name t.executor in
    let y : Trade → Text = λ t. t.cash_type in
    let z : Trade → Text = λ t. t.cash_name in
    sound_reworded c p x y z l (updated_all (BaseTradeAuditInvariant c) (BaseTradeAuditInvariant c) p (reworded x y z) base.trades
    (λ t i k. record {
      alone = record {
        fields = k.fields;
        stamps = k.stamps;
        way = k.way;
        priced = k.priced;
        words = record { settled = k.words.settled; moved = k.words.moved };
        cash_type = k.cash_type;
      };
      past = k.past;
      due = k.due;
      cash_name = k.cash_name;
      amount = k.amount;
    }) (λ t h. h) l.trades)

-- ---- the trades that are chosen

-- what holds of each of some trades holds of each with one of their ids
chosen_one : (P : Trade → Type 0) (ts us : List Trade) (v : Trade) → In v ts → AllByRecursion (λ w. P w × AllByRecursion (λ v. (v.id == w.id) ≡ true → v ≡ w) ts) us
    → contains_number v.id (map (λ t. t.id) us) ≡ true → P v
chosen_one P ts [] v m h c = false_true c
chosen_one P ts (u ∷ us) v m h c = by_test (u.id == v.id) refl c (chosen_one P ts us v m h.1)
  where
    by_test : (b : Bool) → (u.id == v.id) ≡ b → (u.id == v.id) || contains_number v.id (map (λ t. t.id) us) ≡ true → (contains_number v.id (map (λ t. t.id) us) ≡ true → P v) → P v
    by_test true e c ih =
        let same : v ≡ u = of_all (λ v. (v.id == u.id) ≡ true → v ≡ u) ts v h.0.1 m (eq-eqb v.id u.id (sym (eqb-true u.id v.id e))) in
        subst P (sym same) h.0.0
    by_test false e c ih = ih (sym (ap (λ b. b || contains_number v.id (map (λ t. t.id) us)) e) ∙ c)

abbrev Chosen : (Trade → Bool) → Trade → Type 0
Chosen test t = (is_completed t ≡ true) × (test t ≡ true)

chosen_all : (base : Base) (test : Trade → Bool) (first last : ℕ) → TradesAreNumberedFrom 1 base.trades
    → AllByRecursion (λ v. contains_number v.id (selected_trade_ids base test first last) ≡ true → Chosen test v) base.trades
chosen_all base test first last n =
    let Q : Trade → Type 0 = λ w. AllByRecursion (λ v. (v.id == w.id) ≡ true → v ≡ w) base.trades in
    let unique : AllByRecursion Q base.trades = one_of_id base.trades (rise_apart base.trades (numbered_rise 1 base.trades n)) in
    let done = filtered Q is_completed base.trades unique in
    let some = filtered (λ w. Q w × (is_completed w ≡ true)) (λ t. test t && trade_stamp_is_between first last t) (completed_trades base) done in
    let R : Trade → Type 0 = λ w. Chosen test w × Q w in
    let right : AllByRecursion R (filter (λ t. test t && trade_stamp_is_between first last t) (completed_trades base)) =
    All-map (filter (λ t. test t && trade_stamp_is_between first last t) (completed_trades base)) (λ w h. ((h.0.1, (and_parts (test w) (trade_stamp_is_between first last w) h.1).0), h.0.0)) some in
    let us : List Trade = take 20 (trades_oldest_first (filter (λ t. test t && trade_stamp_is_between first last t) (completed_trades base))) in
    let all : AllByRecursion R us =
    All-take R 20 (trades_oldest_first (filter (λ t. test t && trade_stamp_is_between first last t) (completed_trades base)))
    (All-sort R (λ t u. is_pair_less (last_status_stamp_of_trade t) (last_status_stamp_of_trade u) t.id u.id)
    (filter (λ t. test t && trade_stamp_is_between first last t) (completed_trades base)) right) in
    All-map base.trades (λ v m c. chosen_one (Chosen test) base.trades us v m all c) (each_in base.trades)

-- ---- the words of settlements and cash rows

other_type : (b : Bool) (text : Text) → is_cash_type_of_trade b (cond b (toggled_word (codes "Cash Account") (codes "Cash") text) (toggled_word (codes "Margin Account") (codes "Margin") text)) ≡ true
other_type true text = by_word (bytes_eq text (codes "Cash Account"))
  where
    by_word : (c : Bool) → is_cash_type_of_trade true (cond c (codes "Cash") (codes "Cash Account")) ≡ true
    by_word true = refl
    by_word false = refl
other_type false text = by_word (bytes_eq text (codes "Margin Account"))
  where
    by_word : (c : Bool) → is_cash_type_of_trade false (cond c (codes "Margin") (codes "Margin Account")) ≡ true
    by_word true = refl
    by_word false = refl

pub sound_cash_types : (base : Base) (now account first last : ℕ) → LeavesSound base now (ChangeCashTypes account first last)
unfolding base_after_command_unstamped
sound_cash_types base now account first last k books form e =
    let c : Base = record base { last = Some (stamp_of_next_command base now) } in
    let l : AuditInvariant c = sound_last base now k in
    let p : Trade → Bool = λ t. contains_number t.id (selected_trade_ids_of_account base account first last) in
    let x : Trade → Text = λ t. t.executor in
    let y : Trade → Text = updated_cash_type in
    let z : Trade → Text = λ t. t.cash_name in
    let C : Trade → Type 0 = λ t. p t ≡ true → Chosen (λ t. t.account == account) t in
    sound_reworded c p x y z l (updated_all (λ t. BaseTradeAuditInvariant c t × C t) (BaseTradeAuditInvariant c) p (reworded x y z) base.trades
    (λ t i h. let k = h.0 in record {
      alone = record {
        fields = k.fields;
        stamps = k.stamps;
        way = k.way;
        priced = k.priced;
        words = record { settled = λ waits. false_true (sym waits ∙ (h.1 i).0); moved = k.words.moved };
        cash_type = λ d. other_type t.is_cash t.cash_type;
      };
      past = k.past;
      due = k.due;
      cash_name = k.cash_name;
      amount = k.amount;
    }) (λ t h. h.0) (both_all (BaseTradeAuditInvariant c) C base.trades l.trades (chosen_all base (λ t. t.account == account) first last books.numbered)))

other_name : (base : Base) (t : Trade) (b : Bool)
    → bytes_eq (cond b (cash_row_name (codes " Shares of ") base t) (cash_row_name (codes " shares of ") base t)) (cash_row_name (codes " shares of ") base t)
    || bytes_eq (cond b (cash_row_name (codes " Shares of ") base t) (cash_row_name (codes " shares of ") base t)) (cash_row_name (codes " Shares of ") base t) ≡ true
other_name base t true =
    let text : Text = cash_row_name (codes " Shares of ") base t in
    or_right (bytes_eq text (cash_row_name (codes " shares of ") base t)) (bytes_eq text text) (same_bytes text text refl)
other_name base t false =
    let text : Text = cash_row_name (codes " shares of ") base t in
    or_left (bytes_eq text text) (bytes_eq text (cash_row_name (codes " Shares of ") base t)) (same_bytes text text refl)

pub sound_cash_names : (base : Base) (now : ℕ) (symbol : Text) (first last : ℕ) → LeavesSound base now (ChangeCashNames symbol first last)
unfolding base_after_command_unstamped
sound_cash_names base now symbol first last k books form e =
    let c : Base = record base { last = Some (stamp_of_next_command base now) } in
    let l : AuditInvariant c = sound_last base now k in
    let p : Trade → Bool = λ t. contains_number t.id (selected_trade_ids_of_symbol base symbol first last) in
    let x : Trade → Text = λ t. t.executor in
    let y : Trade → Text = λ t. t.cash_type in
    let z : Trade → Text = updated_cash_row_name base in
    let test : Trade → Bool = λ t. t.is_cash && bytes_eq t.symbol symbol in
    let C : Trade → Type 0 = λ t. p t ≡ true → Chosen test t in
    sound_reworded c p x y z l (updated_all (λ t. BaseTradeAuditInvariant c t × C t) (BaseTradeAuditInvariant c) p (reworded x y z) base.trades
    (λ t i h. let k = h.0 in record {
      alone = record {
        fields = k.fields;
        stamps = k.stamps;
        way = k.way;
        priced = k.priced;
        words = record {
          settled = k.words.settled;
          moved =
              λ waits. false_true (sym waits ∙ and_from (is_completed t) t.is_cash (h.1 i).0 (and_parts t.is_cash (bytes_eq t.symbol symbol) (h.1 i).1).0);
        };
        cash_type = k.cash_type;
      };
      past = k.past;
      due = k.due;
      cash_name = λ d. other_name base t (contains_text (codes " shares of ") t.cash_name);
      amount = k.amount;
    }) (λ t h. h.0) (both_all (BaseTradeAuditInvariant c) C base.trades l.trades (chosen_all base test first last books.numbered)))
