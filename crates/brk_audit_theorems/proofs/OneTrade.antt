-- Properties of one trade of a base that satisfies the audit invariant, and of a base at a later
-- stamp.
use Rattle.std.proofs.Common.{◌≡◌, ◌<◌, ◌≤◌, ℕ, ◌+◌, max, Bool, true, false, cond, List, [], ◌∷◌, ◌++◌, refl, sym, ◌∙◌, ap, map, arith, Option, Some, None}
use Rattle.std.specs.Prelude.{◌==◌, bytes_eq, is_none, nat_le, nat_lt, unwrap_or}
use Rattle.brk_money.specs.Spelling.{Text}
use Rattle.std.specs.List.{AllByRecursion, last_or}
use Rattle.std.specs.Option.{option_map_or}
use Rattle.std.proofs.lemmas.Bool.{and_from, and_parts, leb-true, le-leb, lt-ltb}
use Rattle.brk_money.specs.Kinds.{is_same_trade_status}
use Rattle.brk_money.specs.declared.status.Status.{Status}
use Rattle.brk_money.specs.declared.status.Status.TheVariants.{Completed, Active, Submitted, Pending, Canceled}
use Rattle.brk_model.specs.Schemas.{third_schema}
use Rattle.brk_model.specs.Limits.{greatest_price, greatest_qty}
use Rattle.brk_model.specs.Lists.{sort_by, update_where}
use Rattle.brk_model.specs.Records.{StatusChange, Trade}
use Rattle.brk_model.specs.Base.{Base, completed_trades, has_last_status, is_completed, trade_with_status_change, last_status_stamp_of_trade, completion_price}
use Rattle.brk_model.specs.Derived.{deal_of_trade, deals_of_position, trades_of_account, trades_of_position, shares_of_position}
use Rattle.brk_model.specs.Form.{is_up_to_last_stamp, is_price, is_quantity_in_schema}
use Rattle.brk_model.specs.Tests.{stamp_of_next_command}
use Rattle.brk_model.specs.Ways.{is_strictly_ascending, is_valid_status_sequence}
use Rattle.brk_trade_books.proofs.Same.{All-filter, All-map, All-mapped, map-last}
use Rattle.brk_trade_books.proofs.Completing.{All-passing}
use Rattle.brk_trade_books.proofs.LotReading.{All-sort}
use Rattle.brk_audit_theorems.specs.Histories.{HasValidStatusSequence, HasAscendingStatusStamps}
use Rattle.brk_audit_theorems.proofs.Marks.{no_more_ways, same_statuses, three_ways, two_ways}
use Rattle.brk_audit_theorems.specs.Sound.{StatusStampIsAtMostLastStamp, AuditInvariant, TradeAuditInvariant, BaseTradeAuditInvariant, has_price_exactly_if_completed}
use Rattle.brk_audit_theorems.proofs.Bounds.{IsCheap, replay_all}

pub false_true : {A : Type 0} → false ≡ true → A
false_true e = absurd (cc)

-- ---- stamps

pub past_then : (last : Option ℕ) (now n : ℕ) → is_up_to_last_stamp last n ≡ true → is_up_to_last_stamp (Some (option_map_or (λ l. max now (l + 1)) last now)) n ≡ true
past_then None now n e = false_true e
past_then (Some l) now n e = let h = leb-true n l e in le-leb n (max now (l + 1)) (omega (arith, h))

pub past_before : (last : Option ℕ) (now n : ℕ) → is_up_to_last_stamp last n ≡ true → n < option_map_or (λ l. max now (l + 1)) last now
past_before None now n e = false_true e
past_before (Some l) now n e = let h = leb-true n l e in omega (arith, h)

pub past_itself : (n : ℕ) → is_up_to_last_stamp (Some n) n ≡ true
past_itself n = le-leb n n (omega arith)

pub rising_more : (ms : List ℕ) (n : ℕ) → is_strictly_ascending ms ≡ true → AllByRecursion (λ m. m < n) ms → is_strictly_ascending (ms ++ n ∷ []) ≡ true
rising_more [] n e h = refl
rising_more (m ∷ []) n e h = and_from (nat_lt m n) true (lt-ltb m n h.0) refl
rising_more (m ∷ o ∷ ms) n e h =
    let p = and_parts (nat_lt m o) (is_strictly_ascending (o ∷ ms)) e in
    and_from (nat_lt m o) (is_strictly_ascending (o ∷ ms ++ n ∷ [])) p.0 (rising_more (o ∷ ms) n p.1 h.1)

-- the stamps of a trade that gets a status at the next stamp
pub stamps_more : (base : Base) (now : ℕ) (status : Status) (t : Trade) → HasAscendingStatusStamps t
    → AllByRecursion (StatusStampIsAtMostLastStamp base.last) t.marks
    → HasAscendingStatusStamps (trade_with_status_change (stamp_of_next_command base now) status t)
stamps_more base now status t r h =
    ap is_strictly_ascending (map-last (λ m. m.stamp) t.marks (record { stamp = stamp_of_next_command base now; status = status }))
    ∙ rising_more (map (λ m. m.stamp) t.marks) (stamp_of_next_command base now) r
    (All-mapped (λ n. n < stamp_of_next_command base now) (λ m. m.stamp) t.marks (All-map t.marks (λ m e. past_before base.last now m.stamp e) h))

-- ---- ways

first_waits : (a : Status) → is_valid_status_sequence (a ∷ Submitted ∷ []) ≡ true → a ≡ Pending
first_waits Completed e = false_true e
first_waits Active e = false_true e
first_waits Submitted e = false_true e
first_waits Pending e = refl
first_waits Canceled e = false_true e

done_way : (ms : List StatusChange) → is_valid_status_sequence (map (λ m. m.status) ms) ≡ true → option_map_or (λ m. is_same_trade_status m.status Submitted) (last_or None ms) false ≡ true
    → is_valid_status_sequence (map (λ m. m.status) ms ++ Completed ∷ []) ≡ true
done_way [] w h = false_true h
done_way (m ∷ []) w h = ap (λ s. is_valid_status_sequence (s ∷ Completed ∷ [])) (same_statuses m.status Submitted h)
done_way (m ∷ n ∷ []) w h =
    let e : n.status ≡ Submitted = same_statuses n.status Submitted h in
    let f : m.status ≡ Pending = first_waits m.status (sym (ap (λ s. is_valid_status_sequence (m.status ∷ s ∷ [])) e) ∙ w) in
    λ i. is_valid_status_sequence (f i ∷ e i ∷ Completed ∷ [])
done_way (m ∷ n ∷ o ∷ []) w h = let k = three_ways m.status n.status o.status w in false_true (sym (ap (λ s. is_same_trade_status s Submitted) k.2) ∙ h)
done_way (m ∷ n ∷ o ∷ p ∷ ms) w h = absurd (no_more_ways m.status n.status o.status p.status (map (λ m. m.status) ms) w)

open_way : (s : Status) (ms : List StatusChange) → is_valid_status_sequence (Pending ∷ s ∷ []) ≡ true → is_valid_status_sequence (map (λ m. m.status) ms) ≡ true
    → option_map_or (λ m. is_same_trade_status m.status Pending) (last_or None ms) false ≡ true → is_valid_status_sequence (map (λ m. m.status) ms ++ s ∷ []) ≡ true
open_way s [] k w h = false_true h
open_way s (m ∷ []) k w h = ap (λ u. is_valid_status_sequence (u ∷ s ∷ [])) (same_statuses m.status Pending h) ∙ k
open_way s (m ∷ n ∷ []) k w h = false_true (sym (two_ways m.status n.status w) ∙ h)
open_way s (m ∷ n ∷ o ∷ []) k w h = let j = three_ways m.status n.status o.status w in false_true (sym (ap (λ s. is_same_trade_status s Pending) j.2) ∙ h)
open_way s (m ∷ n ∷ o ∷ p ∷ ms) k w h = absurd (no_more_ways m.status n.status o.status p.status (map (λ m. m.status) ms) w)

pub completes_way : (stamp : ℕ) (t : Trade) → HasValidStatusSequence t → has_last_status Submitted t ≡ true → HasValidStatusSequence (trade_with_status_change stamp Completed t)
completes_way stamp t w h = ap is_valid_status_sequence (map-last (λ m. m.status) t.marks (record { stamp = stamp; status = Completed })) ∙ done_way t.marks w h

pub leaves_way : (stamp : ℕ) (status : Status) (t : Trade) → is_valid_status_sequence (Pending ∷ status ∷ []) ≡ true → HasValidStatusSequence t
    → has_last_status Pending t ≡ true → HasValidStatusSequence (trade_with_status_change stamp status t)
leaves_way stamp status t k w h = ap is_valid_status_sequence (map-last (λ m. m.status) t.marks (record { stamp = stamp; status = status })) ∙ open_way status t.marks k w h

-- ---- prices and quantities

pub qty_low : (n : ℕ) → is_quantity_in_schema third_schema n ≡ true → n ≤ 9999999
qty_low n e = leb-true n third_schema.greatest_qty (and_parts (nat_le 1 n) (nat_le n third_schema.greatest_qty) e).1

pub price_low : (n : ℕ) → is_price n ≡ true → n ≤ 9999999
price_low n e = leb-true n greatest_price (and_parts (nat_le 1 n) (nat_le n greatest_price) e).1

-- a completed trade has a price
pub price_of_done : (t : Trade) → has_price_exactly_if_completed t ≡ true → is_completed t ≡ true → is_price (completion_price t) ≡ true
price_of_done t h e = by_price t.price (sym (ap (λ b. cond b (option_map_or is_price t.price false) (is_none t.price)) e) ∙ h)
  where
    by_price : (o : Option ℕ) → option_map_or is_price o false ≡ true → is_price (unwrap_or o 0) ≡ true
    by_price None k = false_true k
    by_price (Some n) k = k

-- each share of a position was dealt at a price within its limit
pub cheap_shares : (base : Base) (account : ℕ) (symbol : Text) → AllByRecursion (BaseTradeAuditInvariant base) base.trades
    → AllByRecursion IsCheap (shares_of_position (completed_trades base) account symbol)
unfolding shares_of_position
cheap_shares base account symbol h =
    let L : Trade → Type 0 = λ t. completion_price t ≤ 9999999 in
    replay_all IsCheap [] (deals_of_position (completed_trades base) account symbol) tt
    (All-mapped (λ d. d.price ≤ 9999999) deal_of_trade
    (sort_by (λ x y. nat_lt (last_status_stamp_of_trade x) (last_status_stamp_of_trade y)) (trades_of_position (completed_trades base) account symbol))
    (All-sort L (λ x y. nat_lt (last_status_stamp_of_trade x) (last_status_stamp_of_trade y)) (trades_of_position (completed_trades base) account symbol)
    (All-filter L (λ t. bytes_eq t.symbol symbol) (trades_of_account (completed_trades base) account)
    (All-filter L (λ t. t.account == account) (completed_trades base)
    (All-passing L is_completed base.trades (All-map base.trades (λ t k e. price_low (completion_price t) (price_of_done t k.priced e)) h))))))

-- ---- a later stamp

pub trade_last : (base : Base) (now : ℕ) (t : Trade) → BaseTradeAuditInvariant base t → TradeAuditInvariant (Some (stamp_of_next_command base now)) base.rule base.accounts base.securities t
trade_last base now t k = record { alone = k.alone; past = All-map t.marks (λ m e. past_then base.last now m.stamp e) k.past; due = k.due; cash_name = k.cash_name; amount = k.amount }

pub sound_last : (base : Base) (now : ℕ) → AuditInvariant base → AuditInvariant (record base { last = Some (stamp_of_next_command base now) })
sound_last base now k = record {
  keyed = k.keyed;
  parties = k.parties;
  terms = k.terms;
  listed = record { securities = k.securities; moments = All-map base.securities (λ s e. past_then base.last now s.moment e) k.moments };
  trades = All-map base.trades (λ t h. trade_last base now t h) k.trades;
  cash = k.cash;
  sums = k.sums;
}

-- ---- changed trades

pub updated_all : {X : Type 0} (P Q : X → Type 0) (p : X → Bool) (f : X → X) (xs : List X) → ((x : X) → p x ≡ true → P x → Q (f x)) → ((x : X) → P x → Q x)
    → AllByRecursion P xs → AllByRecursion Q (update_where p f xs)
updated_all P Q p f [] g g' h = tt
updated_all P Q p f (x ∷ xs) g g' h = (changed (p x) refl, updated_all P Q p f xs g g' h.1)
  where
    changed : (b : Bool) → p x ≡ b → Q (cond b (f x) x)
    changed true e = g x e h.0
    changed false e = g' x h.0
