-- The base of rows that satisfy `Form` and `Status` satisfies the books invariant.
use Rattle.std.proofs.Common.{◌≡◌, ℕ, ◌+◌, ◌==◌, Bool, true, false, not, cond, List, [], ◌∷◌, ◌++◌, refl, sym, ◌∙◌, ap, subst, map, filter, length, arith, Option, Some, None, inl, inr}
use Rattle.std.specs.Prelude.{◌&&◌, ◌||◌, ◌≤◌, nat_le, find, is_none, is_some, bytes_eq, IfSome}
use Rattle.std.specs.List.{AllByRecursion, list_any, list_all, range_with_len}
use Rattle.std.specs.Option.{option_map_or}
use Rattle.std.proofs.lemmas.Bool.{and_from, and_parts, eqb-true, eq-eqb, leb-true, not-true, or_left, or_right, ne_eqb}
use Rattle.std.proofs.lemmas.Bool.Decides.{nat_tests}
use Rattle.std.proofs.lemmas.Slice.Eq.{bytes_eq-Decides}
use Rattle.brk_money.specs.Spelling.{Text, is_within_amount_limit}
use Rattle.brk_money.specs.Moments.{greatest_day, greatest_stamp}
use Rattle.brk_money.specs.Kinds.{is_same_trade_status}
use Rattle.brk_money.specs.declared.status.Status.TheVariants.{Completed}
use Rattle.brk_model.specs.Limits.{greatest_amount, greatest_charge, greatest_commission_rate}
use Rattle.brk_model.specs.Lists.{all_distinct, contains_number}
use Rattle.brk_model.specs.Records.{Band, Movement, Permission, Trade}
use Rattle.brk_model.specs.Base.{is_completed, last_status_stamp_of_trade}
use Rattle.brk_model.specs.Schemas.{Schema}
use Rattle.brk_model.specs.Tables.{Tables, AccountRow, CashRow, SecurityRow, LastTradeRow, TradeRow, HistoryRow}
use Rattle.brk_model.specs.Derived.{due_day_of_completion_stamp}
use Rattle.brk_model.specs.Keys.{number, word, is_key_less, account_key, permission_key, security_key, trade_key}
use Rattle.brk_model.specs.Tests.{bands_overlap}
use Rattle.brk_model.specs.Forms.{is_name, is_exchange}
use Rattle.brk_model.specs.Adopted.{account_of_row, base_of_tables, movement_of_row, zero_last_trade_row, security_of_row, security_of_rows, trade_of_row}
use Rattle.brk_model.specs.Form.{is_well_formed_account_row, is_well_formed_band_row, has_account, has_broker, has_customer, satisfies_form_condition}
use Rattle.brk_model.specs.Form.{has_security, has_trade, is_well_formed_history_row, has_cash_row_name_of_trade, is_id, is_cash_row_number}
use Rattle.brk_model.specs.Form.{is_movement_name_and_amount, is_price, is_quantity_in_schema, is_at_most_last_stamp, is_tier, is_well_formed_last_trade_row}
use Rattle.brk_model.specs.Form.{is_well_formed_cash_move_row, has_disjoint_bands, has_price_matching_completion, are_equal_number_lists}
use Rattle.brk_model.specs.Form.{is_well_formed_trade_row}
use Rattle.brk_model.specs.Ways.{completion_stamps, satisfies_status_condition, movement_stamps, has_valid_status_history}
use Rattle.brk_model.specs.Names.{AccountOfTradeExists, BrokerOfAccountExists, CustomerOfAccountExists, SecurityOfTradeExists, TradesAreNumberedFrom}
use Rattle.brk_trade_books.specs.Books.{MovementBooksInvariant, HasDisjointBands, HasNoCompletionIfSubmitted, HasDistinctAccountIds, HasDistinctSymbols}
use Rattle.brk_trade_books.specs.Books.{HasOrderedBounds, MovementAccountExists, HasVolumeWithinLimit, BooksInvariant, TradeStampIsAtMostLastStamp}
use Rattle.brk_trade_books.specs.Books.{MovementStampIsAtMostLastStamp, HasLastStatusAtOtherStamp, HasDistinctLastStatusStamps, HasDistinctMovementStamps}
use Rattle.brk_trade_books.specs.Books.{HasDistinctPermissions, HasOneStatusChangeIfPending}
use Rattle.brk_trade_books.proofs.Bools.{numbers_back}
use Rattle.brk_trade_books.proofs.Same.{All-map, All-mapped, All-of, any-none, find-All}
use Rattle.brk_trade_books.proofs.Reading.{find-map, is_some-map, some-is-any}
use Rattle.brk_audit_theorems.proofs.Climbs.{Climbs, In, climbs_filter, list_all_true, not_itself, of_all}
use Rattle.brk_audit_theorems.proofs.Parts.{KeyParts, key_parts}
use Rattle.brk_model_theorems.specs.FormParts.{SatisfiesFormParts}
use Rattle.brk_model_theorems.proofs.FormParts.{form_parts}
use Rattle.brk_model_theorems.proofs.Conjunctions.{parts3, parts5, parts6, parts10}
use Rattle.brk_audit_theorems.proofs.Marks.{IsOf, Lasts, completes_first, filtered, last_is_row, lasts, waits_first}

false_true : {A : Type 0} → false ≡ true → A
false_true e = absurd (cc)

-- ---- what rows name is there

found_mapped : {X Y : Type 0} (p : Y → Bool) (f : X → Y) (xs : List X) → is_some (find p (map f xs)) ≡ is_some (find (λ x. p (f x)) xs)
found_mapped p f xs = ap is_some (find-map p f xs) ∙ is_some-map f (find (λ x. p (f x)) xs)

account_names : (t : Tables) (a : AccountRow) → is_well_formed_account_row t a ≡ true → (has_customer t a.customer ≡ true) × (has_broker t a.broker ≡ true)
account_names t a e =
    let k = parts6 (is_id a.id) (is_name a.name) (is_within_amount_limit a.opening) (is_within_amount_limit a.balance) (has_customer t a.customer) (has_broker t a.broker) e in (k.4, k.5)

knows_broker : (t : Tables) (a : AccountRow) → is_well_formed_account_row t a ≡ true → BrokerOfAccountExists (base_of_tables t) (account_of_row a)
unfolding base_of_tables
knows_broker t a e =
    found_mapped (λ b. b.id == a.broker) (λ b. record { id = b.id; name = b.name }) t.brokers ∙ (account_names t a e).1

knows_customer : (t : Tables) (a : AccountRow) → is_well_formed_account_row t a ≡ true → CustomerOfAccountExists (base_of_tables t) (account_of_row a)
unfolding base_of_tables
knows_customer t a e = (account_names t a e).0

trade_names : (schema : Schema) (t : Tables) (row : TradeRow) → is_well_formed_trade_row schema t row ≡ true → (has_security t row.symbol ≡ true) × (has_account t row.account ≡ true)
trade_names schema t row e =
    let k = parts10 (is_id row.id) (is_quantity_in_schema schema row.qty) (is_price row.bid) (nat_le row.charge greatest_charge)
    (nat_le row.commission greatest_amount) (nat_le row.tax greatest_amount)
    (is_at_most_last_stamp t row.stamp) (has_security t row.symbol) (has_account t row.account) (has_price_matching_completion t row) e in (k.7, k.8)

knows_account : (schema : Schema) (t : Tables) (row : TradeRow) → is_well_formed_trade_row schema t row ≡ true → AccountOfTradeExists (base_of_tables t) (trade_of_row t row)
unfolding base_of_tables
knows_account schema t row e = found_mapped (λ a. a.id == row.account) account_of_row t.accounts ∙ (trade_names schema t row e).1

-- a security of its row has the row's symbol
pub symbol_of : (t : Tables) (s : SecurityRow) → (security_of_row t s).symbol ≡ s.symbol
symbol_of t s = by_found (find (λ l. bytes_eq l.symbol s.symbol) t.last_trades)
  where
    by_found : (o : Option LastTradeRow) → (option_map_or (security_of_rows s) o (security_of_rows s (zero_last_trade_row s.symbol))).symbol ≡ s.symbol
    by_found None = refl
    by_found (Some l) = refl

same_found : (t : Tables) (symbol : Text) (ss : List SecurityRow)
    → list_any (λ s. bytes_eq s.symbol symbol) (map (security_of_row t) ss) ≡ list_any (λ s. bytes_eq s.symbol symbol) ss
same_found t symbol [] = refl
same_found t symbol (s ∷ ss) = λ i. bytes_eq (symbol_of t s i) symbol || same_found t symbol ss i

knows_security : (schema : Schema) (t : Tables) (row : TradeRow) → is_well_formed_trade_row schema t row ≡ true → SecurityOfTradeExists (base_of_tables t) (trade_of_row t row)
unfolding base_of_tables
knows_security schema t row e =
    some-is-any (λ s. bytes_eq s.symbol row.symbol) (map (security_of_row t) t.securities) ∙ same_found t row.symbol t.securities
    ∙ sym (some-is-any (λ s. bytes_eq s.symbol row.symbol) t.securities) ∙ (trade_names schema t row e).0

-- ---- keys are of one row

later_id : (m n : ℕ) → is_key_less (number m ∷ []) (number n ∷ []) ≡ true → (n == m) ≡ false
later_id m n h = grind (arith, nat_tests)

distinct_accounts : (rows : List AccountRow) → Climbs account_key rows → HasDistinctAccountIds (map account_of_row rows)
distinct_accounts [] c = tt
distinct_accounts (a ∷ rows) c =
    (All-mapped (λ b. (b.id == a.id) ≡ false) account_of_row rows (All-map rows (λ b h. later_id a.id b.id h) c.0), distinct_accounts rows c.1)

other_permission : (p q : Permission) (b : Bool) → ((q.account == p.account) && bytes_eq q.tax_id p.tax_id) ≡ b → is_key_less (permission_key p) (permission_key q) ≡ true
    → ((q.account == p.account) && bytes_eq q.tax_id p.tax_id) ≡ false
other_permission p q false e h = e
other_permission p q true e h =
    let k = and_parts (q.account == p.account) (bytes_eq q.tax_id p.tax_id) e in
    let m : q.account ≡ p.account = eqb-true q.account p.account k.0 in
    let s : q.tax_id ≡ p.tax_id = (bytes_eq-Decides q.tax_id p.tax_id).0 k.1 in
    absurd (not_itself (permission_key p) (permission_key q) (λ i. number (sym m i) ∷ word (sym s i) ∷ []) h)

permissions_apart : (ps : List Permission) → Climbs permission_key ps → HasDistinctPermissions ps
permissions_apart [] c = tt
permissions_apart (p ∷ ps) c =
    (All-map ps (λ q h. other_permission p q ((q.account == p.account) && bytes_eq q.tax_id p.tax_id) refl h) c.0, permissions_apart ps c.1)

other_symbol : (r s : Text) (b : Bool) → bytes_eq s r ≡ b → is_key_less (word r ∷ []) (word s ∷ []) ≡ true → bytes_eq s r ≡ false
other_symbol r s false e h = e
other_symbol r s true e h =
    let k : s ≡ r = (bytes_eq-Decides s r).0 e in absurd (not_itself (word r ∷ []) (word s ∷ []) (λ i. word (sym k i) ∷ []) h)

distinct_symbols : (t : Tables) (ss : List SecurityRow) → Climbs security_key ss → HasDistinctSymbols (map (security_of_row t) ss)
distinct_symbols t [] c = tt
distinct_symbols t (s ∷ ss) c = (
  All-mapped (λ u. bytes_eq u.symbol (security_of_row t s).symbol ≡ false) (security_of_row t) ss
      (All-map ss (λ u h. (λ i. bytes_eq (symbol_of t u i) (symbol_of t s i)) ∙ other_symbol s.symbol u.symbol (bytes_eq u.symbol s.symbol) refl h) c.0),
  distinct_symbols t ss c.1,
)

-- ---- limits, numbers and bands

within_volume : (t : Tables) (ls : List LastTradeRow) (s : SecurityRow) → AllByRecursion (λ l. l.volume ≤ greatest_amount) ls
    → (option_map_or (security_of_rows s) (find (λ l. bytes_eq l.symbol s.symbol) ls) (security_of_rows s (zero_last_trade_row s.symbol))).volume ≤ greatest_amount
within_volume t ls s h = by_found (find (λ l. bytes_eq l.symbol s.symbol) ls) refl
  where
    by_found : (o : Option LastTradeRow) → find (λ l. bytes_eq l.symbol s.symbol) ls ≡ o
        → (option_map_or (security_of_rows s) o (security_of_rows s (zero_last_trade_row s.symbol))).volume ≤ greatest_amount
    by_found None e = leb-true 0 greatest_amount refl
    by_found (Some l) e = find-All (λ l. l.volume ≤ greatest_amount) (λ l. bytes_eq l.symbol s.symbol) ls l h e

volume_of : (t : Tables) (l : LastTradeRow) → is_well_formed_last_trade_row t l ≡ true → l.volume ≤ greatest_amount
volume_of t l e =
    leb-true l.volume greatest_amount (and_parts (has_security t l.symbol && is_at_most_last_stamp t l.stamp && is_price l.price) (nat_le l.volume greatest_amount) e).1

numbered : (t : Tables) (n : ℕ) (rows : List TradeRow) → are_equal_number_lists (map (λ row. row.id) rows) (range_with_len n (length rows)) ≡ true
    → TradesAreNumberedFrom n (map (trade_of_row t) rows)
numbered t n [] e = tt
numbered t n (r ∷ rows) e =
    let k = and_parts (r.id == n) (are_equal_number_lists (map (λ row. row.id) rows) (range_with_len (n + 1) (length rows))) e in
    (eqb-true r.id n k.0, numbered t (n + 1) rows k.1)

bounds_of : (schema : Schema) (b : Band) → is_well_formed_band_row schema b ≡ true → HasOrderedBounds b
bounds_of schema b e =
    (parts6 (is_tier b.tier) (is_exchange b.exchange) (is_quantity_in_schema schema b.from_qty) (is_quantity_in_schema schema b.to_qty)
    (nat_le b.from_qty b.to_qty) (nat_le b.rate greatest_commission_rate) e).4

bands_apart : (bs : List Band) → has_disjoint_bands bs ≡ true → HasDisjointBands bs
bands_apart [] e = tt
bands_apart (b ∷ bs) e =
    let k = and_parts (not (list_any (bands_overlap b) bs)) (has_disjoint_bands bs) e in
    (any-none (bands_overlap b) bs (not-true (list_any (bands_overlap b) bs) k.0), bands_apart bs k.1)

clock_of : (o : Option ℕ) → option_map_or (λ last. nat_le last greatest_stamp) o true ≡ true → IfSome o (λ last. last ≤ greatest_stamp)
clock_of None e = tt
clock_of (Some last) e = leb-true last greatest_stamp e

-- ---- completions

pub filter-map : {X Y : Type 0} (p : Y → Bool) (f : X → Y) (xs : List X) → filter p (map f xs) ≡ map f (filter (λ x. p (f x)) xs)
filter-map p f [] = refl
filter-map p f (x ∷ xs) =
    elim (p (f x)) as (λ b. cond b (f x ∷ filter p (map f xs)) (filter p (map f xs)) ≡ map f (cond b (x ∷ filter (λ x. p (f x)) xs) (filter (λ x. p (f x)) xs)))
    [ true ↦ ap (λ ys. f x ∷ ys) (filter-map p f xs) | false ↦ filter-map p f xs ]

-- the rows of completed trades
abbrev done_rows : Tables → List TradeRow
done_rows t = filter (λ r. is_completed (trade_of_row t r)) t.trades

abbrev completions : Tables → List HistoryRow
completions t = filter (λ h. is_same_trade_status h.status Completed) t.history

-- the row that tells a completion
record IsDone (t : Tables) (r : TradeRow) : Type 0 where
  row : HistoryRow
  there : In row t.history
  counted : In row (completions t)
  trade : row.trade ≡ r.id
  stamp : row.stamp ≡ last_status_stamp_of_trade (trade_of_row t r)

in_filter : {X : Type 0} (p : X → Bool) (xs : List X) (x : X) → In x xs → p x ≡ true → In x (filter p xs)
in_filter p [] x m e = absurd m
in_filter {X = X} p (y ∷ ys) x m e = by_place m (in_filter p ys x)
  where
    more : (b : Bool) → In x (filter p ys) → In x (cond b (y ∷ filter p ys) (filter p ys))
    more true n = inr n
    more false n = n

    by_place : In x (y ∷ ys) → (In x ys → p x ≡ true → In x (filter p ys)) → In x (cond (p y) (y ∷ filter p ys) (filter p ys))
    by_place (inl f) ih = let g : p y ≡ true = ap p (sym f) ∙ e in rw g (inl f)
    by_place (inr n) ih = more (p y) (ih n e)

done_of : (t : Tables) (r : TradeRow) → has_valid_status_history t r ≡ true → is_completed (trade_of_row t r) ≡ true → IsDone t r
done_of t r s d =
    let l : Lasts t r = lasts t r s in
    let o : IsOf t r.id l.mark = last_is_row t r l.mark l.is in
    let c : is_same_trade_status l.mark.status Completed ≡ true = sym (ap (λ o. option_map_or (λ m. is_same_trade_status m.status Completed) o false) l.is) ∙ d in
    let e : is_same_trade_status o.row.status Completed ≡ true = ap (λ u. is_same_trade_status u Completed) o.status ∙ c in
    record {
      row = o.row;
      there = o.there;
      counted = in_filter (λ h. is_same_trade_status h.status Completed) t.history o.row o.there e;
      trade = o.trade;
      stamp = o.stamp ∙ sym (ap (λ o. option_map_or (λ m. m.stamp) o 0) l.is);
    }

counted_stamp : (n : ℕ) (hs : List HistoryRow) (k : HistoryRow) → In k hs → k.stamp ≡ n → contains_number n (map (λ h. h.stamp) hs) ≡ true
counted_stamp n [] k m e = absurd m
counted_stamp n (h ∷ hs) k (inl f) e = or_left (h.stamp == n) (contains_number n (map (λ h. h.stamp) hs)) (eq-eqb h.stamp n (ap (λ h. h.stamp) (sym f) ∙ e))
counted_stamp n (h ∷ hs) k (inr m) e = or_right (h.stamp == n) (contains_number n (map (λ h. h.stamp) hs)) (counted_stamp n hs k m e)

-- of two completions at one stamp there is one alone
one_stamp : (hs : List HistoryRow) (h k : HistoryRow) → all_distinct (map (λ h. h.stamp) hs) ≡ true → In h hs → In k hs → h.stamp ≡ k.stamp → h ≡ k
one_stamp [] h k d m n e = absurd m
one_stamp (x ∷ hs) h k d m n e = by_places (λ m n. one_stamp hs h k parts.1 m n e) m n
  where
    parts : (not (contains_number x.stamp (map (λ h. h.stamp) hs)) ≡ true) × (all_distinct (map (λ h. h.stamp) hs) ≡ true)
    parts = and_parts (not (contains_number x.stamp (map (λ h. h.stamp) hs))) (all_distinct (map (λ h. h.stamp) hs)) d

    no : contains_number x.stamp (map (λ h. h.stamp) hs) ≡ true → h ≡ k
    no c = false_true (sym (not-true (contains_number x.stamp (map (λ h. h.stamp) hs)) parts.0) ∙ c)

    by_places : (In h hs → In k hs → h ≡ k) → In h (x ∷ hs) → In k (x ∷ hs) → h ≡ k
    by_places ih (inl f) (inl g) = f ∙ sym g
    by_places ih (inl f) (inr n) = no (counted_stamp x.stamp hs k n (sym e ∙ ap (λ h. h.stamp) f))
    by_places ih (inr m) (inl g) = no (counted_stamp x.stamp hs h m (e ∙ ap (λ h. h.stamp) g))
    by_places ih (inr m) (inr n) = ih m n

moments_apart : (t : Tables) (rows : List TradeRow) → all_distinct (completion_stamps t) ≡ true → Climbs trade_key rows → AllByRecursion (IsDone t) rows
    → HasDistinctLastStatusStamps (map (trade_of_row t) rows)
moments_apart t [] d c h = tt
moments_apart t (r ∷ rows) d c h = (others rows c.0 h.1, moments_apart t rows d c.1 h.1)
  where
    other : (u : TradeRow) → is_key_less (trade_key r) (trade_key u) ≡ true → IsDone t u → (last_status_stamp_of_trade (trade_of_row t u) == last_status_stamp_of_trade (trade_of_row t r)) ≡ false
    other u b k = ne_eqb (last_status_stamp_of_trade (trade_of_row t u)) (last_status_stamp_of_trade (trade_of_row t r)) (λ e.
        let o : IsDone t r = h.0 in
        let s : k.row ≡ o.row = one_stamp (completions t) k.row o.row d k.counted o.counted (k.stamp ∙ e ∙ sym o.stamp) in
        let i : u.id ≡ r.id = sym k.trade ∙ ap (λ h. h.trade) s ∙ o.trade in
        not_itself (trade_key r) (trade_key u) (λ j. number (sym i j) ∷ []) b)

    others : (us : List TradeRow) → AllByRecursion (λ u. is_key_less (trade_key r) (trade_key u) ≡ true) us → AllByRecursion (IsDone t) us
        → AllByRecursion (λ u. (last_status_stamp_of_trade u == last_status_stamp_of_trade (trade_of_row t r)) ≡ false) (map (trade_of_row t) us)
    others [] b k = tt
    others (u ∷ us) b k = (other u b.0 k.0, others us b.1 k.1)

early_at : (o : Option ℕ) (u : Trade) (n : ℕ) → n ≡ last_status_stamp_of_trade u → option_map_or (λ last. nat_le n last) o false ≡ true → TradeStampIsAtMostLastStamp o u
early_at None u n e h = false_true h
early_at (Some last) u n e h = let k : n ≤ last = leb-true n last h in omega arith

stamp_of : (t : Tables) (h : HistoryRow) → is_well_formed_history_row t h ≡ true → is_at_most_last_stamp t h.stamp ≡ true
stamp_of t h e = (parts3 (has_trade t h.trade) (is_at_most_last_stamp t h.stamp)
    (not (is_same_trade_status h.status Completed) || nat_le (due_day_of_completion_stamp t.rule h.stamp) greatest_day) e).1

early_of : (t : Tables) (r : TradeRow) → AllByRecursion (λ h. is_well_formed_history_row t h ≡ true) t.history → IsDone t r → TradeStampIsAtMostLastStamp t.last (trade_of_row t r)
early_of t r f k = early_at t.last (trade_of_row t r) k.row.stamp k.stamp (stamp_of t k.row (of_all (λ h. is_well_formed_history_row t h ≡ true) t.history k.row f k.there))

done_all : (t : Tables) → AllByRecursion (λ r. has_valid_status_history t r ≡ true) t.trades → AllByRecursion (IsDone t) (done_rows t)
done_all t h = All-map (done_rows t) (λ r k. done_of t r k.0 k.1) (filtered (λ r. has_valid_status_history t r ≡ true) (λ r. is_completed (trade_of_row t r)) t.trades h)

-- ---- movements

both_false : (a b : Bool) → a || b ≡ false → (a ≡ false) × (b ≡ false)
both_false true b e = absurd (cc)
both_false false b e = (refl, e)

no_number : (n : ℕ) (rows : List CashRow) → contains_number n (map (λ r. r.stamp) rows) ≡ false → AllByRecursion (λ r. (r.stamp == n) ≡ false) rows
no_number n [] e = tt
no_number n (r ∷ rows) e = let k = both_false (r.stamp == n) (contains_number n (map (λ r. r.stamp) rows)) e in (k.0, no_number n rows k.1)

movements_apart : (t : Tables) (ds : List TradeRow) (rows : List CashRow) → AllByRecursion (λ d. contains_number (last_status_stamp_of_trade (trade_of_row t d)) (map (λ r. r.stamp) rows) ≡ false) ds
    → all_distinct (map (λ r. r.stamp) rows) ≡ true → HasDistinctMovementStamps (map (trade_of_row t) ds) (map movement_of_row rows)
movements_apart t ds [] h d = tt
movements_apart t ds (r ∷ rows) h d =
    let k = and_parts (not (contains_number r.stamp (map (λ r. r.stamp) rows))) (all_distinct (map (λ r. r.stamp) rows)) d in
    let other : List ℕ = map (λ r. r.stamp) rows in (
      All-mapped (HasLastStatusAtOtherStamp r.stamp) (trade_of_row t) ds
          (All-map ds (λ d e. numbers_back (last_status_stamp_of_trade (trade_of_row t d)) r.stamp
          ∙ (both_false (r.stamp == last_status_stamp_of_trade (trade_of_row t d)) (contains_number (last_status_stamp_of_trade (trade_of_row t d)) other)
          e).0) h),
      All-mapped (λ m. (m.stamp == r.stamp) ≡ false) movement_of_row rows (no_number r.stamp rows (not-true (contains_number r.stamp other) k.0)),
      movements_apart t ds rows
          (All-map ds (λ d e. (both_false (r.stamp == last_status_stamp_of_trade (trade_of_row t d))
          (contains_number (last_status_stamp_of_trade (trade_of_row t d)) other) e).1) h) k.1,
    )

-- numbers that are distinct, in two parts
record Apart (xs ys : List ℕ) : Type 0 where
  pub first : all_distinct xs ≡ true
  pub second : all_distinct ys ≡ true
  pub across : AllByRecursion (λ x. contains_number x ys ≡ false) xs

pub contains_both : (n : ℕ) (xs ys : List ℕ) → contains_number n (xs ++ ys) ≡ contains_number n xs || contains_number n ys
contains_both n [] ys = refl
contains_both n (x ∷ xs) ys = ap (λ b. (x == n) || b) (contains_both n xs ys) ∙ sym (or_assoc (x == n) (contains_number n xs) (contains_number n ys))
  where
    or_assoc : (a b c : Bool) → (a || b) || c ≡ a || (b || c)
    or_assoc true b c = refl
    or_assoc false b c = refl

apart : (xs ys : List ℕ) → all_distinct (xs ++ ys) ≡ true → Apart xs ys
apart [] ys e = record { first = refl; second = e; across = tt }
apart (x ∷ xs) ys e =
    let k = and_parts (not (contains_number x (xs ++ ys))) (all_distinct (xs ++ ys)) e in
    let none = both_false (contains_number x xs) (contains_number x ys) (sym (contains_both x xs ys) ∙ not-true (contains_number x (xs ++ ys)) k.0) in
    let rest : Apart xs ys = apart xs ys k.1 in
    record { first = and_from (not (contains_number x xs)) (all_distinct xs) (ap not none.0) rest.first; second = rest.second; across = (none.1, rest.across) }

pub of_mapped : {X Y : Type 0} (P : Y → Type 0) (f : X → Y) (xs : List X) → AllByRecursion P (map f xs) → AllByRecursion (λ x. P (f x)) xs
of_mapped P f [] h = tt
of_mapped P f (x ∷ xs) h = (h.0, of_mapped P f xs h.1)

-- a movement has the stamp of no completion
none_at_completion : (t : Tables) (ds : List TradeRow) → AllByRecursion (λ n. contains_number n (movement_stamps t) ≡ false) (completion_stamps t) → AllByRecursion (IsDone t) ds
    → AllByRecursion (λ d. contains_number (last_status_stamp_of_trade (trade_of_row t d)) (movement_stamps t) ≡ false) ds
none_at_completion t ds h done =
    All-map ds (λ d k. subst (λ (n : ℕ). contains_number n (movement_stamps t) ≡ false) k.stamp
    (of_all (λ row. contains_number row.stamp (movement_stamps t) ≡ false) (completions t) k.row
    (of_mapped (λ n. contains_number n (movement_stamps t) ≡ false) (λ row. row.stamp) (completions t) h) k.counted)) done

made_at : (o : Option ℕ) (n : ℕ) (m : Movement) → n ≡ m.stamp → option_map_or (λ last. nat_le n last) o false ≡ true → MovementStampIsAtMostLastStamp o m
made_at None n m e h = false_true h
made_at (Some last) n m e h = let k : n ≤ last = leb-true n last h in omega arith

pub move_parts : (t : Tables) (r : CashRow) → is_well_formed_cash_move_row t r ≡ true → (has_account t r.account ≡ true) × (is_at_most_last_stamp t r.stamp ≡ true)
move_parts t r e =
    let k = parts5 (is_cash_row_number r.id) (has_account t r.account)
    (option_map_or (has_cash_row_name_of_trade t r) r.trade (is_movement_name_and_amount r.name r.amount)) (is_at_most_last_stamp t r.stamp)
    (is_within_amount_limit r.amount) e in (k.1, k.3)

adopted_movements : (t : Tables) (ds : List TradeRow) → AllByRecursion (λ r. is_well_formed_cash_move_row t r ≡ true) t.moves
    → AllByRecursion (λ d. contains_number (last_status_stamp_of_trade (trade_of_row t d)) (movement_stamps t) ≡ false) ds → all_distinct (movement_stamps t) ≡ true
    → MovementBooksInvariant (map account_of_row t.accounts) t.last (map (trade_of_row t) ds) (map movement_of_row (filter (λ r. is_none r.trade) t.moves))
adopted_movements t ds f h d =
    let rows : List CashRow = filter (λ r. is_none r.trade) t.moves in
    let formed : AllByRecursion (λ r. is_well_formed_cash_move_row t r ≡ true) rows = filtered_form f in
    record {
      holders = All-mapped (MovementAccountExists (map account_of_row t.accounts)) movement_of_row rows
          (All-map rows (λ r e. found_mapped (λ a. a.id == r.account) account_of_row t.accounts ∙ (move_parts t r e).0) formed);
      early = All-mapped (MovementStampIsAtMostLastStamp t.last) movement_of_row rows (All-map rows (λ r e. made_at t.last r.stamp (movement_of_row r) refl (move_parts t r e).1) formed);
      apart = movements_apart t ds rows h d;
    }
  where
    filtered_form : AllByRecursion (λ r. is_well_formed_cash_move_row t r ≡ true) t.moves → AllByRecursion (λ r. is_well_formed_cash_move_row t r ≡ true) (filter (λ r. is_none r.trade) t.moves)
    filtered_form g = All-map (filter (λ r. is_none r.trade) t.moves) (λ r k. k.0) (filtered (λ r. is_well_formed_cash_move_row t r ≡ true) (λ r. is_none r.trade) t.moves g)

-- ---- together

pub adopted_books : (schema : Schema) (t : Tables) → satisfies_form_condition schema t ≡ true → satisfies_status_condition t ≡ true → BooksInvariant (base_of_tables t)
unfolding base_of_tables satisfies_status_condition
adopted_books schema t f s =
    let p : SatisfiesFormParts schema t = form_parts schema t f in
    let k : KeyParts t = key_parts t p.keys in
    let sp = and_parts (list_all (has_valid_status_history t) t.trades) (all_distinct (completion_stamps t ++ movement_stamps t)) s in
    let apart_stamps : Apart (completion_stamps t) (movement_stamps t) = apart (completion_stamps t) (movement_stamps t) sp.1 in
    let ways : AllByRecursion (λ r. has_valid_status_history t r ≡ true) t.trades = list_all_true (has_valid_status_history t) t.trades sp.0 in
    let accounts : AllByRecursion (λ a. is_well_formed_account_row t a ≡ true) t.accounts = list_all_true (is_well_formed_account_row t) t.accounts p.accounts in
    let trades : AllByRecursion (λ r. is_well_formed_trade_row schema t r ≡ true) t.trades = list_all_true (is_well_formed_trade_row schema t) t.trades p.trades in
    let done : AllByRecursion (IsDone t) (done_rows t) = done_all t ways in
    record {
      parties = record {
        brokers = All-mapped (BrokerOfAccountExists (base_of_tables t)) account_of_row t.accounts (All-map t.accounts (knows_broker t) accounts);
        customers = All-mapped (CustomerOfAccountExists (base_of_tables t)) account_of_row t.accounts (All-map t.accounts (knows_customer t) accounts);
        owners = distinct_accounts t.accounts k.accounts;
        permissions = permissions_apart t.permissions k.permissions;
      };
      market = record {
        symbols = distinct_symbols t t.securities k.securities;
        volumes = All-mapped HasVolumeWithinLimit (security_of_row t) t.securities
            (All-of t.securities (λ s. within_volume t t.last_trades s (All-map t.last_trades (volume_of t) (list_all_true (is_well_formed_last_trade_row t) t.last_trades p.last_trades))));
        bands = All-map t.bands (bounds_of schema) (list_all_true (is_well_formed_band_row schema) t.bands p.bands);
        apart = bands_apart t.bands p.apart;
      };
      trades = record {
        accounts = All-mapped (AccountOfTradeExists (base_of_tables t)) (trade_of_row t) t.trades (All-map t.trades (knows_account schema t) trades);
        securities = All-mapped (SecurityOfTradeExists (base_of_tables t)) (trade_of_row t) t.trades (All-map t.trades (knows_security schema t) trades);
        numbered = numbered t 1 t.trades p.numbers;
        ways = All-mapped HasOneStatusChangeIfPending (trade_of_row t) t.trades (All-map t.trades (waits_first t) ways);
        completions = All-mapped HasNoCompletionIfSubmitted (trade_of_row t) t.trades (All-map t.trades (completes_first t) ways);
      };
      times = record {
        early = subst (AllByRecursion (TradeStampIsAtMostLastStamp t.last)) (sym (filter-map is_completed (trade_of_row t) t.trades))
            (All-mapped (TradeStampIsAtMostLastStamp t.last) (trade_of_row t) (done_rows t)
            (All-map (done_rows t) (λ r d. early_of t r (list_all_true (is_well_formed_history_row t) t.history p.history) d) done));
        moments = subst HasDistinctLastStatusStamps (sym (filter-map is_completed (trade_of_row t) t.trades))
            (moments_apart t (done_rows t) apart_stamps.first (climbs_filter trade_key (λ r. is_completed (trade_of_row t r)) t.trades k.trades) done);
        clock = clock_of t.last p.clock;
      };
      movements = subst (λ ts. MovementBooksInvariant (map account_of_row t.accounts) t.last ts (map movement_of_row (filter (λ r. is_none r.trade) t.moves)))
          (sym (filter-map is_completed (trade_of_row t) t.trades))
          (adopted_movements t (done_rows t) (list_all_true (is_well_formed_cash_move_row t) t.moves p.moves) (none_at_completion t (done_rows t) apart_stamps.across done) apart_stamps.second);
    }
