-- Sorting the tables by key does not change the volumes of brokers' pending requests.
use Rattle.std.proofs.Common.{◌≡◌, ℕ, ◌==◌, ◌≤◌, List, [], ◌∷◌, Bool, true, false, not, cond, refl, sym, subst, ap, ◌∙◌, map, filter, arith, length}
use Rattle.std.specs.Prelude.{◌&&◌, ◌||◌, ◌*◌, bytes_eq, decimal, flat_map, nat_lt, sum_by}
use Rattle.std.specs.List.{AllByRecursion, list_any}
use Rattle.std.specs.Option.{option_map_or}
use Rattle.std.proofs.lemmas.Bool.Decides.{nat_tests}
use Rattle.std.proofs.lemmas.Slice.Eq.{bytes_eq-Decides}
use Rattle.brk_money.specs.Spelling.{Text}
use Rattle.brk_model.specs.Base.{Base}
use Rattle.brk_model.specs.Keys.{KeyPart, broker_key, is_key_less, number, word}
use Rattle.brk_model.specs.Lists.{distinct_texts, sort_by, is_text_less}
use Rattle.brk_model.specs.Rows.{nonnegative_cents_text}
use Rattle.brk_model.specs.Sheets.{sheets, tables_sorted_by_key}
use Rattle.brk_model.specs.Tables.{BrokerRow, RequestRow, Tables, tables_of_base, tables_of_base_in_schema}
use Rattle.brk_model.specs.VolumeView.{is_before_by_volume, sector_requests_of_broker, value_of_sector_requests_of_broker, broker_volume_view}
use Rattle.brk_audit_theorems.proofs.Climbs.{Climbs, not_itself}
use Rattle.brk_audit_theorems.proofs.Parts.{key_parts}
use Rattle.brk_audit_theorems.specs.Sound.{AuditInvariant}
use Rattle.brk_audit_theorems.proofs.FormKeys.{keys_of}
use Rattle.brk_trade_books.specs.Books.{BooksInvariant}
use Rattle.brk_trade_books.proofs.Bools.{same_text}
use Rattle.brk_trade_books.proofs.Order.{Splits, key_one_way, key_splits, key_total}
use Rattle.brk_trade_books.proofs.TradeReading.{requests_in_order}
use Rattle.brk_view_theorems.proofs.Gathering.{Excludes, sort_gathered_of}
use Rattle.brk_view_theorems.proofs.Sorting.{AllApart, apart_filter, same_map, same_order, same_rows, sort_back}
use Rattle.brk_view_theorems.proofs.StatusRows.{same_security}

-- ---- one broker

same_requests : (base : Base) → BooksInvariant base → (sheets base).requests ≡ (tables_of_base base).requests
unfolding tables_of_base_in_schema
same_requests base books = requests_in_order base books.numbered

same_in : (base : Base) (sector : Text) (broker : ℕ) → BooksInvariant base → sector_requests_of_broker (sheets base) sector broker ≡ sector_requests_of_broker (tables_of_base base) sector broker
same_in base sector broker books i =
    filter (λ (r : RequestRow). (r.broker == broker) && option_map_or (λ s. bytes_eq s.sector sector) (same_security base r.symbol i) false) (same_requests base books i)

-- ---- by falling volume, then name, then id

-- the part of the order that follows the volume
abbrev name_key : BrokerRow → List KeyPart
name_key b = word b.name ∷ number b.id ∷ []

text_self : (s : Text) → is_text_less s s ≡ false
text_self [] = refl
text_self (c ∷ s) = self c (is_text_less s s) (text_self s)
  where
    self : (c : ℕ) (b : Bool) → b ≡ false → nat_lt c c || (not (nat_lt c c) && b) ≡ false
    self c b h = grind (arith, nat_tests)

text_alone : (s t : Text) → is_key_less (word s ∷ []) (word t ∷ []) ≡ is_text_less s t
text_alone s t = alone (is_text_less s t) (is_text_less t s)
  where
    alone : (a b : Bool) → a || (not b && false) ≡ a
    alone true b = refl
    alone false true = refl
    alone false false = refl

first_word : (s t : Text) → word s ∷ [] ≡ word t ∷ [] → s ≡ t
first_word s t e = cc

neither_before : (s t : Text) → is_text_less s t ≡ false → is_text_less t s ≡ false → s ≡ t
neither_before s t e f = first_word s t (key_total (word s ∷ []) (word t ∷ []) (text_alone s t ∙ e) (text_alone t s ∙ f))

by_name : (a b : BrokerRow) → is_text_less a.name b.name || (bytes_eq a.name b.name && nat_lt a.id b.id) ≡ is_key_less (name_key a) (name_key b)
by_name a b = by_tests (is_text_less a.name b.name) (is_text_less b.name a.name) refl refl
  where
    alone : (m n : ℕ) → nat_lt m n ≡ nat_lt m n || (not (nat_lt n m) && false)
    alone m n = grind (arith, nat_tests)

    unlike : (c : Bool) → is_text_less b.name a.name ≡ true → bytes_eq a.name b.name ≡ c → bytes_eq a.name b.name ≡ false
    unlike false f g = g
    unlike true f g = absurd (let k : false ≡ true = sym (text_self a.name) ∙ ap (λ s. is_text_less s a.name) (same_text a.name b.name g) ∙ f in cc)

    by_tests : (p q : Bool) → is_text_less a.name b.name ≡ p → is_text_less b.name a.name ≡ q
        → p || (bytes_eq a.name b.name && nat_lt a.id b.id) ≡ p || (not q && (nat_lt a.id b.id || (not (nat_lt b.id a.id) && false)))
    by_tests true q e f = refl
    by_tests false true e f = ap (λ c. c && nat_lt a.id b.id) (unlike (bytes_eq a.name b.name) f refl)
    by_tests false false e f =
        ap (λ c. c && nat_lt a.id b.id) ((bytes_eq-Decides a.name b.name).1 (neither_before a.name b.name e f)) ∙ alone a.id b.id

-- by falling volume, then by this key
abbrev volume_first : (ℕ → ℕ) → BrokerRow → BrokerRow → Bool
volume_first volume a b = nat_lt (volume b.id) (volume a.id) || ((volume b.id == volume a.id) && is_key_less (name_key a) (name_key b))

keyed_order : (t : Tables) (sector : Text) (a b : BrokerRow) → is_before_by_volume t sector a b ≡ volume_first (value_of_sector_requests_of_broker t sector) a b
keyed_order t sector a b =
    ap (λ c. nat_lt (value_of_sector_requests_of_broker t sector b.id) (value_of_sector_requests_of_broker t sector a.id)
    || ((value_of_sector_requests_of_broker t sector b.id == value_of_sector_requests_of_broker t sector a.id) && c)) (by_name a b)

number_splits : (x y z : ℕ) (p q r : Bool) → (p ≡ true → q ≡ false → r ≡ true) → nat_lt x z || ((x == z) && p) ≡ true → nat_lt y z || ((y == z) && q) ≡ false
    → nat_lt x y || ((x == y) && r) ≡ true
number_splits x y z p q r f g h = grind (arith, nat_tests)

splits : (t : Tables) (sector : Text) → Splits (is_before_by_volume t sector)
splits t sector x y z g h =
    keyed_order t sector y x
    ∙ number_splits (value_of_sector_requests_of_broker t sector x.id) (value_of_sector_requests_of_broker t sector y.id) (value_of_sector_requests_of_broker t sector z.id)
    (is_key_less (name_key z) (name_key x)) (is_key_less (name_key z) (name_key y)) (is_key_less (name_key y) (name_key x))
    (key_splits (name_key x) (name_key y) (name_key z)) (sym (keyed_order t sector z x) ∙ g) (sym (keyed_order t sector z y) ∙ h)

number_apart : (m n : ℕ) (p q : Bool) → p ≡ not q → nat_lt n m || ((n == m) && p) ≡ not (nat_lt m n || ((m == n) && q))
number_apart m n p q h = grind (arith, nat_tests)

keys_part : (j k : List KeyPart) → (j ≡ k → ⊥) → is_key_less j k ≡ not (is_key_less k j)
keys_part j k h = by_tests (is_key_less j k) (is_key_less k j) refl refl
  where
    by_tests : (p q : Bool) → is_key_less j k ≡ p → is_key_less k j ≡ q → p ≡ not q
    by_tests true true e f = absurd (let g : false ≡ true = sym (key_one_way j k e) ∙ f in cc)
    by_tests true false e f = refl
    by_tests false true e f = refl
    by_tests false false e f = absurd (h (key_total j k e f))

second_number : (s t : Text) (m n : ℕ) → word s ∷ number m ∷ [] ≡ word t ∷ number n ∷ [] → number m ∷ [] ≡ number n ∷ []
second_number s t m n e = cc

apart : (t : Tables) (sector : Text) (rows : List BrokerRow) → Climbs broker_key rows → AllApart (is_before_by_volume t sector) rows
apart t sector [] c = tt
apart t sector (b ∷ rows) c = (others rows c.0, apart t sector rows c.1)
  where
    one : (d : BrokerRow) → is_key_less (broker_key b) (broker_key d) ≡ true → is_before_by_volume t sector b d ≡ not (is_before_by_volume t sector d b)
    one d h =
        keyed_order t sector b d
        ∙ number_apart (value_of_sector_requests_of_broker t sector b.id) (value_of_sector_requests_of_broker t sector d.id)
        (is_key_less (name_key b) (name_key d)) (is_key_less (name_key d) (name_key b))
        (keys_part (name_key b) (name_key d) (λ e. not_itself (broker_key b) (broker_key d) (second_number b.name d.name b.id d.id e) h))
        ∙ ap not (sym (keyed_order t sector d b))

    others : (ds : List BrokerRow) → AllByRecursion (λ d. is_key_less (broker_key b) (broker_key d) ≡ true) ds
        → AllByRecursion (λ d. is_before_by_volume t sector b d ≡ not (is_before_by_volume t sector d b)) ds
    others [] h = tt
    others (d ∷ ds) h = (one d h.0, others ds h.1)

brokers_apart : (base : Base) (t : Tables) (sector : Text) → BooksInvariant base → AuditInvariant base → AllApart (is_before_by_volume t sector) (sheets base).brokers
brokers_apart base t sector books sound = apart t sector (sheets base).brokers (key_parts (sheets base) (keys_of base books sound)).brokers

-- ---- the view

-- whether a broker has one of some names, and something to trade
abbrev is_shown : Tables → Text → List Text → BrokerRow → Bool
is_shown t sector names b = list_any (bytes_eq b.name) names && nat_lt 0 (length (sector_requests_of_broker t sector b.id))

same_shown : (base : Base) (sector : Text) (names : List Text) (b : BrokerRow) → BooksInvariant base → is_shown (sheets base) sector names b ≡ is_shown (tables_of_base base) sector names b
same_shown base sector names b books i = list_any (bytes_eq b.name) names && nat_lt 0 (length (same_in base sector b.id books i))

same_by : (base : Base) (sector : Text) (a b : BrokerRow) → BooksInvariant base → is_before_by_volume (sheets base) sector a b ≡ is_before_by_volume (tables_of_base base) sector a b
same_by base sector a b books i =
    let volume : ℕ → ℕ = λ broker. sum_by (λ (r : RequestRow). r.qty * r.bid) (same_in base sector broker books i) in
    nat_lt (volume b.id) (volume a.id) || ((volume b.id == volume a.id) && (is_text_less a.name b.name || (bytes_eq a.name b.name && nat_lt a.id b.id)))

same_brokers : (base : Base) (sector : Text) (names : List Text) → BooksInvariant base → AuditInvariant base
    → sort_by (is_before_by_volume (tables_of_base base) sector) (filter (is_shown (tables_of_base base) sector names) (sheets base).brokers)
    ≡ sort_by (is_before_by_volume (tables_of_base base) sector) (filter (is_shown (tables_of_base base) sector names) (tables_of_base base).brokers)
unfolding tables_sorted_by_key
same_brokers base sector names books sound =
    sort_back (is_before_by_volume (tables_of_base base) sector) broker_key (is_shown (tables_of_base base) sector names) (tables_of_base base).brokers (splits (tables_of_base base) sector)
    (apart_filter (is_before_by_volume (tables_of_base base) sector) (is_shown (tables_of_base base) sector names) (sheets base).brokers (brokers_apart base (tables_of_base base) sector books sound))

pub same_volumes : (base : Base) (sector : Text) (names : List Text) → BooksInvariant base → AuditInvariant base
    → broker_volume_view (sheets base) sector names ≡ broker_volume_view (tables_of_base base) sector names
unfolding broker_volume_view
same_volumes base sector names books sound =
    let s : Tables = sheets base in
    let t : Tables = tables_of_base base in
    let record_in : Tables → BrokerRow → List Text = λ u b. b.name ∷ decimal b.id ∷ nonnegative_cents_text (value_of_sector_requests_of_broker u sector b.id) ∷ [] in
    ap (λ rows. map (record_in s) (sort_by (is_before_by_volume s sector) rows)) (same_rows (is_shown s sector names) (is_shown t sector names) s.brokers (λ b. same_shown base sector names b books))
    ∙ ap (map (record_in s)) (same_order (is_before_by_volume s sector) (is_before_by_volume t sector) (filter (is_shown t sector names) s.brokers) (λ a b. same_by base sector a b books))
    ∙ ap (map (record_in s)) (same_brokers base sector names books sound)
    ∙ same_map (record_in s) (record_in t) (sort_by (is_before_by_volume t sector) (filter (is_shown t sector names) t.brokers))
    (λ b i. b.name ∷ decimal b.id ∷ nonnegative_cents_text (sum_by (λ (r : RequestRow). r.qty * r.bid) (same_in base sector b.id books i)) ∷ [])

-- ---- read name by name

-- a broker has a name
abbrev has_name : Text → BrokerRow → Bool
has_name name b = bytes_eq b.name name

same_filtered : (name : Text) (names : List Text) → AllByRecursion (λ other. bytes_eq other name ≡ false) (filter (λ u. not (bytes_eq u name)) names)
same_filtered name [] = tt
same_filtered name (n ∷ names) = by_test (same_filtered name names) (bytes_eq n name) refl
  where
    by_test : AllByRecursion (λ other. bytes_eq other name ≡ false) (filter (λ u. not (bytes_eq u name)) names) → (b : Bool) → bytes_eq n name ≡ b
        → AllByRecursion (λ other. bytes_eq other name ≡ false) (cond (not b) (n ∷ filter (λ u. not (bytes_eq u name)) names) (filter (λ u. not (bytes_eq u name)) names))
    by_test ih true e = ih
    by_test ih false e = (e, ih)

-- of names of which each occurs once the first is none of the others, and the others occur once
tail_is : (name : Text) (names : List Text) → distinct_texts (name ∷ names) ≡ name ∷ names → filter (λ u. not (bytes_eq u name)) (distinct_texts names) ≡ names
tail_is name names e = tails name (filter (λ u. not (bytes_eq u name)) (distinct_texts names)) names e
  where
    tails : (x : Text) (xs ys : List Text) → x ∷ xs ≡ x ∷ ys → xs ≡ ys
    tails x xs ys e = cc

other_names : (name : Text) (names : List Text) → distinct_texts (name ∷ names) ≡ name ∷ names → AllByRecursion (λ other. bytes_eq other name ≡ false) names
other_names name names e = subst (AllByRecursion (λ other. bytes_eq other name ≡ false)) (tail_is name names e) (same_filtered name (distinct_texts names))

no_name : (name : Text) (names : List Text) (b : BrokerRow) → AllByRecursion (λ other. bytes_eq other name ≡ false) names → has_name name b ≡ true → list_any (λ other. has_name other b) names ≡ false
no_name name [] b h e = refl
no_name name (n ∷ names) b h e = ap (λ c. c || list_any (λ other. has_name other b) names) (other (bytes_eq b.name n) refl) ∙ no_name name names b h.1 e
  where
    other : (c : Bool) → bytes_eq b.name n ≡ c → bytes_eq b.name n ≡ false
    other false f = f
    other true f = absurd (let k : false ≡ true = sym h.0 ∙ ap (λ s. bytes_eq s name) (sym (same_text b.name n f)) ∙ e in cc)

-- ---- names of which each occurs once

few_left : {X : Type 0} (p : X → Bool) (xs : List X) → length (filter p xs) ≤ length xs
few_left p [] = omega arith
few_left p (x ∷ xs) = by_test (p x) (few_left p xs)
  where
    by_test : (b : Bool) → length (filter p xs) ≤ length xs → length (cond b (x ∷ filter p xs) (filter p xs)) ≤ length (x ∷ xs)
    by_test true h = omega arith
    by_test false h = omega arith

all_left : {X : Type 0} (p : X → Bool) (xs : List X) → length xs ≤ length (filter p xs) → filter p xs ≡ xs
all_left p [] h = refl
all_left p (x ∷ xs) h = by_test (all_left p xs) (p x) h
  where
    by_test : (length xs ≤ length (filter p xs) → filter p xs ≡ xs) → (b : Bool) → length (x ∷ xs) ≤ length (cond b (x ∷ filter p xs) (filter p xs)) → cond b (x ∷ filter p xs) (filter p xs) ≡ x ∷ xs
    by_test ih true h = ap (λ ys. x ∷ ys) (ih (omega arith))
    by_test ih false h = let few = few_left p xs in absurd (omega arith)

few_distinct : (names : List Text) → length (distinct_texts names) ≤ length names
few_distinct [] = omega arith
few_distinct (n ∷ names) =
    let h = few_distinct names in
    let k = few_left (λ u. not (bytes_eq u n)) (distinct_texts names) in
    omega arith

tail_distinct : (name : Text) (names : List Text) → distinct_texts (name ∷ names) ≡ name ∷ names → distinct_texts names ≡ names
tail_distinct name names e =
    let rest : filter (λ u. not (bytes_eq u name)) (distinct_texts names) ≡ names = tail_is name names e in
    let same : length (filter (λ u. not (bytes_eq u name)) (distinct_texts names)) ≡ length names = ap length rest in
    let few = few_distinct names in
    sym (all_left (λ u. not (bytes_eq u name)) (distinct_texts names) (omega arith)) ∙ rest

names_exclude : (names : List Text) → distinct_texts names ≡ names → Excludes has_name names
names_exclude [] e = tt
names_exclude (name ∷ names) e = ((λ b h. no_name name names b (other_names name names e) h), names_exclude names (tail_distinct name names e))

-- the brokers of each name that have something to trade, name after name, stand in the order of the
-- view as all of these do
pub brokers_by_name : (base : Base) (sector : Text) (names : List Text) → BooksInvariant base → AuditInvariant base → distinct_texts names ≡ names
    → sort_by (is_before_by_volume (sheets base) sector)
    (flat_map (λ name. filter (λ b. nat_lt 0 (length (sector_requests_of_broker (sheets base) sector b.id))) (filter (λ b. bytes_eq b.name name) (sheets base).brokers)) names)
    ≡ sort_by (is_before_by_volume (sheets base) sector)
    (filter (λ b. list_any (bytes_eq b.name) names && nat_lt 0 (length (sector_requests_of_broker (sheets base) sector b.id))) (sheets base).brokers)
brokers_by_name base sector names books sound e =
    sort_gathered_of (is_before_by_volume (sheets base) sector) has_name (λ b. nat_lt 0 (length (sector_requests_of_broker (sheets base) sector b.id))) names (sheets base).brokers
    (splits (sheets base) sector) (brokers_apart base (sheets base) sector books sound) (names_exclude names e)
