-- A feed exceeds the limit of a volume in the base exactly if it does in the tables.
use Rattle.std.proofs.Common.{◌≡◌, ◌≤◌, ℕ, ◌+◌, Bool, true, false, cond, List, [], ◌∷◌, refl, sym, ◌∙◌, ap, subst, filter, arith, Some}
use Rattle.std.specs.Prelude.{◌||◌, ◌<◌, find, is_some, option_map, nat_lt, sum_by, bytes_eq}
use Rattle.std.specs.Option.{option_map_or}
use Rattle.std.specs.List.{AllByRecursion, list_any}
use Rattle.std.proofs.lemmas.Bool.Decides.{nat_tests}
use Rattle.std.proofs.lemmas.List.Sums.{sum_by-cons}
use Rattle.std.proofs.lemmas.Slice.Eq.{bytes_eq-Decides}
use Rattle.brk_money.specs.Spelling.{Text}
use Rattle.brk_model.specs.Limits.{greatest_amount}
use Rattle.brk_model.specs.Lists.{update_where}
use Rattle.brk_model.specs.Records.{Security}
use Rattle.brk_model.specs.Base.{Base, security_with_symbol}
use Rattle.brk_model.specs.Sheets.{sheets}
use Rattle.brk_model.specs.Commands.{Tick}
use Rattle.brk_model.specs.Feed.{security_after_tick, base_after_tick, base_after_ticks}
use Rattle.brk_trade_books.specs.Books.{BooksInvariant, HasDistinctSymbols, HasVolumeWithinLimit}
use Rattle.brk_trade_books.specs.TradeReads.{volume_of_symbol}
use Rattle.brk_trade_books.specs.Trading.{tables_after_feed}
use Rattle.brk_trade_books.specs.Ticks.{is_symbol_volume_above_limit, tick_quantity_sum_of_symbol}
use Rattle.brk_trade_books.proofs.Bools.{both_ways, same_text, texts_back}
use Rattle.brk_trade_books.proofs.Places.{FoundAt, find-at, some_of}
use Rattle.brk_trade_books.proofs.TradeReading.{reads_volume}
use Rattle.brk_trade_books.proofs.Feeding.{KnowsTicks, fed_rows}

-- ---- lists

pub any-same : {X : Type 0} (p q : X → Bool) (xs : List X) → ((x : X) → p x ≡ q x) → list_any p xs ≡ list_any q xs
any-same p q [] h = refl
any-same p q (x ∷ xs) h = λ i. h x i || any-same p q xs h i

any-updated : {X : Type 0} (q p : X → Bool) (f : X → X) (xs : List X) → list_any q (update_where p f xs) ≡ list_any (λ x. q (cond (p x) (f x) x)) xs
any-updated q p f [] = refl
any-updated q p f (x ∷ xs) = ap (λ b. q (cond (p x) (f x) x) || b) (any-updated q p f xs)

or_true : (b : Bool) → b || true ≡ true
or_true true = refl
or_true false = refl

-- one that passes, with what holds of each
any-one : {X : Type 0} (P : X → Type 0) (p : X → Bool) (xs : List X) → AllByRecursion P xs → list_any p xs ≡ true → (x : X) × (P x × (p x ≡ true))
any-one P p [] h e = absurd (cc)
any-one {X = X} P p (x ∷ xs) h e = by_test (any-one P p xs h.1) (p x) refl
  where
    by_test : (list_any p xs ≡ true → (x : X) × (P x × (p x ≡ true))) → (b : Bool) → p x ≡ b → (x : X) × (P x × (p x ≡ true))
    by_test ih true f = (x, (h.0, f))
    by_test ih false f = ih (sym (ap (λ b. b || list_any p xs) f) ∙ e)

any-more : {X : Type 0} (p q : X → Bool) (xs : List X) → ((x : X) → p x ≡ true → q x ≡ true) → list_any p xs ≡ true → list_any q xs ≡ true
any-more p q [] h e = e
any-more p q (x ∷ xs) h e = by_test (any-more p q xs h) (p x) refl
  where
    by_test : (list_any p xs ≡ true → list_any q xs ≡ true) → (b : Bool) → p x ≡ b → q x || list_any q xs ≡ true
    by_test ih true f = ap (λ b. b || list_any q xs) (h x f)
    by_test ih false f = ap (λ b. q x || b) (ih (sym (ap (λ b. b || list_any p xs) f) ∙ e)) ∙ or_true (q x)

any-found : {X : Type 0} (r p : X → Bool) (xs : List X) (x : X) → find r xs ≡ Some x → p x ≡ true → list_any p xs ≡ true
any-found r p [] x e f = absurd (cc)
any-found {X = X} r p (y ∷ xs) x e f = by_test (any-found r p xs x) (r y) refl
  where
    by_test : (find r xs ≡ Some x → p x ≡ true → list_any p xs ≡ true) → (b : Bool) → r y ≡ b → p y || list_any p xs ≡ true
    by_test ih true g = let k : Some y ≡ Some x = rw g at e in let j : y ≡ x = cc in ap (λ z. p z || list_any p xs) j ∙ ap (λ b. b || list_any p xs) f
    by_test ih false g = ap (λ b. p y || b) (ih (rw g at e) f) ∙ or_true (p y)

-- ---- the volumes after ticks

-- how much of a symbol a tick and those after it trade
fed_next : (symbol : Text) (tick : Tick) (ticks : List Tick) (b : Bool) → bytes_eq tick.symbol symbol ≡ b
    → tick_quantity_sum_of_symbol symbol (tick ∷ ticks)
    ≡ cond b (tick.qty + tick_quantity_sum_of_symbol symbol ticks) (tick_quantity_sum_of_symbol symbol ticks)
fed_next symbol tick ticks true e =
    ap (λ b. sum_by (λ u. u.qty) (cond b (tick ∷ filter (λ u. bytes_eq u.symbol symbol) ticks) (filter (λ u. bytes_eq u.symbol symbol) ticks))) e
    ∙ sum_by-cons (λ u. u.qty) tick (filter (λ u. bytes_eq u.symbol symbol) ticks)
fed_next symbol tick ticks false e = ap (λ b. sum_by (λ u. u.qty) (cond b (tick ∷ filter (λ u. bytes_eq u.symbol symbol) ticks) (filter (λ u. bytes_eq u.symbol symbol) ticks))) e

-- the volume of a security with all ticks
abbrev volume_with : List Tick → Security → ℕ
volume_with ticks s = s.volume + tick_quantity_sum_of_symbol s.symbol ticks

grown : (stamp : ℕ) (tick : Tick) (ticks : List Tick) (s : Security) → volume_with ticks (cond (bytes_eq s.symbol tick.symbol) (security_after_tick stamp tick s) s) ≡ volume_with (tick ∷ ticks) s
grown stamp tick ticks s = by_test (bytes_eq s.symbol tick.symbol) refl
  where
    by_test : (b : Bool) → bytes_eq s.symbol tick.symbol ≡ b → volume_with ticks (cond (bytes_eq s.symbol tick.symbol) (security_after_tick stamp tick s) s) ≡ volume_with (tick ∷ ticks) s
    by_test true e =
        let f = fed_next s.symbol tick ticks true (texts_back tick.symbol s.symbol ∙ e) in
        ap (λ b. volume_with ticks (cond b (security_after_tick stamp tick s) s)) e ∙ added s.volume tick.qty (tick_quantity_sum_of_symbol s.symbol ticks) ∙ ap (λ n. s.volume + n) (sym f)
      where
        added : (a b c : ℕ) → (a + b) + c ≡ a + (b + c)
        added a b c = omega arith
    by_test false e =
        let f = fed_next s.symbol tick ticks false (texts_back tick.symbol s.symbol ∙ e) in
        ap (λ b. volume_with ticks (cond b (security_after_tick stamp tick s) s)) e ∙ ap (λ n. s.volume + n) (sym f)

exceeds_after : (base : Base) (stamp : ℕ) (ticks : List Tick)
    → list_any (λ s. nat_lt greatest_amount s.volume) (base_after_ticks stamp base ticks).securities ≡ list_any (λ s. nat_lt greatest_amount (volume_with ticks s)) base.securities
unfolding base_after_ticks
exceeds_after base stamp [] = any-same _ _ base.securities (λ s. ap (nat_lt greatest_amount) (from_zero s.volume))
  where
    from_zero : (n : ℕ) → n ≡ n + 0
    from_zero n = omega arith
exceeds_after base stamp (tick ∷ ticks) =
    exceeds_after (base_after_tick stamp base tick) stamp ticks
    ∙ any-updated (λ s. nat_lt greatest_amount (volume_with ticks s)) (λ s. bytes_eq s.symbol tick.symbol) (security_after_tick stamp tick) base.securities
    ∙ any-same _ _ base.securities (λ s. ap (nat_lt greatest_amount) (grown stamp tick ticks s))

-- ---- by the symbols of ticks

-- a security is the one that is found by its symbol
pub each_found : (ss : List Security) → HasDistinctSymbols ss → AllByRecursion (λ s. find (λ u. bytes_eq u.symbol s.symbol) ss ≡ Some s) ss
each_found [] d = tt
each_found (s ∷ ss) d = (
  ap (λ b. cond b (Some s) (find (λ u. bytes_eq u.symbol s.symbol) ss)) ((bytes_eq-Decides s.symbol s.symbol).1 refl),
  behind ss d.0 (each_found ss d.1),
)
  where
    behind : (us : List Security) → AllByRecursion (λ u. bytes_eq u.symbol s.symbol ≡ false) us → AllByRecursion (λ u. find (λ v. bytes_eq v.symbol u.symbol) ss ≡ Some u) us
        → AllByRecursion (λ u. find (λ v. bytes_eq v.symbol u.symbol) (s ∷ ss) ≡ Some u) us
    behind [] g h = tt
    behind (u ∷ us) g h = (ap (λ b. cond b (Some s) (find (λ v. bytes_eq v.symbol u.symbol) ss)) (texts_back s.symbol u.symbol ∙ g.0) ∙ h.0, behind us g.1 h.1)

pub All-both : {X : Type 0} (P Q : X → Type 0) (xs : List X) → AllByRecursion P xs → AllByRecursion Q xs → AllByRecursion (λ x. P x × Q x) xs
All-both P Q [] g h = tt
All-both P Q (x ∷ xs) g h = ((g.0, h.0), All-both P Q xs g.1 h.1)

-- where a volume within the limit comes to exceed it, a tick is of its symbol
tick_of : (symbol : Text) (ticks : List Tick) → 0 < tick_quantity_sum_of_symbol symbol ticks → list_any (λ u. bytes_eq u.symbol symbol) ticks ≡ true
tick_of symbol [] h = absurd (none h)
  where
    none : 0 < 0 → ⊥
    none h = omega arith
tick_of symbol (u ∷ us) h = by_test (tick_of symbol us) (bytes_eq u.symbol symbol) refl
  where
    by_test : (0 < tick_quantity_sum_of_symbol symbol us → list_any (λ u. bytes_eq u.symbol symbol) us ≡ true) → (b : Bool) → bytes_eq u.symbol symbol ≡ b
        → bytes_eq u.symbol symbol || list_any (λ u. bytes_eq u.symbol symbol) us ≡ true
    by_test ih true e = ap (λ b. b || list_any (λ u. bytes_eq u.symbol symbol) us) e
    by_test ih false e = ap (λ b. b || list_any (λ u. bytes_eq u.symbol symbol) us) e ∙ ih (subst (λ n. 0 < n) (fed_next symbol u us false e) h)

some_fed : (volume qty : ℕ) → volume ≤ greatest_amount → nat_lt greatest_amount (volume + qty) ≡ true → 0 < qty
some_fed volume qty g h = more greatest_amount volume qty g h
  where
    more : (limit volume qty : ℕ) → volume ≤ limit → nat_lt limit (volume + qty) ≡ true → 0 < qty
    more limit volume qty g h = grind (arith, nat_tests)

volume_found : (base : Base) (s : Security) → security_with_symbol base s.symbol ≡ Some s → volume_of_symbol (sheets base) s.symbol ≡ s.volume
volume_found base s e = reads_volume base s.symbol ∙ ap (λ o. option_map_or (λ s. s.volume) o 0) e

pub reads_exceeds : (base : Base) (stamp : ℕ) (ticks : List Tick) → BooksInvariant base → KnowsTicks base ticks
    → list_any (is_symbol_volume_above_limit (sheets base) ticks) ticks ≡ list_any (λ s. nat_lt greatest_amount s.volume) (base_after_ticks stamp base ticks).securities
reads_exceeds base stamp ticks books known =
    sym (exceeds_after base stamp ticks ∙ both_ways _ _ to_ticks to_securities)
  where
    E : Security → Bool
    E s = nat_lt greatest_amount (volume_with ticks s)

    to_ticks : list_any E base.securities ≡ true → list_any (is_symbol_volume_above_limit (sheets base) ticks) ticks ≡ true
    to_ticks e =
        let one = any-one _ E base.securities
        (All-both HasVolumeWithinLimit (λ s. security_with_symbol base s.symbol ≡ Some s) base.securities books.volumes
        (each_found base.securities books.symbols)) e in
        let s : Security = one.0 in
        let volume : volume_of_symbol (sheets base) s.symbol ≡ s.volume = volume_found base s one.1.0.1 in
        let exceeds : nat_lt greatest_amount (volume_of_symbol (sheets base) s.symbol + tick_quantity_sum_of_symbol s.symbol ticks) ≡ true =
        ap (λ n. nat_lt greatest_amount (n + tick_quantity_sum_of_symbol s.symbol ticks)) volume ∙ one.1.1 in
        any-more (λ u. bytes_eq u.symbol s.symbol) (is_symbol_volume_above_limit (sheets base) ticks) ticks
        (λ u same. ap (λ symbol. nat_lt greatest_amount (volume_of_symbol (sheets base) symbol + tick_quantity_sum_of_symbol symbol ticks)) (same_text u.symbol s.symbol same) ∙ exceeds)
        (tick_of s.symbol ticks (some_fed s.volume (tick_quantity_sum_of_symbol s.symbol ticks) one.1.0.0 one.1.1))

    to_securities : list_any (is_symbol_volume_above_limit (sheets base) ticks) ticks ≡ true → list_any E base.securities ≡ true
    to_securities e =
        let one = any-one _ (is_symbol_volume_above_limit (sheets base) ticks) ticks known e in
        let u : Tick = one.0 in
        let found = some_of (security_with_symbol base u.symbol) one.1.0 in
        let s : Security = found.0 in
        let at : FoundAt Security (λ s. bytes_eq s.symbol u.symbol) s base.securities = find-at (λ s. bytes_eq s.symbol u.symbol) base.securities s found.1 in
        let symbol : s.symbol ≡ u.symbol = same_text s.symbol u.symbol at.passes in
        let volume : volume_of_symbol (sheets base) u.symbol ≡ s.volume = reads_volume base u.symbol ∙ ap (λ o. option_map_or (λ s. s.volume) o 0) found.1 in
        let exceeds : E s ≡ true = (λ i. nat_lt greatest_amount (sym volume i + tick_quantity_sum_of_symbol (symbol i) ticks)) ∙ one.1.1 in
        any-found (λ s. bytes_eq s.symbol u.symbol) E base.securities s found.1 exceeds

-- ---- the volume of a symbol after ticks

pub find-updated : {X : Type 0} (p q : X → Bool) (f : X → X) (xs : List X) → ((x : X) → p (f x) ≡ p x) → find p (update_where q f xs) ≡ option_map (λ x. cond (q x) (f x) x) (find p xs)
find-updated p q f [] h = refl
find-updated {X = X} p q f (x ∷ xs) h = ap (λ b. cond b (Some (cond (q x) (f x) x)) (find p (update_where q f xs))) (unseen (q x)) ∙ by_test (p x) (find-updated p q f xs h)
  where
    unseen : (b : Bool) → p (cond b (f x) x) ≡ p x
    unseen true = h x
    unseen false = refl

    by_test : (b : Bool) → find p (update_where q f xs) ≡ option_map (λ x. cond (q x) (f x) x) (find p xs)
        → cond b (Some (cond (q x) (f x) x)) (find p (update_where q f xs)) ≡ option_map (λ x. cond (q x) (f x) x) (cond b (Some x) (find p xs))
    by_test true e = refl
    by_test false e = e

volume_after : (base : Base) (stamp : ℕ) (ticks : List Tick) (symbol : Text) (s : Security) → security_with_symbol base symbol ≡ Some s
    → option_map_or (λ s. s.volume) (security_with_symbol (base_after_ticks stamp base ticks) symbol) 0 ≡ volume_with ticks s
unfolding base_after_ticks
volume_after base stamp [] symbol s e = ap (λ o. option_map_or (λ s. s.volume) o 0) e ∙ from_zero s.volume
  where
    from_zero : (n : ℕ) → n ≡ n + 0
    from_zero n = omega arith
volume_after base stamp (tick ∷ ticks) symbol s e =
    let next : Security = cond (bytes_eq s.symbol tick.symbol) (security_after_tick stamp tick s) s in
    volume_after (base_after_tick stamp base tick) stamp ticks symbol next
    (find-updated (λ s. bytes_eq s.symbol symbol) (λ s. bytes_eq s.symbol tick.symbol) (security_after_tick stamp tick) base.securities (λ s. refl)
    ∙ ap (option_map (λ s. cond (bytes_eq s.symbol tick.symbol) (security_after_tick stamp tick s) s)) e)
    ∙ grown stamp tick ticks s

pub volumes_grow : (base : Base) (stamp : ℕ) (ticks : List Tick) (symbol : Text) → BooksInvariant base → KnowsTicks base ticks → is_some (security_with_symbol base symbol) ≡ true
    → volume_of_symbol (tables_after_feed stamp ticks (sheets base)) symbol ≡ volume_of_symbol (sheets base) symbol + tick_quantity_sum_of_symbol symbol ticks
volumes_grow base stamp ticks symbol books known there =
    let found = some_of (security_with_symbol base symbol) there in
    let s : Security = found.0 in
    let at : FoundAt Security (λ s. bytes_eq s.symbol symbol) s base.securities = find-at (λ s. bytes_eq s.symbol symbol) base.securities s found.1 in
    let same : s.symbol ≡ symbol = same_text s.symbol symbol at.passes in
    let volume : volume_of_symbol (sheets base) symbol ≡ s.volume = reads_volume base symbol ∙ ap (λ o. option_map_or (λ s. s.volume) o 0) found.1 in
    ap (λ t. volume_of_symbol t symbol) (sym (fed_rows base stamp ticks (record { symbols = books.symbols; numbered = books.numbered; ways = books.ways }) known))
    ∙ reads_volume (base_after_ticks stamp base ticks) symbol ∙ volume_after base stamp ticks symbol s found.1
    ∙ (λ i. sym volume i + tick_quantity_sum_of_symbol (same i) ticks)
