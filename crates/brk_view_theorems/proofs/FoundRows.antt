-- The row that is found by a key is the only one with this key, and trades that are read id by id
-- are all trades with these ids.
use Rattle.std.proofs.Common.{◌≡◌, ℕ, ◌==◌, List, [], ◌∷◌, Bool, true, false, not, refl, sym, ap, subst, ◌∙◌, filter, find, arith}
use Rattle.std.specs.Prelude.{◌&&◌, ◌||◌, flat_map, nat_lt, option_to_list}
use Rattle.std.specs.List.{AllByRecursion, list_any}
use Rattle.std.proofs.lemmas.Bool.{eqb-true}
use Rattle.std.proofs.lemmas.Bool.Decides.{nat_tests}
use Rattle.brk_model.specs.Base.{Base}
use Rattle.brk_model.specs.Derived.{postings_sorted_by_stamp, postings_of_base}
use Rattle.brk_model.specs.Joins.{trade_rows_oldest_first}
use Rattle.brk_model.specs.Keys.{account_key, customer_key, number, settlement_key, trade_key}
use Rattle.brk_model.specs.Lists.{all_distinct, contains_number, is_pair_less}
use Rattle.brk_model.specs.LookupView.{is_cash_row_of_trade}
use Rattle.brk_model.specs.Sheets.{sheets, tables_sorted_by_key}
use Rattle.brk_model.specs.Tables.{TradeRow, tables_of_base_in_schema}
use Rattle.brk_audit_theorems.proofs.Again.{found_first}
use Rattle.brk_audit_theorems.proofs.UpgradedBase.{IsShort, posted_once, short_rows}
use Rattle.brk_audit_theorems.proofs.Climbs.{Climbs}
use Rattle.brk_audit_theorems.proofs.Parts.{KeyParts, key_parts}
use Rattle.brk_audit_theorems.specs.Sound.{AuditInvariant}
use Rattle.brk_audit_theorems.proofs.FormKeys.{keys_of}
use Rattle.brk_trade_books.specs.Books.{BooksInvariant}
use Rattle.brk_trade_books.proofs.Bools.{numbers_back}
use Rattle.brk_trade_books.proofs.Order.{Splits}
use Rattle.brk_trade_books.proofs.Postings.{numbered_stay}
use Rattle.brk_view_theorems.proofs.Gathering.{Excludes, same_pieces, sort_gathered}
use Rattle.brk_view_theorems.proofs.OneRow.{found_is_all}
use Rattle.brk_view_theorems.proofs.Sorting.{AllApart, same_rows}

parts : (base : Base) → BooksInvariant base → AuditInvariant base → KeyParts (sheets base)
parts base books sound = key_parts (sheets base) (keys_of base books sound)

pub settlement_alone : (base : Base) (id : ℕ) → BooksInvariant base → AuditInvariant base
    → option_to_list (find (λ s. s.trade == id) (sheets base).settlements) ≡ filter (λ s. s.trade == id) (sheets base).settlements
settlement_alone base id books sound =
    found_is_all settlement_key (λ s. s.trade == id) (number id ∷ []) (sheets base).settlements (λ s e. ap (λ n. number n ∷ []) (eqb-true s.trade id e)) (parts base books sound).settlements

-- of rows of which at most one passes, the one that is found is all
found_of_short : {X : Type 0} (p : X → Bool) (xs : List X) → IsShort (filter p xs) → option_to_list (find p xs) ≡ filter p xs
found_of_short {X = X} p xs h = ap option_to_list (found_first p xs) ∙ first_of_short (filter p xs) h
  where
    first_of_short : (ys : List X) → IsShort ys → option_to_list (find (λ x. true) ys) ≡ ys
    first_of_short [] h = refl
    first_of_short (y ∷ []) h = refl
    first_of_short (y ∷ z ∷ ys) h = absurd h

pub cash_alone : (base : Base) (id : ℕ) → BooksInvariant base → AuditInvariant base
    → option_to_list (find (is_cash_row_of_trade id) (sheets base).moves) ≡ filter (is_cash_row_of_trade id) (sheets base).moves
unfolding tables_sorted_by_key tables_of_base_in_schema
cash_alone base id books sound =
    found_of_short (is_cash_row_of_trade id) (sheets base).moves
    (subst (λ rows. IsShort (filter (is_cash_row_of_trade id) rows)) (sym (numbered_stay 1 (postings_sorted_by_stamp (postings_of_base base))))
    (short_rows id 1 (postings_sorted_by_stamp (postings_of_base base)) (posted_once base id books)))

pub account_alone : (base : Base) (id : ℕ) → BooksInvariant base → AuditInvariant base
    → option_to_list (find (λ a. a.id == id) (sheets base).accounts) ≡ filter (λ a. a.id == id) (sheets base).accounts
account_alone base id books sound =
    found_is_all account_key (λ a. a.id == id) (number id ∷ []) (sheets base).accounts (λ a e. ap (λ n. number n ∷ []) (eqb-true a.id id e)) (parts base books sound).accounts

pub customer_alone : (base : Base) (id : ℕ) → BooksInvariant base → AuditInvariant base
    → option_to_list (find (λ c. c.id == id) (sheets base).customers) ≡ filter (λ c. c.id == id) (sheets base).customers
customer_alone base id books sound =
    found_is_all customer_key (λ c. c.id == id) (number id ∷ []) (sheets base).customers (λ c e. ap (λ n. number n ∷ []) (eqb-true c.id id e)) (parts base books sound).customers

-- Of the rows with a key, the one that is found is all.
pub ruleset rows_alone = (settlement_alone, cash_alone, account_alone, customer_alone)

trade_alone : (base : Base) (id : ℕ) → BooksInvariant base → AuditInvariant base → option_to_list (find (λ t. t.id == id) (sheets base).trades) ≡ filter (λ t. t.id == id) (sheets base).trades
trade_alone base id books sound =
    found_is_all trade_key (λ t. t.id == id) (number id ∷ []) (sheets base).trades (λ t e. ap (λ n. number n ∷ []) (eqb-true t.id id e)) (parts base books sound).trades

-- ---- trades by their ids, the oldest first

abbrev older : TradeRow → TradeRow → Bool
older a b = is_pair_less a.stamp b.stamp a.id b.id

rising_splits : (x y z x' y' z' : ℕ) → is_pair_less z x z' x' ≡ true → is_pair_less z y z' y' ≡ false → is_pair_less y x y' x' ≡ true
rising_splits x y z x' y' z' g h = grind (arith, nat_tests)

splits : Splits older
splits x y z g h = rising_splits x.stamp y.stamp z.stamp x.id y.id z.id g h

ids_apart : (a b i j : ℕ) → nat_lt i j || (not (nat_lt j i) && false) ≡ true → is_pair_less a b i j ≡ not (is_pair_less b a j i)
ids_apart a b i j h = grind (arith, nat_tests)

apart : (rows : List TradeRow) → Climbs trade_key rows → AllApart older rows
apart [] c = tt
apart (t ∷ rows) c = (others rows c.0, apart rows c.1)
  where
    others : (us : List TradeRow) → AllByRecursion (λ u. nat_lt t.id u.id || (not (nat_lt u.id t.id) && false) ≡ true) us → AllByRecursion (λ u. older t u ≡ not (older u t)) us
    others [] h = tt
    others (u ∷ us) h = (ids_apart t.stamp u.stamp t.id u.id h.0, others us h.1)

-- a trade has an id
abbrev has_id : ℕ → TradeRow → Bool
has_id id t = t.id == id

any_back : (n : ℕ) (ids : List ℕ) → list_any (λ id. n == id) ids ≡ contains_number n ids
any_back n [] = refl
any_back n (id ∷ ids) = λ i. numbers_back n id i || any_back n ids i

ids_exclude : (ids : List ℕ) → all_distinct ids ≡ true → Excludes has_id ids
ids_exclude [] e = tt
ids_exclude (id ∷ ids) e = (
  (λ t h. ap (λ n. list_any (λ j. n == j) ids) (eqb-true t.id id h) ∙ any_back id ids ∙ (both (contains_number id ids) (all_distinct ids) e).0),
  ids_exclude
      ids (both (contains_number id ids) (all_distinct ids) e).1,
)
  where
    both : (a b : Bool) → not a && b ≡ true → (a ≡ false) × (b ≡ true)
    both true b h = cc
    both false b h = (refl, h)

pub trades_by_id : (base : Base) (ids : List ℕ) → BooksInvariant base → AuditInvariant base → all_distinct ids ≡ true
    → trade_rows_oldest_first (flat_map (λ id. option_to_list (find (λ t. t.id == id) (sheets base).trades)) ids)
    ≡ trade_rows_oldest_first (filter (λ t. contains_number t.id ids) (sheets base).trades)
trades_by_id base ids books sound e =
    ap trade_rows_oldest_first
    (same_pieces (λ id. option_to_list (find (λ t. t.id == id) (sheets base).trades)) (λ id. filter (has_id id) (sheets base).trades) ids
    (λ id. trade_alone base id books sound))
    ∙ sort_gathered older has_id ids (sheets base).trades splits (apart (sheets base).trades (parts base books sound).trades) (ids_exclude ids e)
    ∙ ap trade_rows_oldest_first (same_rows (λ t. list_any (λ id. t.id == id) ids) (λ t. contains_number t.id ids) (sheets base).trades (λ t. any_back t.id ids))
