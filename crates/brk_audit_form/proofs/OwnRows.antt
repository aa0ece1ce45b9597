-- Trades with at most one cash row each.
use Rattle.std.proofs.Common.{◌≡◌, ℕ, ◌+◌, ◌<◌, ◌==◌, Bool, true, false, List, [], ◌∷◌, ◌++◌, refl, sym, ◌∙◌, ap, map, take, drop, length, get_or, append_assoc, Option, Some, None, ⊎_elim}
use Rattle.std.specs.Prelude.{◌&&◌, ◌||◌, not, option_to_list}
use Rattle.std.specs.Option.{option_map_or}
use Rattle.std.proofs.lemmas.Bool.{and_cases, and_from, and_left, and_right, cases_eq, eq-eqb, ne_eqb, not-false, or_cases, or_left, or_right}
use Rattle.std.proofs.lemmas.List.{append-nil, take-append-drop, take_more}
use Rattle.brk_model.specs.Form.{trade_ids_of_cash_rows}
use Rattle.brk_model.specs.Lists.{all_distinct, contains_number}
use Rattle.brk_ref.specs.Rows.{abstract_cash_row}
use Rattle.brk_ref.specs.declared.cash_row.CashRow.{CashRow}

false_true : {A : Type 0} → false ≡ true → A
false_true e = absurd (cc)

-- ---- numbers, and one more

or_false : (b : Bool) → b || false ≡ b
or_false true = refl
or_false false = refl

contains_more : (q : ℕ) (ns : List ℕ) (n : ℕ) → contains_number q (ns ++ n ∷ []) ≡ contains_number q ns || (n == q)
contains_more q [] n = or_false (n == q)
contains_more q (m ∷ ns) n = ap (λ b. (m == q) || b) (contains_more q ns n) ∙ or_thrice (m == q) (contains_number q ns) (n == q)
  where
    or_thrice : (a b c : Bool) → a || (b || c) ≡ a || b || c
    or_thrice true b c = refl
    or_thrice false b c = refl

contains_front : (q : ℕ) (ms ns : List ℕ) → contains_number q ms ≡ true → contains_number q (ms ++ ns) ≡ true
contains_front q [] ns e = false_true e
contains_front q (m ∷ ms) ns e =
    ⊎_elim (λ h. or_left (m == q) (contains_number q (ms ++ ns)) h) (λ h. or_right (m == q) (contains_number q (ms ++ ns)) (contains_front q ms ns h))
    (or_cases (m == q) (contains_number q ms) e)

distinct_more : (ns : List ℕ) (n : ℕ) → all_distinct (ns ++ n ∷ []) ≡ all_distinct ns && not (contains_number n ns)
distinct_more [] n = refl
distinct_more (m ∷ ns) n =
    (λ i. not (contains_more m ns n i) && distinct_more ns n i)
    ∙ ap (λ b. not (contains_number m ns || b) && (all_distinct ns && not (contains_number n ns))) (turned m n)
    ∙ moved (contains_number m ns) (m == n) (all_distinct ns) (contains_number n ns)
  where
    turned : (m n : ℕ) → (n == m) ≡ (m == n)
    turned m n = ⊎_elim (λ e. eq-eqb n m (sym e) ∙ sym (eq-eqb m n e)) (λ ne. ne_eqb n m (λ e. ne (sym e)) ∙ sym (ne_eqb m n ne)) (cases_eq m n)

    moved : (a e d b : Bool) → not (a || e) && (d && not b) ≡ not a && d && not (e || b)
    moved true e d b = refl
    moved false true true b = refl
    moved false true false b = refl
    moved false false d b = refl

not_distinct_front : (ms ns : List ℕ) → all_distinct ms ≡ false → all_distinct (ms ++ ns) ≡ false
not_distinct_front [] ns e = false_true (sym e)
not_distinct_front (m ∷ ms) ns e =
    ⊎_elim
    (λ h. and_left (not (contains_number m (ms ++ ns))) (all_distinct (ms ++ ns)) (ap not (contains_front m ms ns (not-false (contains_number m ms) h))))
    (λ h. and_right (not (contains_number m (ms ++ ns))) (all_distinct (ms ++ ns)) (not_distinct_front ms ns h))
    (and_cases (not (contains_number m ms)) (all_distinct ms) e)

-- ---- the trades of rows

abbrev pub trades : List CashRow → List ℕ
trades rows = trade_ids_of_cash_rows (map abstract_cash_row rows)

trades-append : (rs qs : List CashRow) → trades (rs ++ qs) ≡ trades rs ++ trades qs
trades-append [] qs = refl
trades-append (r ∷ rs) qs = ap (λ ns. option_to_list r.trade ++ ns) (trades-append rs qs) ∙ sym (append_assoc (option_to_list r.trade) (trades rs) (trades qs))

trades_more : (rs : List CashRow) (i : ℕ) (r : CashRow) → i < length rs → r ≡ get_or rs i r → trades (take (i + 1) rs) ≡ trades (take i rs) ++ option_to_list r.trade
trades_more rs i r l e =
    ap trades (take_more rs i r l ∙ ap (λ k. take i rs ++ k ∷ []) (sym e)) ∙ trades-append (take i rs) (r ∷ []) ∙ ap (λ ns. trades (take i rs) ++ ns) (append-nil (option_to_list r.trade))

-- what is seen after one more row
pub seen_more : (rs : List CashRow) (i : ℕ) (r : CashRow) (q : ℕ) (was is : Bool) → i < length rs → r ≡ get_or rs i r
    → was ≡ contains_number q (trades (take i rs)) → is ≡ was || option_map_or (λ id. id == q) r.trade false → is ≡ contains_number q (trades (take (i + 1) rs))
seen_more rs i r q was is l e f g =
    g ∙ ap (λ b. b || option_map_or (λ id. id == q) r.trade false) f ∙ by_trade r.trade (trades (take i rs)) ∙ sym (ap (contains_number q) (trades_more rs i r l e))
  where
    by_trade : (o : Option ℕ) (ns : List ℕ) → contains_number q ns || option_map_or (λ id. id == q) o false ≡ contains_number q (ns ++ option_to_list o)
    by_trade (Some id) ns = sym (contains_more q ns id)
    by_trade None ns = or_false (contains_number q ns) ∙ ap (contains_number q) (sym (append-nil ns))

-- trades stay apart after a row of a new one
pub own_more : (rs : List CashRow) (i : ℕ) (r : CashRow) (was : ℕ → Bool) → i < length rs → r ≡ get_or rs i r → ((q : ℕ) → was q ≡ contains_number q (trades (take i rs)))
    → not (option_map_or was r.trade false) ≡ true → all_distinct (trades (take i rs)) ≡ true → all_distinct (trades (take (i + 1) rs)) ≡ true
own_more rs i r was l e f g d = ap all_distinct (trades_more rs i r l e) ∙ by_trade r.trade (trades (take i rs)) f g d
  where
    by_trade : (o : Option ℕ) (ns : List ℕ) → ((q : ℕ) → was q ≡ contains_number q ns) → not (option_map_or was o false) ≡ true → all_distinct ns ≡ true → all_distinct (ns ++ option_to_list o) ≡ true
    by_trade (Some id) ns f n d = distinct_more ns id ∙ and_from (all_distinct ns) (not (contains_number id ns)) d (sym (ap not (f id)) ∙ n)
    by_trade None ns f n d = ap all_distinct (append-nil ns) ∙ d

-- and they are not apart where a row is of one that was seen
pub not_own : (rs : List CashRow) (i : ℕ) (r : CashRow) (was : ℕ → Bool) → i < length rs → r ≡ get_or rs i r → ((q : ℕ) → was q ≡ contains_number q (trades (take i rs)))
    → not (option_map_or was r.trade false) ≡ false → all_distinct (trades rs) ≡ false
not_own rs i r was l e f g =
    ap (λ qs. all_distinct (trades qs)) (sym (take-append-drop (i + 1) rs)) ∙ ap all_distinct (trades-append (take (i + 1) rs) (drop (i + 1) rs))
    ∙ not_distinct_front (trades (take (i + 1) rs)) (trades (drop (i + 1) rs)) (ap all_distinct (trades_more rs i r l e) ∙ by_trade r.trade (trades (take i rs)) f g)
  where
    by_trade : (o : Option ℕ) (ns : List ℕ) → ((q : ℕ) → was q ≡ contains_number q ns) → not (option_map_or was o false) ≡ false → all_distinct (ns ++ option_to_list o) ≡ false
    by_trade (Some id) ns f n = distinct_more ns id ∙ and_right (all_distinct ns) (not (contains_number id ns)) (sym (ap not (f id)) ∙ n)
    by_trade None ns f n = false_true (sym n)
