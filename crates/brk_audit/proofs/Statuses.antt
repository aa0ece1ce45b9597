-- The statuses of a trade are valid exactly if its rows of TRADE_HISTORY, sorted by the code of the
-- status, are a valid sequence.
use Rattle.std.proofs.Common.{◌≡◌, ℕ, ◌<◌, ◌==◌, Bool, true, false, List, [], ◌∷◌, refl, sym, ◌∙◌, ap, map, arith}
use Rattle.std.specs.Prelude.{◌&&◌, ◌||◌, not, nat_lt}
use Rattle.std.specs.List.{AllByRecursion}
use Rattle.std.proofs.lemmas.Bool.{and_from, and_parts, eqb-true, ltb-true, le-ltb}
use Rattle.brk_money.specs.Kinds.{trade_status_code}
use Rattle.brk_money.specs.declared.status.Status.{Status}
use Rattle.brk_money.specs.declared.status.Status.TheVariants.{Completed, Submitted, Pending, Canceled}
use Rattle.brk_model.specs.Lists.{sort_by, sort_by_key}
use Rattle.brk_model.specs.Records.{StatusChange}
use Rattle.brk_model.specs.Tables.{Tables, TradeRow, HistoryRow, history_rows}
use Rattle.brk_model.specs.Joins.{history_rows_with_trade_id}
use Rattle.brk_model.specs.Keys.{word, is_key_less, rows_sorted_by_key, history_key}
use Rattle.brk_model.specs.Adopted.{status_changes_of_trade, trade_of_row}
use Rattle.brk_model.specs.Ways.{matches_last_status_change, is_strictly_ascending, is_valid_status_sequence, has_valid_status_history}
use Rattle.brk_trade_books.proofs.Same.{All-map}
use Rattle.brk_trade_books.proofs.LotReading.{all_pass}
use Rattle.brk_audit_theorems.proofs.Climbs.{Climbs, climbs_filter, stays}
use Rattle.brk_audit_theorems.proofs.Members.{sorted_each}
use Rattle.brk_audit_theorems.proofs.Marks.{no_more_ways}
use Rattle.brk_audit_theorems.proofs.AdoptedHistory.{own_rows}
use Rattle.brk_model_theorems.proofs.Conjunctions.{parts3}
use Rattle.brk_audit.specs.Statuses.{is_valid_history, has_last_change}

false_true : {A : Type 0} → false ≡ true → A
false_true e = absurd (cc)

-- a row of a trade's history
abbrev at : ℕ → Status → ℕ → HistoryRow
at id s x = record { trade = id; status = s; stamp = x }

abbrev mark : Status → ℕ → StatusChange
mark s x = record { stamp = x; status = s }

-- ---- rows of one trade stand by the codes of their statuses

by_code : (id : ℕ) (s u : Status) (x y : ℕ) → is_key_less (history_key (at id s x)) (history_key (at id u y)) ≡ is_key_less (word (trade_status_code s) ∷ []) (word (trade_status_code u) ∷ [])
by_code id s u x y =
    let e : nat_lt id id ≡ false = le-ltb id id (omega arith) in
    ap (λ b. b || (not b && is_key_less (word (trade_status_code s) ∷ []) (word (trade_status_code u) ∷ []))) e

put_over : (a b : HistoryRow) → is_key_less (history_key b) (history_key a) ≡ true → rows_sorted_by_key history_key (a ∷ b ∷ []) ≡ b ∷ a ∷ []
unfolding sort_by
put_over a b e = rw e refl

put_under : (a b : HistoryRow) → is_key_less (history_key b) (history_key a) ≡ false → rows_sorted_by_key history_key (a ∷ b ∷ []) ≡ a ∷ b ∷ []
unfolding sort_by
put_under a b e = rw e refl

-- the first goes between the last, which goes before it, and the second
put_three : (a b c : HistoryRow) → is_key_less (history_key c) (history_key b) ≡ true → is_key_less (history_key c) (history_key a) ≡ true
    → is_key_less (history_key b) (history_key a) ≡ false → rows_sorted_by_key history_key (a ∷ b ∷ c ∷ []) ≡ c ∷ a ∷ b ∷ []
unfolding sort_by
put_three a b c e f g = rw e (rw f (rw g refl))

-- ---- from marks that are a way to rows

one_goes : (r : TradeRow) (id : ℕ) (s : Status) (x : ℕ) → is_valid_status_sequence (s ∷ []) ≡ true → has_last_change r (at id s x) ≡ true → is_valid_history r (at id s x ∷ []) ≡ true
one_goes r id Submitted x w l = l
one_goes r id Pending x w l = l
one_goes r id _ x w l = false_true w

two_go : (r : TradeRow) (id : ℕ) (s u : Status) (x y : ℕ) → is_valid_status_sequence (s ∷ u ∷ []) ≡ true → nat_lt x y ≡ true → has_last_change r (at id u y) ≡ true
    → is_valid_history r (rows_sorted_by_key history_key (at id s x ∷ at id u y ∷ [])) ≡ true
two_go r id Submitted Completed x y w l e =
    ap (is_valid_history r) (put_over (at id Submitted x) (at id Completed y) (by_code id Completed Submitted y x)) ∙ and_from (nat_lt x y) (has_last_change r (at id Completed y)) l e
two_go r id Pending Canceled x y w l e =
    ap (is_valid_history r) (put_over (at id Pending x) (at id Canceled y) (by_code id Canceled Pending y x)) ∙ and_from (nat_lt x y) (has_last_change r (at id Canceled y)) l e
two_go r id Pending Submitted x y w l e =
    ap (is_valid_history r) (put_under (at id Pending x) (at id Submitted y) (by_code id Submitted Pending y x)) ∙ and_from (nat_lt x y) (has_last_change r (at id Submitted y)) l e
two_go r id _ _ x y w l e = false_true w

three_go : (r : TradeRow) (id : ℕ) (s u v : Status) (x y z : ℕ) → is_valid_status_sequence (s ∷ u ∷ v ∷ []) ≡ true → nat_lt x y ≡ true → nat_lt y z ≡ true
    → has_last_change r (at id v z) ≡ true
    → is_valid_history r (rows_sorted_by_key history_key (at id s x ∷ at id u y ∷ at id v z ∷ [])) ≡ true
three_go r id Pending Submitted Completed x y z w l m e =
    ap (is_valid_history r) (put_three (at id Pending x) (at id Submitted y) (at id Completed z)
    (by_code id Completed Submitted z y) (by_code id Completed Pending z x) (by_code id Submitted Pending y x))
    ∙ and_from (nat_lt x y && nat_lt y z) (has_last_change r (at id Completed z)) (and_from (nat_lt x y) (nat_lt y z) l m) e
three_go r id Submitted Completed v x y z w l m e = false_true w
three_go r id Submitted _ v x y z w l m e = false_true w
three_go r id _ _ _ x y z w l m e = false_true w

-- what a trade's right statuses say of its marks
record IsRightOf (r : TradeRow) (ms : List StatusChange) : Type 0 where
  way : is_valid_status_sequence (map (λ m. m.status) ms) ≡ true
  rising : is_strictly_ascending (map (λ m. m.stamp) ms) ≡ true
  last : matches_last_status_change r ms ≡ true

marks_go : (r : TradeRow) (id : ℕ) (ms : List StatusChange) → IsRightOf r ms → is_valid_history r (rows_sorted_by_key history_key (map (λ m. at id m.status m.stamp) ms)) ≡ true
unfolding sort_by
marks_go r id [] h = false_true h.way
marks_go r id (m ∷ []) h = one_goes r id m.status m.stamp h.way h.last
marks_go r id (m ∷ n ∷ []) h = two_go r id m.status n.status m.stamp n.stamp h.way (and_parts (nat_lt m.stamp n.stamp) true h.rising).0 h.last
marks_go r id (m ∷ n ∷ o ∷ []) h =
    let k = and_parts (nat_lt m.stamp n.stamp) (nat_lt n.stamp o.stamp && true) h.rising in
    three_go r id m.status n.status o.status m.stamp n.stamp o.stamp h.way k.0 (and_parts (nat_lt n.stamp o.stamp) true k.1).0 h.last
marks_go r id (m ∷ n ∷ o ∷ p ∷ ms) h = absurd (no_more_ways m.status n.status o.status p.status (map (λ m. m.status) ms) h.way)

-- ---- from rows that are a way to marks

before : (x y : ℕ) → nat_lt x y ≡ true → nat_lt y x ≡ false
before x y e = let l : x < y = ltb-true x y e in le-ltb y x (omega arith)

under : (m n : StatusChange) → nat_lt n.stamp m.stamp ≡ false → sort_by_key (λ m. m.stamp) (m ∷ n ∷ []) ≡ m ∷ n ∷ []
unfolding sort_by
under m n e = rw e refl

over : (m n : StatusChange) → nat_lt n.stamp m.stamp ≡ true → sort_by_key (λ m. m.stamp) (m ∷ n ∷ []) ≡ n ∷ m ∷ []
unfolding sort_by
over m n e = rw e refl

-- the first goes to the end
over_both : (m n o : StatusChange) → nat_lt o.stamp n.stamp ≡ false → nat_lt n.stamp m.stamp ≡ true → nat_lt o.stamp m.stamp ≡ true
    → sort_by_key (λ m. m.stamp) (m ∷ n ∷ o ∷ []) ≡ n ∷ o ∷ m ∷ []
unfolding sort_by
over_both m n o e f g = rw e (rw f (rw g refl))

right_two : (r : TradeRow) (s u : Status) (x y : ℕ) → is_valid_status_sequence (s ∷ u ∷ []) ≡ true → nat_lt x y ≡ true
    → matches_last_status_change r (mark u y ∷ []) ≡ true → IsRightOf r (mark s x ∷ mark u y ∷ [])
right_two r s u x y w l e = record { way = w; rising = and_from (nat_lt x y) true l refl; last = e }

along : (r : TradeRow) (ms ns : List StatusChange) → ms ≡ ns → IsRightOf r ns → IsRightOf r ms
along r ms ns e h = record {
  way = ap (λ xs. is_valid_status_sequence (map (λ m. m.status) xs)) e ∙ h.way;
  rising = ap (λ xs. is_strictly_ascending (map (λ m. m.stamp) xs)) e ∙ h.rising;
  last = ap (matches_last_status_change r) e ∙ h.last;
}

right_one : (r : TradeRow) (id : ℕ) (s : Status) (x : ℕ) → is_valid_history r (at id s x ∷ []) ≡ true → IsRightOf r (mark s x ∷ [])
right_one r id Submitted x e = record { way = refl; rising = refl; last = e }
right_one r id Pending x e = record { way = refl; rising = refl; last = e }
right_one r id _ x e = false_true e

two_right : (r : TradeRow) (id : ℕ) (s u : Status) (x y : ℕ) → is_valid_history r (at id s x ∷ at id u y ∷ []) ≡ true → IsRightOf r (sort_by_key (λ m. m.stamp) (mark s x ∷ mark u y ∷ []))
two_right r id Completed Submitted x y e =
    let k = and_parts (nat_lt y x) (has_last_change r (at id Completed x)) e in
    along r (sort_by_key (λ m. m.stamp) (mark Completed x ∷ mark Submitted y ∷ [])) (mark Submitted y ∷ mark Completed x ∷ [])
    (over (mark Completed x) (mark Submitted y) k.0) (right_two r Submitted Completed y x refl k.0 k.1)
two_right r id Canceled Pending x y e =
    let k = and_parts (nat_lt y x) (has_last_change r (at id Canceled x)) e in
    along r (sort_by_key (λ m. m.stamp) (mark Canceled x ∷ mark Pending y ∷ [])) (mark Pending y ∷ mark Canceled x ∷ [])
    (over (mark Canceled x) (mark Pending y) k.0) (right_two r Pending Canceled y x refl k.0 k.1)
two_right r id Pending Submitted x y e =
    let k = and_parts (nat_lt x y) (has_last_change r (at id Submitted y)) e in
    along r (sort_by_key (λ m. m.stamp) (mark Pending x ∷ mark Submitted y ∷ [])) (mark Pending x ∷ mark Submitted y ∷ [])
    (under (mark Pending x) (mark Submitted y) (before x y k.0)) (right_two r Pending Submitted x y refl k.0 k.1)
two_right r id _ _ x y e = false_true e

three_right : (r : TradeRow) (id : ℕ) (s u v : Status) (x y z : ℕ) → is_valid_history r (at id s x ∷ at id u y ∷ at id v z ∷ []) ≡ true
    → IsRightOf r (sort_by_key (λ m. m.stamp) (mark s x ∷ mark u y ∷ mark v z ∷ []))
three_right r id Completed Pending Submitted x y z e =
    let k = parts3 (nat_lt y z) (nat_lt z x) (has_last_change r (at id Completed x)) e in
    let l : y < z = ltb-true y z k.0 in
    let m : z < x = ltb-true z x k.1 in
    let n : nat_lt y x ≡ true = later y z x l m in
    along r (sort_by_key (λ m. m.stamp) (mark Completed x ∷ mark Pending y ∷ mark Submitted z ∷ [])) (mark Pending y ∷ mark Submitted z ∷ mark Completed x ∷ [])
    (over_both (mark Completed x) (mark Pending y) (mark Submitted z) (before y z k.0) n k.1)
    (record { way = refl; rising = and_from (nat_lt y z) (nat_lt z x && true) k.0 (and_from (nat_lt z x) true k.1 refl); last = k.2 })
  where
    later : (a b c : ℕ) → a < b → b < c → nat_lt a c ≡ true
    later a b c l m = grind arith
three_right r id _ _ _ x y z e = false_true e

rows_right : (r : TradeRow) (id : ℕ) (hs : List HistoryRow) → AllByRecursion (λ h. h.trade ≡ id) hs → is_valid_history r hs ≡ true
    → IsRightOf r (sort_by_key (λ m. m.stamp) (map (λ h. mark h.status h.stamp) hs))
unfolding sort_by
rows_right r id [] t e = false_true e
rows_right r id (h ∷ []) t e = right_one r id h.status h.stamp e
rows_right r id (a ∷ b ∷ []) t e = two_right r id a.status b.status a.stamp b.stamp e
rows_right r id (a ∷ b ∷ c ∷ []) t e = three_right r id a.status b.status c.status a.stamp b.stamp c.stamp e
rows_right r id (a ∷ b ∷ c ∷ d ∷ hs) t e = false_true e

-- ---- together

-- the rows of a trade in the history
of_trade : (t : Tables) (id : ℕ) → AllByRecursion (λ h. h.trade ≡ id) (history_rows_with_trade_id t id)
of_trade t id = All-map (history_rows_with_trade_id t id) (λ h e. eqb-true h.trade id e) (all_pass (λ h. h.trade == id) t.history)

-- a trade's rows are its marks by the codes of their statuses
own_history : (t : Tables) (r : TradeRow) → Climbs history_key t.history → rows_sorted_by_key history_key (history_rows (trade_of_row t r)) ≡ history_rows_with_trade_id t r.id
own_history t r c =
    sorted_each history_key (history_rows (trade_of_row t r)) ∙ own_rows t r [] c ∙ sym (sorted_each history_key (history_rows_with_trade_id t r.id))
    ∙ stays history_key (history_rows_with_trade_id t r.id) (climbs_filter history_key (λ h. h.trade == r.id) t.history c)

right_of : (t : Tables) (r : TradeRow) → has_valid_status_history t r ≡ true → IsRightOf r (status_changes_of_trade t r.id)
right_of t r e =
    let k = parts3 (is_valid_status_sequence (map (λ m. m.status) (status_changes_of_trade t r.id)))
    (is_strictly_ascending (map (λ m. m.stamp) (status_changes_of_trade t r.id))) (matches_last_status_change r (status_changes_of_trade t r.id)) e in
    record { way = k.0; rising = k.1; last = k.2 }

status_of : (t : Tables) (r : TradeRow) → IsRightOf r (status_changes_of_trade t r.id) → has_valid_status_history t r ≡ true
status_of t r h =
    let way : Bool = is_valid_status_sequence (map (λ m. m.status) (status_changes_of_trade t r.id)) in
    let rising : Bool = is_strictly_ascending (map (λ m. m.stamp) (status_changes_of_trade t r.id)) in
    and_from (way && rising) (matches_last_status_change r (status_changes_of_trade t r.id)) (and_from way rising h.way h.rising) h.last

pub status_by_rows : (t : Tables) (r : TradeRow) → Climbs history_key t.history
    → (has_valid_status_history t r ≡ true → is_valid_history r (history_rows_with_trade_id t r.id) ≡ true)
    × (is_valid_history r (history_rows_with_trade_id t r.id) ≡ true → has_valid_status_history t r ≡ true)
status_by_rows t r c = (
  (λ e. sym (ap (is_valid_history r) (own_history t r c)) ∙ marks_go r r.id (status_changes_of_trade t r.id) (right_of t r e)),
  (λ e. status_of t r (rows_right r r.id (history_rows_with_trade_id t r.id) (of_trade t r.id) e)),
)
