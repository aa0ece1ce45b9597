-- The trades of one position in a sorted list.
use Rattle.std.proofs.Common.{arith, ◌≡◌, ◌+◌, ◌-◌, ◌<◌, ◌++◌, ℕ, zero, suc, true, false, List, [], ◌∷◌, length, drop, get_or, take, map, refl, sym, ap, ◌∙◌, subst, Bor}
use Rattle.std.specs.List.{AllByRecursion, IsDistinct}
use Rattle.std.specs.List.Sorted.{IsSortedBy}
use Rattle.std.proofs.lemmas.List.{drop-drop, drop_more, map-append, take-append-drop, take_rest}
use Rattle.brk_ref.specs.Rows.{abstract_trade_row}
use Rattle.brk_ref.specs.declared.trade_row.TradeRow as code
use Rattle.brk_lots.specs.Deals.{AreDistinctAscendingDeals}
use Rattle.brk_model.specs.Tables.{TradeRow}
use Rattle.brk_trade_books.proofs.Order.{Sorted}
use Rattle.brk_audit_theorems.proofs.Members.{map-map}
use Rattle.brk_audit.specs.Positions.{FirstElementSatisfies, has_same_id_or_stamp, is_before_by_position, deal_of_completed_row, has_same_position}
use Rattle.brk_trade_books.proofs.Orders.{sorted_by, sorted_map}
use Rattle.brk_audit.proofs.Places.{deals_follow, distinct_drop, distinct_front, others, place_order, same_self, sorted_drop, sorted_front}

-- a row behind a reference, as the definitions have it
abbrev pub seen : Bor code.TradeRow → TradeRow
seen row = abstract_trade_row row.now

map_drop : {X Y : Type 0} (f : X → Y) (n : ℕ) (xs : List X) → drop n (map f xs) ≡ map f (drop n xs)
map_drop f zero xs = refl
map_drop f (suc n) [] = refl
map_drop f (suc n) (x ∷ xs) = map_drop f n xs

all_mapped : {X Y : Type 0} (P : Y → Type 0) (f : X → Y) (xs : List X) → AllByRecursion (λ x. P (f x)) xs → AllByRecursion P (map f xs)
all_mapped P f [] h = tt
all_mapped P f (x ∷ xs) h = (h.0, all_mapped P f xs h.1)

heads_mapped : {X Y : Type 0} (P : Y → Type 0) (f : X → Y) (xs : List X) → FirstElementSatisfies (λ x. P (f x)) xs → FirstElementSatisfies P (map f xs)
heads_mapped P f [] h = tt
heads_mapped P f (x ∷ xs) h = h

-- the trades of the next position, and those behind them
pub record Stretch (done : List (Bor code.TradeRow)) (b n : ℕ) (x : Bor code.TradeRow) : Type 0 where
  pub is : map seen (drop b done) ≡ seen x ∷ map seen (take n (drop (b + 1) done)) ++ map seen (drop (b + 1 + n) done)
  pub run : map seen (take (b + 1 + n - b) (drop b done)) ≡ seen x ∷ map seen (take n (drop (b + 1) done))
  pub same : AllByRecursion (λ s. has_same_position (seen x) s ≡ true) (map seen (take n (drop (b + 1) done)))
  pub deals : AreDistinctAscendingDeals (map deal_of_completed_row (seen x ∷ map seen (take n (drop (b + 1) done))))
  pub behind : AllByRecursion (λ s. has_same_position (seen x) s ≡ false) (map seen (drop (b + 1 + n) done))

pub stretch : (done : List (Bor code.TradeRow)) (b n : ℕ) (x : Bor code.TradeRow) → b < length done → x ≡ get_or done b x
    → IsSortedBy (λ y z. is_before_by_position (seen y) (seen z)) done → IsDistinct has_same_id_or_stamp (map seen done)
    → AllByRecursion (λ y. has_same_position (seen x) (seen y) ≡ true) (take n (take (length done - (b + 1)) (drop (b + 1) done)))
    → FirstElementSatisfies (λ y. has_same_position (seen x) (seen y) ≡ false) (drop n (take (length done - (b + 1)) (drop (b + 1) done)))
    → Stretch done b n x
stretch done b n x h e sorted apart same next =
    let rest = drop (b + 1) done in
    let whole : take (length done - (b + 1)) rest ≡ rest = take_rest done (b + 1) in
    let later : drop n rest ≡ drop (b + 1 + n) done = drop-drop n (b + 1) done in
    let first : drop b done ≡ x ∷ rest = drop_more done b x h ∙ ap (λ (y : Bor code.TradeRow). y ∷ rest) (sym e) in
    let is : map seen (drop b done) ≡ seen x ∷ map seen (take n rest) ++ map seen (drop (b + 1 + n) done) =
    ap (map seen) (first ∙ ap (λ (ys : List (Bor code.TradeRow)). x ∷ ys) (sym (take-append-drop n rest)))
    ∙ ap (λ (ys : List TradeRow). seen x ∷ ys) (map-append seen (take n rest) (drop n rest))
    ∙ ap (λ (ys : List (Bor code.TradeRow)). seen x ∷ map seen (take n rest) ++ map seen ys) later in
    let length_is : b + 1 + n - b ≡ suc n = omega arith in
    let ordered : Sorted is_before_by_position (map seen (drop b done)) =
    sorted_map is_before_by_position seen (drop b done)
    (sorted_drop (λ y z. is_before_by_position (seen y) (seen z)) b done
    (sorted_by (λ y z. is_before_by_position (seen y) (seen z)) (place_order seen) done sorted)) in
    let distinct : IsDistinct has_same_id_or_stamp (map seen (drop b done)) =
    subst (IsDistinct has_same_id_or_stamp) (map_drop seen b done) (distinct_drop has_same_id_or_stamp b (map seen done) apart) in
    let s : Sorted is_before_by_position (seen x ∷ map seen (take n rest) ++ map seen (drop (b + 1 + n) done)) = subst (Sorted is_before_by_position) is ordered in
    let d : IsDistinct has_same_id_or_stamp (seen x ∷ map seen (take n rest) ++ map seen (drop (b + 1 + n) done)) = subst (IsDistinct has_same_id_or_stamp) is distinct in
    let a : AllByRecursion (λ t. has_same_position (seen x) t ≡ true) (map seen (take n rest)) =
    all_mapped (λ t. has_same_position (seen x) t ≡ true) seen (take n rest)
    (subst (λ (ys : List (Bor code.TradeRow)). AllByRecursion (λ y. has_same_position (seen x) (seen y) ≡ true) (take n ys)) whole same) in
    let heads : FirstElementSatisfies (λ y. has_same_position (seen x) (seen y) ≡ false) (drop (b + 1 + n) done) =
    subst (λ (ys : List (Bor code.TradeRow)). FirstElementSatisfies (λ y. has_same_position (seen x) (seen y) ≡ false) ys) (ap (drop n) whole ∙ later) next
    in
    record {
      is = is;
      run = ap (map seen) (ap (λ m. take m (drop b done)) length_is ∙ ap (take (suc n)) first);
      same = a;
      deals = deals_follow (seen x) (seen x ∷ map seen (take n rest))
          (sorted_front is_before_by_position (seen x ∷ map seen (take n rest)) (map seen (drop (b + 1 + n) done)) s)
          (distinct_front has_same_id_or_stamp (seen x ∷ map seen (take n rest)) (map seen (drop (b + 1 + n) done)) d) (same_self (seen x), a);
      behind = others (seen x) (map seen (take n rest)) (map seen (drop (b + 1 + n) done)) s (heads_mapped (λ t. has_same_position (seen x) t ≡ false) seen (drop (b + 1 + n) done) heads);
    }

-- their deals
pub deals_are : (ys : List (Bor code.TradeRow)) (rows : List TradeRow) → map seen ys ≡ rows → map (λ row. deal_of_completed_row (abstract_trade_row row.now)) ys ≡ map deal_of_completed_row rows
deals_are ys rows e = sym (map-map deal_of_completed_row seen ys) ∙ ap (map deal_of_completed_row) e
