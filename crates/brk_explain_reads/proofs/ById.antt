-- The trades of a holding, found by their ids.
use Rattle.std.proofs.Common.{◌≡◌, ◌∙◌, ◌==◌, ◌&&◌, ◌++◌, ◌∷◌, [], ℕ, Bool, true, false, cond, arith, List, Option, None, Some, ap, filter, find, map, refl, sym}
use Rattle.std.specs.Prelude.{bytes_eq, flat_map, is_some, nat_lt, option_to_list, option_map}
use Rattle.std.specs.List.{AllByRecursion}
use Rattle.std.proofs.lemmas.Bool.Decides.{nat_tests}
use Rattle.std.proofs.lemmas.List.{append-nil, append_assoc}
use Rattle.brk_trade_books.proofs.LotReading.{All-sort}
use Rattle.brk_trade_books.proofs.Same.{All-filter}
use Rattle.brk_money.specs.Spelling.{Text}
use Rattle.brk_money.specs.Kinds.{is_same_trade_status}
use Rattle.brk_money.specs.declared.status.Status.TheVariants.{Completed}
use Rattle.brk_model.specs.Joins.{trade_rows_oldest_first, trade_row_with_id}
use Rattle.brk_model.specs.Lists.{sort_by_key}
use Rattle.brk_model.specs.Tables.{HoldingHistoryRow, Tables, TradeRow}
use Rattle.brk_model_explain.specs.Holdings.{LotDetails, completed_trades_in_symbol, lot_with_changes_by_others, lots_opened_in_symbol}
use Rattle.brk_model_explain.specs.Trades.{has_completed_status, opened_lot_row}
use Rattle.brk_store.proofs.WalkedLists.{IsStrictlyAscendingBy, oldest_same}
use Rattle.brk_explain_reads.specs.HoldingParts.{lot_if_opened, lot_opened_by_trade}
use Rattle.brk_explain_reads.proofs.Each.{filter_same}

-- ---- rows of rising numbers are found by these

same_self : (m : ℕ) → (m == m) ≡ true
same_self m = grind (arith, nat_tests)

not_same : (m n : ℕ) → nat_lt m n ≡ true → (m == n) ≡ false
not_same m n h = grind (arith, nat_tests)

found_behind : {X : Type 0} (n : X → ℕ) (x : X) (all ys : List X) → AllByRecursion (λ y. nat_lt (n x) (n y) ≡ true) ys
    → AllByRecursion (λ y. find (λ z. n z == n y) all ≡ Some y) ys → AllByRecursion (λ y. find (λ z. n z == n y) (x ∷ all) ≡ Some y) ys
found_behind n x all [] h k = tt
found_behind n x all (y ∷ ys) h k = (rw (not_same (n x) (n y) h.0) k.0, found_behind n x all ys h.1 k.1)

found_first : {X : Type 0} (n : X → ℕ) (x : X) (xs : List X) → find (λ z. n z == n x) (x ∷ xs) ≡ Some x
found_first n x xs = rw (same_self (n x)) refl

all_found : {X : Type 0} (n : X → ℕ) (xs : List X) → IsStrictlyAscendingBy n xs → AllByRecursion (λ y. find (λ z. n z == n y) xs ≡ Some y) xs
all_found n [] h = tt
all_found n (x ∷ xs) h = (found_first n x xs, found_behind n x xs xs h.0 (all_found n xs h.1))

-- ---- the completed trades of a holding

abbrev AreFound : Tables → List TradeRow → Type 0
AreFound t rows = AllByRecursion (λ (u : TradeRow). trade_row_with_id t u.id ≡ Some u) rows

done_found : (t : Tables) (account : ℕ) (symbol : Text) → IsStrictlyAscendingBy (λ r. r.id) t.trades → AreFound t (completed_trades_in_symbol t account symbol)
done_found t account symbol climb =
    let mine = λ (u : TradeRow). has_completed_status u && (u.account == account) && bytes_eq u.symbol symbol in
    All-sort (λ (u : TradeRow). trade_row_with_id t u.id ≡ Some u) (λ a b. nat_lt a.stamp b.stamp) (filter mine t.trades)
    (All-filter (λ (u : TradeRow). trade_row_with_id t u.id ≡ Some u) mine t.trades (all_found (λ (r : TradeRow). r.id) t.trades climb))

turned : (a b c : Bool) → (a && (b && c)) ≡ ((c && a) && b)
turned true true true = refl
turned true true false = refl
turned true false true = refl
turned true false false = refl
turned false b true = refl
turned false b false = refl

-- their ids, as a statement gives them
abbrev pub held_ids : Tables → ℕ → Text → List ℕ
held_ids t account symbol =
    map (λ (r : TradeRow). r.id)
    (trade_rows_oldest_first (filter (λ r. (r.account == account) && (bytes_eq r.symbol symbol && is_same_trade_status r.status Completed)) t.trades))

held_ids_are : (t : Tables) (account : ℕ) (symbol : Text) → IsStrictlyAscendingBy (λ r. r.id) t.trades
    → held_ids t account symbol ≡ map (λ (r : TradeRow). r.id) (completed_trades_in_symbol t account symbol)
held_ids_are t account symbol climb =
    let given = λ (r : TradeRow). (r.account == account) && (bytes_eq r.symbol symbol && is_same_trade_status r.status Completed) in
    let mine = λ (u : TradeRow). has_completed_status u && (u.account == account) && bytes_eq u.symbol symbol in
    ap (map (λ (r : TradeRow). r.id))
    (oldest_same given t climb
    ∙ ap (sort_by_key (λ (r : TradeRow). r.stamp)) (filter_same given mine (λ r. turned (r.account == account) (bytes_eq r.symbol symbol) (is_same_trade_status r.status Completed)) t.trades))

-- ---- what is found by the ids

rows_back : (t : Tables) (rows : List TradeRow) → AreFound t rows → flat_map (λ id. option_to_list (trade_row_with_id t id)) (map (λ (r : TradeRow). r.id) rows) ≡ rows
rows_back t [] h = refl
rows_back t (u ∷ rows) h =
    ap (λ o. option_to_list o ++ flat_map (λ id. option_to_list (trade_row_with_id t id)) (map (λ (r : TradeRow). r.id) rows)) h.0 ∙ ap (λ us. u ∷ us) (rows_back t rows h.1)

lot_kept : (f : TradeRow → LotDetails) (u : TradeRow) (rows : List TradeRow) (own : Option HoldingHistoryRow)
    → option_to_list (lot_if_opened own (Some (f u))) ++ map f rows ≡ map f (cond (is_some own) (u ∷ rows) rows)
lot_kept f u rows None = refl
lot_kept f u rows (Some row) = refl

lots_back : (t : Tables) (rows : List TradeRow) → AreFound t rows
    → flat_map (λ id. option_to_list (lot_opened_by_trade t id)) (map (λ (r : TradeRow). r.id) rows)
    ≡ map (lot_with_changes_by_others t) (filter (λ (u : TradeRow). is_some (opened_lot_row t u.id)) rows)
lots_back t [] h = refl
lots_back t (u ∷ rows) h =
    let rest = flat_map (λ id. option_to_list (lot_opened_by_trade t id)) (map (λ (r : TradeRow). r.id) rows) in
    ap (λ o. option_to_list (lot_if_opened (opened_lot_row t u.id) (option_map (lot_with_changes_by_others t) o)) ++ rest) h.0
    ∙ ap (λ ls. option_to_list (lot_if_opened (opened_lot_row t u.id) (Some (lot_with_changes_by_others t u))) ++ ls) (lots_back t rows h.1)
    ∙ lot_kept (lot_with_changes_by_others t) u (filter (λ (r : TradeRow). is_some (opened_lot_row t r.id)) rows) (opened_lot_row t u.id)

module _ (t : Tables) (climb : IsStrictlyAscendingBy (λ (r : TradeRow). r.id) t.trades) (account : ℕ) (symbol : Text) where
  pub done_known : flat_map (λ id. option_to_list (trade_row_with_id t id)) (held_ids t account symbol) ≡ completed_trades_in_symbol t account symbol
  done_known =
      ap (flat_map (λ id. option_to_list (trade_row_with_id t id))) (held_ids_are t account symbol climb)
      ∙ rows_back t (completed_trades_in_symbol t account symbol) (done_found t account symbol climb)

  pub lots_known : flat_map (λ id. option_to_list (lot_opened_by_trade t id)) (held_ids t account symbol) ≡ lots_opened_in_symbol t account symbol
  lots_known =
      ap (flat_map (λ id. option_to_list (lot_opened_by_trade t id))) (held_ids_are t account symbol climb)
      ∙ lots_back t (completed_trades_in_symbol t account symbol) (done_found t account symbol climb)

-- ---- one more

flat_parts : {X Y : Type 0} (f : X → List Y) (xs ys : List X) → flat_map f (xs ++ ys) ≡ flat_map f xs ++ flat_map f ys
flat_parts f [] ys = refl
flat_parts f (x ∷ xs) ys = ap (λ zs. f x ++ zs) (flat_parts f xs ys) ∙ sym (append_assoc (f x) (flat_map f xs) (flat_map f ys))

pub flat_one : {X Y : Type 0} (f : X → List Y) (xs : List X) (x : X) → flat_map f (xs ++ x ∷ []) ≡ flat_map f xs ++ f x
flat_one f xs x = flat_parts f xs (x ∷ []) ∙ ap (λ zs. flat_map f xs ++ zs) (append-nil (f x))
