-- Cash rows inserted one after the other, under ascending numbers, are the numbered cash rows of
-- the model.
use Rattle.std.proofs.Common.{◌≡◌, ℕ, zero, suc, ◌+◌, ◌<◌, List, [], ◌∷◌, ◌++◌, map, take, length, get_or, Bool, true, false, not, ◌||◌, ◌&&◌, refl, sym, ap, ◌∙◌, arith, add-one, append-nil}
use Rattle.std.specs.Prelude.{if◌then◌else◌, nat_lt}
use Rattle.std.specs.List.{AllByRecursion}
use Rattle.std.proofs.lemmas.Bool.{lt-ltb}
use Rattle.brk_model.specs.Adopted.{posting_of_cash_transaction_row, posting_of_cash_move_row, postings_of_tables}
use Rattle.brk_model.specs.Derived.{Posting, postings_sorted_by_stamp}
use Rattle.brk_model.specs.Keys.{insert_row_by_key, is_row_key_less, cash_move_key}
use Rattle.brk_model.specs.Upgraded.{tables_with_merged_cash_rows}
use Rattle.brk_model.specs.Tables.{Tables, OldCashRow, CashRow, cash_move_row, numbered_cash_move_rows}
use Rattle.brk_tables_cash.specs.Upgrade.{cash_transactions_by_stamp, tables_with_cash_rows_numbered_from, tables_with_cash_transactions_moved, tables_with_numbered_cash_row}
use Rattle.brk_tables_cash.proofs.Sorting.{posted_in_turn}

-- ---- one more of a list

module _ (d : OldCashRow) where
  next_from : (n : ℕ) (cs : List OldCashRow) (i : ℕ) → i < length cs → (t : Tables)
      → tables_with_cash_rows_numbered_from n (take (suc i) cs) t
      ≡ tables_with_numbered_cash_row (n + i) (get_or cs i d) (tables_with_cash_rows_numbered_from n (take i cs) t)
  next_from n [] i lt t = absurd (omega (arith, lt))
  next_from n (c ∷ cs) zero lt t = let e : n ≡ n + zero = omega arith in ap (λ k. tables_with_numbered_cash_row k c t) e
  next_from n (c ∷ cs) (suc i) lt t = let e : n + 1 + i ≡ n + suc i = omega arith in
      next_from (n + 1) cs i (omega (arith, lt)) (tables_with_numbered_cash_row n c t)
      ∙ ap (λ k. tables_with_numbered_cash_row k (get_or cs i d)
      (tables_with_cash_rows_numbered_from (n + 1) (take i cs) (tables_with_numbered_cash_row n c t))) e

  pub one_more : (cs : List OldCashRow) (i : ℕ) → i < length cs → (t : Tables)
      → tables_with_cash_rows_numbered_from 1 (take (i + 1) cs) t
      ≡ tables_with_numbered_cash_row (1 + i) (get_or cs i d) (tables_with_cash_rows_numbered_from 1 (take i cs) t)
  one_more cs i lt t = rw (add-one i) (next_from 1 cs i lt t)

-- ---- a number that is above the others goes last

abbrev above_all : ℕ → List CashRow → Type 0
above_all n rows = AllByRecursion (λ r. nat_lt r.id n ≡ true) rows

abbrev at_end : List CashRow → CashRow → List CashRow
at_end rows r = rows ++ r ∷ []

put_last : (r : CashRow) (rows : List CashRow) → above_all r.id rows → insert_row_by_key cash_move_key r rows ≡ rows ++ r ∷ []
put_last r [] low = refl
put_last r (x ∷ rows) low =
    let first : is_row_key_less cash_move_key x r ≡ true = ap (λ b. b || (not (nat_lt r.id x.id) && false)) low.0 in
    ap (λ b. if b then x ∷ insert_row_by_key cash_move_key r rows else r ∷ x ∷ rows) first ∙ ap (λ l. x ∷ l) (put_last r rows low.1)

higher : (n : ℕ) (rows : List CashRow) → above_all n rows → (p : Posting) → above_all (n + 1) (rows ++ cash_move_row n p ∷ [])
higher n [] low p = (lt-ltb n (n + 1) (omega arith), tt)
higher n (r ∷ rows) low p = (lt-ltb r.id (n + 1) (omega (arith, Rattle.std.proofs.lemmas.Bool.ltb-true r.id n low.0)), higher n rows low.1 p)

-- ---- all of them

-- rows that are added one after another
added : (n : ℕ) (cs : List OldCashRow) (t : Tables) → above_all n t.moves
    → tables_with_cash_rows_numbered_from n cs t ≡ record t { moves = t.moves ++ numbered_cash_move_rows n (map (posting_of_cash_transaction_row t) cs) }
added n [] t low = ap (λ (xs : List CashRow). let u : Tables = record t { moves = xs } in u) (sym (append-nil t.moves))
added n (c ∷ cs) t low =
    let r = cash_move_row n (posting_of_cash_transaction_row t c) in
    let last : insert_row_by_key cash_move_key r t.moves ≡ t.moves ++ r ∷ [] = put_last r t.moves low in
    let one : tables_with_numbered_cash_row n c t ≡ record t { moves = t.moves ++ r ∷ [] } = ap (λ (xs : List CashRow). let u : Tables = record t { moves = xs } in u) last in
    ap (tables_with_cash_rows_numbered_from (n + 1) cs) one
    ∙ added (n + 1) cs (record t { moves = t.moves ++ r ∷ [] }) (higher n t.moves low (posting_of_cash_transaction_row t c))
    ∙ ap (λ (xs : List CashRow). let u : Tables = record t { moves = xs } in u)
    (Rattle.std.proofs.Common.append_assoc t.moves (r ∷ []) (numbered_cash_move_rows (n + 1) (map (posting_of_cash_transaction_row t) cs)))

-- the tables of the first schema with their cash rows upgraded are the upgraded tables
pub upgraded_is : (t : Tables) → t.moves ≡ [] → tables_with_cash_transactions_moved t ≡ tables_with_merged_cash_rows t
unfolding tables_with_merged_cash_rows
upgraded_is t none =
    let low : above_all 1 t.moves = Rattle.std.proofs.Common.subst (above_all 1) (sym none) tt in
    let all : t.moves ++ numbered_cash_move_rows 1 (map (posting_of_cash_transaction_row t) (cash_transactions_by_stamp t)) ≡ numbered_cash_move_rows 1 (postings_sorted_by_stamp (postings_of_tables t)) =
    ap (λ (l : List CashRow). l ++ numbered_cash_move_rows 1 (map (posting_of_cash_transaction_row t) (cash_transactions_by_stamp t))) none
    ∙ ap (numbered_cash_move_rows 1) (sym (posted_in_turn t t.cash)
    ∙ ap postings_sorted_by_stamp
    (sym (append-nil (map (posting_of_cash_transaction_row t) t.cash))
    ∙ ap (λ (ms : List CashRow). map (posting_of_cash_transaction_row t) t.cash ++ map posting_of_cash_move_row ms) (sym none))) in
    ap (λ (u : Tables). let v : Tables = record u { cash = [] } in v) (added 1 (cash_transactions_by_stamp t) t low)
    ∙ ap (λ (xs : List CashRow). let u : Tables = record t { cash = []; moves = xs } in u) all
