-- Typed rows have UTF-8 texts in the columns that admit any text.
use Rattle.std.proofs.Common.{◌≡◌, ◌&&◌, ◌+◌, ◌++◌, ℕ, true, false, Bool, List, [], ◌∷◌, map, IsTrue, refl}
use Rattle.std.specs.List.{list_all, AllByRecursion}
use Rattle.std.specs.Str.{is_utf8}
use Rattle.std.specs.Prelude.{String, nat_lt, string_bytes}
use Rattle.std.proofs.lemmas.Str.{IsUtf8-string_bytes, is_utf8-from_IsUtf8}
use Rattle.brk_trade_books.proofs.LotReading.{All-sort}
use Rattle.brk_model.specs.Adopted.{posting_of_cash_transaction_row, posting_of_cash_move_row, postings_of_tables}
use Rattle.brk_model.specs.Derived.{Posting, postings_sorted_by_stamp}
use Rattle.brk_model.specs.Form.{has_utf8_texts}
use Rattle.brk_model.specs.Upgraded.{tables_with_merged_cash_rows}
use Rattle.brk_model.specs.Tables.{OldCashRow, CashRow, Tables, numbered_cash_move_rows}
use Rattle.brk_ref.specs.declared.key.Kept as kept
use Rattle.brk_ref.specs.Records.{abstract_kept_row}
use Rattle.brk_ref.specs.Rows.{abstract_old_cash_row, abstract_cash_row, abstract_trade_row}
use Rattle.brk_ref.specs.declared.old_cash_row.OldCashRow as cash
use Rattle.brk_ref.specs.declared.cash_row.CashRow as posted
use Rattle.brk_trade_rows.specs.declared.sheets.Sheets.{Sheets}
use Rattle.brk_ref.specs.declared.trade_row.TradeRow as trade
use Rattle.brk_tables_scan.specs.KeptKeys.{tables_with_whole_kept_rows}

and_both : (a b : Bool) → a ≡ true → b ≡ true → a && b ≡ true
and_both a b p q = rw (p, q) refl

and_parts : (a b : Bool) → a && b ≡ true → (a ≡ true) × (b ≡ true)
and_parts true b h = (refl, h)
and_parts false b h = absurd (let e = h in cc)

pub text_is_utf8 : {Z : Type 0} (s : String Z) → is_utf8 (string_bytes s) ≡ true
text_is_utf8 s = is_utf8-from_IsUtf8 (string_bytes s) (IsUtf8-string_bytes s)

kept_texts : (ks : List kept.Kept) → list_all (λ k. is_utf8 k.row_text && is_utf8 k.line) (map abstract_kept_row ks) ≡ true
kept_texts [] = refl
kept_texts (k ∷ ks) = and_both _ _ (and_both _ _ (text_is_utf8 k.row_text) (text_is_utf8 k.line)) (kept_texts ks)

trade_texts : (rs : List trade.TradeRow) → list_all (λ r. is_utf8 r.executor) (map abstract_trade_row rs) ≡ true
trade_texts [] = refl
trade_texts (r ∷ rs) = and_both _ _ (text_is_utf8 r.executor) (trade_texts rs)

cash_texts : (rs : List cash.OldCashRow) → list_all (λ r. is_utf8 r.name) (map abstract_old_cash_row rs) ≡ true
cash_texts [] = refl
cash_texts (r ∷ rs) = and_both _ _ (text_is_utf8 r.name) (cash_texts rs)

move_texts : (rs : List posted.CashRow) → list_all (λ r. is_utf8 r.name) (map abstract_cash_row rs) ≡ true
move_texts [] = refl
move_texts (r ∷ rs) = and_both _ _ (text_is_utf8 r.name) (move_texts rs)

pub typed_texts : (s : Sheets) (whole : List kept.Kept) → IsTrue (has_utf8_texts (tables_with_whole_kept_rows whole s))
typed_texts s whole = and_both _ _ (and_both _ _ (and_both _ _ (kept_texts whole) (trade_texts s.trades.items)) (cash_texts s.cash.items)) (move_texts s.moves.items)

-- ---- the move keeps them

all_from : {X : Type 0} (p : X → Bool) (xs : List X) → AllByRecursion (λ x. p x ≡ true) xs → list_all p xs ≡ true
all_from p [] h = refl
all_from p (x ∷ xs) h = and_both _ _ h.0 (all_from p xs h.1)

all_of : {X : Type 0} (p : X → Bool) (xs : List X) → list_all p xs ≡ true → AllByRecursion (λ x. p x ≡ true) xs
all_of p [] h = tt
all_of p (x ∷ xs) h = let both = and_parts (p x) (list_all p xs) h in (both.0, all_of p xs both.1)

joined : {X : Type 0} (P : X → Type 0) (xs ys : List X) → AllByRecursion P xs → AllByRecursion P ys → AllByRecursion P (xs ++ ys)
joined P [] ys h k = k
joined P (x ∷ xs) ys h k = (h.0, joined P xs ys h.1 k)

mapped : {X Y : Type 0} (f : X → Y) (P : X → Type 0) (Q : Y → Type 0) → ((x : X) → P x → Q (f x)) → (xs : List X) → AllByRecursion P xs → AllByRecursion Q (map f xs)
mapped f P Q each [] h = tt
mapped f P Q each (x ∷ xs) h = (each x h.0, mapped f P Q each xs h.1)

-- The name of the cash row is UTF-8.
abbrev HasUtf8Name : Posting → Type 0
HasUtf8Name p = is_utf8 p.name ≡ true

numbered_texts : (n : ℕ) (ps : List Posting) → AllByRecursion HasUtf8Name ps → list_all (λ r. is_utf8 r.name) (numbered_cash_move_rows n ps) ≡ true
numbered_texts n [] h = refl
numbered_texts n (p ∷ ps) h = and_both _ _ h.0 (numbered_texts (n + 1) ps h.1)

pub upgraded_texts : (t : Tables) → IsTrue (has_utf8_texts t) → IsTrue (has_utf8_texts (tables_with_merged_cash_rows t))
unfolding tables_with_merged_cash_rows
upgraded_texts t h =
    let upper = and_parts _ (list_all (λ (r : CashRow). is_utf8 r.name) t.moves) h in
    let lower = and_parts _ (list_all (λ (r : OldCashRow). is_utf8 r.name) t.cash) upper.0 in
    and_both _ _ (and_both _ _ lower.0 refl)
    (numbered_texts 1 (postings_sorted_by_stamp (postings_of_tables t))
    (All-sort HasUtf8Name (λ (a b : Posting). nat_lt a.stamp b.stamp) (postings_of_tables t)
    (joined HasUtf8Name (map (posting_of_cash_transaction_row t) t.cash) (map posting_of_cash_move_row t.moves)
    (mapped (posting_of_cash_transaction_row t) (λ (r : OldCashRow). is_utf8 r.name ≡ true) HasUtf8Name (λ x k. k) t.cash (all_of (λ (r : OldCashRow). is_utf8 r.name) t.cash lower.1))
    (mapped posting_of_cash_move_row (λ (r : CashRow). is_utf8 r.name ≡ true) HasUtf8Name (λ x k. k) t.moves (all_of (λ (r : CashRow). is_utf8 r.name) t.moves upper.1)))))
