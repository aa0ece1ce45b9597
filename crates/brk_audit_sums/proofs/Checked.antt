-- The sums over typed rows equal the sums over the tables of these rows.
use Rattle.std.proofs.Common.{◌≡◌, ℕ, ◌==◌, Bool, cond, List, [], ◌∷◌, ◌++◌, refl, sym, ◌∙◌, ap, subst, map, filter, ℤ, Some, None}
use Rattle.std.specs.Prelude.{◌&&◌, ◌+ℤ◌, is_none}
use Rattle.std.specs.BTreeMap.{BTreeMap}
use Rattle.std.specs.Cmp.{unsigned_ties}
use Rattle.std.specs.List.{AllByRecursion, filter_map}
use Rattle.std.specs.Ordering.{is_eq, nat_cmp}
use Rattle.brk_model.specs.Lists.{total_by}
use Rattle.brk_model.specs.Tables.{TradeRow}
use Rattle.brk_ref.specs.Rows.{abstract_cash_row, abstract_trade_row}
use Rattle.brk_trade_rows.specs.Sheets.{abstract_sheets}
use Rattle.brk_trade_rows.specs.declared.sheets.Sheets.{Sheets}
use Rattle.brk_ref.specs.declared.trade_row.TradeRow as trade
use Rattle.brk_ref.specs.declared.cash_row.CashRow as move
use Rattle.brk_audit_sums.specs.AccountTerms.{account_broker_in_terms}
use Rattle.brk_audit_sums.specs.Completed.{is_completed_trade_row}
use Rattle.brk_audit_sums.proofs.Sums.{account_broker_or_zero, sum_over_broker_trades}
use Rattle.brk_audit_sums.specs.Sums.{broker_posting_of_trade_row, movement_posting_of_row}
use Rattle.brk_audit_sums.specs.declared.account_terms.AccountTerms.{AccountTerms}
use Rattle.brk_trade_books.proofs.Places.{filter-append}
use Rattle.brk_trade_books.proofs.Worth.{total-append}
use Rattle.brk_trade_books.proofs.Same.{All-map, All-mapped, All-of, filter-same, total_by-same}
use Rattle.brk_audit_sums.specs.declared.tally.KeyedAmount.{KeyedAmount}
use Rattle.brk_audit_sums.specs.Tally.{sum_at_key, total_amount_at_key}
use Rattle.brk_audit_sums.proofs.AccountTerms.{HasTerms, same_brokers}
use Rattle.brk_audit_sums.proofs.Postings.{total_mapped, total_posted}

-- the sum of what is posted of rows in types, as one over the rows that they are
pub posted_sum : (p : TradeRow → Bool) (k j : TradeRow → ℕ) (a b : TradeRow → ℤ) (rows : List trade.TradeRow) (q : ℕ) → ((r : TradeRow) → k r ≡ j r) → ((r : TradeRow) → a r ≡ b r)
    → total_amount_at_key nat_cmp
    (filter_map {Y = KeyedAmount ℕ}
    (λ r. cond (p (abstract_trade_row r)) (Some (record { key = k (abstract_trade_row r); amount = a (abstract_trade_row r) })) None) rows) q
    ≡ total_by b (filter (λ r. p r && (j r == q)) (map abstract_trade_row rows))
posted_sum p k j a b rows q e f =
    total_posted nat_cmp (λ r. p (abstract_trade_row r)) (λ r. k (abstract_trade_row r)) (λ r. a (abstract_trade_row r)) rows q
    ∙ ap (total_by (λ r. a (abstract_trade_row r)))
    (filter-same (λ r. p (abstract_trade_row r) && is_eq (nat_cmp (k (abstract_trade_row r)) q))
    (λ r. p (abstract_trade_row r) && (j (abstract_trade_row r) == q)) rows
    (All-of rows (λ r i. p (abstract_trade_row r) && same_key (abstract_trade_row r) i)))
    ∙ total_by-same (λ r. a (abstract_trade_row r)) (λ r. b (abstract_trade_row r)) (filter (λ r. p (abstract_trade_row r) && (j (abstract_trade_row r) == q)) rows)
    (All-of (filter (λ r. p (abstract_trade_row r) && (j (abstract_trade_row r) == q)) rows) (λ r. f (abstract_trade_row r)))
    ∙ sym (total_mapped b (λ r. p r && (j r == q)) abstract_trade_row rows)
  where
    same_key : (r : TradeRow) → is_eq (nat_cmp (k r) q) ≡ (j r == q)
    same_key r = sym (unsigned_ties (k r) q) ∙ ap (λ n. n == q) (e r)

-- the sums of what completed trades post at brokers, as sums over the tables
pub broker_sums : (s : Sheets) (terms : BTreeMap ℕ AccountTerms) (amount : TradeRow → ℤ) (sums : BTreeMap ℕ ℤ) (postings : List (KeyedAmount ℕ)) → HasTerms terms s.accounts.items
    → ((q : ℕ) → sum_at_key nat_cmp sums q ≡ total_amount_at_key nat_cmp postings q)
    → postings ≡ filter_map (λ r. broker_posting_of_trade_row (account_broker_in_terms terms) (abstract_trade_row r) (amount (abstract_trade_row r))) s.trades.items
    → (q : ℕ) → sum_at_key nat_cmp sums q ≡ sum_over_broker_trades (abstract_sheets s) amount q
broker_sums s terms amount sums postings has summed posted q =
    summed q ∙ ap (λ ps. total_amount_at_key nat_cmp ps q) posted
    ∙ posted_sum is_completed_trade_row (λ r. account_broker_in_terms terms r.account) (λ r. account_broker_or_zero (abstract_sheets s) r.account) amount amount
    s.trades.items q (λ r. same_brokers s terms has r.account) (λ r. refl)

-- the sum of movements in types, as one over the rows that they are
pub moved_sum : (rows : List move.CashRow) (q : ℕ) → total_amount_at_key nat_cmp (filter_map (λ r. movement_posting_of_row (abstract_cash_row r)) rows) q
    ≡ total_by (λ r. r.amount) (filter (λ r. is_none r.trade && (r.account == q)) (map abstract_cash_row rows))
moved_sum rows q =
    total_posted nat_cmp (λ r. is_none (abstract_cash_row r).trade) (λ r. (abstract_cash_row r).account) (λ r. (abstract_cash_row r).amount) rows q
    ∙ ap (total_by (λ r. (abstract_cash_row r).amount))
    (filter-same (λ r. is_none (abstract_cash_row r).trade && is_eq (nat_cmp (abstract_cash_row r).account q))
    (λ r. is_none (abstract_cash_row r).trade && ((abstract_cash_row r).account == q)) rows
    (All-of rows (λ r i. is_none (abstract_cash_row r).trade && sym (unsigned_ties (abstract_cash_row r).account q) i)))
    ∙ sym (total_mapped (λ r. r.amount) (λ r. is_none r.trade && (r.account == q)) abstract_cash_row rows)

-- the sums of two lists of postings
pub total_both : (ps qs : List (KeyedAmount ℕ)) (q : ℕ) → total_amount_at_key nat_cmp (ps ++ qs) q ≡ total_amount_at_key nat_cmp ps q +ℤ total_amount_at_key nat_cmp qs q
total_both ps qs q =
    ap (total_by (λ p. p.amount)) (filter-append (λ p. is_eq (nat_cmp p.key q)) ps qs)
    ∙ total-append (λ p. p.amount) (filter (λ p. is_eq (nat_cmp p.key q)) ps) (filter (λ p. is_eq (nat_cmp p.key q)) qs)

-- what holds of each row in types, and of each of those that they are
pub rows_hold : {X Row : Type 0} (P : X → Type 0) (Q : Row → Type 0) (f : X → Row) (xs : List X) → ((x : X) → P x → Q (f x)) → AllByRecursion P xs → AllByRecursion Q (map f xs)
rows_hold P Q f xs h a = All-mapped Q f xs (All-map xs h a)

pub rows_back : {X Row : Type 0} (P : X → Type 0) (Q : Row → Type 0) (f : X → Row) (xs : List X) → ((x : X) → Q (f x) → P x) → AllByRecursion Q (map f xs) → AllByRecursion P xs
rows_back P Q f [] h a = tt
rows_back P Q f (x ∷ xs) h a = (h x a.0, rows_back P Q f xs h a.1)

-- a test that decides what holds of each row in types decides a condition that says it of the rows
-- that they are
pub told_by : {X Row B H : Type 0} (P : X → Type 0) (Q : Row → Type 0) (f : X → Row) (xs ys : List X) → ys ≡ xs → (B → AllByRecursion P ys) × (AllByRecursion P ys → B)
    → ((x : X) → P x → Q (f x)) → ((x : X) → Q (f x) → P x) → (H → AllByRecursion Q (map f xs)) × (AllByRecursion Q (map f xs) → H) → (B → H) × (H → B)
told_by P Q f xs ys e told there back law = (
  (λ b. law.1 (rows_hold P Q f xs there (subst (AllByRecursion P) e (told.0 b)))),
  (λ h. told.1 (subst (AllByRecursion P) (sym e) (rows_back P Q f xs back (law.0 h)))),
)
