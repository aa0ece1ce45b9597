-- The running sum of a broker's commissions ends with the broker's total.
use Rattle.std.proofs.Common.{◌≡◌, ℕ, ◌+◌, ◌==◌, List, [], ◌∷◌, Some, refl, sym, ◌∙◌, ap, length, arith, pos, ◌+ℤ◌, sum_by}
use Rattle.std.specs.Prelude.{find, nat_lt}
use Rattle.std.proofs.lemmas.Bool.{eqb-true}
use Rattle.std.proofs.lemmas.Int.{ints}
use Rattle.std.proofs.lemmas.List.Sums.{sum_by-cons}
use Rattle.brk_model.specs.Base.{Base}
use Rattle.brk_model.specs.Lists.{total_by}
use Rattle.brk_model.specs.Sheets.{sheets}
use Rattle.brk_model.specs.Tables.{BrokerRow, TradeRow}
use Rattle.brk_model_explain.specs.BrokerLines.{completed_trades_of_broker}
use Rattle.brk_trade_books.specs.Books.{BooksInvariant}
use Rattle.brk_trade_books.specs.Sums.{completed_trade_rows_of_broker}
use Rattle.brk_trade_books.proofs.Places.{FoundAt, find-at}
use Rattle.brk_trade_books.proofs.Postings.{length_sort}
use Rattle.brk_trade_books.proofs.SumReading.{broker_counts, broker_sums}
use Rattle.brk_view_theorems.specs.Brokers.{PrintedBrokerMatchesTotals}
use Rattle.brk_view_theorems.proofs.BalanceSums.{running_ends}
use Rattle.brk_view_theorems.proofs.Products.{no_more}
use Rattle.brk_view_theorems.proofs.SortedRows.{total_sorted}

total_pos : {X : Type 0} (f : X → ℕ) (xs : List X) → total_by (λ x. pos (f x)) xs ≡ pos (sum_by f xs)
unfolding total_by
total_pos f [] = refl
total_pos f (x ∷ xs) = ap (λ z. pos (f x) +ℤ z) (total_pos f xs) ∙ both (f x) (sum_by f xs) (sum_by f (x ∷ xs)) (sum_by-cons f x xs)
  where
    both : (a b c : ℕ) → c ≡ a + b → pos a +ℤ pos b ≡ pos c
    both a b c e = omega (arith, ints, e)

pub broker_as_told : (base : Base) (id : ℕ) (b : BrokerRow) → BooksInvariant base → find (λ r. r.id == id) (sheets base).brokers ≡ Some b → PrintedBrokerMatchesTotals base b
broker_as_told base id b books e = record {
  commissions = running_ends (λ (u : TradeRow). pos u.commission) (pos 0) (completed_trades_of_broker (sheets base) b.id)
      ∙ no_more (total_by (λ (u : TradeRow). pos u.commission) (completed_trades_of_broker (sheets base) b.id))
      ∙ total_sorted (λ (u : TradeRow). pos u.commission) (λ x y. nat_lt x.stamp y.stamp) (completed_trade_rows_of_broker (sheets base) b.id)
      ∙ total_pos (λ (u : TradeRow). u.commission) (completed_trade_rows_of_broker (sheets base) b.id)
      ∙ ap (λ (n : ℕ). pos (sum_by (λ (u : TradeRow). u.commission) (completed_trade_rows_of_broker (sheets base) n))) same ∙ ap pos (sym (broker_sums base id b books e));
  trades = ap pos (length_sort (λ x y. nat_lt x.stamp y.stamp) (completed_trade_rows_of_broker (sheets base) b.id)
      ∙ ap (λ (n : ℕ). length (completed_trade_rows_of_broker (sheets base) n)) same) ∙ sym (broker_counts base id b books e);
}
  where
    same : b.id ≡ id
    same = let f : FoundAt BrokerRow (λ r. r.id == id) b (sheets base).brokers = find-at (λ r. r.id == id) (sheets base).brokers b e in eqb-true b.id id f.passes
