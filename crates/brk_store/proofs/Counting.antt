-- Fewer cash rows than the limit, if the next number is below it.
use Rattle.std.proofs.Common.{◌≡◌, ◌∙◌, ◌≤◌, ◌<◌, ◌+◌, ℕ, true, false, Bool, List, [], ◌∷◌, ◌++◌, filter, is_none, length, nat_le, nat_lt, option_map, reverse, slice_get, unwrap_or, refl, ap, arith}
use Rattle.std.specs.List.{AllByRecursion}
use Rattle.std.proofs.lemmas.Bool.Decides.{nat_tests}
use Rattle.std.proofs.lemmas.List.{reverse-append}
use Rattle.sqlite.specs.Effect.{Database}
use Rattle.brk_model.specs.Limits.{greatest_id}
use Rattle.brk_model.specs.Tables.{CashRow, Tables}
use Rattle.brk_trade_books.specs.TradeReads.{last_cash_row_number_or_zero}
use Rattle.brk_tables_schema.specs.Made.{HasDeskTables}
use Rattle.brk_store.proofs.WalkedLists.{IsStrictlyAscendingBy, moves_climb}

-- The number of the last of the rows `rs`, or `m` if there is no row.
abbrev number_of_last_row_or : ℕ → List CashRow → ℕ
number_of_last_row_or m rs = unwrap_or (option_map (λ r. r.id) (slice_get (reverse rs) 0)) m

first_of_more : (rows : List CashRow) (m : ℕ) (r : CashRow) → unwrap_or (option_map (λ r. r.id) (slice_get (rows ++ r ∷ []) 0)) m ≡ unwrap_or (option_map (λ r. r.id) (slice_get rows 0)) r.id
first_of_more [] m r = refl
first_of_more (q ∷ rows) m r = refl

last_more : (m : ℕ) (r : CashRow) (rs : List CashRow) → number_of_last_row_or m (r ∷ rs) ≡ number_of_last_row_or r.id rs
last_more m r rs = ap (λ l. unwrap_or (option_map (λ (q : CashRow). q.id) (slice_get l 0)) m) (reverse-append (r ∷ []) rs) ∙ first_of_more (reverse rs) m r

-- rows that climb from a number are no more than lie between it and the last
above : (m : ℕ) (rs : List CashRow) → AllByRecursion (λ r. nat_lt m r.id ≡ true) rs → IsStrictlyAscendingBy (λ r. r.id) rs → m + length rs ≤ number_of_last_row_or m rs
above m [] h climb = omega arith
above m (r ∷ rs) h climb = let more = above r.id rs climb.0 climb.1 in let one : nat_lt m r.id ≡ true = h.0 in let same = last_more m r rs in grind (arith, nat_tests)

few : (rs : List CashRow) → IsStrictlyAscendingBy (λ r. r.id) rs → length rs ≤ number_of_last_row_or 0 rs + 1
few [] climb = omega arith
few (r ∷ rs) climb = let more = above r.id rs climb.0 climb.1 in let same = last_more 0 r rs in omega (arith, more, same)

filter_fewer : {X : Type 0} (p : X → Bool) (xs : List X) → length (filter p xs) ≤ length xs
filter_fewer p [] = omega arith
filter_fewer p (x ∷ xs) = go (p x) refl (filter_fewer p xs)
  where
    go : (b : Bool) → p x ≡ b → length (filter p xs) ≤ length xs → length (filter p (x ∷ xs)) ≤ length (x ∷ xs)
    go true e h = rw e (omega (arith, h))
    go false e h = rw e (omega (arith, h))

-- where the next number is below the greatest number of movements, there are fewer
pub too_few : (t : Tables) (db : Database) (next : ℕ) → HasDeskTables t db → next ≡ last_cash_row_number_or_zero t + 1 → next < greatest_id
    → false ≡ nat_le greatest_id (length (filter (λ r. is_none r.trade) t.moves))
too_few t db next has is low =
    let rows = few t.moves (moves_climb t db has) in
    let moved = filter_fewer (λ (r : CashRow). is_none r.trade) t.moves in
    grind (arith, nat_tests)
