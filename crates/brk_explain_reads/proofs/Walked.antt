-- A walk over cash rows with a visitor that adds up those before a stamp.
use Rattle.std.proofs.Common.{◌≡◌, ◌∙◌, ℕ, ◌+◌, ◌+ℤ◌, Bool, true, false, ◌&&◌, List, [], ◌∷◌, Ok, Err, ap, arith, filter, length, map, pos, refl, subst, sym}
use Rattle.std.specs.Prelude.{nat_le, nat_lt}
use Rattle.std.specs.List.{FoldsTo}
use Rattle.std.proofs.lemmas.Bool.Decides.{nat_tests}
use Rattle.sqlite_trees.specs.declared.store.Store.{Ghosts}
use Rattle.sqlite.specs.Held.{Held}
use Rattle.brk_ref.specs.Rows.{abstract_cash_row}
use Rattle.brk_ref.specs.declared.cash_row.CashRow as move
use Rattle.brk_model.specs.Lists.{total_by}
use Rattle.brk_model.specs.Statement.{sorted_cash_rows_of_account, cash_row_total}
use Rattle.brk_model.specs.Tables.{CashRow, Tables}
use Rattle.brk_store_transactions.specs.Holds.{ReadPost}
use Rattle.brk_store.specs.Walked.{WalkPost, cash_rows_in_span}
use Rattle.brk_tables_views.specs.declared.walking.WalkError.{WalkError}
use Rattle.brk_explain_reads.specs.Earlier.{AddsEarlierCashRow}
use Rattle.brk_explain_reads.specs.Found.{IsCashSumBeforeStamp, cash_rows_before_stamp}
use Rattle.brk_explain_reads.specs.declared.cash.EarlierCashSum.{EarlierCashSum}
use lib.IntN.{+ℤ_assoc, +ℤ_idr, +ℤ_idl}

-- ---- a walk is a read

module _ {S X M V E F : Type 0} (g : Ghosts S) (old new : Held S) (of : X → M) (list : Tables → List M) (takes : V → X → V → Type 0) (stops : V → X → E → V → Type 0) (before after : V) where
  -- whose visitor has taken all rows
  pub walk_told : {Y : Type 0} (u : Unit {0}) (y : Y) (R : Y → Tables → Type 0) → ((t : Tables) (taken : List X) → FoldsTo takes before taken after → map of taken ≡ list t → R y t)
      → WalkPost g old new of list takes stops before after (Ok u) → ReadPost {E = F} g old new (Ok y) R
  walk_told u y R tell walked = record {
    answered = λ clean t holds. let h = walked.all clean in tell t h.0 h.1 (h.2 t holds);
    was_open = walked.was_open;
    same_rows = walked.same_rows;
    unchanged_if_open = walked.unchanged_if_open;
    survives = walked.survives;
  }

  -- that ended early
  pub walk_failed : {Y : Type 0} (stop : WalkError E) (fault : F) (R : Y → Tables → Type 0) → WalkPost g old new of list takes stops before after (Err stop) → ReadPost {E = F} g old new (Err fault) R
  walk_failed stop fault R walked = record {
    answered = λ clean. tt;
    was_open = λ clean. tt;
    same_rows = walked.same_rows;
    unchanged_if_open = walked.unchanged_if_open;
    survives = walked.survives;
  }

-- ---- rows before a stamp

abbrev earlier_rows : ℕ → List CashRow → List CashRow
earlier_rows until rows = filter (λ r. nat_lt r.stamp until) rows

-- the sum has these rows more
abbrev AddsRows : EarlierCashSum → List CashRow → EarlierCashSum → Type 0
AddsRows p rows q = (q.sum.rows ≡ p.sum.rows + length rows) × (q.sum.total ≡ p.sum.total +ℤ cash_row_total rows)

one_added : (p : EarlierCashSum) (x : move.CashRow) (mid : EarlierCashSum) (rest : List CashRow) (q : EarlierCashSum) → AddsEarlierCashRow p x mid → AddsRows mid (earlier_rows p.until rest) q
    → (b : Bool) → nat_lt x.stamp p.until ≡ b → AddsRows p (earlier_rows p.until (abstract_cash_row x ∷ rest)) q
unfolding total_by
one_added p x mid rest q taken more true e =
    let count : mid.sum.rows ≡ p.sum.rows + 1 = rw e at taken.1 in
    let total : mid.sum.total ≡ p.sum.total +ℤ x.amount = rw e at taken.2 in
    rw e (omega (arith, more.0, count), more.1 ∙ ap (λ z. z +ℤ cash_row_total (earlier_rows p.until rest)) total ∙ +ℤ_assoc p.sum.total x.amount (cash_row_total (earlier_rows p.until rest)))
one_added p x mid rest q taken more false e =
    let count : mid.sum.rows ≡ p.sum.rows = rw e at taken.1 in
    let total : mid.sum.total ≡ p.sum.total = rw e at taken.2 in
    rw e (omega (arith, more.0, count), more.1 ∙ ap (λ z. z +ℤ cash_row_total (earlier_rows p.until rest)) total)

all_added : (p : EarlierCashSum) (xs : List move.CashRow) (q : EarlierCashSum) → FoldsTo AddsEarlierCashRow p xs q → AddsRows p (earlier_rows p.until (map abstract_cash_row xs)) q
unfolding total_by
all_added p [] q h = (omega (arith, ap (λ (v : EarlierCashSum). v.sum.rows) h), sym (ap (λ (v : EarlierCashSum). v.sum.total) h) ∙ sym (+ℤ_idr p.sum.total))
all_added p (x ∷ xs) q h =
    one_added p x h.0 (map abstract_cash_row xs) q h.1 (subst (λ until. AddsRows h.0 (earlier_rows until (map abstract_cash_row xs)) q) h.1.0 (all_added h.0 xs q h.2)) (nat_lt x.stamp p.until) refl

-- rows that pass a test pass a wider one
narrower : {X : Type 0} (p q : X → Bool) → ((x : X) → p x ≡ true → q x ≡ true) → (xs : List X) → filter p (filter q xs) ≡ filter p xs
narrower p q wider [] = refl
narrower p q wider (x ∷ xs) = go (narrower p q wider xs) (p x) (q x) refl refl
  where
    go : filter p (filter q xs) ≡ filter p xs → (a b : Bool) → p x ≡ a → q x ≡ b → filter p (filter q (x ∷ xs)) ≡ filter p (x ∷ xs)
    go more true true e f = rw (f, e) (ap (λ l. x ∷ l) more)
    go more true false e f = absurd (let k = wider x e in cc)
    go more false true e f = rw (f, e) more
    go more false false e f = rw (f, e) more

within : (start until stamp : ℕ) → start ≡ 0 → nat_lt stamp until ≡ true → (nat_le start stamp && nat_le stamp until) ≡ true
within start until stamp none before = grind (arith, nat_tests)

-- the rows of a walk up to the stamp
pub earlier_told : (t : Tables) (account start until : ℕ) (p q : EarlierCashSum) (taken : List move.CashRow) → start ≡ 0 → p.until ≡ until → p.sum.rows ≡ 0
    → p.sum.total ≡ pos 0 → FoldsTo AddsEarlierCashRow p taken q
    → map abstract_cash_row taken ≡ cash_rows_in_span account start until t → IsCashSumBeforeStamp t account until q.sum
earlier_told t account start until p q taken none at count total folds all =
    let same : earlier_rows p.until (map abstract_cash_row taken) ≡ cash_rows_before_stamp t account until =
    (λ i. earlier_rows (at i) (all i))
    ∙ narrower (λ (r : CashRow). nat_lt r.stamp until) (λ (r : CashRow). nat_le start r.stamp && nat_le r.stamp until)
    (λ r before. within start until r.stamp none before) (sorted_cash_rows_of_account t account) in
    let c = all_added p taken q folds in
    (omega (arith, c.0, count, ap length same), c.1 ∙ (λ i. total i +ℤ cash_row_total (same i)) ∙ +ℤ_idl (cash_row_total (cash_rows_before_stamp t account until)))
