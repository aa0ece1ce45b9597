-- The trades that a price triggers, request by request, and the row changes that submit them.
use Rattle.std.proofs.Common.{◌≡◌, ◌∙◌, ◌+◌, ◌<◌, ◌++◌, ◌∷◌, [], ℕ, Bool, true, false, List, ap, cond, filter, get_or, length, map, refl, sym, take}
use Rattle.std.proofs.lemmas.List.{take_more}
use Rattle.brk_money.specs.declared.status.Status.TheVariants.{Submitted}
use Rattle.brk_ref.specs.declared.request_row.RequestRow.{RequestRow}
use Rattle.brk_trade_plans.specs.Feed.{is_request_triggered, row_changes_of_submissions, trades_triggered_at_price}
use Rattle.brk_trade_plans.specs.Waiting.{row_changes_of_status_after_pending}
use Rattle.brk_trade_rows.specs.declared.change.Change.{Change}

-- the trades of some requests and of one more, by whether the price triggers it
of_one_more : (price : ℕ) (requests : List RequestRow) (r : RequestRow) (b : Bool) → is_request_triggered price r ≡ b
    → trades_triggered_at_price price (requests ++ r ∷ []) ≡ trades_triggered_at_price price requests ++ cond b (r.trade ∷ []) []
of_one_more price [] r true e = rw e refl
of_one_more price [] r false e = rw e refl
of_one_more price (x ∷ requests) r b e = by_first (is_request_triggered price x) (of_one_more price requests r b e)
  where
    by_first : (a : Bool) → trades_triggered_at_price price (requests ++ r ∷ []) ≡ trades_triggered_at_price price requests ++ cond b (r.trade ∷ []) []
        → map (λ (q : RequestRow). q.trade) (cond a (x ∷ filter (is_request_triggered price) (requests ++ r ∷ [])) (filter (is_request_triggered price) (requests ++ r ∷ [])))
        ≡ map (λ (q : RequestRow). q.trade) (cond a (x ∷ filter (is_request_triggered price) requests) (filter (is_request_triggered price) requests)) ++ cond b (r.trade ∷ []) []
    by_first true h = ap (λ (trades : List ℕ). x.trade ∷ trades) h
    by_first false h = h

pub triggered_more : (price : ℕ) (requests : List RequestRow) (i : ℕ) (r : RequestRow) (b : Bool) → i < length requests → r ≡ get_or requests i r → is_request_triggered price r ≡ b
    → trades_triggered_at_price price (take (i + 1) requests) ≡ trades_triggered_at_price price (take i requests) ++ cond b (r.trade ∷ []) []
triggered_more price requests i r b l e triggered =
    ap (trades_triggered_at_price price) (take_more requests i r l ∙ ap (λ (x : RequestRow). take i requests ++ x ∷ []) (sym e)) ∙ of_one_more price (take i requests) r b triggered

pub submitted_more : (stamp : ℕ) (trades : List ℕ) (trade : ℕ)
    → row_changes_of_submissions stamp (trades ++ trade ∷ []) ≡ row_changes_of_submissions stamp trades ++ row_changes_of_status_after_pending trade Submitted stamp
submitted_more stamp [] trade = refl
submitted_more stamp (x ∷ trades) trade = ap (λ (changes : List Change). row_changes_of_status_after_pending x Submitted stamp ++ changes) (submitted_more stamp trades trade)
