-- The decision on a result, from the facts and the lots read, is the model's.
use Rattle.std.proofs.Common.{◌≡◌, ◌≤◌, ◌<◌, ◌∙◌, ℕ, List, Option, Result, Ok, Err, IfOk, None, Some, ap, refl, subst, sym}
use Rattle.std.specs.Prelude.{IfSome, MatchResult}
use Rattle.sqlite_trees.specs.declared.store.Store.{Ghosts}
use Rattle.sqlite.specs.Held.{Held}
use Rattle.brk_lots.specs.Lots.{list_reversed_if_lifo}
use Rattle.brk_lots.specs.declared.lot.Lot.{Lot}
use Rattle.brk_model.specs.Base.{Base}
use Rattle.brk_model.specs.Commands.{CompleteTrade}
use Rattle.brk_model.specs.Joins.{trade_row_with_id}
use Rattle.brk_model.specs.Sheets.{sheets}
use Rattle.brk_model.specs.Tables.{Tables}
use Rattle.brk_money.specs.Moments.{greatest_stamp}
use Rattle.brk_money.specs.declared.fault.CallFault.{CallFault}
use Rattle.brk_money.specs.declared.refusal.Refusal.{Refusal}
use Rattle.brk_money.specs.declared.refusal.Refusal.TheVariants.{NoTrade}
use Rattle.brk_trade.specs.Results.{CompletesExistingTrade, IsResultRefusal}
use Rattle.brk_trade.specs.declared.result_found.ResultPlanFacts.{ResultPlanFacts}
use Rattle.brk_trade_plans.specs.declared.plan.Plan.{Plan}
use Rattle.brk_trade_books.specs.Books.{BooksInvariant}
use Rattle.brk_trade_theorems.specs.ResultPlans.{ResultFactsMatchTables, PlanResultPrecondition}
use Rattle.brk_trade_theorems.proofs.ResultDoing.{result_plan_does}
use Rattle.brk_trade_theorems.proofs.ResultRefusing.{result_refused}
use Rattle.brk_store_transactions.specs.Holds.{ReadPost}
use Rattle.brk_trade_theorems.specs.Decisions.{DecidesCommand}
use Rattle.brk_desk_decisions.specs.ResultFactReads.{AreResultFactsOfTradeWithId, AreLotsOfTradedPosition}
use Rattle.brk_store_reads.proofs.Sequences.{read_with}

-- what is planned over lots is planned over those of them that are known to be given
planned_over : (found : Option ResultPlanFacts) (price : ℕ) (given known : List Lot → Type 0) (last : Option ℕ) (now : ℕ) → ((ls : List Lot) → known ls → given ls) → (result : Result Plan Refusal)
    → MatchResult result (CompletesExistingTrade found price given last now) (IsResultRefusal found price given last now)
    → MatchResult result (CompletesExistingTrade found price known last now) (IsResultRefusal found price known last now)
planned_over None price given known last now is_given (Ok plan) p = p
planned_over None price given known last now is_given (Err refusal) p = p
planned_over (Some found) price given known last now is_given (Ok plan) p = record {
  stamp = p.stamp;
  closed = p.closed;
  stamped = p.stamped;
  closes = λ ls met. p.closes ls ((is_given (list_reversed_if_lifo found.trade.is_lifo ls) met.0.0, met.0.1), met.1, met.2);
  accepted = p.accepted;
  replied = p.replied;
  changes = p.changes;
}
planned_over (Some found) price given known last now is_given (Err refusal) p = record {
  early = p.early;
  late = λ ls stamp met. p.late ls stamp ((is_given (list_reversed_if_lifo found.trade.is_lifo ls) met.0.0, met.0.1), met.1, met.2);
}

-- and so it is over the lots of whatever tables are held
pub result_over : (found : Option ResultPlanFacts) (price : ℕ) (given : List Lot → Type 0) (last : Option ℕ) (now : ℕ) (Held : Tables → Type 0)
    → ((t : Tables) → Held t → (ls : List Lot) → AreLotsOfTradedPosition t found ls → given ls) → (result : Result (Result Plan Refusal) CallFault)
    → IfOk result (λ planned. MatchResult planned (CompletesExistingTrade found price given last now) (IsResultRefusal found price given last now))
    → IfOk result (λ planned. (t : Tables) → Held t
    → MatchResult planned (CompletesExistingTrade found price (AreLotsOfTradedPosition t found) last now)
    (IsResultRefusal found price (AreLotsOfTradedPosition t found) last now))
result_over found price given last now Held is_given (Ok result) p = λ t held. planned_over found price given (AreLotsOfTradedPosition t found) last now (is_given t held) result p
result_over found price given last now Held is_given (Err fault) p = tt

-- of no trade it is, whatever is held
pub none_over : (Held : Tables → Type 0) (result : Result (Result Plan Refusal) CallFault) → IfOk result (λ planned. MatchResult planned (λ plan. ⊥) (λ refusal. refusal ≡ NoTrade))
    → IfOk result (λ planned. (t : Tables) → Held t → MatchResult planned (λ plan. ⊥) (λ refusal. refusal ≡ NoTrade))
none_over Held (Ok (Ok plan)) p = λ t held. p
none_over Held (Ok (Err refusal)) p = λ t held. p
none_over Held (Err fault) p = tt

-- `last` is the last stamp of the tables, and the facts for the result of the trade with the id
-- `id` equal those of the tables.
abbrev pub ResultFactsAndLastStampMatch : ℕ → Option ℕ → Option ResultPlanFacts → Tables → Type 0
ResultFactsAndLastStampMatch id last found t = (last ≡ t.last) × AreResultFactsOfTradeWithId t id found

-- they are known after two reads
pub last_and_found : {S E F : Type 0} (g : Ghosts S) (old mid end : Held S) (id : ℕ) (last : Option ℕ) (found : Option ResultPlanFacts)
    → ReadPost {E = E} g old mid (Ok last) (λ last t. last ≡ t.last) → ReadPost {E = F} g mid end (Ok found) (λ found t. AreResultFactsOfTradeWithId t id found)
    → ReadPost {E = CallFault} g old end (Ok found) (ResultFactsAndLastStampMatch id last)
last_and_found g old mid end id last found at_last at_found =
    read_with g old mid end {H = CallFault} last found found (λ last t. last ≡ t.last) (λ found t. AreResultFactsOfTradeWithId t id found)
    (ResultFactsAndLastStampMatch id last) (λ t e f. (e, f)) at_last at_found

-- If a trade was found, its quantity is above 0. Vacuous if none was found.
abbrev pub FoundTradeHasShares : Option ResultPlanFacts → Type 0
FoundTradeHasShares found = IfSome found (λ f. 0 < f.trade.qty)

-- a result's plan does it, and its refusal is that of the command
module _ (id price : ℕ) (last : Option ℕ) (now : ℕ) (moment : now ≤ greatest_stamp) where
  looked_up : (found : Option ResultPlanFacts) → FoundTradeHasShares found → (t : Tables) → ResultFactsAndLastStampMatch id last found t → (base : Base) → BooksInvariant base → t ≡ sheets base
      → PlanResultPrecondition base id found (AreLotsOfTradedPosition (sheets base) found) last now
  looked_up None shares t known base books e = record {
    books = books;
    trade_read = ap (λ x. trade_row_with_id x id) (sym e) ∙ known.1.trade;
    looked_up = tt;
    lots_read = tt;
    some_shares = tt;
    last_read = known.0 ∙ ap (λ x. x.last) e;
    moment = moment;
  }
  looked_up (Some f) shares t known base books e = record {
    books = books;
    trade_read = ap (λ x. trade_row_with_id x id) (sym e) ∙ known.1.trade;
    looked_up = subst (λ x. ResultFactsMatchTables x f) e known.1.read.read;
    lots_read = λ p. refl;
    some_shares = shares;
    last_read = known.0 ∙ ap (λ x. x.last) e;
    moment = moment;
  }

  planned : (found : Option ResultPlanFacts) → FoundTradeHasShares found → (t : Tables) → ResultFactsAndLastStampMatch id last found t → (result : Result Plan Refusal)
      → MatchResult result (CompletesExistingTrade found price (AreLotsOfTradedPosition t found) last now)
      (IsResultRefusal found price (AreLotsOfTradedPosition t found) last now) → DecidesCommand now (CompleteTrade id price) result t
  planned found shares t known (Ok plan) p base books e =
      result_plan_does base id price found (AreLotsOfTradedPosition (sheets base) found) last now plan (looked_up found shares t known base books e)
      (subst (λ x. CompletesExistingTrade found price (AreLotsOfTradedPosition x found) last now plan) e p)
  planned found shares t known (Err refusal) p base books e =
      result_refused base id price found (AreLotsOfTradedPosition (sheets base) found) last now refusal (looked_up found shares t known base books e)
      (subst (λ x. IsResultRefusal found price (AreLotsOfTradedPosition x found) last now refusal) e p)

  pub result_decided : (found : Option ResultPlanFacts) → FoundTradeHasShares found → (Held : Tables → Type 0) → (result : Result (Result Plan Refusal) CallFault)
      → IfOk result (λ planned. (t : Tables) → Held t
      → MatchResult planned (CompletesExistingTrade found price (AreLotsOfTradedPosition t found) last now)
      (IsResultRefusal found price (AreLotsOfTradedPosition t found) last now))
      → IfOk result (λ planned. (t : Tables) → Held t → ResultFactsAndLastStampMatch id last found t → DecidesCommand now (CompleteTrade id price) planned t)
  result_decided found shares Held (Ok result) p = λ t held known. planned found shares t known result (p t held)
  result_decided found shares Held (Err fault) p = tt
