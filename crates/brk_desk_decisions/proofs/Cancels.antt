-- The decision on a cancel, from the facts read, is the model's.
use Rattle.std.proofs.Common.{◌≡◌, ◌≤◌, ◌∙◌, ℕ, Option, Result, Ok, Err, IfOk, ap}
use Rattle.std.specs.Prelude.{MatchResult, ◌∷◌, ◌++◌, [], Some, option_map}
use Rattle.sqlite_trees.specs.declared.store.Store.{Ghosts}
use Rattle.sqlite.specs.Held.{Held}
use Rattle.brk_money.specs.Moments.{greatest_stamp}
use Rattle.brk_money.specs.declared.fault.Fault.{Fault}
use Rattle.brk_money.specs.declared.refusal.Refusal.{Refusal}
use Rattle.brk_money.specs.declared.status.Status.{Status}
use Rattle.brk_model.specs.Base.{Base}
use Rattle.brk_model.specs.Commands.{CancelTrade}
use Rattle.brk_model.specs.Joins.{trade_row_with_id}
use Rattle.brk_model.specs.Sheets.{sheets}
use Rattle.brk_model.specs.Tables.{Tables}
use Rattle.brk_model.specs.Tests.{first_refusal}
use Rattle.brk_trade_plans.specs.Cancel.{IsCancelPlan, cancel_checks}
use Rattle.brk_trade_plans.specs.Reference.{later_stamp_check}
use Rattle.brk_trade_plans.specs.declared.plan.Plan.{Plan}
use Rattle.brk_trade_books.specs.Books.{BooksInvariant}
use Rattle.brk_trade_theorems.specs.TradePlans.{PlanCancelPrecondition}
use Rattle.brk_trade_theorems.proofs.CancelPlanning.{cancel_plan_does, cancel_refused}
use Rattle.brk_store_transactions.specs.Holds.{ReadPost}
use Rattle.brk_trade_theorems.specs.Decisions.{DecidesCommand}
use Rattle.brk_store_reads.proofs.Sequences.{read_with}

-- `last` is the last stamp of the tables, and `found` is the status of the trade with the id `id`,
-- or `None` if the trade does not exist.
abbrev pub TradeStatusAndLastStampMatch : ℕ → Option Status → Option ℕ → Tables → Type 0
TradeStatusAndLastStampMatch id found last t = (last ≡ t.last) × (found ≡ option_map (λ r. r.status) (trade_row_with_id t id))

-- they are known after two reads
pub last_and_status : {S E F : Type 0} (g : Ghosts S) (old mid end : Held S) (id : ℕ) (found : Option Status) (last : Option ℕ) → ReadPost {E = E} g old mid (Ok last) (λ last t. last ≡ t.last)
    → ReadPost {E = F} g mid end (Ok found) (λ found t. found ≡ option_map (λ r. r.status) (trade_row_with_id t id))
    → ReadPost {E = Fault} g old end (Ok found) (λ f. TradeStatusAndLastStampMatch id f last)
last_and_status g old mid end id found last at_last at_found =
    read_with g old mid end {H = Fault} last found found (λ last t. last ≡ t.last) (λ found t. found ≡ option_map (λ r. r.status) (trade_row_with_id t id))
    (λ f. TradeStatusAndLastStampMatch id f last) (λ t e f. (e, f)) at_last at_found

-- a cancel's plan does it, and its refusal is that of the command
module _ (id : ℕ) (found : Option Status) (last : Option ℕ) (now : ℕ) (moment : now ≤ greatest_stamp) where
  looked_up : (t : Tables) → TradeStatusAndLastStampMatch id found last t → (base : Base) → BooksInvariant base → t ≡ sheets base → PlanCancelPrecondition base id found last now
  looked_up t known base books e = record {
    books = books;
    status_read = known.1 ∙ ap (λ x. option_map (λ r. r.status) (trade_row_with_id x id)) e;
    last_read = known.0 ∙ ap (λ x. x.last) e;
    moment = moment;
  }

  pub cancel_decided : (result : Result (Result Plan Refusal) Fault)
      → IfOk result (λ planned. MatchResult planned (IsCancelPlan id found last now) (λ refusal. first_refusal (cancel_checks found ++ later_stamp_check last now ∷ []) ≡ Some refusal))
      → IfOk result (λ planned. (t : Tables) → TradeStatusAndLastStampMatch id found last t → DecidesCommand now (CancelTrade id) planned t)
  cancel_decided (Ok (Ok plan)) p = λ t known base books e. cancel_plan_does base id found last now plan (looked_up t known base books e) p
  cancel_decided (Ok (Err refusal)) p = λ t known base books e. cancel_refused base id found last now refusal (looked_up t known base books e) p
  cancel_decided (Err fault) p = tt
