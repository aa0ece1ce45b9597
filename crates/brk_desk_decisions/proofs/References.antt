-- The decision on a new reference record, from the facts read, is the model's.
use Rattle.std.proofs.Common.{◌≡◌, ◌≤◌, ◌∙◌, ℕ, Option, Result, Ok, Err, IfOk, ap, subst}
use Rattle.std.specs.Prelude.{MatchResult, ◌∷◌, ◌++◌, [], Some}
use Rattle.sqlite_trees.specs.declared.store.Store.{Ghosts}
use Rattle.sqlite.specs.Held.{Held}
use Rattle.brk_money.specs.Moments.{greatest_stamp}
use Rattle.brk_money.specs.declared.fault.Fault.{Fault}
use Rattle.brk_money.specs.declared.refusal.Refusal.{Refusal}
use Rattle.brk_model.specs.Base.{Base}
use Rattle.brk_model.specs.Sheets.{sheets}
use Rattle.brk_model.specs.Tables.{Tables}
use Rattle.brk_model.specs.Tests.{first_refusal}
use Rattle.brk_trade_plans.specs.Reference.{IsReferencePlan, later_stamp_check, reference_checks}
use Rattle.brk_trade_plans.specs.declared.plan.Plan.{Plan}
use Rattle.brk_trade_plans.specs.declared.reference.ReferenceFacts.{ReferenceFacts}
use Rattle.brk_trade_plans.specs.declared.reference.Reference.{Reference}
use Rattle.brk_trade_books.specs.Books.{BooksInvariant}
use Rattle.brk_trade_plans.specs.Commands.{command_adding_record}
use Rattle.brk_trade_theorems.specs.Decisions.{DecidesCommand}
use Rattle.brk_trade_theorems.specs.Plans.{PlanReferencePrecondition as IsLookedUp}
use Rattle.brk_trade_theorems.specs.Found.{ReferenceFactsMatchTables}
use Rattle.brk_trade_theorems.proofs.Planning.{plan_does, refusal_does}
use Rattle.brk_store_transactions.specs.Holds.{ReadPost}
use Rattle.brk_store_reads.proofs.Sequences.{read_with}

-- `last` is the last stamp of the tables, and the facts for the reference record equal those of the
-- tables.
abbrev pub ReferenceFactsAndLastStampMatch : Reference → ReferenceFacts → Option ℕ → Tables → Type 0
ReferenceFactsAndLastStampMatch r found last t = (last ≡ t.last) × ReferenceFactsMatchTables t r found

-- they are known after two reads
pub last_and_found : {S E F : Type 0} (g : Ghosts S) (old mid end : Held S) (r : Reference) (found : ReferenceFacts) (last : Option ℕ) → ReadPost {E = E} g old mid (Ok last) (λ last t. last ≡ t.last)
    → ReadPost {E = F} g mid end (Ok found) (λ found t. ReferenceFactsMatchTables t r found) → ReadPost {E = Fault} g old end (Ok found) (λ f. ReferenceFactsAndLastStampMatch r f last)
last_and_found g old mid end r found last at_last at_found =
    read_with g old mid end {H = Fault} last found found (λ last t. last ≡ t.last) (λ found t. ReferenceFactsMatchTables t r found)
    (λ f. ReferenceFactsAndLastStampMatch r f last) (λ t e f. (e, f)) at_last at_found

-- a record's plan does its command, and its refusal is that of the command
module _ (r : Reference) (found : ReferenceFacts) (last : Option ℕ) (now : ℕ) (moment : now ≤ greatest_stamp) where
  looked_up : (t : Tables) → ReferenceFactsAndLastStampMatch r found last t → (base : Base) → BooksInvariant base → t ≡ sheets base → IsLookedUp base r found last now
  looked_up t known base books e = record {
    books = books;
    looked_up = subst (λ x. ReferenceFactsMatchTables x r found) e known.1;
    last_read = known.0 ∙ ap (λ x. x.last) e;
    moment = moment;
  }

  record_decided : (planned : Result Plan Refusal)
      → MatchResult planned (IsReferencePlan r found last now)
      (λ refusal. first_refusal (reference_checks r found ++ later_stamp_check last now ∷ []) ≡ Some refusal)
      → (t : Tables) → ReferenceFactsAndLastStampMatch r found last t → DecidesCommand now (command_adding_record r) planned t
  record_decided (Ok plan) p t known base books e = plan_does base r found last now plan (looked_up t known base books e) p
  record_decided (Err refusal) p t known base books e = refusal_does base r found last now refusal (looked_up t known base books e) p

  pub reference_decided : (result : Result (Result Plan Refusal) Fault)
      → IfOk result (λ planned. MatchResult planned (IsReferencePlan r found last now) (λ refusal. first_refusal (reference_checks r found ++ later_stamp_check last now ∷ []) ≡ Some refusal))
      → IfOk result (λ planned. (t : Tables) → ReferenceFactsAndLastStampMatch r found last t → DecidesCommand now (command_adding_record r) planned t)
  reference_decided (Ok planned) p = record_decided planned p
  reference_decided (Err fault) p = tt
