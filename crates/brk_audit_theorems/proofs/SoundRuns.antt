-- A run of calls in the audit's formats preserves both invariants.
use Rattle.std.proofs.Common.{ℕ, List, [], ◌∷◌, sym, ap, subst, Option}
use Rattle.std.specs.Prelude.{IfSome, Result, Ok, Err}
use Rattle.std.specs.List.{AllByRecursion}
use Rattle.brk_money.specs.declared.refusal.Refusal.{Refusal}
use Rattle.brk_model.specs.Base.{Base}
use Rattle.brk_model.specs.Commands.{Answer, Command}
use Rattle.brk_model.specs.Queries.{View, Query}
use Rattle.brk_model.specs.Records.{Key}
use Rattle.brk_model.specs.Keyed.{keyed_step}
use Rattle.brk_model.specs.Run.{IsOutcomeOfCall, Call, Do, Ask, Outcome, Did, Saw, NoView, Failed, IsResultOfQuery, Run}
use Rattle.brk_trade_books.specs.Books.{BooksInvariant}
use Rattle.brk_trade_books.proofs.RunKeeping.{books_command, call_keeps}
use Rattle.brk_trade_books.proofs.Keepers.{books_kept}
use Rattle.brk_audit_theorems.specs.Sound.{AuditInvariant}
use Rattle.brk_audit_theorems.specs.InForm.{MeetsAuditFormats, IsWellFormedKey}
use Rattle.brk_audit_theorems.specs.Runs.{CallMeetsAuditFormats}
use Rattle.brk_audit_theorems.proofs.SoundSteps.{keyed_sound}

abbrev pub Both : Base → Type 0
Both base = BooksInvariant base × AuditInvariant base

pub keyed_both : (base : Base) (now : ℕ) (command : Command) (key : Option Key) → Both base → MeetsAuditFormats command → IfSome key IsWellFormedKey → Both (keyed_step base now command key).1
keyed_both base now command key k form named = (
  call_keeps BooksInvariant (λ base key command reply k. books_kept base key command reply k) (λ base now command k e. books_command base now command k e) base now command key k.0,
  keyed_sound base now command key k.1 k.0 form named,
)

pub run_both : (base : Base) (calls : List (ℕ × Call)) (outcomes : List Outcome) (after : Base) → AllByRecursion CallMeetsAuditFormats calls → Run base calls outcomes after → Both base → Both after
run_both base [] [] after f r h = subst Both (sym r) h
run_both base [] (outcome ∷ outcomes) after f r h = absurd r
run_both base (call ∷ calls) [] after f r h = absurd r
run_both base ((now, c) ∷ calls) (outcome ∷ outcomes) after f r h = run_both r.0 calls outcomes after f.1 r.2 (answered c outcome f.0 r.1)
  where
    seen : (query : Query) (view : Result View Refusal) → IsResultOfQuery base (Ask query) view r.0 → Both r.0
    seen query view k = subst Both (sym k.1) h

    answered : (c : Call) (o : Outcome) → CallMeetsAuditFormats (now, c) → IsOutcomeOfCall base now c o r.0 → Both r.0
    answered (Do command key) (Did answer) g k = subst Both (ap (λ (x : Answer × Base). x.1) k) (keyed_both base now command key h g.0 g.1)
    answered (Ask query) (Did answer) g k = absurd k
    answered (Do command key) (Saw view) g k = absurd k
    answered (Ask query) (Saw view) g k = seen query (Ok view) k
    answered (Do command key) (NoView refusal) g k = absurd k
    answered (Ask query) (NoView refusal) g k = seen query (Err refusal) k
    answered c (Failed fault) g k = subst Both (sym k.1) h
