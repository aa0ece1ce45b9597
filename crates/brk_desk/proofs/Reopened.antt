-- A crash state of a store that represented a base is adopted without damage.
use Rattle.std.proofs.Common.{◌≡◌, ◌⊎◌, ◌∙◌, inl, inr, ℕ, List, map, Option, Result, Ok, IsTrue, refl, sym, ap, subst}
use Rattle.sqlite_trees.specs.declared.store.Store.{Ghosts}
use Rattle.sqlite_trees.specs.Tree.{Trees}
use Rattle.sqlite.specs.Effect.{Database}
use Rattle.sqlite.specs.Held.{Held, state}
use Rattle.sqlite.specs.State.{HasCleanDisk}
use Rattle.brk_money.specs.declared.fault.Fault.{Fault}
use Rattle.brk_model.specs.Base.{Base, empty_base}
use Rattle.brk_model.specs.Commands.{Command}
use Rattle.brk_model.specs.Form.{has_utf8_texts}
use Rattle.brk_model.specs.Records.{Key}
use Rattle.brk_model.specs.Sheets.{sheets}
use Rattle.brk_model.specs.Tables.{Tables}
use Rattle.brk_trade_books.proofs.Steps.{empty_books, empty_rows}
use Rattle.brk_audit_theorems.proofs.SoundRuns.{keyed_both}
use Rattle.brk_audit_theorems.proofs.SoundSteps.{empty_sound}
use Rattle.brk_store_transactions.specs.Audited.{AdoptPost, AuditPost, Represents, IsConsistent}
use Rattle.brk_store_transactions.specs.Holds.{IsDiskContentOfRows, CreatePost, CrashStatesSatisfy}
use Rattle.brk_store_transactions.proofs.Found.{found_again}
use Rattle.brk_store_transactions.proofs.States.{clean_before}
use Rattle.brk_store_transactions.proofs.Taking.{sound_books_pass, third_audited}
use Rattle.brk_desk.specs.Answers.{model_outcome}
use Rattle.brk_desk.specs.Commands.{model_call}
use Rattle.brk_desk.specs.Booked.{CommandPost, IsDiskContentAfterCommand, base_after_keyed_command}
use Rattle.brk_desk.specs.CallPosts.{RunPost}
use Rattle.brk_desk.specs.Reopening.{IsNewConnectionToDiskContent, IsNewConnectionAfterCrash, FindsBaseWithoutDamage, RepresentsDurableBase}
use Rattle.brk_desk.specs.CrashBases.{CrashMayExposeBase}
use Rattle.brk_desk.specs.CommandAnswers.{CommandAnswer}
use Rattle.brk_desk.specs.declared.call.Call.{Call}
use Rattle.brk_desk.specs.declared.call.Outcome.{Outcome}
use Rattle.brk_desk.proofs.AtFirst.{made_keeps, stands}
use Rattle.brk_desk.proofs.Seen.{still_kept}

pub made_stands : {S : Type 0} (g : Ghosts S) (conn store : Held S) → CreatePost g conn store (Ok tt) → HasCleanDisk (state g store) → RepresentsDurableBase g store empty_base
made_stands g conn store created clean = record {
  represented = made_keeps g store created.created;
  crash_exposes_only_base = λ trees may. subst (λ (t : Tables). IsDiskContentOfRows t trees) (sym empty_rows) (created.durable clean trees may);
}

-- ---- what can be kept

pub kept_can_be : {S : Type 0} (g : Ghosts S) (store : Held S) (base : Base) → Represents g store base → IsConsistent base
kept_can_be g store base keeps = keeps.consistent

-- what may come of a call can be kept too
pub booked_can_be : {S : Type 0} (g : Ghosts S) (old new : Held S) (base : Base) (now : ℕ) (command : Command) (key : Option Key) (answer : Result CommandAnswer Fault) (trees : Trees)
    → CommandPost g old new now command key answer → Represents g old base → IsDiskContentAfterCommand g old now command key trees → IsConsistent (base_after_keyed_command base now command key)
booked_can_be g old new base now command key answer trees called keeps come =
    let both = keyed_both base now command key (keeps.books, keeps.sound) called.well_formed.0 called.well_formed.1 in
    record { books = both.0; sound = both.1; texts = come.2 base keeps }

-- ---- what was left is adopted

-- A crash of an open store exposes only the disk contents of its last commit.
abbrev pub RecoversOnlyLastCommit : {S : Type 0} → Ghosts S → Type 0
RecoversOnlyLastCommit {S} g = (s : S) (db : Trees) → IsTrue (g.view s).is_open → g.recovers s db → db ≡ (g.view s).committed

module _ {S : Type 0} (g : Ghosts S) (settled : RecoversOnlyLastCommit g) where
  -- a connection opened over the tables of sound books in order keeps them
  opened_keeps : (trees : Trees) (conn : Held S) (base : Base) → IsConsistent base → IsDiskContentOfRows (sheets base) trees → IsNewConnectionToDiskContent g trees conn → Represents g conn base
  opened_keeps trees conn base can are opened = record { rows = found_again g (sheets base) trees conn are opened.connected; consistent = can }

  -- a connection that was just opened leaves its trees alone
  pub leaves_alone : (trees : Trees) (conn : Held S) → IsNewConnectionToDiskContent g trees conn → HasCleanDisk (state g conn) → CrashStatesSatisfy g conn (λ left. left ≡ trees)
  leaves_alone trees conn opened clean left may =
      let o = opened.opens clean in
      settled conn.store left o.is_open may ∙ sym (ap (λ (db : Database). db.trees) o.clean) ∙ opened.connected.same clean

  -- trees with the tables of the third schema: what is adopted over them is audited, and nothing is
  -- written
  module _ (trees : Trees) (conn store : Held S) (result : Result (Unit {0}) Fault) (opened : IsNewConnectionToDiskContent g trees conn)
      (audited : AuditPost g conn store result) (clean : HasCleanDisk (state g store)) where
    clean_conn : HasCleanDisk (state g conn)
    clean_conn = clean_before (state g conn) (state g store) (λ _. ⊥) audited.survives clean

    -- and an audit leaves them too
    stays_alone : CrashStatesSatisfy g store (λ left. left ≡ trees)
    stays_alone left may = elim (audited.survives.crash clean left may) [ inl was ↦ leaves_alone trees conn opened clean_conn left was | inr none ↦ absurd none ]

    -- the books of a base whose tables they are stand
    pub audited_stands : (base : Base) → IsConsistent base → IsDiskContentOfRows (sheets base) trees → RepresentsDurableBase g store base
    audited_stands base can are = record {
      represented = still_kept g conn store base (audited.same_rows (sheets base)) (opened_keeps trees conn base can are opened);
      crash_exposes_only_base = λ left m. subst (IsDiskContentOfRows (sheets base)) (sym (stays_alone left m)) are;
    }

  -- over the tables of sound books in order
  pub taken_over : (trees : Trees) (conn store : Held S) (result : Result (Unit {0}) Fault) → IsNewConnectionToDiskContent g trees conn → AdoptPost g conn store result → HasCleanDisk (state g store)
      → (base : Base) → IsConsistent base → IsDiskContentOfRows (sheets base) trees → (May : Base → Type 0) → May base → FindsBaseWithoutDamage g store result May
  taken_over trees conn store result opened adopted clean base can are May may = record {
    base = base;
    possible = may;
    undamaged = sound_books_pass g conn store result audited base held clean;
    represented = audited_stands trees conn store result opened audited clean base can are;
  }
    where
      held : Represents g conn base
      held = opened_keeps trees conn base can are opened

      audited : AuditPost g conn store result
      audited = third_audited g conn store result adopted (sheets base) held.rows

  -- a stop within the making of the tables
  pub making_taken_over : (first left conn store : Held S) (made result : Result (Unit {0}) Fault) (trees : Trees) → CreatePost g first left made → HasCleanDisk (state g left)
      → (state g left).may_leave trees → IsNewConnectionToDiskContent g trees conn → AdoptPost g conn store result → HasCleanDisk (state g store)
      → (state g first).may_leave trees ⊎ FindsBaseWithoutDamage g store result (λ base. base ≡ empty_base)
  making_taken_over first left conn store made result trees created clean may opened adopted after =
      elim (created.survives.crash clean trees may) [
        | inl was ↦ inl was
        | inr none ↦ inr (taken_over trees conn store result opened adopted after empty_base (record { books = empty_books; sound = empty_sound; texts = ap has_utf8_texts empty_rows })
            (subst (λ (t : Tables). IsDiskContentOfRows t trees) (sym empty_rows) none) (λ base. base ≡ empty_base) refl)
      ]

  module _ (first left conn store : Held S) (base : Base) (result : Result (Unit {0}) Fault) (at : RepresentsDurableBase g first base)
      (clean : HasCleanDisk (state g left)) (again : IsNewConnectionAfterCrash g left conn)
      (adopted : AdoptPost g conn store result) (after : HasCleanDisk (state g store)) where
    -- a stop within a call
    pub call_taken_over : (now : ℕ) (command : Command) (key : Option Key) (answer : Result CommandAnswer Fault) → CommandPost g first left now command key answer
        → FindsBaseWithoutDamage g store result (λ stood. (stood ≡ base) ⊎ (stood ≡ base_after_keyed_command base now command key))
    call_taken_over now command key answer called =
        elim (called.survives.crash clean again.0 again.1) [
          | inl was ↦ taken_over again.0 conn store result again.2 adopted after base (kept_can_be g first base at.represented) (at.crash_exposes_only_base again.0 was) May (inl refl)
          | inr come ↦ taken_over again.0 conn store result again.2 adopted after (base_after_keyed_command base now command key)
              (booked_can_be g first left base now command key answer again.0 called at.represented come)
              (come.1 base at.represented) May (inr refl)
        ]
      where
        May : Base → Type 0
        May stood = (stood ≡ base) ⊎ (stood ≡ base_after_keyed_command base now command key)

    -- a stop within or behind a run
    pub run_taken_over : (calls : List (ℕ × Call)) (outcomes : List Outcome) → RunPost g first left calls outcomes
        → FindsBaseWithoutDamage g store result (CrashMayExposeBase base (map model_call calls) (map model_outcome outcomes))
    run_taken_over calls outcomes run =
        let l = run.stays_durable clean base at.represented at.crash_exposes_only_base again.0 again.1 in
        let both = stands base (map model_call calls) (map model_outcome outcomes) l.0 run.well_formed (at.represented.books, at.represented.sound) l.1 in
        taken_over again.0 conn store result again.2 adopted after l.0 (record { books = both.0; sound = both.1; texts = l.3 }) l.2
        (CrashMayExposeBase base (map model_call calls) (map model_outcome outcomes)) l.1
