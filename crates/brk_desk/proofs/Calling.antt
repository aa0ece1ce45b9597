-- A command fails, is answered again, is refused or is committed, for the rows that were read.
use Rattle.brk_model.specs.Form.{has_utf8_texts}
use Rattle.std.specs.Prelude.{IfSome}
use Rattle.std.proofs.Common.{◌≡◌, ◌∙◌, ℕ, Bool, true, false, List, if◌then◌else◌, Result, Ok, Err, IfOk, OnErr, None, Some, Option, refl, sym, ap, subst, inl}
use Rattle.sqlite_trees.specs.declared.store.Store.{Ghosts}
use Rattle.sqlite.specs.Held.{Held, state}
use Rattle.sqlite.specs.State.{HasCleanDisk, Survives}
use Rattle.sqlite.proofs.StateLemmas.{survives_weaker}
use Rattle.sqlite_trees.specs.Tree.{Trees}
use Rattle.brk_money.specs.declared.fault.Fault.{Fault}
use Rattle.brk_money.specs.declared.fault.Fault.TheVariants.{Memory}
use Rattle.brk_money.specs.declared.refusal.Refusal.{Refusal}
use Rattle.brk_model.specs.Base.{Base, empty_base}
use Rattle.brk_model.specs.Commands.{Again, Answer, Command, Done, Refused, Reply}
use Rattle.brk_model.specs.Sheets.{sheets}
use Rattle.brk_model.specs.Step.{step}
use Rattle.brk_model.specs.Tables.{Tables}
use Rattle.brk_model.specs.Tests.{stamp_of_next_command}
use Rattle.brk_model.specs.Records.{Key, Kept}
use Rattle.brk_model.specs.Rows.{row_text}
use Rattle.brk_money.specs.declared.refusal.Refusal.TheVariants.{KeyReused}
use Rattle.std.specs.Prelude.{bytes_eq}
use Rattle.brk_model.specs.Run.{IsCallFault}
use Rattle.brk_model.specs.Keyed.{answer_and_base_of_step, base_with_stored_reply, keyed_step, answer_and_base_of_retry}
use Rattle.brk_trade_rows.specs.Changes.{tables_after_changes}
use Rattle.brk_trade_plans.specs.declared.plan.Plan.{Plan}
use Rattle.brk_trade_plans.specs.Replies.{abstract_reply}
use Rattle.brk_trade_books.specs.Books.{BooksInvariant}
use Rattle.brk_trade_theorems.specs.Decisions.{DecidesCommand}
use Rattle.brk_trade_theorems.specs.Plans.{PlanImplementsCommand}
use Rattle.brk_trade_books.specs.Steps.{base_after_command}
use Rattle.brk_trade_books.proofs.Keepers.{books_kept}
use Rattle.brk_audit_theorems.specs.InForm.{MeetsAuditFormats, IsWellFormedKey}
use Rattle.brk_audit_theorems.specs.Sound.{AuditInvariant}
use Rattle.brk_audit_theorems.proofs.SoundSteps.{keyed_sound}
use Rattle.brk_store_transactions.specs.Holds.{IsDiskContentOfRows, HoldsRows, ApplyPost, ReadPost}
use Rattle.brk_store_transactions.proofs.States.{clean_before}
use Rattle.brk_store_reads.proofs.Sequences.{none_then, same_then}
use Rattle.brk_desk.specs.CommandAnswers.{CommandAnswer, IsDoneResult, model_answer}
use Rattle.brk_desk.specs.Booked.{CommandPost, IsDiskContentAfterCommand, base_after_keyed_command}
use Rattle.brk_store_transactions.specs.Audited.{Represents}
use Rattle.brk_desk.specs.Keys.{ReadStoredReplyPost, kept_row_under_key, tables_with_stored_command}
use Rattle.brk_ref.specs.declared.answer.Answer.TheVariants as given
use Rattle.brk_desk.proofs.Kept.{rows_with_key, steps_again, steps_anew}
use Rattle.brk_desk.proofs.RowTexts.{changes_keep_texts}
use Rattle.brk_desk.proofs.Seen.{still_kept, HoldsWithoutChange, seen, seen_both, sought_none}

-- No reply is stored under the key, and `planned` is the decision of the model on the command.
abbrev pub DecidesCommandOfNewKey : ℕ → Command → Option Key → Result Plan Refusal → Tables → Type 0
DecidesCommandOfNewKey now command key planned t = (None ≡ kept_row_under_key t key) × DecidesCommand now command planned t

-- it is known after two reads
pub known : {S E : Type 0} (g : Ghosts S) (old first mid : Held S) (now : ℕ) (command : Command) (key : Option Key) (planned : Result Plan Refusal) → ReadStoredReplyPost g old first key (Ok None)
    → ReadPost {E = E} g first mid (Ok planned) (DecidesCommand now command) → HoldsWithoutChange g old mid (DecidesCommandOfNewKey now command key planned)
known g old first mid now command key planned sought decided =
    seen_both g old first mid (λ t. None ≡ kept_row_under_key t key) (DecidesCommand now command planned) (sought_none g old first key sought)
    (seen g first mid planned (DecidesCommand now command) decided)

pub same_fault : {V : Type 0} (fault other : Fault) (result : Result V Fault) → result ≡ Err fault → result ≡ Err other → fault ≡ other
same_fault fault other result is was = cc

not_done : (b : Bool) (line : List ℕ) (reply : Reply) → (if b then Again line else Refused KeyReused) ≡ Done reply → ⊥
not_done true line reply e = absurd (let f = e in cc)
not_done false line reply e = absurd (let f = e in cc)

-- what a kept key is answered with is never that it was done now
never_done : (base : Base) (command : Command) (k : Kept) (answer : CommandAnswer) → answer_and_base_of_retry base command k ≡ (model_answer answer, base) → IsDoneResult (Ok answer) → ⊥
never_done base command k (given.Done reply) e done = not_done (bytes_eq k.row_text (row_text command)) k.line (abstract_reply reply) (ap (λ (x : Answer × Base). x.0) e)
never_done base command k (given.Again line) e done = done
never_done base command k (given.Refused refusal) e done = done

module _ {S : Type 0} (g : Ghosts S) (old mid : Held S) (now : ℕ) (command : Command) (key : Option Key) (formed : MeetsAuditFormats command × IfSome key IsWellFormedKey) where
  -- the base after the command is sound
  sound_after : (base : Base) → Represents g old base → (after : Base) (answer : Answer) → keyed_step base now command key ≡ (answer, after) → AuditInvariant after
  sound_after base keeps after answer e = subst AuditInvariant (ap (λ (x : Answer × Base). x.1) e) (keyed_sound base now command key keeps.sound keeps.books formed.0 formed.1)

  -- what was read is of no use
  pub fails : (P : Tables → Type 0) → HoldsWithoutChange g old mid P → (fault : Fault) → IsCallFault fault → CommandPost g old mid now command key (Err fault)
  fails P seen fault may = record {
    answered = λ clean. tt;
    same_bases_at_error = λ base keeps. still_kept g old mid base (seen.kept (sheets base)) keeps;
    fault = may;
    survives = survives_weaker (state g old) (state g mid) (λ _. ⊥) _ (λ _ db none. absurd none) seen.survives;
    durable = λ clean done. absurd done;
    open_and_committed = λ clean done. absurd done;
    unchanged_if_open = λ clean o none. seen.unchanged_if_open clean o;
    clean = seen.clean;
    well_formed = formed;
  }

  -- its key is kept
  pub repeats : (k : Kept) (answer : CommandAnswer) → ((base : Base) → answer_and_base_of_retry base command k ≡ (model_answer answer, base))
      → HoldsWithoutChange g old mid (λ t. Some k ≡ kept_row_under_key t key)
      → CommandPost g old mid now command key (Ok answer)
  repeats k answer told seen = record {
    answered = λ clean base keeps. (
      base,
      still_kept g old mid base (seen.kept (sheets base)) keeps,
      steps_again base now command key k (model_answer answer, base) (seen.told clean (sheets base) keeps.rows) (told base),
    );
    same_bases_at_error = tt;
    fault = tt;
    survives = survives_weaker (state g old) (state g mid) (λ _. ⊥) _ (λ _ db none. absurd none) seen.survives;
    durable = λ clean done base keeps. absurd (never_done base command k answer (told base) done);
    open_and_committed = λ clean done. absurd (never_done empty_base command k answer (told empty_base) done);
    unchanged_if_open = λ clean o none. seen.unchanged_if_open clean o;
    clean = seen.clean;
    well_formed = formed;
  }

  -- it is refused
  pub refuses : (refusal : Refusal) → HoldsWithoutChange g old mid (DecidesCommandOfNewKey now command key (Err refusal)) → CommandPost g old mid now command key (Ok (given.Refused refusal))
  refuses refusal seen = record {
    answered = λ clean base keeps.
        let known = seen.told clean (sheets base) keeps.rows in
        let refused : step base now command ≡ Err refusal = known.1 base keeps.books refl in (
          base,
          still_kept g old mid base (seen.kept (sheets base)) keeps,
          steps_anew base now command key known.0 ∙ ap (answer_and_base_of_step base key command) refused,
        );
    same_bases_at_error = tt;
    fault = tt;
    survives = survives_weaker (state g old) (state g mid) (λ _. ⊥) _ (λ _ db none. absurd none) seen.survives;
    durable = λ clean done. absurd done;
    open_and_committed = λ clean done. absurd done;
    unchanged_if_open = λ clean o none. seen.unchanged_if_open clean o;
    clean = seen.clean;
    well_formed = formed;
  }

  -- it is planned, and is kept with its plan
  module _ (plan : Plan) (seen : HoldsWithoutChange g old mid (DecidesCommandOfNewKey now command key (Ok plan))) (end : Held S) (kept : Plan) (reply : kept.reply ≡ plan.reply)
      (rows : (t : Tables) → tables_after_changes kept.changes.items t ≡ tables_with_stored_command key command (abstract_reply plan.reply) (tables_after_changes plan.changes.items t)) where
    clean_then : {r : Result (Unit {0}) Fault} → ApplyPost g mid end r (tables_after_changes kept.changes.items) → HasCleanDisk (state g end) → HasCleanDisk (state g mid)
    clean_then applied = clean_before (state g mid) (state g end) _ applied.survives

    -- the changes lead to the tables after the command
    lands : HasCleanDisk (state g mid) → (base : Base) → Represents g old base → (after : Base) × (sheets after ≡ tables_after_changes kept.changes.items (sheets base)) × BooksInvariant after
        × (keyed_step base now command key ≡ (model_answer (given.Done kept.reply), after)) × (has_utf8_texts (sheets after) ≡ true)
    lands clean base keeps =
        let known = seen.told clean (sheets base) keeps.rows in
        let does : PlanImplementsCommand base now command plan = known.1 base keeps.books refl in
        let new = known.0 in
        let after = base_after_command base now command in
        let told = abstract_reply plan.reply in
        let all : tables_after_changes kept.changes.items (sheets base) ≡ sheets (base_with_stored_reply key command told after) =
        rows (sheets base) ∙ ap (tables_with_stored_command key command told) (sym does.rows) ∙ sym (rows_with_key base (stamp_of_next_command base now) command key told new) in (
          base_with_stored_reply key command told after,
          sym all,
          books_kept after key command told does.books_after,
          steps_anew base now command key new ∙ ap (answer_and_base_of_step base key command) does.steps
              ∙ ap (λ reply. (model_answer (given.Done reply), base_with_stored_reply key command told after)) (sym reply),
          ap has_utf8_texts (sym all) ∙ changes_keep_texts (sheets base) kept.changes.items keeps.texts,
        )

    -- and so do the trees that a crash may leave
    comes : HasCleanDisk (state g mid) → (base : Base) → Represents g old base → (trees : Trees) → IsDiskContentOfRows (tables_after_changes kept.changes.items (sheets base)) trees
        → IsDiskContentOfRows (sheets (base_after_keyed_command base now command key)) trees
    comes clean base keeps trees are =
        let l = lands clean base keeps in
        subst (λ t. IsDiskContentOfRows t trees) (sym l.1 ∙ ap (λ (x : Answer × Base). sheets x.1) (sym l.3)) are

    texts_come : HasCleanDisk (state g mid) → (base : Base) → Represents g old base → has_utf8_texts (sheets (base_after_keyed_command base now command key)) ≡ true
    texts_come clean base keeps =
        let l = lands clean base keeps in
        ap (λ (x : Answer × Base). has_utf8_texts (sheets x.1)) l.3 ∙ l.4

    come : {r : Result (Unit {0}) Fault} → (applied : ApplyPost g mid end r (tables_after_changes kept.changes.items))
        → Survives (state g old) (state g end) (IsDiskContentAfterCommand g old now command key)
    come applied =
        none_then (state g old) (state g mid) (state g end) (IsDiskContentAfterCommand g old now command key) seen.survives
        (survives_weaker (state g mid) (state g end) _ _ (λ clean trees may.
        let was = seen.unchanged_if_open (clean_then applied clean) may.0 in (
          was.was_open,
          (λ base keeps. comes (clean_then applied clean) base keeps trees (may.1 (sheets base) (seen.kept (sheets base) keeps.rows (clean_then applied clean) may.0))),
          (λ base keeps. texts_come (clean_then applied clean) base keeps),
        )) applied.survives)

    -- the changes failed
    pub books_none : (fault : Fault) → IsCallFault fault → ApplyPost {V = Unit {0}} g mid end (Err fault) (tables_after_changes kept.changes.items) → CommandPost g old end now command key (Err fault)
    books_none fault may applied =
        let clean_mid = clean_before (state g mid) (state g end) _ applied.survives in
        record {
          answered = λ clean. tt;
          same_bases_at_error = λ base keeps. still_kept g old end base (λ rows. applied.same_rows_at_error (sheets base) (seen.kept (sheets base) rows)) keeps;
          fault = may;
          survives = come applied;
          durable = λ clean done. absurd done;
          open_and_committed = λ clean done. absurd done;
          unchanged_if_open = λ clean o none. let s = applied.unchanged_if_open clean o in same_then (state g old) (state g mid) (state g end) (seen.unchanged_if_open (clean_mid clean) s.was_open) s;
          clean = λ clean. seen.clean (clean_mid clean);
          well_formed = formed;
        }

    -- they are made
    pub books_it : (x : Unit {0}) → ApplyPost {E = Fault} g mid end (Ok x) (tables_after_changes kept.changes.items) → CommandPost g old end now command key (Ok (given.Done kept.reply))
    books_it x applied =
        let clean_mid = clean_before (state g mid) (state g end) _ applied.survives in
        record {
          answered = λ clean base keeps.
              let l = lands (clean_mid clean) base keeps in (
                l.0,
                record {
                  rows = subst (HoldsRows g end) (sym l.1) (applied.applied (sheets base) (seen.kept (sheets base) keeps.rows));
                  consistent =
                      record { books = l.2; sound = sound_after base keeps l.0 (model_answer (given.Done kept.reply)) l.3; texts = l.4 };
                },
                l.3,
              );
          same_bases_at_error = tt;
          fault = tt;
          survives = come applied;
          durable = λ clean done base keeps trees may. comes (clean_mid clean) base keeps trees (applied.durable clean (sheets base) (seen.kept (sheets base) keeps.rows) trees may);
          open_and_committed = λ clean done. let o = applied.open_and_committed clean in ((seen.unchanged_if_open (clean_mid clean) o.0).was_open, o.1, o.2);
          unchanged_if_open = λ clean o none. absurd none;
          clean = λ clean. seen.clean (clean_mid clean);
          well_formed = formed;
        }
