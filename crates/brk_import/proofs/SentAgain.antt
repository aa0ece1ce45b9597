-- A batch that was interrupted and is retried.
use Rattle.std.proofs.Common.{◌≡◌, ◌⊎◌, ◌∙◌, inl, inr, ℕ, ◌+◌, List, [], ◌∷◌, ◌++◌, length, Some, None, Result, Ok, Err, refl, sym, ap, subst, arith, append_assoc}
use Rattle.std.specs.List.{AllByRecursion}
use Rattle.csv.specs.Reading.{records, default_config}
use Rattle.sqlite_trees.specs.Tree.{Trees}
use Rattle.sqlite_trees.specs.declared.store.Store.{Ghosts}
use Rattle.sqlite.specs.Held.{Held, state}
use Rattle.sqlite.specs.State.{HasCleanDisk}
use Rattle.std.specs.Io.KnownBytes.{Appends}
use Rattle.brk_money.specs.Spelling.{Text}
use Rattle.brk_money.specs.declared.fault.Fault.{Fault}
use Rattle.brk_model.specs.Answers.{Fields}
use Rattle.brk_model_theorems.proofs.RowLaws.{answered-of, calls-of-decided}
use Rattle.brk_model_theorems.specs.RowCalls.{RowsAreAnsweredByCalls, calls_of_rows, well_formed_rows_from}
use Rattle.brk_model.specs.Base.{Base}
use Rattle.brk_model.specs.Batch as model
use Rattle.brk_model.specs.Batch.{BatchRowsAreDecided, BatchEnding, MatchesEnding, step_of_row}
use Rattle.brk_model.specs.Commands.{Answer, Command}
use Rattle.brk_model.specs.Forms.{ReadResult}
use Rattle.brk_model.specs.Input.{BeginsWithRecords, IsEndRecord, correct_end_record, batch_header}
use Rattle.brk_model.specs.Lines.{batch_end_line, answer_lines_from}
use Rattle.brk_model.specs.Sheets.{sheets}
use Rattle.brk_model_theorems.specs.Laws.{NextRowLeadsTo, IsCompletedByRetry}
use Rattle.brk_model_theorems.proofs.BatchLaws.{All-front}
use Rattle.brk_model_theorems.proofs.LeftLaws.{done-kept, left-over, one-run}
use Rattle.brk_model_theorems.proofs.StoppedLaws.{booked-completed, completed, next-goes-on, rows-go-on}
use Rattle.brk_io.specs.Moments.{ClockReturnsMomentsInSequence}
use Rattle.brk_io.specs.Span.{ClockAndWriterChange, environment_change_with_bases}
use Rattle.brk_store_transactions.specs.Audited.{AdoptPost, AuditAnswerSatisfies, Represents, IsConsistent}
use Rattle.brk_store_transactions.specs.Holds.{IsDiskContentOfRows}
use Rattle.brk_desk.specs.Reopening.{IsNewConnectionAfterCrash, RepresentsDurableBase}
use Rattle.brk_desk.proofs.Reopened.{RecoversOnlyLastCommit, kept_can_be, taken_over}
use Rattle.brk_import_engine.specs.Batch.{IsBatchResult, BatchEndsWith, BatchFailsWith, CrashMayCommitFailedRow, BatchRefinesModel, BoundsBatchCrashStates, IsBatchCrashSafe, BatchProgress}
use Rattle.brk_import.specs.CrashTables.{CrashExposesOnlyOneOf}
use Rattle.brk_import.specs.Retries.{RunAndRetryEqualOneRun, RetryCompletesBatch}
use Rattle.brk_io.specs.declared.batch_fault.BatchFault.{BatchFault}
use Rattle.brk_io.specs.declared.batch_fault.FaultKind.{FaultKind}
use Rattle.brk_io.specs.declared.batch_fault.FaultKind.TheVariants as kinds
use Rattle.brk_import_engine.specs.declared.counts.Counts.{Counts}
use Rattle.brk_import_engine.proofs.Pushes.{moments_push}
use Rattle.brk_import_engine.proofs.Reading.{begins_front, begins_less}
use Rattle.brk_import.proofs.Settled.{settled_push}

module _ {S C : Type 0} (g : Ghosts S) (rests : RecoversOnlyLastCommit g) (form : Fields → ReadResult Command)
    (apart : (n : ℕ) (command : Command) → form (correct_end_record n) ≡ Ok command → ⊥) (gives : C → ℕ → C → Type 0)
    (text : Text) (one : ClockAndWriterChange C) (base : Base) where
  -- The rows that the first run decided, from the base before it to `after`.
  record FirstRunRows (after : Base) : Type 0 where
    pub name : Text
    pub rows : List Fields
    pub answers : List Answer
    pub moments : List ℕ
    pub mid : C
    pub taken : ClockReturnsMomentsInSequence gives one.clock moments mid
    pub settled : BatchRowsAreDecided form step_of_row name base moments rows answers after
    pub begins : BeginsWithRecords (Some text) (batch_header name ∷ rows)

  -- The row after the decided rows was committed: `stood` is the base after its command, executed
  -- on `after`.
  record CommittedUnansweredRow (after stood : Base) : Type 0 where
    pub part : FirstRunRows after
    pub row : Fields
    pub begins : BeginsWithRecords (Some text) (batch_header part.name ∷ (part.rows ++ row ∷ []))
    pub command : Command
    pub formed : form row ≡ Ok command
    pub moment : ℕ
    pub given : gives part.mid moment one.later
    pub booked : (step_of_row after moment command (record { batch = part.name; n = length part.rows + 1 })).1 ≡ stood

  -- The first run decided no row and `after` is the base before it, or it decided some rows.
  abbrev DecidesRowsOrNone : Base → Type 0
  DecidesRowsOrNone after = (after ≡ base) ⊎ FirstRunRows after

  -- A base whose tables are in the exposed disk contents: that after the decided rows, or after one
  -- more committed row.
  record IsExposedBase (trees : Trees) : Type 0 where
    pub after : Base
    pub stood : Base
    pub can : IsConsistent stood
    pub are : IsDiskContentOfRows (sheets stood) trees
    pub how : ((stood ≡ after) × DecidesRowsOrNone after) ⊎ CommittedUnansweredRow after stood

  -- ---- the first run

  ending_begins : (ending : BatchEnding) (name : Text) (rows : List Fields) (answers told : List Answer) (out : Text)
      → MatchesEnding (Some text) ending name rows answers told out → BeginsWithRecords (Some text) (batch_header name ∷ rows)
  ending_begins model.CorrectEnd name rows answers told out ends = begins_front (Some text) (batch_header name ∷ rows) (correct_end_record (length rows) ∷ []) ends.0
  ending_begins model.BadEnd name rows answers told out ends = begins_front (Some text) (batch_header name ∷ rows) (ends.0.0 ∷ []) ends.0.3
  ending_begins model.NoEnd name rows answers told out (inl cut, said) = ([], subst (λ (rs : List Fields). records default_config text ≡ batch_header name ∷ (rs ++ [])) (sym cut.0) cut.1)
  ending_begins model.NoEnd name rows answers told out (inr cut, said) = (cut.0 ∷ [], cut.2)
  ending_begins model.BadHeader name rows answers told out ends = absurd ends

  ended : (ending : BatchEnding) (count : ℕ) (after : Base) → BatchEndsWith form step_of_row gives (Some text) (environment_change_with_bases base after one) ending count → FirstRunRows after
  ended ending count after c = record {
    name = c.answered.name;
    rows = c.answered.rows;
    answers = c.answered.answers;
    moments = c.moments;
    mid = one.later;
    taken = c.taken;
    settled = c.answered.settled;
    begins = ending_begins ending c.answered.name c.answered.rows c.answered.answers c.answered.told c.lines c.answered.ends;
  }

  abbrev stopped : (count : ℕ) (after : Base) → BatchProgress form step_of_row gives (Some text) (environment_change_with_bases base after one) count → FirstRunRows after
  stopped count after s = record {
    name = s.name;
    rows = s.rows;
    answers = s.answers;
    moments = s.moments;
    mid = s.mid;
    taken = s.taken;
    settled = s.settled;
    begins = s.begins;
  }

  by_kind : (count : ℕ) (kind : FaultKind) (after : Base) → BatchFailsWith form step_of_row gives (Some text) (environment_change_with_bases base after one) count kind → DecidesRowsOrNone after
  by_kind count kinds.BadHeader after f = inl f.0.base
  by_kind count kinds.NoEnd after f = inr (ended model.NoEnd count after f)
  by_kind count kinds.BadEnd after f = inr (ended model.BadEnd count after f)
  by_kind count kinds.Read after (inl f) = inl f.1.base
  by_kind count kinds.Read after (inr f) = inr (stopped count after f.0)
  by_kind count kinds.Write after f = inr (stopped count after f.0)
  by_kind count (kinds.Desk fault) after (inl f) = inl f.2.base
  by_kind count (kinds.Desk fault) after (inr (inl f)) = inr (stopped count after f.0)
  by_kind count (kinds.Desk fault) after (inr (inr f)) = inr (stopped count after f.0)

  by_result : (result : Result Counts BatchFault) (after : Base) → IsBatchResult form step_of_row gives (Some text) (environment_change_with_bases base after one) result → DecidesRowsOrNone after
  by_result (Ok counts) after h = inr (ended model.CorrectEnd (counts.ok + counts.again + counts.no) after h.0)
  by_result (Err fault) after h = by_kind fault.rows fault.kind after h

  under_way : (after : Base) (left : Held S) (fault : BatchFault)
      (w : CrashMayCommitFailedRow form step_of_row gives (CrashExposesOnlyOneOf g) (Some text) (environment_change_with_bases base after one) left fault)
      → CommittedUnansweredRow after (step_of_row after w.failed.moment w.failed.command (record { batch = w.failed.stopped.name; n = fault.rows + 1 })).1
  under_way after left fault w = record {
    part = stopped fault.rows after w.failed.stopped;
    row = w.failed.row;
    begins = begins_less (Some text) w.failed.stopped.name w.failed.stopped.rows w.failed.row w.failed.next w.failed.begins;
    command = w.failed.command;
    formed = w.failed.formed;
    moment = w.failed.moment;
    given = w.failed.given;
    booked =
        ap (λ (n : ℕ). (step_of_row after w.failed.moment w.failed.command (record { batch = w.failed.stopped.name; n = n + 1 })).1)
        (sym (w.failed.stopped.counted ∙ ap (λ (l : List Answer). length l) w.failed.told ∙ w.failed.stopped.settled.each));
  }

  module _ (left : Held S) (trees : Trees) (may : (state g left).may_leave trees) (after : Base) (keeps : Represents g left after) (first : DecidesRowsOrNone after) where
    found_alone : CrashExposesOnlyOneOf g left after after → IsExposedBase trees
    found_alone only = record {
      after = after;
      stood = after;
      can = kept_can_be g left after keeps;
      are = elim (only trees may) [ inl are ↦ are | inr are ↦ are.0 ];
      how = inl (refl, first);
    }

    found_under : (fault : BatchFault)
        → CrashMayCommitFailedRow form step_of_row gives (CrashExposesOnlyOneOf g) (Some text) (environment_change_with_bases base after one) left fault
        → IsExposedBase trees
    found_under fault w = elim (w.may trees may) [
      | inl are ↦ record { after = after; stood = after; can = kept_can_be g left after keeps; are = are; how = inl (refl, first) }
      | inr booked ↦ record {
        after = after;
        stood = (step_of_row after w.failed.moment w.failed.command (record { batch = w.failed.stopped.name; n = fault.rows + 1 })).1;
        can = booked.1;
        are = booked.0;
        how = inr (under_way after left fault w);
      }
    ]

    found_at : (result : Result Counts BatchFault)
        → BoundsBatchCrashStates form step_of_row gives (CrashExposesOnlyOneOf g) (Some text) (environment_change_with_bases base after one) left result
        → IsExposedBase trees
    found_at (Ok counts) only = found_alone only
    found_at (Err fault) (inl only) = found_alone only
    found_at (Err fault) (inr w) = found_under fault w

  found : (first left : Held S) (result : Result Counts BatchFault) → RepresentsDurableBase g first base
      → IsBatchCrashSafe (λ desk. HasCleanDisk (state g desk)) (λ desk. Represents g desk) (CrashExposesOnlyOneOf g) form step_of_row gives (Some text) first left one result
      → HasCleanDisk (state g left) → (trees : Trees) → (state g left).may_leave trees → IsExposedBase trees
  found first left result at leaves clean trees may =
      let l = leaves clean base at.represented (λ t m. inl (at.crash_exposes_only_base t m)) in
      found_at left trees may l.0 l.1 (by_result result l.0 l.2) result l.3

  -- ---- the retry

  module _ (after stood last : Base) (two : ClockAndWriterChange C) (count : ℕ)
      (c : BatchEndsWith form step_of_row gives (Some text) (environment_change_with_bases stood last two) model.CorrectEnd count) where
    -- if no row was decided, the rows are none
    none_settled : after ≡ base → FirstRunRows after
    none_settled same = record {
      name = c.answered.name;
      rows = [];
      answers = [];
      moments = [];
      mid = one.clock;
      taken = refl;
      settled = record {
        named = c.answered.settled.named;
        rows_only = tt;
        answered =
            answered-of form step_of_row c.answered.name base after [] [] [] (record { replies = []; one_each = refl; run = same; all = refl });
        each = refl;
      };
      begins = begins_front (Some text) (batch_header c.answered.name ∷ []) (c.answered.rows ++ correct_end_record (length c.answered.rows) ∷ []) c.answered.ends.0;
    }

    part_of : DecidesRowsOrNone after → FirstRunRows after
    part_of (inl same) = none_settled same
    part_of (inr part) = part

    wrote : Appends two.old two.new (answer_lines_from 1 c.answered.answers ++ batch_end_line c.answered.answers)
    wrote = subst (λ l. Appends two.old two.new l) c.answered.ends.2 c.written

    module _ (p : FirstRunRows after) (more : List Fields) (named : p.name ≡ c.answered.name) (rows_are : c.answered.rows ≡ p.rows ++ more) where
      second : BatchRowsAreDecided form step_of_row p.name stood c.moments (p.rows ++ more) c.answered.answers last
      second =
          subst (λ (rs : List Fields). BatchRowsAreDecided form step_of_row p.name stood c.moments rs c.answered.answers last) rows_are
          (subst (λ (n : Text). BatchRowsAreDecided form step_of_row n stood c.moments c.answered.rows c.answered.answers last) (sym named) c.answered.settled)

      named_again : (moments : List ℕ) (answers : List Answer) → IsCompletedByRetry form p.name base moments c.moments (p.rows ++ more) answers c.answered.answers last
          → IsCompletedByRetry form c.answered.name base moments c.moments c.answered.rows answers c.answered.answers last
      named_again moments answers k =
          subst (λ (n : Text). IsCompletedByRetry form n base moments c.moments c.answered.rows answers c.answered.answers last) named
          (subst (λ (rs : List Fields). IsCompletedByRetry form p.name base moments c.moments rs answers c.answered.answers last) (sym rows_are) k)

    -- no call failed, or its row was not committed
    from_part : stood ≡ after → FirstRunRows after → RetryCompletesBatch form gives (Some text) base last one two
    from_part same p = record {
      name = c.answered.name;
      rows = c.answered.rows;
      whole = c.answered.ends.0;
      answers = p.answers;
      moments = p.moments;
      mid = p.mid;
      taken = p.taken;
      retry_answers = c.answered.answers;
      others = c.moments;
      asked = c.taken;
      written = wrote;
      completed = λ none. inl (named_again p on.1.0 on.0 on.1.1 p.moments p.answers
          (completed form p.name base after last p.moments c.moments p.rows on.1.0 p.answers c.answered.answers none p.settled
          (subst (λ (b : Base). BatchRowsAreDecided form step_of_row p.name b c.moments (p.rows ++ on.1.0) c.answered.answers last) same (second p on.1.0 on.0 on.1.1))));
    }
      where
        on : (p.name ≡ c.answered.name) × ((back : List Fields) × (c.answered.rows ≡ p.rows ++ back))
        on = rows-go-on text p.name c.answered.name p.rows c.answered.rows p.settled.rows_only p.begins c.answered.ends.0

    -- a row was committed and not answered
    from_under : CommittedUnansweredRow after stood → RetryCompletesBatch form gives (Some text) base last one two
    from_under u = record {
      name = c.answered.name;
      rows = c.answered.rows;
      whole = c.answered.ends.0;
      answers = p.answers;
      moments = p.moments;
      mid = p.mid;
      taken = p.taken;
      retry_answers = c.answered.answers;
      others = c.moments;
      asked = c.taken;
      written = wrote;
      completed = λ none.
          elim (booked-completed form p.name base after stood last p.moments c.moments p.rows (u.row ∷ on.1.0) p.answers c.answered.answers u.moment answer none
          p.settled next (second p (u.row ∷ on.1.0) on.0 on.1.1)) [
            | inl k ↦ inl (named_again p (u.row ∷ on.1.0) on.0 on.1.1 p.moments p.answers k)
            | inr k ↦ inr (u.moment, answer, u.given, named_again p (u.row ∷ on.1.0) on.0 on.1.1 (p.moments ++ u.moment ∷ []) (p.answers ++ answer ∷ []) k)
          ];
    }
      where
        p : FirstRunRows after
        p = u.part

        on : (p.name ≡ c.answered.name) × ((rest : List Fields) × (c.answered.rows ≡ p.rows ++ u.row ∷ rest))
        on = next-goes-on text p.name c.answered.name p.rows c.answered.rows u.row p.settled.rows_only u.begins c.answered.ends.0 (λ n e. apart n u.command (ap form (sym e) ∙ u.formed))

        answer : Answer
        answer = (step_of_row after u.moment u.command (record { batch = p.name; n = length p.rows + 1 })).0

        next : NextRowLeadsTo form p.name after p.rows (u.row ∷ on.1.0) u.moment answer stood
        next = record { row = u.row; rest = on.1.0; next = refl; command = u.command; formed = u.formed; booked = ap (λ (b : Base). (answer, b)) u.booked }

    from_how : ((stood ≡ after) × DecidesRowsOrNone after) ⊎ CommittedUnansweredRow after stood → RetryCompletesBatch form gives (Some text) base last one two
    from_how (inl (same, first)) = from_part same (part_of first)
    from_how (inr u) = from_under u

    -- whatever was refused, both runs are one: the rows that the first run accepted, then the
    -- others
    one_run_of : (front back : List Fields) (moments : List ℕ) (mid : C) (answers : List Answer) → ClockReturnsMomentsInSequence gives one.clock moments mid → c.answered.rows ≡ front ++ back
        → BatchRowsAreDecided form step_of_row c.answered.name base moments front answers stood → RunAndRetryEqualOneRun form gives (Some text) base last one two
    one_run_of front back moments mid answers taken split first = record {
      name = c.answered.name;
      rows = c.answered.rows;
      whole = c.answered.ends.0;
      front = front;
      back = back;
      split = split;
      moments = moments;
      mid = mid;
      taken = taken;
      answers = answers;
      mid_base = stood;
      first = first;
      first_calls = early;
      retry_answers = c.answered.answers;
      others = c.moments;
      asked = c.taken;
      second = c.answered.settled;
      retry_calls = late;
      written = wrote;
      run = one-run base stood last (calls_of_rows c.answered.name moments (well_formed_rows_from form 1 front))
          (calls_of_rows c.answered.name c.moments (well_formed_rows_from form 1 c.answered.rows))
          early.replies late.replies early.run late.run;
      stored = done-kept base stood (calls_of_rows c.answered.name moments (well_formed_rows_from form 1 front)) early.replies early.run;
      repeated = (left-over stood last (calls_of_rows c.answered.name c.moments (well_formed_rows_from form 1 c.answered.rows)) late.replies late.run).1;
    }
      where
        early : RowsAreAnsweredByCalls form step_of_row c.answered.name base moments front answers stood
        early = calls-of-decided first

        late : RowsAreAnsweredByCalls form step_of_row c.answered.name stood c.moments c.answered.rows c.answered.answers last
        late = calls-of-decided c.answered.settled

    one_from_part : stood ≡ after → FirstRunRows after → RunAndRetryEqualOneRun form gives (Some text) base last one two
    one_from_part same p =
        one_run_of p.rows on.1.0 p.moments p.mid p.answers p.taken on.1.1
        (subst (λ (n : Text). BatchRowsAreDecided form step_of_row n base p.moments p.rows p.answers stood) on.0
        (subst (λ (b : Base). BatchRowsAreDecided form step_of_row p.name base p.moments p.rows p.answers b) (sym same) p.settled))
      where
        on : (p.name ≡ c.answered.name) × ((back : List Fields) × (c.answered.rows ≡ p.rows ++ back))
        on = rows-go-on text p.name c.answered.name p.rows c.answered.rows p.settled.rows_only p.begins c.answered.ends.0

    one_from_under : CommittedUnansweredRow after stood → RunAndRetryEqualOneRun form gives (Some text) base last one two
    one_from_under u =
        one_run_of (p.rows ++ u.row ∷ []) on.1.0 (p.moments ++ u.moment ∷ []) one.later (p.answers ++ answer ∷ [])
        (moments_push gives one.clock p.mid one.later p.moments u.moment p.taken u.given) split
        (subst (λ (n : Text). BatchRowsAreDecided form step_of_row n base (p.moments ++ u.moment ∷ []) (p.rows ++ u.row ∷ []) (p.answers ++ answer ∷ []) stood) on.0
        (settled_push form step_of_row p.name base after stood p.moments p.rows p.answers p.settled u.row u.command u.formed u.moment answer
        acted
        (All-front (λ row. ¬ (IsEndRecord row)) (p.rows ++ u.row ∷ []) on.1.0 (subst (λ (rs : List Fields). AllByRecursion (λ row. ¬ (IsEndRecord row)) rs) split c.answered.settled.rows_only))))
      where
        p : FirstRunRows after
        p = u.part

        on : (p.name ≡ c.answered.name) × ((rest : List Fields) × (c.answered.rows ≡ p.rows ++ u.row ∷ rest))
        on = next-goes-on text p.name c.answered.name p.rows c.answered.rows u.row p.settled.rows_only u.begins c.answered.ends.0 (λ n e. apart n u.command (ap form (sym e) ∙ u.formed))

        answer : Answer
        answer = (step_of_row after u.moment u.command (record { batch = p.name; n = length p.rows + 1 })).0

        acted : step_of_row after u.moment u.command (record { batch = p.name; n = 1 + length p.rows }) ≡ (answer, stood)
        acted =
            let place : 1 + length p.rows ≡ length p.rows + 1 = omega arith in
            ap (λ (n : ℕ). step_of_row after u.moment u.command (record { batch = p.name; n = n })) place ∙ ap (λ (b : Base). (answer, b)) u.booked

        split : c.answered.rows ≡ (p.rows ++ u.row ∷ []) ++ on.1.0
        split = on.1.1 ∙ sym (append_assoc p.rows (u.row ∷ []) on.1.0)

    one_from_how : ((stood ≡ after) × DecidesRowsOrNone after) ⊎ CommittedUnansweredRow after stood → RunAndRetryEqualOneRun form gives (Some text) base last one two
    one_from_how (inl (same, first)) = one_from_part same (part_of first)
    one_from_how (inr u) = one_from_under u

  -- ---- both

  pub sent_again : (first left conn store last : Held S) (two : ClockAndWriterChange C) (ended : Result Counts BatchFault) (taken : Result (Unit {0}) Fault)
      (counts : Counts) → RepresentsDurableBase g first base
      → IsBatchCrashSafe (λ desk. HasCleanDisk (state g desk)) (λ desk. Represents g desk) (CrashExposesOnlyOneOf g) form step_of_row gives (Some text) first left one ended
      → HasCleanDisk (state g left) → IsNewConnectionAfterCrash g left conn → AdoptPost g conn store taken → HasCleanDisk (state g store)
      → AuditAnswerSatisfies taken (λ failing. failing ≡ None)
      × (BatchRefinesModel (λ desk. HasCleanDisk (state g desk)) (λ desk. Represents g desk) form step_of_row gives (Some text) store last two (Ok counts) → HasCleanDisk (state g last)
      → (after : Base) × Represents g last after × RetryCompletesBatch form gives (Some text) base after one two × RunAndRetryEqualOneRun form gives (Some text) base after one two)
  sent_again first left conn store last two ended taken counts at leaves clean again adopted next =
      let f = found first left ended at leaves clean again.0 again.1 in
      let t = taken_over g rests again.0 conn store taken again.2 adopted next f.stood f.can f.are (λ (b : Base). b ≡ f.stood) refl in (
        t.undamaged,
        λ keeps good.
            let k = keeps good f.stood (subst (Represents g store) t.possible t.represented.represented) in
            (k.0, k.1, from_how f.after f.stood k.0 two (counts.ok + counts.again + counts.no) k.2.0 f.how, one_from_how f.after f.stood k.0 two (counts.ok + counts.again + counts.no) k.2.0 f.how),
      )
