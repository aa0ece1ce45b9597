-- The base of rows that pass the audit satisfies the audit invariant, and a base that satisfies it
-- has tables that pass.
use Rattle.std.proofs.Common.{◌≡◌, ℕ, ◌==◌, true, false, cond, List, [], sym, ◌∙◌, ap, map, Some, None, arith, ◌++◌, subst, ◌∷◌, refl}
use Rattle.std.specs.Prelude.{◌&&◌, ◌↔◌, find, option_map, nat_lt}
use Rattle.std.specs.List.{AllByRecursion, list_all}
use Rattle.std.specs.Option.{option_map_or}
use Rattle.std.proofs.lemmas.Bool.{and_parts, and_from}
use Rattle.brk_trade_books.proofs.Order.{Sorted, sorted_sort, nat_splits, nat_one_way}
use Rattle.brk_trade_books.proofs.MoveReading.{turn_filter}
use Rattle.brk_audit_theorems.proofs.UpgradedBase.{IsPosted, posted}
use Rattle.std.proofs.lemmas.Bool.Decides.{nat_tests}
use Rattle.brk_model.specs.Schemas.{third_schema}
use Rattle.brk_model.specs.Lists.{all_distinct, sort_by_key}
use Rattle.brk_model.specs.Records.{Trade, Movement}
use Rattle.brk_model.specs.Base.{Base, completed_trades, empty_base, is_completed}
use Rattle.brk_model.specs.Derived.{postings_sorted_by_stamp, posting_of_trade, postings_of_base}
use Rattle.brk_model.specs.Tables.{Tables, TradeRow, settlement_row, tables_of_base_in_schema}
use Rattle.brk_model.specs.Sheets.{sheets, tables_sorted_by_key}
use Rattle.brk_model.specs.Adopted.{base_of_tables, status_changes_of_trade, trade_of_row, is_posting_of_trade, postings_of_tables}
use Rattle.brk_model.specs.Audit.{ConditionHolds}
use Rattle.brk_model.specs.Form.{satisfies_form_condition}
use Rattle.brk_model.specs.Ways.{completion_stamps, satisfies_status_condition, matches_last_status_change, is_strictly_ascending, is_valid_status_sequence, has_valid_status_history, movement_stamps}
use Rattle.brk_trade_books.specs.Books.{BooksInvariant, HasDistinctMovementStamps}
use Rattle.brk_trade_books.proofs.Same.{All-map, All-mapped}
use Rattle.brk_trade_books.proofs.Reading.{find-id, find-map}
use Rattle.brk_audit_theorems.specs.Passing.{PassesAudit}
use Rattle.brk_audit_theorems.specs.Histories.{HasValidStatusSequence, HasSettlementAndCashTextsOnlyIfCompleted, HasValidHistories, HasAscendingStatusStamps}
use Rattle.brk_audit_theorems.proofs.Again.{IsRead, reads, found_first, posted_in, posting_again, turn_one}
use Rattle.brk_audit_theorems.proofs.Climbs.{list_all_true}
use Rattle.brk_model_theorems.proofs.Conjunctions.{parts3}
use Rattle.brk_audit_theorems.proofs.Passed.{tables_pass}
use Rattle.brk_audit_theorems.proofs.Passing.{all_hold, passing_books, passing_tables}
use Rattle.brk_model.specs.Run.{Call, Outcome, Run}
use Rattle.brk_trade_books.proofs.Steps.{empty_books}
use Rattle.brk_audit_theorems.specs.Runs.{CallMeetsAuditFormats}
use Rattle.brk_audit_theorems.proofs.SoundRuns.{run_both}
use Rattle.brk_audit_theorems.proofs.SoundSteps.{empty_sound}
use Rattle.brk_audit_theorems.specs.Sound.{AuditInvariant}
use Rattle.brk_audit_theorems.proofs.FormBack.{All-unmapped, sound_back}
use Rattle.brk_audit_theorems.proofs.FormRows.{form_of, sound_told}

-- ---- words where there are no rows

no_type : (base : Base) (t : Trade) → IsRead base t → is_completed t ≡ false → option_map_or (λ s. s.cash_type) (find (λ s. s.trade == t.id) (sheets base).settlements) [] ≡ []
unfolding tables_sorted_by_key tables_of_base_in_schema
no_type base t r e =
    ap (λ o. option_map_or (λ s. s.cash_type) o [])
    (find-id (λ s. s.trade) t.id (map (settlement_row base.accounts base.rule) (completed_trades base))
    ∙ find-map (λ s. s.trade == t.id) (settlement_row base.accounts base.rule) (completed_trades base)
    ∙ ap (option_map (settlement_row base.accounts base.rule)) r.done)
    ∙ ap (λ c. option_map_or (λ s. s.cash_type) (option_map (settlement_row base.accounts base.rule) (cond c (Some t) None)) []) e

no_name : (base : Base) (t : Trade) → IsRead base t → is_completed t && t.is_cash ≡ false → option_map_or (λ p. p.name) (find (is_posting_of_trade t.id) (postings_of_tables (sheets base))) [] ≡ []
no_name base t r e =
    ap (λ ps. option_map_or (λ p. p.name) (find (is_posting_of_trade t.id) ps) []) (posted_in base)
    ∙ ap (λ o. option_map_or (λ p. p.name) o []) (found_first (is_posting_of_trade t.id) (postings_sorted_by_stamp (postings_of_base base))
    ∙ ap (find (λ p. true))
    (turn_filter (is_posting_of_trade t.id) (postings_of_base base) ∙ ap postings_sorted_by_stamp (posting_again base t r)
    ∙ turn_one (is_completed t && t.is_cash) (posting_of_trade base.accounts t))
    ∙ ap (λ b. find (λ p. true) (cond b (posting_of_trade base.accounts t ∷ []) [])) e)

words_of : (t : Tables) → PassesAudit third_schema t → (r : TradeRow) → IsRead (base_of_tables t) (trade_of_row t r) → HasSettlementAndCashTextsOnlyIfCompleted (trade_of_row t r)
words_of t p r k = record {
  settled = λ e. ap (λ T. option_map_or (λ s. s.cash_type) (find (λ s. s.trade == r.id) T.settlements) []) (sym (passing_tables third_schema t p)) ∙ no_type (base_of_tables t) (trade_of_row t r) k e;
  moved = λ e. ap (λ T. option_map_or (λ p. p.name) (find (is_posting_of_trade r.id) (postings_of_tables T)) []) (sym (passing_tables third_schema t p))
      ∙ no_name (base_of_tables t) (trade_of_row t r) k e;
}

-- movements that stand in turn, each at its own stamp, came one after another
rising : (done : List Trade) (ms : List Movement) → Sorted (λ x y. nat_lt x.stamp y.stamp) ms → HasDistinctMovementStamps done ms → is_strictly_ascending (map (λ m. m.stamp) ms) ≡ true
rising done [] s a = refl
rising done (m ∷ []) s a = refl
rising done (m ∷ n ∷ ms) s a =
    and_from (nat_lt m.stamp n.stamp) (is_strictly_ascending (map (λ m. m.stamp) (n ∷ ms))) (before m.stamp n.stamp s.0.0 a.1.0) (rising done (n ∷ ms) s.1 a.2)
  where
    before : (i j : ℕ) → nat_lt j i ≡ false → (j == i) ≡ false → nat_lt i j ≡ true
    before i j h e = grind (arith, nat_tests)

in_order : (ms : List Movement) → sort_by_key (λ m. m.stamp) ms ≡ ms → Sorted (λ x y. nat_lt x.stamp y.stamp) ms
in_order ms e =
    subst (Sorted (λ x y. nat_lt x.stamp y.stamp)) e
    (sorted_sort (λ x y. nat_lt x.stamp y.stamp) ms (λ x y z g h. nat_splits x.stamp y.stamp z.stamp g h) (λ x y g. nat_one_way x.stamp y.stamp g))

movements_told : (t : Tables) → BooksInvariant (base_of_tables t) → IsPosted t → is_strictly_ascending (map (λ m. m.stamp) (base_of_tables t).movements) ≡ true
movements_told t books p = rising (completed_trades (base_of_tables t)) (base_of_tables t).movements (in_order (base_of_tables t).movements p.risen) books.movements.apart

told_of : (t : Tables) → PassesAudit third_schema t → satisfies_status_condition t ≡ true → AllByRecursion (IsRead (base_of_tables t)) (base_of_tables t).trades
    → is_strictly_ascending (map (λ m. m.stamp) (base_of_tables t).movements) ≡ true → HasValidHistories (base_of_tables t)
unfolding base_of_tables satisfies_status_condition
told_of t p s k rises =
    let status = All-map t.trades
    (λ r e. parts3 (is_valid_status_sequence (map (λ m. m.status) (status_changes_of_trade t r.id)))
    (is_strictly_ascending (map (λ m. m.stamp) (status_changes_of_trade t r.id))) (matches_last_status_change r (status_changes_of_trade t r.id)) e)
    (list_all_true (has_valid_status_history t) t.trades (and_parts (list_all (has_valid_status_history t) t.trades) (all_distinct (completion_stamps t ++ movement_stamps t)) s).0) in
    record {
      stamps = All-mapped HasAscendingStatusStamps (trade_of_row t) t.trades (All-map t.trades (λ r e. e.1) status);
      ways = All-mapped HasValidStatusSequence (trade_of_row t) t.trades (All-map t.trades (λ r e. e.0) status);
      words = All-mapped HasSettlementAndCashTextsOnlyIfCompleted (trade_of_row t) t.trades
          (All-map t.trades (λ r e. words_of t p r e) (All-unmapped (IsRead (base_of_tables t)) (trade_of_row t) t.trades k));
      movements = rises;
    }

pub passing_told : (t : Tables) → PassesAudit third_schema t → HasValidHistories (base_of_tables t)
unfolding ConditionHolds
passing_told t p =
    let books = passing_books third_schema t p in
    told_of t p (all_hold third_schema t p).status (reads (base_of_tables t) books.numbered) (movements_told t books (posted third_schema t books (passing_tables third_schema t p)))

pub passing_sound : (t : Tables) → PassesAudit third_schema t → AuditInvariant (base_of_tables t)
unfolding ConditionHolds
passing_sound t p = sound_back (base_of_tables t) (passing_books third_schema t p) (passing_told t p)
    (ap (satisfies_form_condition third_schema) (passing_tables third_schema t p) ∙ (all_hold third_schema t p).form)

-- ---- both ways

pub sound_passes : (base : Base) → BooksInvariant base → AuditInvariant base → PassesAudit third_schema (sheets base)
sound_passes base books k = tables_pass base books (sound_told base k) (form_of base books k)

pub sound_exactly : (base : Base) → BooksInvariant base → AuditInvariant base ↔ (HasValidHistories base × (satisfies_form_condition third_schema (sheets base) ≡ true))
sound_exactly base books = ((λ k. (sound_told base k, form_of base books k)), (λ h. sound_back base books h.0 h.1))

-- ---- whole runs

pub run_passes : (base : Base) (calls : List (ℕ × Call)) (outcomes : List Outcome) (after : Base) → BooksInvariant base → AuditInvariant base
    → AllByRecursion CallMeetsAuditFormats calls → Run base calls outcomes after
    → PassesAudit third_schema (sheets after)
run_passes base calls outcomes after books k f r = let h = run_both base calls outcomes after f r (books, k) in sound_passes after h.0 h.1

pub run_sound : (base : Base) (calls : List (ℕ × Call)) (outcomes : List Outcome) (after : Base) → BooksInvariant base → AuditInvariant base
    → AllByRecursion CallMeetsAuditFormats calls → Run base calls outcomes after
    → AuditInvariant after
run_sound base calls outcomes after books k f r = (run_both base calls outcomes after f r (books, k)).1

pub first_passes : (calls : List (ℕ × Call)) (outcomes : List Outcome) (after : Base) → AllByRecursion CallMeetsAuditFormats calls
    → Run empty_base calls outcomes after → PassesAudit third_schema (sheets after)
first_passes calls outcomes after f r = run_passes empty_base calls outcomes after empty_books empty_sound f r

pub adopted_passes : (rows : Tables) (calls : List (ℕ × Call)) (outcomes : List Outcome) (after : Base) → PassesAudit third_schema rows
    → AllByRecursion CallMeetsAuditFormats calls → Run (base_of_tables rows) calls outcomes after
    → PassesAudit third_schema (sheets after)
adopted_passes rows calls outcomes after p f r = run_passes (base_of_tables rows) calls outcomes after (passing_books third_schema rows p) (passing_sound rows p) f r
