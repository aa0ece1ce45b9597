-- The condition `Status`, as a walk over the history beside the trades.
use Rattle.std.proofs.Common.{◌≡◌, ℕ, ◌+◌, ◌==◌, Bool, true, false, cond, List, [], ◌∷◌, ◌++◌, refl, sym, ◌∙◌, ap, take, drop, length, arith}
use Rattle.std.specs.Prelude.{◌&&◌, flat_map}
use Rattle.std.specs.List.{AllByRecursion, list_all, prefix_len}
use Rattle.std.proofs.lemmas.Bool.{eqb-true}
use Rattle.std.proofs.lemmas.Bool.Decides.{nat_tests}
use Rattle.std.proofs.lemmas.List.{drop_at, take_at}
use Rattle.brk_money.specs.declared.fault.Condition.TheVariants as condition
use Rattle.brk_model.specs.Lists.{all_distinct}
use Rattle.brk_model.specs.Tables.{Tables, TradeRow, HistoryRow}
use Rattle.brk_model.specs.Joins.{history_rows_with_trade_id}
use Rattle.brk_model.specs.Keys.{number, is_key_less, history_key, trade_key}
use Rattle.brk_model.specs.Form.{is_well_formed_history_row}
use Rattle.brk_model.specs.Ways.{completion_stamps, movement_stamps, satisfies_status_condition, has_valid_status_history}
use Rattle.brk_model.specs.Audit.{ConditionHolds}
use Rattle.brk_trade_books.proofs.Same.{All-map}
use Rattle.brk_trade_books.proofs.LotReading.{all_pass}
use Rattle.brk_audit_theorems.proofs.Climbs.{Climbs, list_all_true}
use Rattle.brk_audit_theorems.proofs.Members.{All-flat_map}
use Rattle.brk_audit_theorems.proofs.Parts.{KeyParts, key_parts}
use Rattle.brk_model_theorems.specs.FormParts.{SatisfiesFormParts}
use Rattle.brk_model_theorems.proofs.FormParts.{form_parts}
use Rattle.brk_audit_theorems.proofs.AdoptedHistory.{joined}
use Rattle.brk_audit.specs.Statuses.{all_histories_are_valid, is_valid_history, completion_stamps_of_history}
use Rattle.brk_audit.proofs.Statuses.{status_by_rows}
use Rattle.brk_audit_sums.specs.Conditions.{IsWellFormedBySomeSchema}
use Rattle.brk_model.specs.Schemas.{Schema}

-- ---- a trade's rows are the first of those that are left

whole_prefix : {X : Type 0} (p : X → Bool) (xs ys : List X) → AllByRecursion (λ x. p x ≡ true) xs → AllByRecursion (λ y. p y ≡ false) ys → prefix_len p (xs ++ ys) ≡ length xs
whole_prefix p [] [] h k = refl
whole_prefix p [] (y ∷ ys) h k = ap (λ b. cond b (1 + prefix_len p ys) 0) k.0
whole_prefix p (x ∷ xs) ys h k =
    let e = whole_prefix p xs ys h.1 k in ap (λ b. cond b (1 + prefix_len p (xs ++ ys)) 0) h.0 ∙ (let f : 1 + prefix_len p (xs ++ ys) ≡ length (x ∷ xs) = omega arith in f)

later_id : (m n : ℕ) → is_key_less (number m ∷ []) (number n ∷ []) ≡ true → (n == m) ≡ false
later_id m n h = grind (arith, nat_tests)

runs : Tables → List TradeRow → List HistoryRow
runs t rs = flat_map (λ r. history_rows_with_trade_id t r.id) rs

others : (t : Tables) (r : TradeRow) (rs : List TradeRow) → AllByRecursion (λ u. is_key_less (trade_key r) (trade_key u) ≡ true) rs
    → AllByRecursion (λ h. (h.trade == r.id) ≡ false) (runs t rs)
unfolding runs
others t r rs c =
    All-flat_map (λ h. (h.trade == r.id) ≡ false) (λ u. history_rows_with_trade_id t u.id) rs
    (All-map rs (λ u b. All-map (history_rows_with_trade_id t u.id) (λ h e. ap (λ n. n == r.id) (eqb-true h.trade u.id e) ∙ later_id r.id u.id b) (all_pass (λ h. h.trade == u.id) t.history)) c)

go_each : (t : Tables) (rs : List TradeRow) → Climbs trade_key rs → all_histories_are_valid rs (runs t rs) ≡ list_all (λ r. is_valid_history r (history_rows_with_trade_id t r.id)) rs
unfolding runs
go_each t [] c = refl
go_each t (r ∷ rs) c =
    let own : List HistoryRow = history_rows_with_trade_id t r.id in
    let n : prefix_len (λ h. h.trade == r.id) (own ++ runs t rs) ≡ length own =
    whole_prefix (λ h. h.trade == r.id) own (runs t rs) (all_pass (λ h. h.trade == r.id) t.history) (others t r rs c.0) in
    (λ i. is_valid_history r (take (n i) (own ++ runs t rs)) && all_histories_are_valid rs (drop (n i) (own ++ runs t rs)))
    ∙ (λ i. is_valid_history r (take_at own (runs t rs) (length own) refl i) && all_histories_are_valid rs (drop_at own (runs t rs) (length own) refl i))
    ∙ ap (λ b. is_valid_history r own && b) (go_each t rs c.1)

-- ---- together

same_tests : (a b : Bool) → (a ≡ true → b ≡ true) → (b ≡ true → a ≡ true) → a ≡ b
same_tests true b f g = sym (f refl)
same_tests false true f g = g refl
same_tests false false f g = refl

same_all : (t : Tables) (rs : List TradeRow) → Climbs history_key t.history → list_all (has_valid_status_history t) rs ≡ list_all (λ r. is_valid_history r (history_rows_with_trade_id t r.id)) rs
same_all t [] c = refl
same_all t (r ∷ rs) c =
    let e : has_valid_status_history t r ≡ is_valid_history r (history_rows_with_trade_id t r.id) =
    same_tests (has_valid_status_history t r) (is_valid_history r (history_rows_with_trade_id t r.id)) (status_by_rows t r c).0 (status_by_rows t r c).1 in
    λ i. e i && same_all t rs c i

pub statuses_by_rows : (t : Tables) → IsWellFormedBySomeSchema t
    → satisfies_status_condition t ≡ all_histories_are_valid t.trades t.history && all_distinct (completion_stamps_of_history t.history ++ movement_stamps t)
unfolding satisfies_status_condition runs
statuses_by_rows t f =
    let p : SatisfiesFormParts f.schema t = form_parts f.schema t f.form in
    let k : KeyParts t = key_parts t p.keys in
    let j : runs t t.trades ≡ t.history = joined t k.history k.trades (list_all_true (is_well_formed_history_row t) t.history p.history) in
    ap (λ b. b && all_distinct (completion_stamps t ++ movement_stamps t)) (same_all t t.trades k.history ∙ sym (go_each t t.trades k.trades) ∙ ap (all_histories_are_valid t.trades) j)

pub status_holds : (schema : Schema) (t : Tables) (go apart : Bool) → IsWellFormedBySomeSchema t → go ≡ all_histories_are_valid t.trades t.history
    → apart ≡ all_distinct (completion_stamps_of_history t.history ++ movement_stamps t)
    → (go && apart ≡ true → ConditionHolds schema condition.Status t) × (ConditionHolds schema condition.Status t → go && apart ≡ true)
unfolding ConditionHolds
status_holds schema t go apart f g a =
    let e : satisfies_status_condition t ≡ go && apart = statuses_by_rows t f ∙ (λ i. sym g i && sym a i) in ((λ h. e ∙ h), (λ h. sym e ∙ h))
