-- The lots of the trades of a database: `Form` and `Status` permit their replay, and `Lots` holds
-- exactly if the tables have the same lots.
use Rattle.std.proofs.Common.{◌≡◌, ℕ, zero, suc, ◌<◌, ◌≤◌, ◌==◌, ◌&&◌, ◌||◌, not, Bool, true, false, cond, List, [], ◌∷◌, refl, sym, ap, ◌∙◌, subst, map}
use Rattle.std.proofs.Common.{filter, length, get_or, arith, inl, inr, Option, Some, None, Bor}
use Rattle.std.specs.Prelude.{bytes_eq, nat_lt, nat_le, IsSome}
use Rattle.std.specs.Bool.{Decides}
use Rattle.std.specs.List.{AllByRecursion, IsDistinct, list_any, sum_by}
use Rattle.std.specs.List.Sorted.{IsPermutation}
use Rattle.std.specs.Option.{option_map_or}
use Rattle.std.specs.Ordering.{int_eq}
use Rattle.std.proofs.lemmas.Bool.{and_from, and_parts, eq-eqb, eqb-true, ltb-true}
use Rattle.std.proofs.lemmas.Bool.Decides.{Decides-int_eq}
use Rattle.std.proofs.lemmas.Slice.Eq.{bytes_eq-Decides}
use Rattle.std.proofs.lemmas.List.Sorted.{All-permutation, list_any-IsPermutation}
use Rattle.std.proofs.lemmas.Map.Keys.{IsDistinct-IsPermutation}
use Rattle.brk_money.specs.Kinds.{is_same_side, is_same_trade_status}
use Rattle.brk_money.specs.Spelling.{Text}
use Rattle.brk_money.specs.declared.side.Side.{Side}
use Rattle.brk_money.specs.declared.side.Side.TheVariants.{Buy, Sell}
use Rattle.brk_money.specs.declared.status.Status.TheVariants.{Completed}
use Rattle.brk_model.specs.Limits.{greatest_amount, greatest_charge}
use Rattle.brk_model.specs.Records.{Trade}
use Rattle.brk_model.specs.Base.{Base, completed_trades, is_completed, last_status_stamp_of_trade}
use Rattle.brk_model.specs.Derived.{deal_of_trade, deals_of_position, trades_of_position}
use Rattle.brk_model.specs.Shares.{Deal}
use Rattle.brk_model.specs.Tables.{HoldingRow, Tables, TradeRow, holding_row}
use Rattle.brk_model.specs.Sheets.{sheets}
use Rattle.brk_model.specs.Joins.{history_rows_with_trade_id}
use Rattle.brk_model.specs.Adopted.{base_of_tables, trade_of_row}
use Rattle.brk_model.specs.Audit.{expected_tables}
use Rattle.brk_model.specs.Ways.{satisfies_status_condition, has_valid_status_history}
use Rattle.brk_model.specs.Form.{has_account, has_security, is_id, is_price, is_quantity_in_schema, is_at_most_last_stamp, has_price_matching_completion, is_well_formed_trade_row}
use Rattle.brk_ref.specs.Rows.{abstract_trade_row}
use Rattle.brk_ref.specs.declared.trade_row.TradeRow as trade
use Rattle.brk_lots.proofs.Left.{same_is}
use Rattle.brk_trade_books.specs.Books.{BooksInvariant, HasDistinctLastStatusStamps}
use Rattle.brk_trade_books.proofs.Bools.{numbers_back}
use Rattle.brk_trade_books.proofs.LotOrder.{Follows, InOrder, held_in_order, trades_held}
use Rattle.brk_trade_books.proofs.LotReading.{IdsApart, IdsRise, all_pass, filter-map, holdings_in_order, is_left, numbered_rise, rise_apart, rise_filter}
use Rattle.brk_trade_books.proofs.Order.{NoneBefore, Sorted, sorted_filter}
use Rattle.brk_trade_books.proofs.Places.{filter-all}
use Rattle.brk_trade_books.proofs.Same.{NonePass, All-filter, All-map, All-of}
use Rattle.brk_audit_theorems.proofs.AdoptedBooks.{adopted_books}
use Rattle.brk_audit_theorems.proofs.Again.{both_all}
use Rattle.brk_audit_theorems.proofs.Climbs.{In, list_all_true}
use Rattle.brk_audit_theorems.proofs.Marks.{IsOf, Lasts, filtered, last_is_row, lasts, same_statuses}
use Rattle.brk_audit_theorems.proofs.Members.{in_filter}
use Rattle.brk_model_theorems.specs.FormParts.{SatisfiesFormParts}
use Rattle.brk_model_theorems.proofs.FormParts.{form_parts}
use Rattle.brk_model_theorems.proofs.Conjunctions.{parts10}
use Rattle.brk_audit_sums.specs.Completed.{is_completed_trade_row}
use Rattle.brk_audit.specs.Positions.{AreLotsLeftByTrades, has_same_id_or_stamp, is_before_by_position, deal_of_completed_row, has_same_position}
use Rattle.brk_audit_sums.proofs.Completed.{completed_rows, done_moments, right_rows}
use Rattle.brk_audit.proofs.Leaving.{any_in, at_any, at_place, leave_sums}
use Rattle.brk_trade_books.proofs.Orders.{Ascends, Rises, one_order, permuted, sum_filter, sum_map, sum_same, sum_sort}
use Rattle.brk_audit.proofs.Places.{at_one, moment_order}
use Rattle.brk_audit.proofs.Stretches.{seen}
use Rattle.brk_audit_sums.specs.Conditions.{IsWellFormedBySomeSchema}
use Rattle.brk_audit.proofs.Expected.{same_holdings}
use Rattle.brk_model.specs.Schemas.{Schema}
use Rattle.brk_audit_sums.proofs.Sums.{completed_trade_rows}

-- ---- completed trades have prices, and clash nowhere

false_true : {A : Type 0} → false ≡ true → A
false_true e = absurd (cc)

has_price : (o : Option ℕ) → option_map_or is_price o false ≡ true → IsSome o
has_price None e = false_true e
has_price (Some n) e = search

priced_row : (schema : Schema) (t : Tables) (r : TradeRow) → is_well_formed_trade_row schema t r ≡ true → has_valid_status_history t r ≡ true → is_completed_trade_row r ≡ true → IsSome r.price
priced_row schema t r f e d =
    let l : Lasts t r = lasts t r e in
    let k : IsOf t r.id l.mark = last_is_row t r l.mark l.is in
    let status : is_same_trade_status k.row.status Completed ≡ true = ap (λ s. is_same_trade_status s Completed) (k.status ∙ sym (same_statuses r.status l.mark.status l.status)) ∙ d in
    let done : list_any (λ h. is_same_trade_status h.status Completed) (history_rows_with_trade_id t r.id) ≡ true =
    any_in (λ h. is_same_trade_status h.status Completed) (history_rows_with_trade_id t r.id) k.row
    (in_filter (λ h. h.trade == r.id) t.history k.row k.there (eq-eqb k.row.trade r.id k.trade)) status in
    let p = parts10 (is_id r.id) (is_quantity_in_schema schema r.qty) (is_price r.bid) (nat_le r.charge greatest_charge) (nat_le r.commission greatest_amount) (nat_le r.tax greatest_amount)
    (is_at_most_last_stamp t r.stamp) (has_security t r.symbol) (has_account t r.account) (has_price_matching_completion t r) f in
    let q : option_map_or is_price r.price false ≡ true = rw done at p.9 in
    has_price r.price q

pub priced_rows : (t : Tables) → IsWellFormedBySomeSchema t → satisfies_status_condition t ≡ true → AllByRecursion (λ r. IsSome r.price) (completed_trade_rows t)
priced_rows t f s =
    let p : SatisfiesFormParts f.schema t = form_parts f.schema t f.form in
    All-map (completed_trade_rows t) (λ r k. priced_row f.schema t r k.0.0 k.0.1 k.1)
    (filtered (λ r. (is_well_formed_trade_row f.schema t r ≡ true) × (has_valid_status_history t r ≡ true)) is_completed_trade_row t.trades
    (both_all (λ r. is_well_formed_trade_row f.schema t r ≡ true) (λ r. has_valid_status_history t r ≡ true) t.trades
    (list_all_true (is_well_formed_trade_row f.schema t) t.trades p.trades) (right_rows t s)))

no_clash : (t : Tables) (rs : List TradeRow) → IdsApart (map (trade_of_row t) rs) → HasDistinctLastStatusStamps (map (trade_of_row t) rs)
    → AllByRecursion (λ r. last_status_stamp_of_trade (trade_of_row t r) ≡ r.stamp) rs
    → IsDistinct has_same_id_or_stamp rs
unfolding IsDistinct
no_clash t [] i m h = tt
no_clash t (r ∷ rs) i m h = (ahead rs i.0 m.0 h.1, no_clash t rs i.1 m.1 h.1)
  where
    ahead : (ss : List TradeRow) → NonePass (λ u. u.id == r.id) (map (trade_of_row t) ss)
        → AllByRecursion (λ u. (last_status_stamp_of_trade u == last_status_stamp_of_trade (trade_of_row t r)) ≡ false) (map (trade_of_row t) ss)
        → AllByRecursion (λ u. last_status_stamp_of_trade (trade_of_row t u) ≡ u.stamp) ss → AllByRecursion (λ u. has_same_id_or_stamp r u ≡ false) ss
    ahead [] j n k = tt
    ahead (u ∷ ss) j n k =
        let id : (r.id == u.id) ≡ false = numbers_back r.id u.id ∙ j.0 in
        let stamp : (r.stamp == u.stamp) ≡ false = numbers_back r.stamp u.stamp ∙ (λ x. sym k.0 x == sym h.0 x) ∙ n.0 in
        ((λ x. id x || stamp x), ahead ss j.1 n.1 k.1)

pub clash_apart : (t : Tables) → IsWellFormedBySomeSchema t → satisfies_status_condition t ≡ true → IsDistinct has_same_id_or_stamp (completed_trade_rows t)
clash_apart t f s =
    let base : Base = base_of_tables t in
    let books : BooksInvariant base = adopted_books f.schema t f.form s in
    let rows : completed_trades base ≡ map (trade_of_row t) (completed_trade_rows t) = completed_rows t s in
    no_clash t (completed_trade_rows t)
    (subst IdsApart rows (rise_apart (completed_trades base) (rise_filter is_completed base.trades (numbered_rise 1 base.trades books.numbered))))
    (subst HasDistinctLastStatusStamps rows books.moments)
    (done_moments t s)

-- ---- the deals of a position

same_bool : Bool → Bool → Bool
same_bool true b = b
same_bool false b = not b

bools : (a b : Bool) → Decides (same_bool a b) (a ≡ b)
unfolding same_bool
bools true true = (λ e. refl, λ e. refl)
bools true false = (λ e. false_true e, λ e. false_true (sym e))
bools false true = (λ e. false_true e, λ e. false_true e)
bools false false = (λ e. refl, λ e. refl)

sides : (a b : Side) → Decides (is_same_side a b) (a ≡ b)
sides a b = (same_is a b, λ e. ap (is_same_side a) (sym e) ∙ self a)
  where
    self : (s : Side) → is_same_side s s ≡ true
    self Buy = refl
    self Sell = refl

same_deal : Deal → Deal → Bool
same_deal a b = (a.trade == b.trade) && ((a.qty == b.qty) && ((a.price == b.price) && ((a.stamp == b.stamp) && (is_same_side a.side b.side && same_bool a.is_lifo b.is_lifo))))

deals_decide : (a b : Deal) → Decides (same_deal a b) (a ≡ b)
unfolding same_deal
deals_decide a b =
    let s = is_same_side a.side b.side in
    let l = same_bool a.is_lifo b.is_lifo in (
      (λ e.
          let p = and_parts (a.trade == b.trade) _ e in
          let q = and_parts (a.qty == b.qty) _ p.1 in
          let r = and_parts (a.price == b.price) _ q.1 in
          let m = and_parts (a.stamp == b.stamp) (s && l) r.1 in
          let n = and_parts s l m.1 in
          λ i. record {
            trade = eqb-true a.trade b.trade p.0 i;
            side = (sides a.side b.side).0 n.0 i;
            qty = eqb-true a.qty b.qty q.0 i;
            price =
                eqb-true a.price b.price r.0 i;
            stamp = eqb-true a.stamp b.stamp m.0 i;
            is_lifo = (bools a.is_lifo b.is_lifo).0 n.1 i;
          }),
      (λ e.
          and_from (a.trade == b.trade) _ (eq-eqb a.trade b.trade (ap (λ (d : Deal). d.trade) e))
          (and_from (a.qty == b.qty) _ (eq-eqb a.qty b.qty (ap (λ (d : Deal). d.qty) e))
          (and_from (a.price == b.price) _ (eq-eqb a.price b.price (ap (λ (d : Deal). d.price) e))
          (and_from (a.stamp == b.stamp) (s && l) (eq-eqb a.stamp b.stamp (ap (λ (d : Deal). d.stamp) e))
          (and_from s l ((sides a.side b.side).1 (ap (λ (d : Deal). d.side) e)) ((bools a.is_lifo b.is_lifo).1 (ap (λ (d : Deal). d.is_lifo) e))))))),
    )

deals_rise : (ts : List Trade) → InOrder ts → Rises (λ d. d.stamp) (map deal_of_trade ts)
deals_rise [] o = tt
deals_rise (t ∷ ts) o = (ahead ts o.0, deals_rise ts o.1)
  where
    ahead : (us : List Trade) → AllByRecursion (Follows t) us → AllByRecursion (λ (d : Deal). last_status_stamp_of_trade t < d.stamp) (map deal_of_trade us)
    ahead [] h = tt
    ahead (u ∷ us) h = (h.0.1, ahead us h.1)

rows_ascend : (p : TradeRow) (rs : List TradeRow) → AllByRecursion (λ r. has_same_position p r ≡ true) rs → Sorted is_before_by_position rs → Ascends (λ d. d.stamp) (map deal_of_completed_row rs)
rows_ascend p [] a s = tt
rows_ascend p (r ∷ rs) a s = (ahead rs a.1 s.0, rows_ascend p rs a.1 s.1)
  where
    ahead : (ss : List TradeRow) → AllByRecursion (λ u. has_same_position p u ≡ true) ss → NoneBefore is_before_by_position r ss
        → AllByRecursion (λ (d : Deal). r.stamp ≤ d.stamp) (map deal_of_completed_row ss)
    ahead [] b n = tt
    ahead (u ∷ ss) b n =
        let x = at_one p r a.0 in
        let y = at_one p u b.0 in
        (moment_order r u (record { account = sym x.account ∙ y.account; symbol = sym x.symbol ∙ y.symbol }) n.0, ahead ss b.1 n.1)

texts_back : (s t : Text) → bytes_eq s t ≡ bytes_eq t s
texts_back s t = by_test (bytes_eq s t) (bytes_eq t s) refl refl
  where
    by_test : (a b : Bool) → bytes_eq s t ≡ a → bytes_eq t s ≡ b → bytes_eq s t ≡ bytes_eq t s
    by_test true b e f = e ∙ sym ((bytes_eq-Decides t s).1 (sym ((bytes_eq-Decides s t).0 e)))
    by_test false true e f = let k : bytes_eq s t ≡ true = (bytes_eq-Decides s t).1 (sym ((bytes_eq-Decides t s).0 f)) in absurd (cc)
    by_test false false e f = e ∙ sym f

-- the trades of a position among the completed rows, summed up
sums_alike : (t : Tables) (r : TradeRow) (f : Deal → ℕ) (rs : List TradeRow) → AllByRecursion (λ u. last_status_stamp_of_trade (trade_of_row t u) ≡ u.stamp) rs
    → sum_by f (map deal_of_completed_row (filter (has_same_position r) rs)) ≡ sum_by f (map deal_of_trade (trades_of_position (map (trade_of_row t) rs) r.account r.symbol))
sums_alike t r f rs h =
    let g : TradeRow → Trade = trade_of_row t in
    let ours : TradeRow → Bool = λ u. u.account == r.account in
    let named : TradeRow → Bool = λ u. bytes_eq u.symbol r.symbol in
    sum_map f deal_of_completed_row (filter (has_same_position r) rs)
    ∙ sum_filter (λ u. f (deal_of_completed_row u)) (has_same_position r) rs
    ∙ sum_same (λ u. cond (has_same_position r u) (f (deal_of_completed_row u)) 0) (λ u. cond (ours u) (cond (named u) (f (deal_of_trade (g u))) 0) 0) rs (All-map rs (λ u m. one u m) h)
    ∙ sym (sum_filter (λ u. cond (named u) (f (deal_of_trade (g u))) 0) ours rs)
    ∙ sym (sum_filter (λ u. f (deal_of_trade (g u))) named (filter ours rs))
    ∙ sym (sum_map (λ u. f (deal_of_trade u)) g (filter named (filter ours rs)))
    ∙ sym (sum_map f deal_of_trade (map g (filter named (filter ours rs))))
    ∙ ap (λ (ts : List Trade). sum_by f (map deal_of_trade ts))
    (sym (ap (filter (λ u. bytes_eq u.symbol r.symbol)) (filter-map (λ u. u.account == r.account) g rs)
    ∙ filter-map (λ u. bytes_eq u.symbol r.symbol) g (filter ours rs)))
  where
    parted : (a b : Bool) (v : ℕ) → cond (a && b) v 0 ≡ cond a (cond b v 0) 0
    parted true b v = refl
    parted false b v = refl

    one : (u : TradeRow) → last_status_stamp_of_trade (trade_of_row t u) ≡ u.stamp
        → cond (has_same_position r u) (f (deal_of_completed_row u)) 0
        ≡ cond (u.account == r.account) (cond (bytes_eq u.symbol r.symbol) (f (deal_of_trade (trade_of_row t u))) 0) 0
    one u m =
        (λ i. cond (numbers_back r.account u.account i && texts_back r.symbol u.symbol i) (f (record (deal_of_completed_row u) { stamp = sym m i })) 0)
        ∙ parted (u.account == r.account) (bytes_eq u.symbol r.symbol) (f (deal_of_trade (trade_of_row t u)))

-- sorted rows have the same deals of a position as the base
pub dealt : (t : Tables) → IsWellFormedBySomeSchema t → satisfies_status_condition t ≡ true → (rs : List TradeRow) → IsPermutation (completed_trade_rows t) rs
    → Sorted is_before_by_position rs → (r : TradeRow)
    → map deal_of_completed_row (filter (has_same_position r) rs) ≡ deals_of_position (completed_trades (base_of_tables t)) r.account r.symbol
dealt t f s rs p o r =
    let base : Base = base_of_tables t in
    let books : BooksInvariant base = adopted_books f.schema t f.form s in
    let P : List Trade = trades_of_position (completed_trades base) r.account r.symbol in
    one_order (λ d. d.stamp) same_deal deals_decide (deals_of_position (completed_trades base) r.account r.symbol) (map deal_of_completed_row (filter (has_same_position r) rs))
    (deals_rise (trades_held base r.account r.symbol) (held_in_order base r.account r.symbol books))
    (rows_ascend r (filter (has_same_position r) rs) (all_pass (has_same_position r) rs) (sorted_filter is_before_by_position (has_same_position r) rs o))
    (λ g.
    sum_map g deal_of_completed_row (filter (has_same_position r) rs)
    ∙ sum_filter (λ u. g (deal_of_completed_row u)) (has_same_position r) rs
    ∙ permuted (completed_trade_rows t) rs p (λ u. cond (has_same_position r u) (g (deal_of_completed_row u)) 0)
    ∙ sym (sum_filter (λ u. g (deal_of_completed_row u)) (has_same_position r) (completed_trade_rows t))
    ∙ sym (sum_map g deal_of_completed_row (filter (has_same_position r) (completed_trade_rows t)))
    ∙ sums_alike t r g (completed_trade_rows t) (done_moments t s)
    ∙ ap (λ (ts : List Trade). sum_by g (map deal_of_trade (trades_of_position ts r.account r.symbol))) (sym (completed_rows t s))
    ∙ sum_map g deal_of_trade P
    ∙ sym (sum_sort (λ u. g (deal_of_trade u)) (λ u v. nat_lt (last_status_stamp_of_trade u) (last_status_stamp_of_trade v)) P)
    ∙ sym (sum_map g deal_of_trade (trades_held base r.account r.symbol)))

-- ---- all lots

same_holding : HoldingRow → HoldingRow → Bool
same_holding a b = (a.trade == b.trade) && ((a.account == b.account) && (bytes_eq a.symbol b.symbol && ((a.stamp == b.stamp) && ((a.price == b.price) && int_eq a.qty b.qty))))

holdings_decide : (a b : HoldingRow) → Decides (same_holding a b) (a ≡ b)
unfolding same_holding
holdings_decide a b =
    let w = bytes_eq a.symbol b.symbol in
    let z = int_eq a.qty b.qty in (
      (λ e.
          let p = and_parts (a.trade == b.trade) _ e in
          let q = and_parts (a.account == b.account) _ p.1 in
          let r = and_parts w _ q.1 in
          let m = and_parts (a.stamp == b.stamp) _ r.1 in
          let n = and_parts (a.price == b.price) z m.1 in
          λ i. record {
            trade = eqb-true a.trade b.trade p.0 i;
            account = eqb-true a.account b.account q.0 i;
            symbol =
                (bytes_eq-Decides a.symbol b.symbol).0 r.0 i;
            stamp = eqb-true a.stamp b.stamp m.0 i;
            price = eqb-true a.price b.price n.0 i;
            qty =
                (Decides-int_eq a.qty b.qty).0 n.1 i;
          }),
      (λ e.
          and_from (a.trade == b.trade) _ (eq-eqb a.trade b.trade (ap (λ (h : HoldingRow). h.trade) e))
          (and_from (a.account == b.account) _ (eq-eqb a.account b.account (ap (λ (h : HoldingRow). h.account) e))
          (and_from w _ ((bytes_eq-Decides a.symbol b.symbol).1 (ap (λ (h : HoldingRow). h.symbol) e))
          (and_from (a.stamp == b.stamp) _ (eq-eqb a.stamp b.stamp (ap (λ (h : HoldingRow). h.stamp) e))
          (and_from (a.price == b.price) z (eq-eqb a.price b.price (ap (λ (h : HoldingRow). h.price) e)) ((Decides-int_eq a.qty b.qty).1 (ap (λ (h : HoldingRow). h.qty) e))))))),
    )

rows_rise : (done ts : List Trade) → IdsRise ts → Rises (λ h. h.trade) (filter is_left (map (holding_row done) ts))
rows_rise done [] r = tt
rows_rise done (t ∷ ts) r =
    elim (is_left (holding_row done t)) as (λ b. Rises (λ h. h.trade) (cond b (holding_row done t ∷ filter is_left (map (holding_row done) ts)) (filter is_left (map (holding_row done) ts))))
    [ true ↦ (All-filter (λ h. t.id < h.trade) is_left (map (holding_row done) ts) (ahead ts r.0), rows_rise done ts r.1) | false ↦ rows_rise done ts r.1 ]
  where
    ahead : (us : List Trade) → AllByRecursion (λ u. nat_lt t.id u.id ≡ true) us → AllByRecursion (λ (h : HoldingRow). t.id < h.trade) (map (holding_row done) us)
    ahead [] h = tt
    ahead (u ∷ us) h = (ltb-true t.id u.id h.0, ahead us h.1)

-- each lot of the base is of some completed row's position
lots_placed : (t : Tables) (done : List Trade) (rs all : List TradeRow) → ((r : TradeRow) → In r all → In r rs)
    → AllByRecursion (λ h. at_any rs h ≡ true) (map (holding_row done) (map (trade_of_row t) all))
lots_placed t done rs [] m = tt
lots_placed t done rs (r ∷ all) m =
    let here : at_place r (holding_row done (trade_of_row t r)) ≡ true =
    and_from (r.account == r.account) (bytes_eq r.symbol r.symbol) (eq-eqb r.account r.account refl) ((bytes_eq-Decides r.symbol r.symbol).1 refl) in
    (any_in (λ u. at_place u (holding_row done (trade_of_row t r))) rs r (m r (inl refl)) here, lots_placed t done rs all (λ u k. m u (inr k)))

pub lots_told : (schema : Schema) (t : Tables) → IsWellFormedBySomeSchema t → satisfies_status_condition t ≡ true
    → (rs : List TradeRow) (rows held : List HoldingRow) → IsPermutation (completed_trade_rows t) rs → Sorted is_before_by_position rs
    → AreLotsLeftByTrades rs rows → IsPermutation rows held → Ascends (λ h. h.trade) held → held ≡ (expected_tables schema t).holdings
lots_told schema t f s rs rows held p o l q a =
    let base : Base = base_of_tables t in
    let books : BooksInvariant base = adopted_books f.schema t f.form s in
    let E : List HoldingRow = (sheets base).holdings in
    let done : List Trade = completed_trades base in
    let listed : E ≡ filter is_left (map (holding_row done) done) = holdings_in_order base books.numbered in
    let rise : Rises (λ h. h.trade) E =
    subst (Rises (λ (h : HoldingRow). h.trade)) (sym listed)
    (rows_rise done done (rise_filter is_completed base.trades (numbered_rise 1 base.trades books.numbered))) in
    let placed : AllByRecursion (λ h. at_any (completed_trade_rows t) h ≡ true) E =
    subst (AllByRecursion (λ h. at_any (completed_trade_rows t) h ≡ true)) (sym listed)
    (All-filter (λ h. at_any (completed_trade_rows t) h ≡ true) is_left (map (holding_row done) done)
    (subst (λ (ts : List Trade). AllByRecursion (λ h. at_any (completed_trade_rows t) h ≡ true) (map (holding_row done) ts)) (sym (completed_rows t s))
    (lots_placed t done (completed_trade_rows t) (completed_trade_rows t) (λ r k. k)))) in
    let all : filter (at_any rs) E ≡ E =
    filter-all (at_any rs) E (All-map E (λ h k. sym (list_any-IsPermutation (λ r. at_place r h) (completed_trade_rows t) rs p) ∙ k) placed) in
    one_order (λ h. h.trade) same_holding holdings_decide E held rise a
    (λ g. permuted rows held q g ∙ leave_sums base books l (All-of rs (dealt t f s rs p o)) g ∙ ap (sum_by g) all)
    ∙ sym (same_holdings schema base)

-- ---- what a list's order leaves

by_place : {X : Type 0} (P : X → Type 0) (xs : List X) → AllByRecursion P xs → (k : ℕ) (d : X) → k < length xs → P (get_or xs k d)
by_place P [] h k d b = absurd (omega arith)
by_place P (x ∷ xs) h zero d b = h.0
by_place P (x ∷ xs) h (suc k) d b = by_place P xs h.1 k d (omega (arith, b))

from_places : {X : Type 0} (P : X → Type 0) (xs : List X) → ((k : ℕ) (d : X) → k < length xs → P (get_or xs k d)) → AllByRecursion P xs
from_places P [] h = tt
from_places P (x ∷ xs) h = (h 0 x (omega arith), from_places P xs (λ k d b. h (suc k) d (omega (arith, b))))

pub all_moved : {X : Type 0} (P : X → Type 0) (xs ys : List X) → IsPermutation xs ys → AllByRecursion P xs → AllByRecursion P ys
all_moved P xs ys p h = from_places P ys (All-permutation P xs ys p (by_place P xs h))

pub clash_moved : (rs ss : List TradeRow) → IsPermutation rs ss → IsDistinct has_same_id_or_stamp rs → IsDistinct has_same_id_or_stamp ss
clash_moved rs ss p d = IsDistinct-IsPermutation has_same_id_or_stamp (λ r s. (λ i. numbers_back r.id s.id i || numbers_back r.stamp s.stamp i)) rs ss p d

-- the tables have these rows
pub rows_moved : (rows now : List trade.TradeRow) (t : Tables) (done held : List (Bor trade.TradeRow)) → now ≡ rows → held ≡ done
    → t.trades ≡ map abstract_trade_row rows → IsPermutation (filter is_completed_trade_row (map abstract_trade_row now)) (map seen done)
    → IsPermutation (completed_trade_rows t) (map seen held)
rows_moved rows now t done held e h u p =
    subst (λ (rs : List TradeRow). IsPermutation (filter is_completed_trade_row rs) (map seen held)) (sym u)
    (subst (λ (rs : List trade.TradeRow). IsPermutation (filter is_completed_trade_row (map abstract_trade_row rs)) (map seen held)) e
    (subst (λ (ds : List (Bor trade.TradeRow)). IsPermutation (filter is_completed_trade_row (map abstract_trade_row now)) (map seen ds)) (sym h) p))
