-- The condition `Summary` of the tables, from sums by key over typed rows.
use Rattle.std.proofs.Common.{◌≡◌, ℕ, ◌==◌, Bool, true, false, List, refl, sym, ◌∙◌, ap, subst, map, ℤ, pos}
use Rattle.std.specs.Prelude.{◌&&◌, find, is_some, nat_abs, nat_le, bytes_eq}
use Rattle.std.specs.Borrow.{Bor}
use Rattle.std.specs.BTreeMap.{BTreeMap}
use Rattle.std.specs.Cmp.{unsigned_ties}
use Rattle.std.specs.Cmp.Lexicographic.{slice_cmp}
use Rattle.std.specs.List.{AllByRecursion, filter_map}
use Rattle.std.specs.Ordering.{is_eq, nat_cmp, ordering_then}
use Rattle.std.specs.declared.cmp.Ordering.{Ordering}
use Rattle.std.specs.declared.cmp.Ordering.TheVariants.{Less, Equal, Greater}
use Rattle.std.proofs.lemmas.Bool.{and_parts, eqb-true}
use Rattle.std.proofs.lemmas.Map.Text.{is_eq-slice_cmp}
use Rattle.std.proofs.lemmas.Slice.Eq.{bytes_eq-Decides}
use Rattle.brk_money.specs.Kinds.{side_of_trade_type}
use Rattle.brk_money.specs.Spelling.{Text}
use Rattle.brk_model.specs.Form.{has_account, has_security, is_id, is_price, is_quantity_in_schema, is_at_most_last_stamp, has_price_matching_completion}
use Rattle.brk_model.specs.Form.{is_well_formed_summary_row, is_well_formed_trade_row}
use Rattle.brk_model.specs.Limits.{greatest_amount, greatest_charge}
use Rattle.brk_model.specs.Lists.{is_zero, total_by}
use Rattle.brk_model.specs.Shares.{signed_by_side}
use Rattle.brk_model.specs.Schemas.{Schema}
use Rattle.brk_model.specs.Tables.{Tables, SummaryRow, TradeRow}
use Rattle.brk_ref.specs.Rows.{abstract_summary_row, abstract_trade_row}
use Rattle.brk_trade_rows.specs.Sheets.{abstract_sheets}
use Rattle.brk_trade_rows.specs.declared.sheets.Sheets.{Sheets}
use Rattle.brk_trade_books.proofs.Same.{All-map, All-mapped, All-of, filter-none, filter-same, find-none}
use Rattle.brk_audit_theorems.proofs.Climbs.{list_all_true, of_all}
use Rattle.brk_audit_theorems.proofs.Members.{FoundIn, found_in}
use Rattle.brk_model_theorems.proofs.FormParts.{form_parts}
use Rattle.brk_model_theorems.proofs.Conjunctions.{parts10, parts3}
use Rattle.brk_audit_sums.specs.Completed.{is_completed_trade_row}
use Rattle.brk_audit_sums.specs.PositionSums.{posting_with_owned_symbol, share_posting_of_trade}
use Rattle.brk_audit_sums.specs.PositionSums.{share_posting_of_summary}
use Rattle.brk_audit_sums.specs.Tally.{sum_at_key, total_amount_at_key}
use Rattle.brk_audit_sums.specs.declared.tally.KeyedAmount.{KeyedAmount}
use Rattle.brk_audit_sums.proofs.Checked.{rows_back, rows_hold}
use Rattle.brk_audit_sums.proofs.Postings.{All-filter_map, total_mapped, total_posted}
use Rattle.brk_audit_sums.specs.Conditions.{IsWellFormedBySomeSchema}
use Rattle.brk_audit_sums.proofs.Sums.{SummariesMatchTrades, HasNonzeroQuantity, position_cmp, share_sum_of_completed_trades, share_sum_of_summaries}

abbrev pub Place : Type 0
Place = ℕ × Bor (List ℕ)

-- ---- keys

plain_cmp : ℕ × Text → ℕ × Text → Ordering
plain_cmp x y = ordering_then (nat_cmp x.0 y.0) (slice_cmp nat_cmp x.1 y.1)

both_equal : (o p : Ordering) → is_eq (ordering_then o p) ≡ is_eq o && is_eq p
both_equal Less p = refl
both_equal Equal p = refl
both_equal Greater p = refl

is_same_place : (m n : ℕ) (s u : Text) → is_eq (ordering_then (nat_cmp m n) (slice_cmp nat_cmp s u)) ≡ (m == n) && bytes_eq s u
is_same_place m n s u = both_equal (nat_cmp m n) (slice_cmp nat_cmp s u) ∙ (λ i. sym (unsigned_ties m n) i && is_eq-slice_cmp s u i)

-- ---- sums

sum_there : (s : Sheets) (ps : List (KeyedAmount Place)) (q : Place) → map posting_with_owned_symbol ps ≡ filter_map (λ r. share_posting_of_trade (abstract_trade_row r)) s.trades.items
    → total_amount_at_key position_cmp ps q ≡ share_sum_of_completed_trades (abstract_sheets s) q.0 q.1.now
unfolding plain_cmp
sum_there s ps q e =
    let at : ℕ × Text = (q.0, q.1.now) in
    let f : TradeRow → ℤ = λ r. signed_by_side (side_of_trade_type r.kind) r.qty in
    sym (total_mapped (λ p. p.amount) (λ p. is_eq (plain_cmp p.key at)) posting_with_owned_symbol ps)
    ∙ ap (λ xs. total_amount_at_key plain_cmp xs at) e
    ∙ total_posted plain_cmp (λ r. is_completed_trade_row (abstract_trade_row r)) (λ r. ((abstract_trade_row r).account, (abstract_trade_row r).symbol))
    (λ r. f (abstract_trade_row r)) s.trades.items at
    ∙ ap (total_by (λ r. f (abstract_trade_row r)))
    (filter-same (λ r. is_completed_trade_row (abstract_trade_row r)
    && is_eq (plain_cmp ((abstract_trade_row r).account, (abstract_trade_row r).symbol) at))
    (λ r. is_completed_trade_row (abstract_trade_row r) && (((abstract_trade_row r).account == q.0) && bytes_eq (abstract_trade_row r).symbol q.1.now)) s.trades.items
    (All-of s.trades.items (λ r i. is_completed_trade_row (abstract_trade_row r) && is_same_place (abstract_trade_row r).account q.0 (abstract_trade_row r).symbol q.1.now i)))
    ∙ sym (total_mapped f (λ r. is_completed_trade_row r && ((r.account == q.0) && bytes_eq r.symbol q.1.now)) abstract_trade_row s.trades.items)

told_there : (s : Sheets) (cs : List (KeyedAmount Place)) (q : Place) → map posting_with_owned_symbol cs ≡ map (λ r. share_posting_of_summary (abstract_summary_row r)) s.summaries.items
    → total_amount_at_key position_cmp cs q ≡ share_sum_of_summaries (abstract_sheets s).summaries q.0 q.1.now
unfolding plain_cmp
told_there s cs q e =
    let at : ℕ × Text = (q.0, q.1.now) in
    sym (total_mapped (λ p. p.amount) (λ p. is_eq (plain_cmp p.key at)) posting_with_owned_symbol cs)
    ∙ ap (λ xs. total_amount_at_key plain_cmp xs at) e
    ∙ total_mapped (λ p. p.amount) (λ p. is_eq (plain_cmp p.key at)) (λ r. share_posting_of_summary (abstract_summary_row r)) s.summaries.items
    ∙ ap (total_by (λ r. (abstract_summary_row r).qty)) (filter-same (λ r. is_eq (plain_cmp ((abstract_summary_row r).account, (abstract_summary_row r).symbol) at))
    (λ r. ((abstract_summary_row r).account == q.0) && bytes_eq (abstract_summary_row r).symbol q.1.now) s.summaries.items
    (All-of s.summaries.items (λ r. is_same_place (abstract_summary_row r).account q.0 (abstract_summary_row r).symbol q.1.now)))
    ∙ sym (total_mapped (λ h. h.qty) (λ h. (h.account == q.0) && bytes_eq h.symbol q.1.now) abstract_summary_row s.summaries.items)

-- ---- known positions

abbrev IsKnown : Tables → ℕ → Text → Type 0
IsKnown t account symbol = (has_account t account ≡ true) × (has_security t symbol ≡ true)

trade_known : (schema : Schema) (t : Tables) (r : TradeRow) → is_well_formed_trade_row schema t r ≡ true → IsKnown t r.account r.symbol
trade_known schema t r e =
    let k = parts10 (is_id r.id) (is_quantity_in_schema schema r.qty) (is_price r.bid) (nat_le r.charge greatest_charge) (nat_le r.commission greatest_amount) (nat_le r.tax greatest_amount)
    (is_at_most_last_stamp t r.stamp) (has_security t r.symbol) (has_account t r.account) (has_price_matching_completion t r) e in
    (k.8, k.7)

summary_known : (schema : Schema) (t : Tables) (h : SummaryRow) → is_well_formed_summary_row schema t h ≡ true → IsKnown t h.account h.symbol
summary_known schema t h e = let p = parts3 (has_account t h.account) (has_security t h.symbol) (nat_le (nat_abs h.qty) schema.greatest_summary_quantity) e in (p.0, p.1)

postings_known : (s : Sheets) (ps : List (KeyedAmount Place)) → IsWellFormedBySomeSchema (abstract_sheets s)
    → map posting_with_owned_symbol ps ≡ filter_map (λ r. share_posting_of_trade (abstract_trade_row r)) s.trades.items
    → AllByRecursion (λ p. IsKnown (abstract_sheets s) p.key.0 p.key.1.now) ps
postings_known s ps f e =
    let t : Tables = abstract_sheets s in
    rows_back (λ p. IsKnown t p.key.0 p.key.1.now) (λ p. IsKnown t p.key.0 p.key.1) posting_with_owned_symbol ps (λ p h. h)
    (subst (AllByRecursion (λ p. IsKnown t p.key.0 p.key.1)) (sym e)
    (All-filter_map (λ p. IsKnown t p.key.0 p.key.1) (λ r. is_completed_trade_row (abstract_trade_row r))
    (λ r. record {
      key = ((abstract_trade_row r).account, (abstract_trade_row r).symbol);
      amount =
          signed_by_side (side_of_trade_type (abstract_trade_row r).kind) (abstract_trade_row r).qty;
    }) s.trades.items
    (rows_back (λ r. IsKnown t (abstract_trade_row r).account (abstract_trade_row r).symbol) (λ r. is_well_formed_trade_row f.schema t r ≡ true)
    abstract_trade_row s.trades.items (λ r. trade_known f.schema t (abstract_trade_row r))
    (list_all_true (is_well_formed_trade_row f.schema t) t.trades (form_parts f.schema t f.form).trades))))

claims_known : (s : Sheets) (cs : List (KeyedAmount Place)) → IsWellFormedBySomeSchema (abstract_sheets s)
    → map posting_with_owned_symbol cs ≡ map (λ r. share_posting_of_summary (abstract_summary_row r)) s.summaries.items
    → AllByRecursion (λ p. IsKnown (abstract_sheets s) p.key.0 p.key.1.now) cs
claims_known s cs f e =
    let t : Tables = abstract_sheets s in
    rows_back (λ p. IsKnown t p.key.0 p.key.1.now) (λ p. IsKnown t p.key.0 p.key.1) posting_with_owned_symbol cs (λ p h. h)
    (subst (AllByRecursion (λ p. IsKnown t p.key.0 p.key.1)) (sym e)
    (All-mapped (λ p. IsKnown t p.key.0 p.key.1) (λ r. share_posting_of_summary (abstract_summary_row r)) s.summaries.items
    (rows_back (λ r. IsKnown t (abstract_summary_row r).account (abstract_summary_row r).symbol) (λ r. is_well_formed_summary_row f.schema t r ≡ true)
    abstract_summary_row s.summaries.items (λ r. summary_known f.schema t (abstract_summary_row r))
    (list_all_true (is_well_formed_summary_row f.schema t) t.summaries (form_parts f.schema t f.form).summaries))))

-- ---- where tallies agree

-- two tallies, of what trades leave and of what summaries tell
pub record Tallied (s : Sheets) (sums told : BTreeMap Place ℤ) (ps cs : List (KeyedAmount Place)) : Type 0 where
  pub posted : map posting_with_owned_symbol ps ≡ filter_map (λ r. share_posting_of_trade (abstract_trade_row r)) s.trades.items
  pub claimed : map posting_with_owned_symbol cs ≡ map (λ r. share_posting_of_summary (abstract_summary_row r)) s.summaries.items
  pub of_trades : (q : Place) → sum_at_key position_cmp sums q ≡ total_amount_at_key position_cmp ps q
  pub of_rows : (q : Place) → sum_at_key position_cmp told q ≡ total_amount_at_key position_cmp cs q

abbrev pub Agree : BTreeMap Place ℤ → BTreeMap Place ℤ → KeyedAmount Place → Type 0
Agree sums told p = sum_at_key position_cmp sums p.key ≡ sum_at_key position_cmp told p.key

-- what a list of postings does not name has no sum
none_there : (ps : List (KeyedAmount Place)) (q : Place) → is_some (find (λ p. is_eq (position_cmp p.key q)) ps) ≡ false → total_amount_at_key position_cmp ps q ≡ pos 0
unfolding total_by
none_there ps q e = ap (total_by (λ p. p.amount)) (filter-none (λ p. is_eq (position_cmp p.key q)) ps (find-none (λ p. is_eq (position_cmp p.key q)) ps e))

module _ (s : Sheets) (sums told : BTreeMap Place ℤ) (ps cs : List (KeyedAmount Place)) (w : Tallied s sums told ps cs) where
  abbrev t : Tables
  t = abstract_sheets s

  sum_is : (q : Place) → sum_at_key position_cmp sums q ≡ share_sum_of_completed_trades t q.0 q.1.now
  sum_is q = w.of_trades q ∙ sum_there s ps q w.posted

  told_is : (q : Place) → sum_at_key position_cmp told q ≡ share_sum_of_summaries t.summaries q.0 q.1.now
  told_is q = w.of_rows q ∙ told_there s cs q w.claimed

  -- they agree at a position that one of some postings names
  named : (xs : List (KeyedAmount Place)) (q : Place) → AllByRecursion (Agree sums told) xs → is_some (find (λ p. is_eq (position_cmp p.key q)) xs) ≡ true
      → share_sum_of_completed_trades t q.0 q.1.now ≡ share_sum_of_summaries t.summaries q.0 q.1.now
  named xs q a e =
      let f : FoundIn (KeyedAmount Place) (λ p. is_eq (position_cmp p.key q)) xs = found_in (λ p. is_eq (position_cmp p.key q)) xs e in
      let k = and_parts (f.item.key.0 == q.0) (bytes_eq f.item.key.1.now q.1.now) (sym (is_same_place f.item.key.0 q.0 f.item.key.1.now q.1.now) ∙ f.passes) in
      let m : f.item.key.0 ≡ q.0 = eqb-true f.item.key.0 q.0 k.0 in
      let n : f.item.key.1.now ≡ q.1.now = (bytes_eq-Decides f.item.key.1.now q.1.now).0 k.1 in
      let g : share_sum_of_completed_trades t f.item.key.0 f.item.key.1.now ≡ share_sum_of_summaries t.summaries f.item.key.0 f.item.key.1.now =
      sym (sum_is f.item.key) ∙ of_all (Agree sums told) xs f.item a f.there ∙ told_is f.item.key in
      (λ i. share_sum_of_completed_trades t (sym m i) (sym n i)) ∙ g ∙ (λ i. share_sum_of_summaries t.summaries (m i) (n i))

  agreed : AllByRecursion (Agree sums told) ps → AllByRecursion (Agree sums told) cs → (q : Place) → share_sum_of_completed_trades t q.0 q.1.now ≡ share_sum_of_summaries t.summaries q.0 q.1.now
  agreed a b q = by_tests (is_some (find (λ p. is_eq (position_cmp p.key q)) ps)) (is_some (find (λ p. is_eq (position_cmp p.key q)) cs)) refl refl
    where
      by_tests : (b c : Bool) → is_some (find (λ p. is_eq (position_cmp p.key q)) ps) ≡ b → is_some (find (λ p. is_eq (position_cmp p.key q)) cs) ≡ c
          → share_sum_of_completed_trades t q.0 q.1.now ≡ share_sum_of_summaries t.summaries q.0 q.1.now
      by_tests true d e f = named ps q a e
      by_tests false true e f = named cs q b f
      by_tests false false e f = sym (sum_there s ps q w.posted) ∙ none_there ps q e ∙ sym (none_there cs q f) ∙ told_there s cs q w.claimed

  pub they_hold : AllByRecursion (Agree sums told) ps → AllByRecursion (Agree sums told) cs → AllByRecursion (λ r. is_zero r.qty ≡ false) s.summaries.items → SummariesMatchTrades t
  they_hold a b n = record {
    sums = λ account symbol i j. agreed a b (account, record { ref_ptr = (0, 0); now = symbol });
    nonzero = rows_hold (λ r. is_zero r.qty ≡ false) HasNonzeroQuantity abstract_summary_row s.summaries.items (λ r h. h) n;
  }

  known_agree : (xs : List (KeyedAmount Place)) → SummariesMatchTrades t → AllByRecursion (λ p. IsKnown t p.key.0 p.key.1.now) xs → AllByRecursion (Agree sums told) xs
  known_agree xs h k = All-map xs (λ p e. sum_is p.key ∙ h.sums p.key.0 p.key.1.now e.0 e.1 ∙ sym (told_is p.key)) k

  pub they_agree : IsWellFormedBySomeSchema t → SummariesMatchTrades t
      → AllByRecursion (Agree sums told) ps × AllByRecursion (Agree sums told) cs × AllByRecursion (λ r. is_zero r.qty ≡ false) s.summaries.items
  they_agree f h = (
    known_agree ps h (postings_known s ps f w.posted),
    known_agree cs h (claims_known s cs f w.claimed),
    rows_back (λ r. is_zero r.qty ≡ false) HasNonzeroQuantity abstract_summary_row s.summaries.items (λ r e. e) h.nonzero,
  )
