-- Upgraded rows satisfy `Form` of schema 3.
use Rattle.std.proofs.Common.{◌≡◌, ◌≤◌, ℕ, ◌+◌, ◌==◌, Bool, true, false, cond, List, [], ◌∷◌, ◌++◌, refl, sym, ◌∙◌, ap, subst, map, filter, length, arith, Option, Some, None}
use Rattle.std.specs.Prelude.{is_none, nat_le, nat_abs, nat_lt, find}
use Rattle.std.specs.Option.{option_map_or}
use Rattle.std.specs.List.{AllByRecursion, list_all}
use Rattle.std.proofs.lemmas.Bool.{and_from, and_parts, leb-true, le-leb}
use Rattle.std.proofs.lemmas.Bool.Decides.{nat_tests}
use Rattle.brk_money.specs.Spelling.{is_within_amount_limit}
use Rattle.brk_model.specs.Limits.{greatest_amount, greatest_charge, greatest_id, greatest_cash_row_number, greatest_commission_rate}
use Rattle.brk_model.specs.Records.{Band, Trade}
use Rattle.brk_model.specs.Base.{Base, completed_trades, is_completed}
use Rattle.brk_model.specs.Derived.{Posting, cash_trades, postings_sorted_by_stamp, posting_of_movement, posting_of_trade, postings_of_base}
use Rattle.brk_model.specs.Schemas.{Schema, third_schema}
use Rattle.brk_model.specs.Tables.{OldCashRow, CashRow, RequestRow, SummaryRow, Tables, TradeRow, numbered_cash_move_rows}
use Rattle.brk_model.specs.Sheets.{sheets}
use Rattle.brk_model.specs.Joins.{trade_row_with_id}
use Rattle.brk_model.specs.Keys.{number, is_key_less, cash_transaction_key, cash_move_key}
use Rattle.brk_model.specs.Adopted.{base_of_tables, movement_of_row, posting_of_cash_transaction_row, posting_of_cash_move_row, postings_of_tables, trade_of_row}
use Rattle.brk_model.specs.Lists.{all_distinct}
use Rattle.brk_model.specs.Form.{is_well_formed_band_row, is_well_formed_cash_transaction_row, has_account, has_broker, satisfies_form_condition}
use Rattle.brk_model.specs.Form.{has_tables_sorted_by_unique_key, has_security, has_trade, is_cash_row_name_of_trade, has_cash_row_name_of_trade, is_id}
use Rattle.brk_model.specs.Form.{is_cash_row_number, is_movement_name_and_amount, is_price, is_quantity_in_schema, is_at_most_last_stamp, is_tier}
use Rattle.brk_model.specs.Form.{is_well_formed_cash_move_row, has_price_matching_completion, is_well_formed_request_row, is_sorted_by_unique_key}
use Rattle.brk_model.specs.Form.{is_well_formed_summary_row, is_well_formed_trade_row, trade_ids_of_cash_rows}
use Rattle.brk_model.specs.Forms.{is_exchange}
use Rattle.brk_model.specs.Upgraded.{tables_with_merged_cash_rows}
use Rattle.brk_model.specs.Names.{TradesAreNumberedFrom}
use Rattle.brk_trade_books.specs.Books.{BooksInvariant}
use Rattle.brk_trade_books.proofs.LotReading.{All-sort}
use Rattle.brk_trade_books.proofs.MoveReading.{moves_counted}
use Rattle.brk_trade_books.proofs.Postings.{length_sort}
use Rattle.brk_trade_books.proofs.Same.{All-append, All-map, All-mapped, find-All}
use Rattle.brk_audit_theorems.specs.Upgrade.{HasLimitsWithinThirdSchema}
use Rattle.brk_audit_theorems.proofs.AgainStatus.{all_list}
use Rattle.brk_audit_theorems.proofs.Climbs.{list_all_true}
use Rattle.brk_audit_theorems.proofs.UpgradedBase.{IsPosted, moves_own}
use Rattle.brk_model_theorems.specs.FormParts.{SatisfiesFormParts}
use Rattle.brk_model_theorems.proofs.FormParts.{form_parts, form_whole}
use Rattle.brk_model_theorems.proofs.Conjunctions.{parts3, parts5, parts6, parts10}

-- ---- wider limits

mono : {X : Type 0} (p q : X → Bool) (xs : List X) → ((x : X) → p x ≡ true → q x ≡ true) → list_all p xs ≡ true → list_all q xs ≡ true
mono p q xs f h = all_list q xs (All-map xs f (list_all_true p xs h))

wider : (n low high : ℕ) → low ≤ high → nat_le n low ≡ true → nat_le n high ≡ true
wider n low high h e = le-leb n high (let k = leb-true n low e in omega (arith, h, k))

qty_wider : (schema : Schema) → HasLimitsWithinThirdSchema schema → (n : ℕ) → is_quantity_in_schema schema n ≡ true → is_quantity_in_schema third_schema n ≡ true
qty_wider schema w n e =
    let k = and_parts (nat_le 1 n) (nat_le n schema.greatest_qty) e in
    and_from (nat_le 1 n) (nat_le n third_schema.greatest_qty) k.0 (wider n schema.greatest_qty third_schema.greatest_qty w.qty k.1)

band_wider : (schema : Schema) → HasLimitsWithinThirdSchema schema → (b : Band) → is_well_formed_band_row schema b ≡ true → is_well_formed_band_row third_schema b ≡ true
band_wider schema w b e =
    let k = parts6 (is_tier b.tier) (is_exchange b.exchange) (is_quantity_in_schema schema b.from_qty) (is_quantity_in_schema schema b.to_qty)
    (nat_le b.from_qty b.to_qty) (nat_le b.rate greatest_commission_rate) e in
    and_from _ _ (and_from _ _ (and_from _ _ (and_from _ _ (and_from _ _ k.0 k.1) (qty_wider schema w b.from_qty k.2)) (qty_wider schema w b.to_qty k.3)) k.4) k.5

trade_wider : (schema : Schema) (t : Tables) → HasLimitsWithinThirdSchema schema → (r : TradeRow) → is_well_formed_trade_row schema t r ≡ true → is_well_formed_trade_row third_schema t r ≡ true
trade_wider schema t w r e =
    let k = parts10 (is_id r.id) (is_quantity_in_schema schema r.qty) (is_price r.bid) (nat_le r.charge greatest_charge) (nat_le r.commission greatest_amount) (nat_le r.tax greatest_amount)
    (is_at_most_last_stamp t r.stamp) (has_security t r.symbol) (has_account t r.account) (has_price_matching_completion t r) e in
    and_from _ _ (and_from _ _ (and_from _ _ (and_from _ _ (and_from _ _ (and_from _ _ (and_from _ _ (and_from _ _ (and_from _ _ k.0
    (qty_wider schema w r.qty k.1)) k.2) k.3) k.4) k.5) k.6) k.7) k.8) k.9

request_wider : (schema : Schema) (t : Tables) → HasLimitsWithinThirdSchema schema → (r : RequestRow) → is_well_formed_request_row schema t r ≡ true
    → is_well_formed_request_row third_schema t r ≡ true
request_wider schema t w r e =
    let k = parts5 (has_trade t r.trade) (has_security t r.symbol) (is_quantity_in_schema schema r.qty) (is_price r.bid) (has_broker t r.broker) e in
    and_from _ _ (and_from _ _ (and_from _ _ (and_from _ _ k.0 k.1) (qty_wider schema w r.qty k.2)) k.3) k.4

summary_wider : (schema : Schema) (t : Tables) → HasLimitsWithinThirdSchema schema → (s : SummaryRow) → is_well_formed_summary_row schema t s ≡ true
    → is_well_formed_summary_row third_schema t s ≡ true
summary_wider schema t w s e =
    let k = parts3 (has_account t s.account) (has_security t s.symbol) (nat_le (nat_abs s.qty) schema.greatest_summary_quantity) e in
    and_from _ _ (and_from _ _ k.0 k.1) (wider (nat_abs s.qty) schema.greatest_summary_quantity third_schema.greatest_summary_quantity w.summary k.2)

-- ---- what was posted has form

-- a posting whose row would have form, but for its number
pub record HasForm (t : Tables) (p : Posting) : Type 0 where
  pub account : has_account t p.account ≡ true
  pub name : option_map_or (λ id. option_map_or (is_cash_row_name_of_trade t p.name) (trade_row_with_id t id) false) p.trade (is_movement_name_and_amount p.name p.amount) ≡ true
  pub stamp : is_at_most_last_stamp t p.stamp ≡ true
  pub amount : is_within_amount_limit p.amount ≡ true

pub move_posted : (t : Tables) (r : CashRow) → is_well_formed_cash_move_row t r ≡ true → HasForm t (posting_of_cash_move_row r)
move_posted t r e =
    let k = parts5 (is_cash_row_number r.id) (has_account t r.account)
    (option_map_or (has_cash_row_name_of_trade t r) r.trade (is_movement_name_and_amount r.name r.amount)) (is_at_most_last_stamp t r.stamp)
    (is_within_amount_limit r.amount) e in
    record { account = k.1; name = k.2; stamp = k.3; amount = k.4 }

cash_posted : (schema : Schema) (t : Tables) → AllByRecursion (λ r. is_well_formed_trade_row schema t r ≡ true) t.trades → (c : OldCashRow)
    → is_well_formed_cash_transaction_row t c ≡ true → HasForm t (posting_of_cash_transaction_row t c)
cash_posted schema t h c e =
    let k = parts3 (option_map_or (is_cash_row_name_of_trade t c.name) (trade_row_with_id t c.trade) false) (is_at_most_last_stamp t c.stamp) (is_within_amount_limit c.amount) e in
    record { account = by_trade (trade_row_with_id t c.trade) refl k.0; name = k.0; stamp = k.1; amount = k.2 }
  where
    account_of : (r : TradeRow) → is_well_formed_trade_row schema t r ≡ true → has_account t r.account ≡ true
    account_of r f =
        (parts10 (is_id r.id) (is_quantity_in_schema schema r.qty) (is_price r.bid) (nat_le r.charge greatest_charge) (nat_le r.commission greatest_amount) (nat_le r.tax greatest_amount)
        (is_at_most_last_stamp t r.stamp) (has_security t r.symbol) (has_account t r.account) (has_price_matching_completion t r) f).8

    by_trade : (o : Option TradeRow) → trade_row_with_id t c.trade ≡ o → option_map_or (is_cash_row_name_of_trade t c.name) o false ≡ true
        → has_account t (option_map_or (λ r. r.account) (trade_row_with_id t c.trade) 0) ≡ true
    by_trade None f g = absurd (cc)
    by_trade (Some r) f g =
        ap (λ o. has_account t (option_map_or (λ r. r.account) o 0)) f ∙ account_of r (find-All (λ r. is_well_formed_trade_row schema t r ≡ true) (λ r. r.id == c.trade) t.trades r h f)

all_posted : (schema : Schema) (t : Tables) → SatisfiesFormParts schema t → AllByRecursion (HasForm t) (postings_of_tables t)
all_posted schema t p =
    All-append (HasForm t) (map (posting_of_cash_transaction_row t) t.cash) (map posting_of_cash_move_row t.moves)
    (All-mapped (HasForm t) (posting_of_cash_transaction_row t) t.cash
    (All-map t.cash (cash_posted schema t (list_all_true (is_well_formed_trade_row schema t) t.trades p.trades)) (list_all_true (is_well_formed_cash_transaction_row t) t.cash p.cash)))
    (All-mapped (HasForm t) posting_of_cash_move_row t.moves (All-map t.moves (move_posted t) (list_all_true (is_well_formed_cash_move_row t) t.moves p.moves)))

pub numbered_form : (t : Tables) (n : ℕ) (ps : List Posting) → 1 ≤ n → n + length ps ≤ greatest_cash_row_number + 1 → AllByRecursion (HasForm t) ps
    → AllByRecursion (λ r. is_well_formed_cash_move_row t r ≡ true) (numbered_cash_move_rows n ps)
numbered_form t n [] l h f = tt
numbered_form t n (p ∷ ps) l h f = (
  and_from _ _ (and_from _ _ (and_from _ _ (and_from _ _ (and_from _ _ (le-leb 1 n l) (le-leb n greatest_cash_row_number (omega (arith, h)))) f.0.account) f.0.name) f.0.stamp) f.0.amount,
  numbered_form t (n + 1) ps (omega (arith, l)) (omega (arith, h)) f.1,
)

-- ---- how many rows there are

numbers_low : (m : ℕ) (ts : List Trade) → TradesAreNumberedFrom m ts → AllByRecursion (λ t. t.id ≤ greatest_id) ts → m ≤ greatest_id + 1 → m + length ts ≤ greatest_id + 1
numbers_low m [] k h l = omega (arith, l)
numbers_low m (t ∷ ts) k h l = let i = k.0 in let j = h.0 in let r = numbers_low (m + 1) ts k.1 h.1 (omega (arith, i, j)) in omega (arith, r)

length_mapped : {X Y : Type 0} (f : X → Y) (xs : List X) → length (map f xs) ≡ length xs
length_mapped f [] = refl
length_mapped f (x ∷ xs) = let h = length_mapped f xs in omega (arith, h)

length_filtered : {X : Type 0} (p : X → Bool) (xs : List X) → length (filter p xs) ≤ length xs
length_filtered p [] = omega arith
length_filtered {X = X} p (x ∷ xs) = by_test (p x) (length_filtered p xs)
  where
    by_test : (b : Bool) → length (filter p xs) ≤ length xs → length (cond b (x ∷ filter p xs) (filter p xs)) ≤ length (x ∷ xs)
    by_test true ih = omega (arith, ih)
    by_test false ih = omega (arith, ih)

length_joined : {X : Type 0} (xs ys : List X) → length (xs ++ ys) ≡ length xs + length ys
length_joined [] ys = omega arith
length_joined (x ∷ xs) ys = let h = length_joined xs ys in omega (arith, h)

movements_are : (t : Tables) → length (base_of_tables t).movements ≡ length (filter (λ r. is_none r.trade) t.moves)
unfolding base_of_tables
movements_are t = length_mapped movement_of_row (filter (λ r. is_none r.trade) t.moves)

ids_low : (schema : Schema) (t : Tables) → SatisfiesFormParts schema t → AllByRecursion (λ u. u.id ≤ greatest_id) (base_of_tables t).trades
unfolding base_of_tables
ids_low schema t p =
    All-mapped (λ u. u.id ≤ greatest_id) (trade_of_row t) t.trades (All-map t.trades (λ r e.
    let k = parts10 (is_id r.id) (is_quantity_in_schema schema r.qty) (is_price r.bid) (nat_le r.charge greatest_charge) (nat_le r.commission greatest_amount) (nat_le r.tax greatest_amount)
    (is_at_most_last_stamp t r.stamp) (has_security t r.symbol) (has_account t r.account) (has_price_matching_completion t r) e in
    leb-true r.id greatest_id (and_parts (nat_le 1 r.id) (nat_le r.id greatest_id) k.0).1) (list_all_true (is_well_formed_trade_row schema t) t.trades p.trades))

pub few_postings : (base : Base) → TradesAreNumberedFrom 1 base.trades → AllByRecursion (λ u. u.id ≤ greatest_id) base.trades → length base.movements ≤ greatest_id
    → 1 + length (postings_sorted_by_stamp (postings_of_base base)) ≤ greatest_cash_row_number + 1
few_postings base numbers ids counted =
    let P = posting_of_trade base.accounts in
    let C : List Trade = cash_trades (completed_trades base) in
    let turned = length_sort (λ a b. nat_lt a.stamp b.stamp) (postings_of_base base) in
    let both = length_joined (map P C) (map posting_of_movement base.movements) in
    let trades = length_mapped P C in
    let moves = length_mapped posting_of_movement base.movements in
    let some = length_filtered (λ t. t.is_cash) (completed_trades base) in
    let done = length_filtered is_completed base.trades in
    let low = numbers_low 1 base.trades numbers ids (omega arith) in
    few (length (postings_sorted_by_stamp (postings_of_base base))) (length (postings_of_base base)) (length (map P C)) (length C) (length (completed_trades base)) (length base.trades)
    (length (map posting_of_movement base.movements)) (length base.movements) turned both trades moves some done low counted
  where
    few : (a b c d e f g h : ℕ) → a ≡ b → b ≡ c + g → c ≡ d → g ≡ h → d ≤ e → e ≤ f → 1 + f ≤ greatest_id + 1 → h ≤ greatest_id → 1 + a ≤ greatest_cash_row_number + 1
    few a b c d e f g h p q r s t u v w = omega (arith, p, q, r, s, t, u, v, w)

few_rows : (schema : Schema) (t : Tables) → SatisfiesFormParts schema t → BooksInvariant (base_of_tables t) → IsPosted t
    → 1 + length (postings_sorted_by_stamp (postings_of_tables t)) ≤ greatest_cash_row_number + 1
few_rows schema t p books posted =
    let counted = leb-true (length (filter (λ r. is_none r.trade) t.moves)) greatest_id p.counted in
    subst (λ ps. 1 + length ps ≤ greatest_cash_row_number + 1) (sym posted.turned)
    (few_postings (base_of_tables t) books.numbered (ids_low schema t p) (subst (λ (n : ℕ). n ≤ greatest_id) (sym (movements_are t)) counted))

-- ---- keys

next_number : (n : ℕ) → is_key_less (number n ∷ []) (number (n + 1) ∷ []) ≡ true
next_number n = grind (arith, nat_tests)

pub numbered_rises : (n : ℕ) (ps : List Posting) → is_sorted_by_unique_key cash_move_key (numbered_cash_move_rows n ps) ≡ true
numbered_rises n [] = refl
numbered_rises n (p ∷ []) = refl
numbered_rises n (p ∷ q ∷ ps) =
    and_from (is_key_less (number n ∷ []) (number (n + 1) ∷ [])) (is_sorted_by_unique_key cash_move_key (numbered_cash_move_rows (n + 1) (q ∷ ps))) (next_number n) (numbered_rises (n + 1) (q ∷ ps))

keys_upgraded : (t : Tables) → has_tables_sorted_by_unique_key t ≡ true → has_tables_sorted_by_unique_key (tables_with_merged_cash_rows t) ≡ true
unfolding has_tables_sorted_by_unique_key tables_with_merged_cash_rows
keys_upgraded t h =
    let both = and_parts _ (is_sorted_by_unique_key cash_move_key t.moves) h in
    let rest = and_parts _ (is_sorted_by_unique_key cash_transaction_key t.cash) both.0 in
    and_from _ (is_sorted_by_unique_key cash_move_key (numbered_cash_move_rows 1 (postings_sorted_by_stamp (postings_of_tables t))))
    (and_from _ (is_sorted_by_unique_key cash_transaction_key []) rest.0 refl) (numbered_rises 1 (postings_sorted_by_stamp (postings_of_tables t)))

-- ---- all of it

counted_upgraded : (t : Tables) → tables_with_merged_cash_rows t ≡ sheets (base_of_tables t) → nat_le (length (filter (λ r. is_none r.trade) t.moves)) greatest_id ≡ true
    → nat_le (length (filter (λ r. is_none r.trade) (tables_with_merged_cash_rows t).moves)) greatest_id ≡ true
counted_upgraded t e h =
    ap (λ n. nat_le n greatest_id) (ap (λ u. length (filter (λ r. is_none r.trade) u.moves)) e ∙ moves_counted (base_of_tables t) ∙ movements_are t) ∙ h

-- each part, of the same tables but for those of cash
joined : (schema : Schema) (t : Tables) → HasLimitsWithinThirdSchema schema → SatisfiesFormParts schema t
    → list_all (is_well_formed_cash_move_row t) (numbered_cash_move_rows 1 (postings_sorted_by_stamp (postings_of_tables t))) ≡ true
    → all_distinct (trade_ids_of_cash_rows (numbered_cash_move_rows 1 (postings_sorted_by_stamp (postings_of_tables t)))) ≡ true
    → nat_le (length (filter (λ r. is_none r.trade) (tables_with_merged_cash_rows t).moves)) greatest_id ≡ true → SatisfiesFormParts third_schema (tables_with_merged_cash_rows t)
unfolding tables_with_merged_cash_rows base_of_tables
joined schema t w p rows own counted = record {
  clock = p.clock;
  keys = keys_upgraded t p.keys;
  tax_ids = p.tax_ids;
  kept = p.kept;
  brokers = p.brokers;
  customers = p.customers;
  limits = p.limits;
  accounts = p.accounts;
  permissions = p.permissions;
  securities = p.securities;
  last_trades = p.last_trades;
  charges = p.charges;
  bands = mono (is_well_formed_band_row schema) (is_well_formed_band_row third_schema) t.bands (band_wider schema w) p.bands;
  apart = p.apart;
  tax_rates = p.tax_rates;
  customer_taxes = p.customer_taxes;
  trades = mono (is_well_formed_trade_row schema t) (is_well_formed_trade_row third_schema t) t.trades (trade_wider schema t w) p.trades;
  numbers = p.numbers;
  history = p.history;
  requests = mono (is_well_formed_request_row schema t) (is_well_formed_request_row third_schema t) t.requests (request_wider schema t w) p.requests;
  holdings = p.holdings;
  summaries = mono (is_well_formed_summary_row schema t) (is_well_formed_summary_row third_schema t) t.summaries (summary_wider schema t w) p.summaries;
  holding_history = p.holding_history;
  settlements = p.settlements;
  cash = refl;
  moves = rows;
  own_moves = own;
  counted = counted;
  rule = p.rule;
  fits = refl;
}

pub upgraded_form : (schema : Schema) (t : Tables) → HasLimitsWithinThirdSchema schema → satisfies_form_condition schema t ≡ true
    → BooksInvariant (base_of_tables t) → IsPosted t → tables_with_merged_cash_rows t ≡ sheets (base_of_tables t)
    → satisfies_form_condition third_schema (tables_with_merged_cash_rows t) ≡ true
upgraded_form schema t w f books posted e =
    let p : SatisfiesFormParts schema t = form_parts schema t f in
    let all : List Posting = postings_sorted_by_stamp (postings_of_tables t) in
    let rows = all_list (is_well_formed_cash_move_row t) (numbered_cash_move_rows 1 all) (numbered_form t 1 all (omega arith) (few_rows schema t p books posted)
    (All-sort (HasForm t) (λ a b. nat_lt a.stamp b.stamp) (postings_of_tables t) (all_posted schema t p))) in
    let own = ap (λ ps. all_distinct (trade_ids_of_cash_rows (numbered_cash_move_rows 1 ps))) posted.turned ∙ moves_own (base_of_tables t) books in
    form_whole third_schema (tables_with_merged_cash_rows t) (joined schema t w p rows own (counted_upgraded t e p.counted))
