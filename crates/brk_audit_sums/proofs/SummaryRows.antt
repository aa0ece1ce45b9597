-- The condition `Summary`: the shares of each position, and at most one row for each.
use Rattle.std.proofs.Common.{◌≡◌, ℕ, ◌==◌, Bool, true, false, not, cond, List, [], ◌∷◌, refl, sym, ◌∙◌, ap, subst, map, filter, ℤ, pos, inl, inr, Some, arith}
use Rattle.std.specs.Prelude.{◌&&◌, ◌||◌, ◌+ℤ◌, find, is_some, option_map, flat_map, bytes_eq, nat_abs, nat_le, nat_lt, zero, suc, negsuc}
use Rattle.std.specs.List.{AllByRecursion}
use Rattle.std.proofs.Math.IntN.{+ℤ_idr}
use Rattle.std.proofs.lemmas.Bool.{and_parts, eqb-true, eq-eqb}
use Rattle.std.proofs.lemmas.Bool.Decides.{nat_tests}
use Rattle.std.proofs.lemmas.Slice.Eq.{bytes_eq-Decides}
use Rattle.brk_money.specs.Kinds.{side_of_trade_type}
use Rattle.brk_money.specs.Spelling.{Text}
use Rattle.brk_money.specs.declared.fault.Condition.TheVariants as condition
use Rattle.brk_model.specs.Lists.{is_zero, total_by}
use Rattle.brk_model.specs.Records.{Account, Security, Trade}
use Rattle.brk_model.specs.Base.{account_with_id, completed_trades, security_with_symbol}
use Rattle.brk_model.specs.Derived.{trades_of_position, holding_summary_quantity}
use Rattle.brk_model.specs.Form.{has_account, has_security, is_well_formed_summary_row}
use Rattle.brk_model.specs.Keys.{number, word, is_key_less, account_key, security_key, summary_key}
use Rattle.brk_model.specs.Shares.{signed_by_side}
use Rattle.brk_model.specs.Sheets.{tables_sorted_by_key}
use Rattle.brk_model.specs.Tables.{Tables, AccountRow, SecurityRow, SummaryRow, summary_rows, tables_of_base_in_schema}
use Rattle.brk_model.specs.Adopted.{account_of_row, base_of_tables, security_of_row, trade_of_row}
use Rattle.brk_model.specs.Ways.{satisfies_status_condition}
use Rattle.brk_model.specs.Audit.{ConditionHolds, expected_tables}
use Rattle.brk_trade_books.specs.Books.{BooksInvariant}
use Rattle.brk_trade_books.proofs.Reading.{find-map}
use Rattle.brk_trade_books.proofs.Same.{All-map, All-mapped, All-of, filter-none, find-each, find-none}
use Rattle.brk_trade_books.proofs.Summaries.{all_summaries, own_summary}
use Rattle.brk_trade_books.proofs.Worth.{summaries_in}
use Rattle.brk_audit_theorems.proofs.AdoptedBooks.{adopted_books, symbol_of}
use Rattle.brk_audit_theorems.proofs.Climbs.{Climbs, In, climbs_append, climbs_filter, climbs_map, each_in, list_all_true, not_itself, of_all, same_rows, stays}
use Rattle.brk_audit_theorems.specs.Histories.{account_id_key, security_symbol_key}
use Rattle.brk_audit_theorems.proofs.Members.{All-flat_map, FoundIn, found_in}
use Rattle.brk_audit_theorems.proofs.Parts.{KeyParts, key_parts}
use Rattle.brk_model_theorems.specs.FormParts.{SatisfiesFormParts}
use Rattle.brk_model_theorems.proofs.FormParts.{form_parts}
use Rattle.brk_model_theorems.proofs.Conjunctions.{parts3}
use Rattle.brk_audit_theorems.proofs.Sorted.{All-block, All-rows}
use Rattle.brk_audit_sums.specs.Completed.{is_completed_trade_row}
use Rattle.brk_audit_sums.proofs.Sums.{completed_trade_rows, SummariesMatchTrades, HasNonzeroQuantity, share_sum_of_completed_trades, share_sum_of_summaries}
use Rattle.brk_audit_sums.proofs.Completed.{completed_rows}
use Rattle.brk_audit_sums.proofs.Postings.{total_mapped}
use Rattle.brk_audit_sums.proofs.Settling.{filter-filter}
use Rattle.brk_audit_sums.specs.Conditions.{IsWellFormedBySomeSchema}
use Rattle.brk_model.specs.Schemas.{Schema}

-- ---- what a position's trades leave

abbrev done_of : Tables → List Trade
done_of t = completed_trades (base_of_tables t)

position_sum : (t : Tables) (account : ℕ) (symbol : Text) → satisfies_status_condition t ≡ true → holding_summary_quantity (done_of t) account symbol ≡ share_sum_of_completed_trades t account symbol
unfolding holding_summary_quantity
position_sum t account symbol s =
    let f : Trade → ℤ = λ u. signed_by_side (side_of_trade_type u.kind) u.qty in
    let p : Trade → Bool = λ u. (u.account == account) && bytes_eq u.symbol symbol in
    ap (λ ts. total_by f (trades_of_position ts account symbol)) (completed_rows t s)
    ∙ ap (total_by f) (filter-filter (λ u. bytes_eq u.symbol symbol) (λ u. u.account == account) (map (trade_of_row t) (completed_trade_rows t)))
    ∙ total_mapped f p (trade_of_row t) (completed_trade_rows t)
    ∙ ap (total_by (λ r. signed_by_side (side_of_trade_type r.kind) r.qty)) (filter-filter (λ r. (r.account == account) && bytes_eq r.symbol symbol) is_completed_trade_row t.trades)

-- ---- what summaries tell, where they climb

abbrev is_at : ℕ → Text → SummaryRow → Bool
is_at account symbol h = (h.account == account) && bytes_eq h.symbol symbol

same_place : (account : ℕ) (symbol : Text) (h : SummaryRow) → is_at account symbol h ≡ true → (h.account ≡ account) × (h.symbol ≡ symbol)
same_place account symbol h e =
    let k = and_parts (h.account == account) (bytes_eq h.symbol symbol) e in (eqb-true h.account account k.0, (bytes_eq-Decides h.symbol symbol).0 k.1)

at_itself : (h : SummaryRow) → is_at h.account h.symbol h ≡ true
at_itself h = let a : (h.account == h.account) ≡ true = eq-eqb h.account h.account refl in
    ap (λ b. b && bytes_eq h.symbol h.symbol) a ∙ (bytes_eq-Decides h.symbol h.symbol).1 refl

same_summary_key : (a b : ℕ) (s u : Text) → a ≡ b → s ≡ u → number a ∷ word s ∷ [] ≡ number b ∷ word u ∷ []
same_summary_key a b s u e f = λ i. number (e i) ∷ word (f i) ∷ []

-- rows ahead are elsewhere
elsewhere : (h x : SummaryRow) → is_key_less (summary_key h) (summary_key x) ≡ true → is_at h.account h.symbol x ≡ false
elsewhere h x b = by_test (is_at h.account h.symbol x) refl
  where
    by_test : (c : Bool) → is_at h.account h.symbol x ≡ c → is_at h.account h.symbol x ≡ false
    by_test false e = e
    by_test true e = let k = same_place h.account h.symbol x e in
        absurd (not_itself (summary_key h) (summary_key x) (same_summary_key h.account x.account h.symbol x.symbol (sym k.0) (sym k.1)) b)

elsewhere_too : (h x : SummaryRow) → is_key_less (summary_key x) (summary_key h) ≡ true → is_at h.account h.symbol x ≡ false
elsewhere_too h x b = by_test (is_at h.account h.symbol x) refl
  where
    by_test : (c : Bool) → is_at h.account h.symbol x ≡ c → is_at h.account h.symbol x ≡ false
    by_test false e = e
    by_test true e = let k = same_place h.account h.symbol x e in
        absurd (not_itself (summary_key x) (summary_key h) (same_summary_key x.account h.account x.symbol h.symbol k.0 k.1) b)

-- of a row's own position they tell what it tells
told_itself : (rows : List SummaryRow) (h : SummaryRow) → Climbs summary_key rows → In h rows → share_sum_of_summaries rows h.account h.symbol ≡ h.qty
unfolding total_by
told_itself [] h c m = absurd m
told_itself (x ∷ rows) h c (inl e) =
    let none : filter (is_at h.account h.symbol) rows ≡ [] = filter-none (is_at h.account h.symbol) rows
    (All-map rows (λ y b. elsewhere h y (ap (λ z. is_key_less (summary_key z) (summary_key y)) e ∙ b)) c.0) in
    ap (λ b. total_by (λ z. z.qty) (cond b (x ∷ filter (is_at h.account h.symbol) rows) (filter (is_at h.account h.symbol) rows))) (ap (is_at h.account h.symbol) (sym e) ∙ at_itself h)
    ∙ ap (λ zs. x.qty +ℤ total_by (λ z. z.qty) zs) none ∙ +ℤ_idr x.qty ∙ ap (λ z. z.qty) (sym e)
told_itself (x ∷ rows) h c (inr m) =
    ap (λ b. total_by (λ z. z.qty) (cond b (x ∷ filter (is_at h.account h.symbol) rows) (filter (is_at h.account h.symbol) rows)))
    (elsewhere_too h x (of_all (λ y. is_key_less (summary_key x) (summary_key y) ≡ true) rows h c.0 m))
    ∙ told_itself rows h c.1 m

-- where they tell of shares at a position, a row is there
told_is_there : (rows : List SummaryRow) (account : ℕ) (symbol : Text) → is_zero (share_sum_of_summaries rows account symbol) ≡ false → is_some (find (is_at account symbol) rows) ≡ true
unfolding total_by
told_is_there rows account symbol e = by_test (is_some (find (is_at account symbol) rows)) refl
  where
    by_test : (b : Bool) → is_some (find (is_at account symbol) rows) ≡ b → is_some (find (is_at account symbol) rows) ≡ true
    by_test true f = f
    by_test false f =
        let n : filter (is_at account symbol) rows ≡ [] = filter-none (is_at account symbol) rows (find-none (is_at account symbol) rows f) in
        let z : is_zero (share_sum_of_summaries rows account symbol) ≡ true = ap (λ zs. is_zero (total_by (λ h. h.qty) zs)) n in
        absurd (cc)

same_row : (h y : SummaryRow) → y.account ≡ h.account → y.symbol ≡ h.symbol → y.qty ≡ h.qty → h ≡ y
same_row h y a s q = λ i. record { account = sym a i; symbol = sym s i; qty = sym q i }

-- two lists that climb and tell the same, of some shares each, have the same rows
told_alike : (xs ys : List SummaryRow) (h : SummaryRow) → Climbs summary_key xs → Climbs summary_key ys → HasNonzeroQuantity h → In h xs
    → share_sum_of_summaries xs h.account h.symbol ≡ share_sum_of_summaries ys h.account h.symbol → In h ys
told_alike xs ys h c d n m e =
    let q : share_sum_of_summaries ys h.account h.symbol ≡ h.qty = sym e ∙ told_itself xs h c m in
    let f : FoundIn SummaryRow (is_at h.account h.symbol) ys = found_in (is_at h.account h.symbol) ys (told_is_there ys h.account h.symbol (ap is_zero q ∙ n)) in
    let k = same_place h.account h.symbol f.item f.passes in
    let w : f.item.qty ≡ h.qty = sym (told_itself ys f.item d f.there) ∙ (λ i. share_sum_of_summaries ys (k.0 i) (k.1 i)) ∙ q in
    subst (λ z. In z ys) (sym (same_row h f.item k.0 k.1 w)) f.there

-- ---- the rows that are expected

lower : (m n : ℕ) → is_key_less (number m ∷ []) (number n ∷ []) ≡ true → nat_lt m n ≡ true
lower m n h = grind (arith, nat_tests)

not_lower : (m : ℕ) → nat_lt m m ≡ false
not_lower m = grind (arith, nat_tests)

before_account : (m n : ℕ) (s u : Text) → is_key_less (number m ∷ []) (number n ∷ []) ≡ true → is_key_less (number m ∷ word s ∷ []) (number n ∷ word u ∷ []) ≡ true
before_account m n s u h = ap (λ b. b || (not (nat_lt n m) && is_key_less (word s ∷ []) (word u ∷ []))) (lower m n h)

before_symbol : (m : ℕ) (s u : Text) → is_key_less (word s ∷ []) (word u ∷ []) ≡ true → is_key_less (number m ∷ word s ∷ []) (number m ∷ word u ∷ []) ≡ true
before_symbol m s u h = ap (λ b. b || (not b && is_key_less (word s ∷ []) (word u ∷ []))) (not_lower m) ∙ h

one_climbs : (done : List Trade) (account : ℕ) (symbol : Text) → Climbs summary_key (summary_rows done account symbol)
one_climbs done account symbol =
    climbs_filter summary_key (λ row. not (is_zero row.qty))
    (record { account = account; symbol = symbol; qty = holding_summary_quantity done account symbol } ∷ []) (tt, tt)

block_climbs : (done : List Trade) (account : ℕ) (ss : List Security) → Climbs security_symbol_key ss → Climbs summary_key (summaries_in done ss account)
block_climbs done account [] c = tt
block_climbs done account (s ∷ ss) c =
    climbs_append summary_key (summary_rows done account s.symbol) (summaries_in done ss account) (one_climbs done account s.symbol) (block_climbs done account ss c.1)
    (All-rows (λ x. AllByRecursion (λ y. is_key_less (summary_key x) (summary_key y) ≡ true) (summaries_in done ss account)) done account s.symbol
    (All-flat_map (λ y. is_key_less (number account ∷ word s.symbol ∷ []) (summary_key y) ≡ true) (λ u. summary_rows done account u.symbol) ss
    (All-map ss (λ u b. All-rows (λ y. is_key_less (number account ∷ word s.symbol ∷ []) (summary_key y) ≡ true) done account u.symbol
    (before_symbol account s.symbol u.symbol b)) c.0)))

all_climb : (done : List Trade) (ss : List Security) (accounts : List Account) → Climbs security_symbol_key ss → Climbs account_id_key accounts
    → Climbs summary_key (flat_map (λ a. summaries_in done ss a.id) accounts)
all_climb done ss [] c d = tt
all_climb done ss (a ∷ accounts) c d =
    climbs_append summary_key (summaries_in done ss a.id) (flat_map (λ b. summaries_in done ss b.id) accounts) (block_climbs done a.id ss c) (all_climb done ss accounts c d.1)
    (All-block (λ x. AllByRecursion (λ y. is_key_less (summary_key x) (summary_key y) ≡ true) (flat_map (λ b. summaries_in done ss b.id) accounts)) done a.id ss
    (λ symbol. All-flat_map (λ y. is_key_less (number a.id ∷ word symbol ∷ []) (summary_key y) ≡ true) (λ b. summaries_in done ss b.id) accounts
    (All-map accounts (λ b h. All-block (λ y. is_key_less (number a.id ∷ word symbol ∷ []) (summary_key y) ≡ true) done b.id ss
    (λ other. before_account a.id b.id symbol other h)) d.0)))

abbrev wanted : Tables → List SummaryRow
wanted t = all_summaries (base_of_tables t) (done_of t)

wanted_climbs : (t : Tables) → KeyParts t → Climbs summary_key (wanted t)
unfolding base_of_tables
wanted_climbs t k =
    all_climb (done_of t) (map (security_of_row t) t.securities) (map account_of_row t.accounts)
    (climbs_map security_key security_symbol_key (security_of_row t) t.securities (λ s i. word (symbol_of t s i) ∷ []) k.securities)
    (climbs_map account_key account_id_key account_of_row t.accounts (λ a. refl) k.accounts)

wanted_is : (schema : Schema) (t : Tables) → KeyParts t → (expected_tables schema t).summaries ≡ wanted t
unfolding tables_sorted_by_key tables_of_base_in_schema
wanted_is schema t k = stays summary_key (wanted t) (wanted_climbs t k)

one_tells : (done : List Trade) (account : ℕ) (symbol : Text) → AllByRecursion HasNonzeroQuantity (summary_rows done account symbol)
one_tells done account symbol = by_test (is_zero (holding_summary_quantity done account symbol)) refl
  where
    row : SummaryRow
    row = record { account = account; symbol = symbol; qty = holding_summary_quantity done account symbol }

    by_test : (b : Bool) → is_zero (holding_summary_quantity done account symbol) ≡ b → AllByRecursion HasNonzeroQuantity (cond (not b) (row ∷ []) [])
    by_test true e = tt
    by_test false e = (e, tt)

wanted_tells : (t : Tables) → AllByRecursion HasNonzeroQuantity (wanted t)
wanted_tells t =
    All-flat_map HasNonzeroQuantity (λ a. summaries_in (done_of t) (base_of_tables t).securities a.id) (base_of_tables t).accounts
    (All-of (base_of_tables t).accounts (λ a. All-flat_map HasNonzeroQuantity (λ s. summary_rows (done_of t) a.id s.symbol) (base_of_tables t).securities
    (All-of (base_of_tables t).securities (λ s. one_tells (done_of t) a.id s.symbol))))

zero_is : (z : ℤ) → is_zero z ≡ true → pos 0 ≡ z
zero_is (pos zero) e = refl
zero_is (pos (suc n)) e = absurd (cc)
zero_is (negsuc n) e = absurd (cc)

one_told : (done : List Trade) (account : ℕ) (symbol : Text) → total_by (λ h. h.qty) (summary_rows done account symbol) ≡ holding_summary_quantity done account symbol
unfolding total_by
one_told done account symbol = by_test (is_zero (holding_summary_quantity done account symbol)) refl
  where
    row : SummaryRow
    row = record { account = account; symbol = symbol; qty = holding_summary_quantity done account symbol }

    by_test : (b : Bool) → is_zero (holding_summary_quantity done account symbol) ≡ b → total_by (λ h. h.qty) (cond (not b) (row ∷ []) []) ≡ holding_summary_quantity done account symbol
    by_test true e = zero_is (holding_summary_quantity done account symbol) e
    by_test false e = +ℤ_idr (holding_summary_quantity done account symbol)

-- ---- known accounts and symbols

abbrev IsKnown : Tables → SummaryRow → Type 0
IsKnown t h = (has_account t h.account ≡ true) × (has_security t h.symbol ≡ true)

accounts_known : (t : Tables) → AllByRecursion (λ a. has_account t a.id ≡ true) (base_of_tables t).accounts
unfolding base_of_tables
accounts_known t = All-mapped (λ a. has_account t a.id ≡ true) account_of_row t.accounts (find-each (λ a x. x.id == a.id) t.accounts (λ a. eq-eqb a.id a.id refl))

securities_known : (t : Tables) → AllByRecursion (λ s. has_security t s.symbol ≡ true) (base_of_tables t).securities
unfolding base_of_tables
securities_known t =
    All-mapped (λ s. has_security t s.symbol ≡ true) (security_of_row t) t.securities
    (All-map t.securities (λ s h. ap (has_security t) (symbol_of t s) ∙ h) (find-each (λ s x. bytes_eq x.symbol s.symbol) t.securities (λ s. (bytes_eq-Decides s.symbol s.symbol).1 refl)))

wanted_known : (t : Tables) → AllByRecursion (IsKnown t) (wanted t)
wanted_known t =
    All-flat_map (IsKnown t) (λ a. summaries_in (done_of t) (base_of_tables t).securities a.id) (base_of_tables t).accounts
    (All-map (base_of_tables t).accounts (λ a h. All-flat_map (IsKnown t) (λ s. summary_rows (done_of t) a.id s.symbol) (base_of_tables t).securities
    (All-map (base_of_tables t).securities (λ s k. All-rows (IsKnown t) (done_of t) a.id s.symbol (h, k)) (securities_known t))) (accounts_known t))

summary_known : (schema : Schema) (t : Tables) (h : SummaryRow) → is_well_formed_summary_row schema t h ≡ true → IsKnown t h
summary_known schema t h e = let p = parts3 (has_account t h.account) (has_security t h.symbol) (nat_le (nat_abs h.qty) schema.greatest_summary_quantity) e in (p.0, p.1)

account_there : (t : Tables) (id : ℕ) → has_account t id ≡ true → (a : Account) × (account_with_id (base_of_tables t) id ≡ Some a)
unfolding base_of_tables
account_there t id e =
    let f : FoundIn AccountRow (λ a. a.id == id) t.accounts = found_in (λ a. a.id == id) t.accounts e in
    (account_of_row f.item, find-map (λ a. a.id == id) account_of_row t.accounts ∙ ap (option_map account_of_row) f.is)

security_there : (t : Tables) (symbol : Text) → has_security t symbol ≡ true → (s : Security) × (security_with_symbol (base_of_tables t) symbol ≡ Some s)
unfolding base_of_tables
security_there t symbol e =
    let f : FoundIn SecurityRow (λ s. bytes_eq s.symbol symbol) t.securities = found_in (λ s. bytes_eq s.symbol symbol) t.securities e in (
      security_of_row t f.item,
      find-map (λ s. bytes_eq s.symbol symbol) (security_of_row t) t.securities
          ∙ ap (λ p. option_map (security_of_row t) (find p t.securities)) (λ i s. bytes_eq (symbol_of t s i) symbol)
          ∙ ap (option_map (security_of_row t)) f.is,
    )

wanted_told : (t : Tables) → BooksInvariant (base_of_tables t) → satisfies_status_condition t ≡ true → (account : ℕ) (symbol : Text) → has_account t account ≡ true → has_security t symbol ≡ true
    → share_sum_of_summaries (wanted t) account symbol ≡ share_sum_of_completed_trades t account symbol
wanted_told t books s account symbol e f =
    let a = account_there t account e in
    let u = security_there t symbol f in
    ap (total_by (λ h. h.qty)) (own_summary (base_of_tables t) (done_of t) account symbol a.0 u.0 books a.1 u.1)
    ∙ one_told (done_of t) account symbol ∙ position_sum t account symbol s

-- ---- the condition

both_all : {X : Type 0} (P Q : X → Type 0) (xs : List X) → AllByRecursion P xs → AllByRecursion Q xs → AllByRecursion (λ x. P x × Q x) xs
both_all P Q [] g h = tt
both_all P Q (x ∷ xs) g h = ((g.0, h.0), both_all P Q xs g.1 h.1)

each_alike : (t : Tables) (xs ys : List SummaryRow) → Climbs summary_key xs → Climbs summary_key ys → AllByRecursion HasNonzeroQuantity xs → AllByRecursion (IsKnown t) xs
    → ((account : ℕ) (symbol : Text) → has_account t account ≡ true → has_security t symbol ≡ true → share_sum_of_summaries xs account symbol ≡ share_sum_of_summaries ys account symbol)
    → AllByRecursion (λ h. In h ys) xs
each_alike t xs ys c d n k e =
    All-map xs (λ h m. told_alike xs ys h c d m.1.0 m.0 (e h.account h.symbol m.1.1.0 m.1.1.1))
    (both_all (λ h. In h xs) (λ h. HasNonzeroQuantity h × IsKnown t h) xs (each_in xs) (both_all HasNonzeroQuantity (IsKnown t) xs n k))

pub summaries_by_rows : (schema : Schema) (t : Tables) → IsWellFormedBySomeSchema t → satisfies_status_condition t ≡ true
    → (ConditionHolds schema condition.Summary t → SummariesMatchTrades t) × (SummariesMatchTrades t → ConditionHolds schema condition.Summary t)
unfolding ConditionHolds
summaries_by_rows schema t f s =
    let p : SatisfiesFormParts f.schema t = form_parts f.schema t f.form in
    let k : KeyParts t = key_parts t p.keys in
    let told = wanted_told t (adopted_books f.schema t f.form s) s in
    let known : AllByRecursion (IsKnown t) t.summaries = All-map t.summaries (summary_known f.schema t) (list_all_true (is_well_formed_summary_row f.schema t) t.summaries p.summaries) in
    let e : (expected_tables schema t).summaries ≡ wanted t = wanted_is schema t k in (
      (λ h. let g : wanted t ≡ t.summaries = sym (h ∙ e) in record {
        sums = λ account symbol i j. sym (told account symbol i j) ∙ ap (λ rows. share_sum_of_summaries rows account symbol) g;
        nonzero = subst (AllByRecursion HasNonzeroQuantity) g (wanted_tells t);
      }),
      (λ w. same_rows summary_key t.summaries (wanted t) k.summaries (wanted_climbs t k)
          (each_alike t t.summaries (wanted t) k.summaries (wanted_climbs t k) w.nonzero known (λ account symbol i j. sym (w.sums account symbol i j) ∙ sym (told account symbol i j)))
          (each_alike t (wanted t) t.summaries (wanted_climbs t k) k.summaries (wanted_tells t) (wanted_known t) (λ account symbol i j. told account symbol i j ∙ w.sums account symbol i j)) ∙ sym e),
    )
