-- Rows that pass the audit are the tables of the base that they describe.
use Rattle.std.proofs.Common.{◌≡◌, ℕ, true, List, [], ◌∷◌, ◌++◌, refl, sym, ◌∙◌, ap, subst, map, ℤ, Option, Some, None, inl, inr}
use Rattle.std.specs.Prelude.{◌&&◌, nat_le, find, bytes_eq}
use Rattle.std.specs.List.{AllByRecursion, list_any, list_all}
use Rattle.std.specs.Option.{option_map_or}
use Rattle.std.proofs.lemmas.Bool.{and_parts}
use Rattle.std.proofs.lemmas.Slice.Eq.{bytes_eq-Decides}
use Rattle.brk_money.specs.declared.fault.Condition.TheVariants as condition
use Rattle.brk_money.specs.declared.status.Status.TheVariants.{Canceled}
use Rattle.brk_model.specs.Limits.{greatest_amount}
use Rattle.brk_model.specs.Lists.{all_distinct}
use Rattle.brk_model.specs.Records.{Account, Broker, Trade}
use Rattle.brk_model.specs.Base.{completed_trades}
use Rattle.brk_model.specs.Schemas.{Schema}
use Rattle.brk_model.specs.Derived.{Posting, postings_of_base}
use Rattle.brk_model.specs.Tables.{Tables, AccountRow, BrokerRow, SecurityRow, LastTradeRow, TradeRow, account_row, broker_row, last_trade_row, security_row, tables_of_base_in_schema, trade_row}
use Rattle.brk_model.specs.Sheets.{tables_sorted_by_key}
use Rattle.brk_model.specs.Keys.{word, rows_sorted_by_key, account_key, broker_key, last_trade_key, security_key, trade_key, kept_key, customer_key}
use Rattle.brk_model.specs.Keys.{permission_key, charge_key, band_key, tax_rate_key, customer_tax_key}
use Rattle.brk_model.specs.Forms.{is_exchange, is_name, is_symbol}
use Rattle.brk_model.specs.Adopted.{account_of_row, base_of_tables, zero_last_trade_row, security_of_row, security_of_rows, trade_of_row}
use Rattle.brk_model.specs.Form.{satisfies_form_condition, has_security, is_well_formed_history_row, is_price, is_at_most_last_stamp, is_well_formed_last_trade_row, is_well_formed_security_row}
use Rattle.brk_model.specs.Ways.{completion_stamps, satisfies_status_condition, movement_stamps, has_valid_status_history}
use Rattle.brk_model.specs.Audit.{ConditionHolds, expected_tables}
use Rattle.brk_trade_books.proofs.Same.{All-map, All-of}
use Rattle.brk_trade_books.proofs.Reading.{some-is-any}
use Rattle.brk_audit_theorems.proofs.Climbs.{Climbs, In, climbs_map, each_in, list_all_true, same_rows, stays}
use Rattle.brk_audit_theorems.proofs.Members.{FoundIn, found_in, in_map, map-map, map_back, one_of_key}
use Rattle.brk_audit_theorems.proofs.Marks.{Lasts, lasts, same_statuses}
use Rattle.brk_audit_theorems.proofs.Parts.{KeyParts, key_parts}
use Rattle.brk_model_theorems.specs.FormParts.{SatisfiesFormParts}
use Rattle.brk_model_theorems.proofs.FormParts.{form_parts}
use Rattle.brk_model_theorems.proofs.Conjunctions.{parts5}
use Rattle.brk_audit_theorems.proofs.AdoptedBooks.{symbol_of}
use Rattle.brk_audit_theorems.proofs.AdoptedHistory.{adopted_history}

-- ---- brokers and accounts: what is recorded of them, with their sums

brokers_same : (n : BrokerRow → ℤ) (c : BrokerRow → ℕ) (bs : List BrokerRow) → map (λ b. b.trades) bs ≡ map n bs → map (λ b. b.commissions) bs ≡ map c bs
    → map (λ b. record { id = b.id; name = b.name; trades = n b; commissions = c b }) bs ≡ bs
brokers_same n c [] e f = refl
brokers_same n c (b ∷ bs) e f =
    let g : b.trades ≡ n b = cc in
    let h : b.commissions ≡ c b = cc in
    let ns : map (λ b. b.trades) bs ≡ map n bs = cc in
    let cs : map (λ b. b.commissions) bs ≡ map c bs = cc in
    let ih = brokers_same n c bs ns cs in
    λ i. record { id = b.id; name = b.name; trades = sym g i; commissions = sym h i } ∷ ih i

broker_of_row : BrokerRow → Broker
broker_of_row b = record { id = b.id; name = b.name }

pub brokers_there : (accounts : List Account) (done : List Trade) (bs : List BrokerRow) → Climbs broker_key bs
    → rows_sorted_by_key broker_key (map (broker_row accounts done) (map (λ b. record { id = b.id; name = b.name }) bs)) ≡ map (λ b. broker_row accounts done (record { id = b.id; name = b.name })) bs
brokers_there accounts done bs c =
    ap (rows_sorted_by_key broker_key) (map-map (broker_row accounts done) (λ b. record { id = b.id; name = b.name }) bs)
    ∙ stays broker_key (map (λ b. broker_row accounts done (record { id = b.id; name = b.name })) bs)
    (climbs_map broker_key broker_key (λ b. broker_row accounts done (record { id = b.id; name = b.name })) bs (λ b. refl) c)

adopted_brokers : (schema : Schema) (t : Tables) → Climbs broker_key t.brokers → ConditionHolds schema condition.Count t
    → ConditionHolds schema condition.Commission t → (expected_tables schema t).brokers ≡ t.brokers
unfolding ConditionHolds base_of_tables tables_sorted_by_key tables_of_base_in_schema
adopted_brokers schema t c e f =
    let accounts : List Account = (base_of_tables t).accounts in
    let done : List Trade = completed_trades (base_of_tables t) in
    let there = brokers_there accounts done t.brokers c in
    there ∙ brokers_same (λ b. (broker_row accounts done (record { id = b.id; name = b.name })).trades) (λ b. (broker_row accounts done (record { id = b.id; name = b.name })).commissions) t.brokers
    (e ∙ ap (map (λ b. b.trades)) there ∙ map-map (λ b. b.trades) (λ b. broker_row accounts done (record { id = b.id; name = b.name })) t.brokers)
    (f ∙ ap (map (λ b. b.commissions)) there ∙ map-map (λ b. b.commissions) (λ b. broker_row accounts done (record { id = b.id; name = b.name })) t.brokers)

with_balance : (AccountRow → ℤ) → AccountRow → AccountRow
with_balance n a = record a { balance = n a }

accounts_same : (n : AccountRow → ℤ) (rows : List AccountRow) → map (λ a. a.balance) rows ≡ map n rows → map (with_balance n) rows ≡ rows
unfolding with_balance
accounts_same n [] e = refl
accounts_same n (a ∷ rows) e =
    let g : a.balance ≡ n a = cc in
    let ns : map (λ a. a.balance) rows ≡ map n rows = cc in
    let ih = accounts_same n rows ns in
    λ i. record a { balance = sym g i } ∷ ih i

accounts_there : (accounts : List Account) (posted : List Posting) (rows : List AccountRow) → Climbs account_key rows
    → rows_sorted_by_key account_key (map (account_row accounts posted) (map account_of_row rows)) ≡ map (λ a. account_row accounts posted (account_of_row a)) rows
accounts_there accounts posted rows c =
    ap (rows_sorted_by_key account_key) (map-map (account_row accounts posted) account_of_row rows)
    ∙ stays account_key (map (λ a. account_row accounts posted (account_of_row a)) rows)
    (climbs_map account_key account_key (λ a. account_row accounts posted (account_of_row a)) rows (λ a. refl) c)

adopted_accounts : (schema : Schema) (t : Tables) → Climbs account_key t.accounts → ConditionHolds schema condition.Balance t → (expected_tables schema t).accounts ≡ t.accounts
unfolding ConditionHolds base_of_tables tables_sorted_by_key tables_of_base_in_schema with_balance
adopted_accounts schema t c e =
    let accounts : List Account = (base_of_tables t).accounts in
    let posted : List Posting = postings_of_base (base_of_tables t) in
    let there = accounts_there accounts posted t.accounts c in
    there ∙ accounts_same (λ a. (account_row accounts posted (account_of_row a)).balance) t.accounts
    (e ∙ ap (map (λ a. a.balance)) there ∙ map-map (λ a. a.balance) (λ a. account_row accounts posted (account_of_row a)) t.accounts)

-- ---- securities and last trades

security_back : (t : Tables) (s : SecurityRow) → security_row (security_of_row t s) ≡ s
security_back t s = by_found (find (λ l. bytes_eq l.symbol s.symbol) t.last_trades)
  where
    by_found : (o : Option LastTradeRow) → security_row (option_map_or (security_of_rows s) o (security_of_rows s (zero_last_trade_row s.symbol))) ≡ s
    by_found None = refl
    by_found (Some l) = refl

adopted_securities : (schema : Schema) (t : Tables) → Climbs security_key t.securities → (expected_tables schema t).securities ≡ t.securities
unfolding base_of_tables tables_sorted_by_key tables_of_base_in_schema
adopted_securities schema t c =
    ap (rows_sorted_by_key security_key)
    (map-map security_row (security_of_row t) t.securities
    ∙ map_back (λ s. security_row (security_of_row t s)) t.securities (All-of t.securities (security_back t)))
    ∙ stays security_key t.securities c

-- the last trade of a security, as it was joined
abbrev last_of : Tables → SecurityRow → LastTradeRow
last_of t s = last_trade_row (security_of_row t s)

last_found : (t : Tables) (s : SecurityRow) (l : LastTradeRow) → find (λ l. bytes_eq l.symbol s.symbol) t.last_trades ≡ Some l → l.symbol ≡ s.symbol → last_of t s ≡ l
last_found t s l e f =
    ap (λ o. last_trade_row (option_map_or (security_of_rows s) o (security_of_rows s (zero_last_trade_row s.symbol)))) e
    ∙ (λ i. record l { symbol = sym f i })

has_last : (t : Tables) (s : SecurityRow) → is_well_formed_security_row t s ≡ true → FoundIn LastTradeRow (λ l. bytes_eq l.symbol s.symbol) t.last_trades
has_last t s e =
    let k = parts5 (is_symbol s.symbol) (is_name s.name) (is_exchange s.exchange) (is_name s.sector) (list_any (λ l. bytes_eq l.symbol s.symbol) t.last_trades) e in
    found_in (λ l. bytes_eq l.symbol s.symbol) t.last_trades (some-is-any (λ l. bytes_eq l.symbol s.symbol) t.last_trades ∙ k.4)

joins : (t : Tables) (s : SecurityRow) (f : FoundIn LastTradeRow (λ l. bytes_eq l.symbol s.symbol) t.last_trades) → last_of t s ≡ f.item
joins t s f = last_found t s f.item f.is ((bytes_eq-Decides f.item.symbol s.symbol).0 f.passes)

last_there : (t : Tables) (s : SecurityRow) → is_well_formed_security_row t s ≡ true → In (last_of t s) t.last_trades
last_there t s e =
    let f : FoundIn LastTradeRow (λ l. bytes_eq l.symbol s.symbol) t.last_trades = has_last t s e in
    subst (λ l. In l t.last_trades) (sym (joins t s f)) f.there

listed : (t : Tables) (l : LastTradeRow) → is_well_formed_last_trade_row t l ≡ true → has_security t l.symbol ≡ true
listed t l e =
    let p = and_parts (has_security t l.symbol && is_at_most_last_stamp t l.stamp && is_price l.price) (nat_le l.volume greatest_amount) e in
    let q = and_parts (has_security t l.symbol && is_at_most_last_stamp t l.stamp) (is_price l.price) p.0 in
    (and_parts (has_security t l.symbol) (is_at_most_last_stamp t l.stamp) q.0).0

in_all : {X : Type 0} (P : X → Type 0) (xs : List X) (x : X) → AllByRecursion P xs → In x xs → P x
in_all P [] x h m = absurd m
in_all P (y ∷ ys) x h (inl e) = subst P (sym e) h.0
in_all P (y ∷ ys) x h (inr m) = in_all P ys x h.1 m

security_there : (t : Tables) (l : LastTradeRow) → Climbs last_trade_key t.last_trades → AllByRecursion (λ s. is_well_formed_security_row t s ≡ true) t.securities
    → In l t.last_trades → is_well_formed_last_trade_row t l ≡ true → In l (map (last_of t) t.securities)
security_there t l c h m e =
    let g : FoundIn SecurityRow (λ s. bytes_eq s.symbol l.symbol) t.securities = found_in (λ s. bytes_eq s.symbol l.symbol) t.securities (listed t l e) in
    let s : SecurityRow = g.item in
    let k : s.symbol ≡ l.symbol = (bytes_eq-Decides s.symbol l.symbol).0 g.passes in
    let f : FoundIn LastTradeRow (λ l. bytes_eq l.symbol s.symbol) t.last_trades = has_last t s (in_all (λ s. is_well_formed_security_row t s ≡ true) t.securities s h g.there) in
    let j : f.item.symbol ≡ s.symbol = (bytes_eq-Decides f.item.symbol s.symbol).0 f.passes in
    let same : f.item ≡ l = one_of_key last_trade_key t.last_trades f.item l c f.there m (λ i. word ((j ∙ k) i) ∷ []) in
    subst (λ x. In x (map (last_of t) t.securities)) (joins t s f ∙ same) (in_map (last_of t) t.securities s g.there)

both_all : {X : Type 0} (P Q : X → Type 0) (xs : List X) → AllByRecursion P xs → AllByRecursion Q xs → AllByRecursion (λ x. P x × Q x) xs
both_all P Q [] g h = tt
both_all P Q (x ∷ xs) g h = ((g.0, h.0), both_all P Q xs g.1 h.1)

all_mapped : {X Y : Type 0} (P : Y → Type 0) (f : X → Y) (xs : List X) → AllByRecursion (λ x. P (f x)) xs → AllByRecursion P (map f xs)
all_mapped P f [] h = tt
all_mapped P f (x ∷ xs) h = (h.0, all_mapped P f xs h.1)

adopted_last_trades : (schema : Schema) (t : Tables) → Climbs security_key t.securities → Climbs last_trade_key t.last_trades
    → AllByRecursion (λ s. is_well_formed_security_row t s ≡ true) t.securities → AllByRecursion (λ l. is_well_formed_last_trade_row t l ≡ true) t.last_trades
    → (expected_tables schema t).last_trades ≡ t.last_trades
unfolding base_of_tables tables_sorted_by_key tables_of_base_in_schema
adopted_last_trades schema t c d g h =
    let climb : Climbs last_trade_key (map (last_of t) t.securities) = climbs_map security_key last_trade_key (last_of t) t.securities (λ s i. word (symbol_of t s i) ∷ []) c in
    ap (rows_sorted_by_key last_trade_key) (map-map last_trade_row (security_of_row t) t.securities) ∙ stays last_trade_key (map (last_of t) t.securities) climb
    ∙ same_rows last_trade_key (map (last_of t) t.securities) t.last_trades climb d
    (all_mapped (λ l. In l t.last_trades) (last_of t) t.securities (All-map t.securities (last_there t) g))
    (All-map t.last_trades (λ l k. security_there t l d g k.0 k.1) (both_all (λ l. In l t.last_trades) (λ l. is_well_formed_last_trade_row t l ≡ true) t.last_trades (each_in t.last_trades) h))

-- ---- trades

trade_back : (t : Tables) (r : TradeRow) → has_valid_status_history t r ≡ true → trade_row (trade_of_row t r) ≡ r
trade_back t r e =
    let l : Lasts t r = lasts t r e in
    (λ i. record r { stamp = option_map_or (λ m. m.stamp) (l.is i) 0; status = option_map_or (λ m. m.status) (l.is i) Canceled })
    ∙ (λ i. record r { stamp = sym l.stamp i; status = sym (same_statuses r.status l.mark.status l.status) i })

adopted_trades : (schema : Schema) (t : Tables) → Climbs trade_key t.trades → AllByRecursion (λ r. has_valid_status_history t r ≡ true) t.trades → (expected_tables schema t).trades ≡ t.trades
unfolding base_of_tables tables_sorted_by_key tables_of_base_in_schema
adopted_trades schema t c h =
    ap (rows_sorted_by_key trade_key) (map-map trade_row (trade_of_row t) t.trades ∙ map_back (λ r. trade_row (trade_of_row t r)) t.trades (All-map t.trades (trade_back t) h))
    ∙ stays trade_key t.trades c

-- ---- all tables

-- what the conditions after those of form and status say
pub record Derives (schema : Schema) (t : Tables) : Type 0 where
  pub requests : ConditionHolds schema condition.Requests t
  pub lots : ConditionHolds schema condition.Lots t
  pub history : ConditionHolds schema condition.History t
  pub summary : ConditionHolds schema condition.Summary t
  pub count : ConditionHolds schema condition.Count t
  pub commission : ConditionHolds schema condition.Commission t
  pub settlement : ConditionHolds schema condition.Settlement t
  pub cash : ConditionHolds schema condition.Cash t
  pub balance : ConditionHolds schema condition.Balance t

histories : (schema : Schema) (t : Tables) → KeyParts t → AllByRecursion (λ h. is_well_formed_history_row t h ≡ true) t.history → (expected_tables schema t).history ≡ t.history
unfolding base_of_tables tables_sorted_by_key tables_of_base_in_schema
histories schema t k h = adopted_history t k.history k.trades h

references : (schema : Schema) (t : Tables) → KeyParts t → ((expected_tables schema t).kept ≡ t.kept) × ((expected_tables schema t).customers ≡ t.customers)
    × ((expected_tables schema t).permissions ≡ t.permissions)
    × ((expected_tables schema t).charges ≡ t.charges) × ((expected_tables schema t).bands ≡ t.bands) × ((expected_tables schema t).tax_rates ≡ t.tax_rates)
    × ((expected_tables schema t).customer_taxes ≡ t.customer_taxes)
unfolding base_of_tables tables_sorted_by_key tables_of_base_in_schema
references schema t k = (
  stays kept_key t.kept k.kept,
  stays customer_key t.customers k.customers,
  stays permission_key t.permissions k.permissions,
  stays charge_key t.charges k.charges,
  stays band_key t.bands k.bands,
  stays tax_rate_key t.tax_rates k.tax_rates,
  stays customer_tax_key t.customer_taxes k.customer_taxes,
)

same_last : (schema : Schema) (t : Tables) → (expected_tables schema t).last ≡ t.last
unfolding base_of_tables tables_sorted_by_key tables_of_base_in_schema
same_last schema t = refl

same_rule : (schema : Schema) (t : Tables) → (expected_tables schema t).rule ≡ t.rule
unfolding base_of_tables tables_sorted_by_key tables_of_base_in_schema
same_rule schema t = refl

derived : (schema : Schema) (t : Tables) → Derives schema t → ((expected_tables schema t).requests ≡ t.requests)
    × ((expected_tables schema t).holdings ≡ t.holdings) × ((expected_tables schema t).summaries ≡ t.summaries)
    × ((expected_tables schema t).holding_history ≡ t.holding_history) × ((expected_tables schema t).settlements ≡ t.settlements)
    × ((expected_tables schema t).cash ≡ t.cash) × ((expected_tables schema t).moves ≡ t.moves)
unfolding ConditionHolds
derived schema t d = (sym d.requests, sym d.lots, sym d.summary, sym d.history, sym d.settlement, sym d.cash.0, sym d.cash.1)

pub adopted_tables : (schema : Schema) (t : Tables) → satisfies_form_condition schema t ≡ true → satisfies_status_condition t ≡ true → Derives schema t → expected_tables schema t ≡ t
unfolding satisfies_status_condition
adopted_tables schema t f s d =
    let p : SatisfiesFormParts schema t = form_parts schema t f in
    let k : KeyParts t = key_parts t p.keys in
    let ways : AllByRecursion (λ r. has_valid_status_history t r ≡ true) t.trades =
    list_all_true (has_valid_status_history t) t.trades (and_parts (list_all (has_valid_status_history t) t.trades) (all_distinct (completion_stamps t ++ movement_stamps t)) s).0 in
    let r = references schema t k in
    let v = derived schema t d in
    let last = same_last schema t in
    let rule = same_rule schema t in
    let brokers = adopted_brokers schema t k.brokers d.count d.commission in
    let accounts = adopted_accounts schema t k.accounts d.balance in
    let securities = adopted_securities schema t k.securities in
    let last_trades = adopted_last_trades schema t k.securities k.last_trades (list_all_true (is_well_formed_security_row t) t.securities p.securities)
    (list_all_true (is_well_formed_last_trade_row t) t.last_trades p.last_trades) in
    let trades = adopted_trades schema t k.trades ways in
    let history = histories schema t k (list_all_true (is_well_formed_history_row t) t.history p.history) in
    λ i. record {
      last = last i;
      kept = r.0 i;
      brokers = brokers i;
      customers = r.1 i;
      accounts = accounts i;
      permissions = r.2 i;
      securities = securities i;
      last_trades = last_trades i;
      charges = r.3 i;
      bands = r.4 i;
      tax_rates = r.5 i;
      customer_taxes = r.6 i;
      trades = trades i;
      history = history i;
      requests = v.0 i;
      holdings = v.1 i;
      summaries = v.2 i;
      holding_history = v.3 i;
      settlements = v.4 i;
      cash = v.5 i;
      moves = v.6 i;
      rule = rule i;
    }
