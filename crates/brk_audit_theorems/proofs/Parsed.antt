-- A row that is parsed yields a command in the audit's formats.
use Rattle.std.proofs.Common.{◌≡◌, ℕ, Bool, true, false, cond, List, [], ◌∷◌, refl, Option, Some, None, ℤ}
use Rattle.std.specs.Prelude.{◌&&◌, ⊤, IfSome, Ok, Err, IfOk, bytes_eq, find, length, nat_le}
use Rattle.std.specs.List.{AllByRecursion}
use Rattle.brk_money.specs.Spelling.{Text, cents_of_text, decimal_number_of_text, day_of_text, is_within_amount_limit}
use Rattle.brk_money.specs.OrderTypes.{price_of_order_type}
use Rattle.brk_money.specs.declared.order_type.OrderType.{OrderType}
use Rattle.brk_money.specs.declared.order_type.OrderType.TheVariants as asked
use Rattle.brk_money.specs.declared.refusal.Refusal.{Refusal}
use Rattle.brk_money.specs.declared.refusal.Refusal.TheVariants.{BadText, BadQty, BadPrice, BadType, TooMany}
use Rattle.brk_money.specs.declared.tax_status.TaxStatus.{TaxStatus}
use Rattle.brk_money.specs.declared.trade_type.TradeType.{TradeType}
use Rattle.brk_money.specs.declared.trade_type.TradeType.TheVariants.{MarketBuy, MarketSell, StopLoss, LimitSell, LimitBuy}
use Rattle.brk_money.specs.Moments.{greatest_day}
use Rattle.brk_model.specs.Schemas.{third_schema}
use Rattle.brk_model.specs.Limits.{greatest_charge, greatest_commission_rate, greatest_tax_rate}
use Rattle.brk_model.specs.Records.{Account, Band, Broker, Charge, Customer, Executor, Permission, TaxRate}
use Rattle.brk_model.specs.Commands.{Command, Listing, Order, Tick, AddBroker, AddCustomer, AddAccount, AddPermission, AddSecurity, AddCharge, AddBand}
use Rattle.brk_model.specs.Commands.{AddTaxRate, AddCustomerTax, PlaceOrder, FeedTicks, CancelTrade, CompleteTrade, ChangeExecutors, ChangeCashTypes}
use Rattle.brk_model.specs.Commands.{ChangeCashNames, DepositCash, WithdrawCash, SetOneDay}
use Rattle.brk_model.specs.Form.{is_well_formed_charge_row, is_well_formed_customer_row, is_id, is_price, is_quantity_in_schema, is_tier, is_well_formed_tax_rate_row, has_well_formed_permission_texts}
use Rattle.brk_model.specs.Forms.{ReadResult, ◌⊛◌, is_acl, is_exchange, is_name, is_symbol, is_tax_id, order_type_with_price, market_type_if_price_is_empty}
use Rattle.brk_model.specs.Forms.{refusal_of_unknown_type_by_price_text, read_priced_order_type, read_acl, read_cash_or_margin, read_charge_amount}
use Rattle.brk_model.specs.Forms.{read_commission_rate, read_lifo_or_fifo, read_exchange, read_id, value_if_valid, read_distinct_ids, read_name}
use Rattle.brk_model.specs.Forms.{read_number_in_range, read_opening_balance, read_order_type, read_price, read_quantity, read_tax_rate_number, read_stamp}
use Rattle.brk_model.specs.Forms.{read_symbol, read_tax_id, read_tax_status, read_valid_text, read_tier, read_trade_type, one_to_twenty_elements}
use Rattle.brk_model.specs.Forms.{check_read_value, trade_type_with_code, nonnegative_amount, read_movement_amount, read_day}
use Rattle.brk_model.specs.Parse.{NamedParser, bounds_if_ascending, parse_row, read_account, read_commission_band, read_quantity_bounds, read_broker}
use Rattle.brk_model.specs.Parse.{read_with_parser, read_id_of_trade_to_cancel, read_charge, read_customer, read_customer_tax, read_executor, read_feed}
use Rattle.brk_model.specs.Parse.{read_order, read_permission, read_complete_trade_command, read_listing, read_tax_rate, read_ticks, read_cash_type_update}
use Rattle.brk_model.specs.Parse.{read_cash_name_update, row_parsers, read_movement_command, read_one_day_settlement_start}
use Rattle.brk_trade_books.proofs.Same.{find-All}
use Rattle.brk_audit_theorems.specs.Sound.{is_well_formed_account, is_well_formed_broker}
use Rattle.brk_audit_theorems.specs.InForm.{MeetsAuditFormats, OrderMeetsAuditFormats, TickMeetsAuditFormats, is_well_formed_band, is_well_formed_listing, is_movement_amount_within_limits}
use Rattle.brk_model_theorems.proofs.Conjunctions.{and3, and4}
use Rattle.brk_model_theorems.proofs.Conjunctions.{and5}
use Rattle.std.proofs.lemmas.Bool.{and_from, and_parts}

-- ---- what holds of values that were read

on_any : {A : Type 0} (x : ReadResult A) → IfOk x (λ a. ⊤)
on_any (Ok a) = tt
on_any (Err r) = tt

-- of a function's value, where it holds for each argument that was read
on_apply : {A B : Type 0} (R : A → Type 0) (P : B → Type 0) (f : ReadResult (A → B)) (x : ReadResult A) → IfOk f (λ g. (a : A) → R a → P (g a)) → IfOk x R → IfOk (f ⊛ x) P
on_apply R P (Ok g) (Ok a) h k = h a k
on_apply R P (Ok g) (Err r) h k = tt
on_apply R P (Err r) (Ok a) h k = tt
on_apply R P (Err r) (Err s) h k = tt

on_then : {A B : Type 0} (R : A → Type 0) (P : B → Type 0) (check : A → ReadResult B) (x : ReadResult A) → IfOk x R → ((a : A) → R a → IfOk (check a) P) → IfOk (check_read_value check x) P
on_then R P check (Ok a) k h = h a k
on_then R P check (Err r) k h = tt

on_if : {A : Type 0} (test : A → Bool) (refusal : Refusal) (o : Option A) → IfOk (value_if_valid test refusal o) (λ a. test a ≡ true)
on_if test refusal None = tt
on_if {A = A} test refusal (Some a) = by_test (test a) refl
  where
    by_test : (b : Bool) → test a ≡ b → IfOk {T = A} {E = Refusal} (cond b (Ok a) (Err refusal)) (λ a. test a ≡ true)
    by_test true e = e
    by_test false e = tt

on_map : {A : Type 0} (P Q : A → Type 0) (x : ReadResult A) → ((a : A) → P a → Q a) → IfOk x P → IfOk x Q
on_map P Q (Ok a) f h = f a h
on_map P Q (Err r) f h = tt

on_up_to : (most : ℕ) (text : Text) → IfOk (read_number_in_range 0 most BadText text) (λ n. nat_le n most ≡ true)
on_up_to most text =
    on_map (λ n. nat_le 0 n && nat_le n most ≡ true) (λ n. nat_le n most ≡ true) (read_number_in_range 0 most BadText text) (λ n h. (and_parts (nat_le 0 n) (nat_le n most) h).1)
    (on_if (λ n. nat_le 0 n && nat_le n most) BadText (decimal_number_of_text text))

on_id : (text : Text) → IfOk (read_id text) (λ n. is_id n ≡ true)
on_id text = on_if (λ n. is_id n) BadText (decimal_number_of_text text)

on_tier : (text : Text) → IfOk (read_tier text) (λ n. is_tier n ≡ true)
on_tier text = on_if (λ n. is_tier n) BadText (decimal_number_of_text text)

on_qty : (text : Text) → IfOk (read_quantity text) (λ n. is_quantity_in_schema third_schema n ≡ true)
on_qty text = on_if (λ n. is_quantity_in_schema third_schema n) BadQty (decimal_number_of_text text)

on_price : (text : Text) → IfOk (read_price text) (λ n. is_price n ≡ true)
on_price text = on_if (λ n. is_price n) BadPrice (nonnegative_amount (cents_of_text text))

on_amount : (text : Text) → IfOk (read_movement_amount text) (λ n. is_movement_amount_within_limits n ≡ true)
on_amount text = on_if (λ n. is_movement_amount_within_limits n) BadText (nonnegative_amount (cents_of_text text))

on_day : (text : Text) → IfOk (read_day text) (λ n. nat_le n greatest_day ≡ true)
on_day text = on_if (λ n. nat_le n greatest_day) BadText (day_of_text text)

on_charge : (text : Text) → IfOk (read_charge_amount text) (λ n. nat_le n greatest_charge ≡ true)
on_charge text = on_if (λ n. nat_le n greatest_charge) BadText (nonnegative_amount (cents_of_text text))

on_opening : (text : Text) → IfOk (read_opening_balance text) (λ z. is_within_amount_limit z ≡ true)
on_opening text = on_if (λ z. is_within_amount_limit z) BadText (cents_of_text text)

on_rate : (text : Text) → IfOk (read_commission_rate text) (λ n. nat_le n greatest_commission_rate ≡ true)
on_rate text = on_up_to greatest_commission_rate text

on_tax : (text : Text) → IfOk (read_tax_rate_number text) (λ n. nat_le n greatest_tax_rate ≡ true)
on_tax text = on_up_to greatest_tax_rate text

on_text : (test : Text → Bool) (text : Text) → IfOk (read_valid_text test text) (λ t. test t ≡ true)
on_text test text = on_if test BadText (Some text)

on_bounds : (low high : Text) → IfOk (read_quantity_bounds low high) (λ b. (is_quantity_in_schema third_schema b.0 ≡ true) × (is_quantity_in_schema third_schema b.1 ≡ true))
on_bounds low high =
    let P : ℕ × ℕ → Type 0 = λ b. (is_quantity_in_schema third_schema b.0 ≡ true) × (is_quantity_in_schema third_schema b.1 ≡ true) in
    on_then P P bounds_if_ascending (Ok (λ a b. (a, b)) ⊛ read_quantity low ⊛ read_quantity high)
    (on_apply (λ n. is_quantity_in_schema third_schema n ≡ true) P (Ok (λ a b. (a, b)) ⊛ read_quantity low) (read_quantity high)
    (on_apply (λ n. is_quantity_in_schema third_schema n ≡ true) (λ g. (b : ℕ) → is_quantity_in_schema third_schema b ≡ true → P (g b)) (Ok (λ a b. (a, b)))
    (read_quantity low) (λ a e b f. (e, f)) (on_qty low)) (on_qty high))
    (λ b h. by_order b (nat_le b.0 b.1) h)
  where
    by_order : (b : ℕ × ℕ) (c : Bool) → (is_quantity_in_schema third_schema b.0 ≡ true) × (is_quantity_in_schema third_schema b.1 ≡ true)
        → IfOk {T = ℕ × ℕ} {E = Refusal} (cond c (Ok b) (Err BadQty))
        (λ b. (is_quantity_in_schema third_schema b.0 ≡ true) × (is_quantity_in_schema third_schema b.1 ≡ true))
    by_order b true h = h
    by_order b false h = tt

-- ---- each kind of row

broker_on : (fields : List Text) → IfOk (read_broker fields) (λ x. is_well_formed_broker x ≡ true)
broker_on (id ∷ name ∷ []) =
    let P : Broker → Type 0 = λ x. is_well_formed_broker x ≡ true in
    on_apply (λ n. is_name n ≡ true) P (Ok (λ i n. record { id = i; name = n }) ⊛ read_id id) (read_name name)
    (on_apply (λ i. is_id i ≡ true) (λ z. (n : Text) → is_name n ≡ true → P (z n)) (Ok (λ i n. record { id = i; name = n })) (read_id id)
    (λ i i' n n'. and_from (is_id i) (is_name n) i' n') (on_id id)) (on_text is_name name)
broker_on _ = tt

customer_on : (fields : List Text) → IfOk (read_customer fields) (λ x. is_well_formed_customer_row x ≡ true)
customer_on (id ∷ tier ∷ tax_id ∷ last ∷ first ∷ []) =
    let P : Customer → Type 0 = λ x. is_well_formed_customer_row x ≡ true in
    on_apply (λ f. is_name f ≡ true) P
    (Ok (λ i t x l f. record { id = i; tier = t; tax_id = x; last_name = l; first_name = f }) ⊛ read_id id ⊛ read_tier tier ⊛ read_tax_id tax_id ⊛ read_name
    last) (read_name first)
    (on_apply (λ l. is_name l ≡ true) (λ z. (f : Text) → is_name f ≡ true → P (z f))
    (Ok (λ i t x l f. record { id = i; tier = t; tax_id = x; last_name = l; first_name = f }) ⊛ read_id id ⊛ read_tier tier ⊛ read_tax_id tax_id)
    (read_name last)
    (on_apply (λ x. is_tax_id x ≡ true) (λ z. (l : Text) → is_name l ≡ true → (f : Text) → is_name f ≡ true → P (z l f))
    (Ok (λ i t x l f. record { id = i; tier = t; tax_id = x; last_name = l; first_name = f }) ⊛ read_id id ⊛ read_tier tier) (read_tax_id tax_id)
    (on_apply (λ t. is_tier t ≡ true) (λ z. (x : Text) → is_tax_id x ≡ true → (l : Text) → is_name l ≡ true → (f : Text) → is_name f ≡ true → P (z x l f))
    (Ok (λ i t x l f. record { id = i; tier = t; tax_id = x; last_name = l; first_name = f }) ⊛ read_id id) (read_tier tier)
    (on_apply (λ i. is_id i ≡ true)
    (λ z. (t : ℕ) → is_tier t ≡ true → (x : Text) → is_tax_id x ≡ true → (l : Text) → is_name l ≡ true → (f : Text) → is_name f ≡ true → P (z t x l f))
    (Ok (λ i t x l f. record { id = i; tier = t; tax_id = x; last_name = l; first_name = f })) (read_id id)
    (λ i i' t t' x x' l l' f f'. and5 (is_id i) (is_tier t) (is_tax_id x) (is_name l) (is_name f) i' t' x' l' f') (on_id id)) (on_tier tier))
    (on_text is_tax_id tax_id)) (on_text is_name last)) (on_text is_name first)
customer_on _ = tt

account_on : (fields : List Text) → IfOk (read_account fields) (λ x. is_well_formed_account x ≡ true)
account_on (id ∷ customer ∷ broker ∷ name ∷ status ∷ opening ∷ []) =
    let P : Account → Type 0 = λ x. is_well_formed_account x ≡ true in
    on_apply (λ o. is_within_amount_limit o ≡ true) P
    (Ok (λ i c b n t o. record { id = i; customer = c; broker = b; name = n; tax_status = t; opening = o }) ⊛ read_id id ⊛ read_id customer ⊛ read_id broker
    ⊛ read_name name ⊛ read_tax_status status) (read_opening_balance opening)
    (on_apply (λ t. ⊤) (λ z. (o : ℤ) → is_within_amount_limit o ≡ true → P (z o))
    (Ok (λ i c b n t o. record { id = i; customer = c; broker = b; name = n; tax_status = t; opening = o }) ⊛ read_id id ⊛ read_id customer ⊛ read_id broker
    ⊛ read_name name) (read_tax_status status)
    (on_apply (λ n. is_name n ≡ true) (λ z. (t : TaxStatus) → ⊤ → (o : ℤ) → is_within_amount_limit o ≡ true → P (z t o))
    (Ok (λ i c b n t o. record { id = i; customer = c; broker = b; name = n; tax_status = t; opening = o }) ⊛ read_id id ⊛ read_id customer ⊛ read_id
    broker) (read_name name)
    (on_apply (λ b. ⊤) (λ z. (n : Text) → is_name n ≡ true → (t : TaxStatus) → ⊤ → (o : ℤ) → is_within_amount_limit o ≡ true → P (z n t o))
    (Ok (λ i c b n t o. record { id = i; customer = c; broker = b; name = n; tax_status = t; opening = o }) ⊛ read_id id ⊛ read_id customer)
    (read_id broker)
    (on_apply (λ c. ⊤) (λ z. (b : ℕ) → ⊤ → (n : Text) → is_name n ≡ true → (t : TaxStatus) → ⊤ → (o : ℤ) → is_within_amount_limit o ≡ true → P (z b n t o))
    (Ok (λ i c b n t o. record { id = i; customer = c; broker = b; name = n; tax_status = t; opening = o }) ⊛ read_id id) (read_id customer)
    (on_apply (λ i. is_id i ≡ true)
    (λ z. (c : ℕ) → ⊤ → (b : ℕ) → ⊤ → (n : Text) → is_name n ≡ true → (t : TaxStatus) → ⊤ → (o : ℤ) → is_within_amount_limit o ≡ true → P (z c b n t o))
    (Ok (λ i c b n t o. record { id = i; customer = c; broker = b; name = n; tax_status = t; opening = o })) (read_id id)
    (λ i i' c c' b b' n n' t t' o o'. and3 (is_id i) (is_name n) (is_within_amount_limit o) i' n' o') (on_id id)) (on_any (read_id customer)))
    (on_any (read_id broker))) (on_text is_name name)) (on_any (read_tax_status status))) (on_opening opening)
account_on _ = tt

permission_on : (fields : List Text) → IfOk (read_permission fields) (λ x. has_well_formed_permission_texts x ≡ true)
permission_on (account ∷ acl ∷ tax_id ∷ last ∷ first ∷ []) =
    let P : Permission → Type 0 = λ x. has_well_formed_permission_texts x ≡ true in
    on_apply (λ f. is_name f ≡ true) P
    (Ok (λ a c x l f. record { account = a; acl = c; tax_id = x; last_name = l; first_name = f }) ⊛ read_id account ⊛ read_acl acl ⊛ read_tax_id tax_id ⊛
    read_name last) (read_name first)
    (on_apply (λ l. is_name l ≡ true) (λ z. (f : Text) → is_name f ≡ true → P (z f))
    (Ok (λ a c x l f. record { account = a; acl = c; tax_id = x; last_name = l; first_name = f }) ⊛ read_id account ⊛ read_acl acl ⊛ read_tax_id tax_id)
    (read_name last)
    (on_apply (λ x. is_tax_id x ≡ true) (λ z. (l : Text) → is_name l ≡ true → (f : Text) → is_name f ≡ true → P (z l f))
    (Ok (λ a c x l f. record { account = a; acl = c; tax_id = x; last_name = l; first_name = f }) ⊛ read_id account ⊛ read_acl acl) (read_tax_id tax_id)
    (on_apply (λ c. is_acl c ≡ true) (λ z. (x : Text) → is_tax_id x ≡ true → (l : Text) → is_name l ≡ true → (f : Text) → is_name f ≡ true → P (z x l f))
    (Ok (λ a c x l f. record { account = a; acl = c; tax_id = x; last_name = l; first_name = f }) ⊛ read_id account) (read_acl acl)
    (on_apply (λ a. ⊤) (λ z. (c : Text) → is_acl c ≡ true → (x : Text) → is_tax_id x ≡ true → (l : Text) → is_name l ≡ true → (f : Text) → is_name f ≡ true
    → P (z c x l f)) (Ok (λ a c x l f. record { account = a; acl = c; tax_id = x; last_name = l; first_name = f })) (read_id account)
    (λ a a' c c' x x' l l' f f'. and4 (is_acl c) (is_tax_id x) (is_name l) (is_name f) c' x' l' f') (on_any (read_id account))) (on_text is_acl acl))
    (on_text is_tax_id tax_id)) (on_text is_name last)) (on_text is_name first)
permission_on _ = tt

security_on : (fields : List Text) → IfOk (read_listing fields) (λ x. is_well_formed_listing x ≡ true)
security_on (symbol ∷ name ∷ exchange ∷ sector ∷ price ∷ []) =
    let P : Listing → Type 0 = λ x. is_well_formed_listing x ≡ true in
    on_apply (λ p. is_price p ≡ true) P
    (Ok (λ s n e c p. record { symbol = s; name = n; exchange = e; sector = c; price = p }) ⊛ read_symbol symbol ⊛ read_name name ⊛ read_exchange exchange ⊛
    read_name sector) (read_price price)
    (on_apply (λ c. is_name c ≡ true) (λ z. (p : ℕ) → is_price p ≡ true → P (z p))
    (Ok (λ s n e c p. record { symbol = s; name = n; exchange = e; sector = c; price = p }) ⊛ read_symbol symbol ⊛ read_name name ⊛ read_exchange exchange)
    (read_name sector)
    (on_apply (λ e. is_exchange e ≡ true) (λ z. (c : Text) → is_name c ≡ true → (p : ℕ) → is_price p ≡ true → P (z c p))
    (Ok (λ s n e c p. record { symbol = s; name = n; exchange = e; sector = c; price = p }) ⊛ read_symbol symbol ⊛ read_name name) (read_exchange exchange)
    (on_apply (λ n. is_name n ≡ true) (λ z. (e : Text) → is_exchange e ≡ true → (c : Text) → is_name c ≡ true → (p : ℕ) → is_price p ≡ true → P (z e c p))
    (Ok (λ s n e c p. record { symbol = s; name = n; exchange = e; sector = c; price = p }) ⊛ read_symbol symbol) (read_name name)
    (on_apply (λ s. is_symbol s ≡ true)
    (λ z. (n : Text) → is_name n ≡ true → (e : Text) → is_exchange e ≡ true → (c : Text) → is_name c ≡ true → (p : ℕ) → is_price p ≡ true → P (z n e c p))
    (Ok (λ s n e c p. record { symbol = s; name = n; exchange = e; sector = c; price = p })) (read_symbol symbol)
    (λ s s' n n' e e' c c' p p'. and5 (is_symbol s) (is_name n) (is_exchange e) (is_name c) (is_price p) s' n' e' c' p') (on_text is_symbol symbol))
    (on_text is_name name)) (on_text is_exchange exchange)) (on_text is_name sector)) (on_price price)
security_on _ = tt

charge_on : (fields : List Text) → IfOk (read_charge fields) (λ x. is_well_formed_charge_row x ≡ true)
charge_on (kind ∷ tier ∷ amount ∷ []) =
    let P : Charge → Type 0 = λ x. is_well_formed_charge_row x ≡ true in
    on_apply (λ a. nat_le a greatest_charge ≡ true) P (Ok (λ k t a. record { kind = k; tier = t; amount = a }) ⊛ read_trade_type kind ⊛ read_tier tier) (read_charge_amount amount)
    (on_apply (λ t. is_tier t ≡ true) (λ z. (a : ℕ) → nat_le a greatest_charge ≡ true → P (z a)) (Ok (λ k t a. record { kind = k; tier = t; amount = a }) ⊛ read_trade_type kind) (read_tier tier)
    (on_apply (λ k. ⊤) (λ z. (t : ℕ) → is_tier t ≡ true → (a : ℕ) → nat_le a greatest_charge ≡ true → P (z t a)) (Ok (λ k t a. record { kind = k; tier = t; amount = a })) (read_trade_type kind)
    (λ k k' t t' a a'. and_from (is_tier t) (nat_le a greatest_charge) t' a') (on_any (read_trade_type kind))) (on_tier tier)) (on_charge amount)
charge_on _ = tt

band_on : (fields : List Text) → IfOk (read_commission_band fields) (λ x. is_well_formed_band x ≡ true)
band_on (tier ∷ kind ∷ exchange ∷ low ∷ high ∷ rate ∷ []) =
    let P : Band → Type 0 = λ x. is_well_formed_band x ≡ true in
    on_apply (λ r. nat_le r greatest_commission_rate ≡ true) P
    (Ok (λ t k e b r. record { tier = t; kind = k; exchange = e; from_qty = b.0; to_qty = b.1; rate = r }) ⊛ read_tier tier ⊛ read_trade_type kind ⊛
    read_exchange exchange ⊛ read_quantity_bounds low high) (read_commission_rate rate)
    (on_apply (λ b. ((is_quantity_in_schema third_schema b.0 ≡ true) × (is_quantity_in_schema third_schema b.1 ≡ true)))
    (λ z. (r : ℕ) → nat_le r greatest_commission_rate ≡ true → P (z r))
    (Ok (λ t k e b r. record { tier = t; kind = k; exchange = e; from_qty = b.0; to_qty = b.1; rate = r }) ⊛ read_tier tier ⊛ read_trade_type kind ⊛
    read_exchange exchange) (read_quantity_bounds low high)
    (on_apply (λ e. is_exchange e ≡ true)
    (λ z. (b : (ℕ × ℕ)) → ((is_quantity_in_schema third_schema b.0 ≡ true) × (is_quantity_in_schema third_schema b.1 ≡ true)) → (r : ℕ)
    → nat_le r greatest_commission_rate ≡ true
    → P (z b r)) (Ok (λ t k e b r. record { tier = t; kind = k; exchange = e; from_qty = b.0; to_qty = b.1; rate = r }) ⊛ read_tier tier ⊛ read_trade_type
    kind) (read_exchange exchange)
    (on_apply (λ k. ⊤) (λ z. (e : Text) → is_exchange e ≡ true → (b : (ℕ × ℕ))
    → ((is_quantity_in_schema third_schema b.0 ≡ true) × (is_quantity_in_schema third_schema b.1 ≡ true)) → (r : ℕ)
    → nat_le r greatest_commission_rate ≡ true
    → P (z e b r)) (Ok (λ t k e b r. record { tier = t; kind = k; exchange = e; from_qty = b.0; to_qty = b.1; rate = r }) ⊛ read_tier tier)
    (read_trade_type kind)
    (on_apply (λ t. is_tier t ≡ true)
    (λ z. (k : TradeType) → ⊤ → (e : Text) → is_exchange e ≡ true → (b : (ℕ × ℕ))
    → ((is_quantity_in_schema third_schema b.0 ≡ true) × (is_quantity_in_schema third_schema b.1 ≡ true)) → (r : ℕ)
    → nat_le r greatest_commission_rate ≡ true
    → P (z k e b r)) (Ok (λ t k e b r. record { tier = t; kind = k; exchange = e; from_qty = b.0; to_qty = b.1; rate = r })) (read_tier tier)
    (λ t t' k k' e e' b b' r r'. and5 (is_tier t) (is_exchange e) (is_quantity_in_schema third_schema b.0) (is_quantity_in_schema third_schema b.1)
    (nat_le r greatest_commission_rate) t' e' b'.0 b'.1 r') (on_tier tier)) (on_any (read_trade_type kind))) (on_text is_exchange exchange))
    (on_bounds low high)) (on_rate rate)
band_on _ = tt

tax_rate_on : (fields : List Text) → IfOk (read_tax_rate fields) (λ x. is_well_formed_tax_rate_row x ≡ true)
tax_rate_on (id ∷ name ∷ rate ∷ []) =
    let P : TaxRate → Type 0 = λ x. is_well_formed_tax_rate_row x ≡ true in
    on_apply (λ r. nat_le r greatest_tax_rate ≡ true) P (Ok (λ i n r. record { id = i; name = n; rate = r }) ⊛ read_id id ⊛ read_name name) (read_tax_rate_number rate)
    (on_apply (λ n. is_name n ≡ true) (λ z. (r : ℕ) → nat_le r greatest_tax_rate ≡ true → P (z r)) (Ok (λ i n r. record { id = i; name = n; rate = r }) ⊛ read_id id) (read_name name)
    (on_apply (λ i. is_id i ≡ true) (λ z. (n : Text) → is_name n ≡ true → (r : ℕ) → nat_le r greatest_tax_rate ≡ true → P (z n r)) (Ok (λ i n r. record { id = i; name = n; rate = r })) (read_id id)
    (λ i i' n n' r r'. and3 (is_id i) (is_name n) (nat_le r greatest_tax_rate) i' n' r') (on_id id)) (on_text is_name name)) (on_tax rate)
tax_rate_on _ = tt

without_price_on : (t : OrderType) (text : Text) → IfSome (price_of_order_type t) (λ n. is_price n ≡ true)
    → IfOk (market_type_if_price_is_empty t text) (λ o. IfSome (price_of_order_type o) (λ n. is_price n ≡ true))
without_price_on t [] h = h
without_price_on t (c ∷ text) h = tt

with_price_on : (f : ℕ → OrderType) (text : Text) → ((n : ℕ) → is_price n ≡ true → IfSome (price_of_order_type (f n)) (λ n. is_price n ≡ true))
    → IfOk (read_priced_order_type f text) (λ o. IfSome (price_of_order_type o) (λ n. is_price n ≡ true))
with_price_on f text h = on_apply (λ n. is_price n ≡ true) (λ o. IfSome (price_of_order_type o) (λ n. is_price n ≡ true)) (Ok f) (read_price text) h (on_price text)

without_type_on : (text : Text) → IfOk (refusal_of_unknown_type_by_price_text text) (λ o. IfSome (price_of_order_type o) (λ n. is_price n ≡ true))
without_type_on [] = tt
without_type_on (c ∷ text) =
    on_apply (λ n. is_price n ≡ true) (λ o. IfSome (price_of_order_type o) (λ n. is_price n ≡ true)) (Err BadType) (read_price (c ∷ text)) tt (on_price (c ∷ text))

known_type_on : (kind : Option TradeType) (text : Text) → IfOk (order_type_with_price kind text) (λ o. IfSome (price_of_order_type o) (λ n. is_price n ≡ true))
known_type_on None text = without_type_on text
known_type_on (Some MarketBuy) text = without_price_on asked.MarketBuy text tt
known_type_on (Some MarketSell) text = without_price_on asked.MarketSell text tt
known_type_on (Some StopLoss) text = with_price_on (λ n. asked.StopLoss n) text (λ n h. h)
known_type_on (Some LimitSell) text = with_price_on (λ n. asked.LimitSell n) text (λ n h. h)
known_type_on (Some LimitBuy) text = with_price_on (λ n. asked.LimitBuy n) text (λ n h. h)

order_type_on : (kind price : Text) → IfOk (read_order_type kind price) (λ o. IfSome (price_of_order_type o) (λ n. is_price n ≡ true))
order_type_on kind price = known_type_on (trade_type_with_code kind) price

order_on : (fields : List Text) → IfOk (read_order fields) (λ x. OrderMeetsAuditFormats x)
order_on (account ∷ kind ∷ symbol ∷ qty ∷ price ∷ cash ∷ end ∷ first ∷ last ∷ tax_id ∷ []) =
    let P : Order → Type 0 = λ x. OrderMeetsAuditFormats x in
    on_apply (λ e. ⊤) P (Ok (λ a s q t c l e. record { account = a; order_type = t; symbol = s; qty = q; is_cash = c; is_lifo = l; executor = e }) ⊛ read_id
    account ⊛ read_symbol symbol ⊛ read_quantity qty ⊛ read_order_type kind price ⊛ read_cash_or_margin cash ⊛ read_lifo_or_fifo end)
    (read_executor first last tax_id)
    (on_apply (λ l. ⊤) (λ z. (e : Executor) → ⊤ → P (z e))
    (Ok (λ a s q t c l e. record { account = a; order_type = t; symbol = s; qty = q; is_cash = c; is_lifo = l; executor = e }) ⊛ read_id account ⊛
    read_symbol symbol ⊛ read_quantity qty ⊛ read_order_type kind price ⊛ read_cash_or_margin cash) (read_lifo_or_fifo end)
    (on_apply (λ c. ⊤) (λ z. (l : Bool) → ⊤ → (e : Executor) → ⊤ → P (z l e))
    (Ok (λ a s q t c l e. record { account = a; order_type = t; symbol = s; qty = q; is_cash = c; is_lifo = l; executor = e }) ⊛ read_id account ⊛
    read_symbol symbol ⊛ read_quantity qty ⊛ read_order_type kind price) (read_cash_or_margin cash)
    (on_apply (λ t. IfSome (price_of_order_type t) (λ n. is_price n ≡ true)) (λ z. (c : Bool) → ⊤ → (l : Bool) → ⊤ → (e : Executor) → ⊤ → P (z c l e))
    (Ok (λ a s q t c l e. record { account = a; order_type = t; symbol = s; qty = q; is_cash = c; is_lifo = l; executor = e }) ⊛ read_id account ⊛
    read_symbol symbol ⊛ read_quantity qty) (read_order_type kind price)
    (on_apply (λ q. is_quantity_in_schema third_schema q ≡ true)
    (λ z. (t : OrderType) → IfSome (price_of_order_type t) (λ n. is_price n ≡ true) → (c : Bool) → ⊤ → (l : Bool) → ⊤ → (e : Executor) → ⊤ → P (z t c l e))
    (Ok (λ a s q t c l e. record { account = a; order_type = t; symbol = s; qty = q; is_cash = c; is_lifo = l; executor = e }) ⊛ read_id account ⊛
    read_symbol symbol) (read_quantity qty)
    (on_apply (λ s. ⊤) (λ z. (q : ℕ) → is_quantity_in_schema third_schema q ≡ true → (t : OrderType) → IfSome (price_of_order_type t) (λ n. is_price n ≡ true)
    → (c : Bool) → ⊤ → (l : Bool) → ⊤ → (e : Executor) → ⊤
    → P (z q t c l e)) (Ok (λ a s q t c l e. record { account = a; order_type = t; symbol = s; qty = q; is_cash = c; is_lifo = l; executor = e }) ⊛ read_id
    account) (read_symbol symbol)
    (on_apply (λ a. ⊤) (λ z. (s : Text) → ⊤ → (q : ℕ) → is_quantity_in_schema third_schema q ≡ true → (t : OrderType)
    → IfSome (price_of_order_type t) (λ n. is_price n ≡ true) → (c : Bool) → ⊤ → (l : Bool) → ⊤ → (e : Executor) → ⊤
    → P (z s q t c l e)) (Ok (λ a s q t c l e. record { account = a; order_type = t; symbol = s; qty = q; is_cash = c; is_lifo = l; executor = e }))
    (read_id account)
    (λ a a' s s' q q' t t' c c' l l' e e'. record { qty = q'; price = t' }) (on_any (read_id account))) (on_any (read_symbol symbol))) (on_qty qty))
    (order_type_on kind price)) (on_any (read_cash_or_margin cash))) (on_any (read_lifo_or_fifo end))) (on_any (read_executor first last tax_id))
order_on _ = tt

result_on : (fields : List Text) → IfOk (read_complete_trade_command fields) (λ x. MeetsAuditFormats x)
result_on (trade ∷ price ∷ []) =
    let P : Command → Type 0 = λ x. MeetsAuditFormats x in
    on_apply (λ p. is_price p ≡ true) P (Ok (λ t p. CompleteTrade t p) ⊛ read_id trade) (read_price price)
    (on_apply (λ t. ⊤) (λ z. (p : ℕ) → is_price p ≡ true → P (z p)) (Ok (λ t p. CompleteTrade t p)) (read_id trade)
    (λ t t' p p'. p') (on_any (read_id trade))) (on_price price)
result_on _ = tt

upcash_on : (fields : List Text) → IfOk (read_cash_type_update fields) (λ x. MeetsAuditFormats x)
upcash_on (account ∷ first ∷ last ∷ []) =
    let P : Command → Type 0 = λ x. MeetsAuditFormats x in
    on_apply (λ l. ⊤) P (Ok (λ a f l. ChangeCashTypes a f l) ⊛ read_id account ⊛ read_stamp first) (read_stamp last)
    (on_apply (λ f. ⊤) (λ z. (l : ℕ) → ⊤ → P (z l)) (Ok (λ a f l. ChangeCashTypes a f l) ⊛ read_id account) (read_stamp first)
    (on_apply (λ a. ⊤) (λ z. (f : ℕ) → ⊤ → (l : ℕ) → ⊤ → P (z f l)) (Ok (λ a f l. ChangeCashTypes a f l)) (read_id account)
    (λ a a' f f' l l'. tt) (on_any (read_id account))) (on_any (read_stamp first))) (on_any (read_stamp last))
upcash_on _ = tt

uptext_on : (fields : List Text) → IfOk (read_cash_name_update fields) (λ x. MeetsAuditFormats x)
uptext_on (symbol ∷ first ∷ last ∷ []) =
    let P : Command → Type 0 = λ x. MeetsAuditFormats x in
    on_apply (λ l. ⊤) P (Ok (λ s f l. ChangeCashNames s f l) ⊛ read_symbol symbol ⊛ read_stamp first) (read_stamp last)
    (on_apply (λ f. ⊤) (λ z. (l : ℕ) → ⊤ → P (z l)) (Ok (λ s f l. ChangeCashNames s f l) ⊛ read_symbol symbol) (read_stamp first)
    (on_apply (λ s. ⊤) (λ z. (f : ℕ) → ⊤ → (l : ℕ) → ⊤ → P (z f l)) (Ok (λ s f l. ChangeCashNames s f l)) (read_symbol symbol)
    (λ s s' f f' l l'. tt) (on_any (read_symbol symbol))) (on_any (read_stamp first))) (on_any (read_stamp last))
uptext_on _ = tt

ticks_on : (fields : List Text) → IfOk (read_ticks fields) (λ ticks. AllByRecursion TickMeetsAuditFormats ticks)
ticks_on [] = tt
ticks_on (symbol ∷ []) = tt
ticks_on (symbol ∷ price ∷ []) = tt
ticks_on (symbol ∷ price ∷ qty ∷ fields) =
    let F : ReadResult (Text → ℕ → ℕ → List Tick → List Tick) = Ok (λ s p q ticks. record { symbol = s; price = p; qty = q } ∷ ticks) in
    let P : List Tick → Type 0 = λ ticks. AllByRecursion TickMeetsAuditFormats ticks in
    on_apply P P (F ⊛ read_symbol symbol ⊛ read_price price ⊛ read_quantity qty) (read_ticks fields)
    (on_apply (λ q. ⊤) (λ z. (ts : List Tick) → P ts → P (z ts)) (F ⊛ read_symbol symbol ⊛ read_price price) (read_quantity qty)
    (on_apply (λ p. is_price p ≡ true) (λ z. (q : ℕ) → ⊤ → (ts : List Tick) → P ts → P (z q ts)) (F ⊛ read_symbol symbol) (read_price price)
    (on_apply (λ s. ⊤) (λ z. (p : ℕ) → is_price p ≡ true → (q : ℕ) → ⊤ → (ts : List Tick) → P ts → P (z p q ts)) F (read_symbol symbol)
    (λ s s' p p' q q' ts h. (p', h)) (on_any (read_symbol symbol))) (on_price price)) (on_any (read_quantity qty))) (ticks_on fields)

feed_on : (fields : List Text) → IfOk (read_feed fields) (λ ticks. AllByRecursion TickMeetsAuditFormats ticks)
feed_on fields = on_then (AllByRecursion TickMeetsAuditFormats) (AllByRecursion TickMeetsAuditFormats) one_to_twenty_elements (read_ticks fields) (ticks_on fields) some
  where
    by_length : (ticks : List Tick) (b : Bool) → AllByRecursion TickMeetsAuditFormats ticks
        → IfOk {T = List Tick} {E = Refusal} (cond b (Ok ticks) (Err TooMany)) (λ ticks. AllByRecursion TickMeetsAuditFormats ticks)
    by_length ticks true h = h
    by_length ticks false h = tt

    some : (ticks : List Tick) → AllByRecursion TickMeetsAuditFormats ticks → IfOk (one_to_twenty_elements ticks) (λ ticks. AllByRecursion TickMeetsAuditFormats ticks)
    some [] h = tt
    some (t ∷ ticks) h = by_length (t ∷ ticks) (nat_le (length (t ∷ ticks)) 20) h

movement_on : (moved : ℕ → ℕ → Command) → ((account n : ℕ) → is_movement_amount_within_limits n ≡ true → MeetsAuditFormats (moved account n)) → (fields : List Text)
    → IfOk (read_movement_command moved fields) (λ x. MeetsAuditFormats x)
movement_on moved form [] = tt
movement_on moved form (account ∷ []) = tt
movement_on moved form (account ∷ amount ∷ []) =
    let P : Command → Type 0 = λ x. MeetsAuditFormats x in
    on_apply (λ n. is_movement_amount_within_limits n ≡ true) P (Ok (λ a n. moved a n) ⊛ read_id account) (read_movement_amount amount)
    (on_apply (λ a. ⊤) (λ z. (n : ℕ) → is_movement_amount_within_limits n ≡ true → P (z n)) (Ok (λ a n. moved a n)) (read_id account)
    (λ a a' n n'. form a n n') (on_any (read_id account))) (on_amount amount)
movement_on moved form (account ∷ amount ∷ more ∷ fields) = tt

oneday_on : (fields : List Text) → IfOk (read_one_day_settlement_start fields) (λ n. nat_le n greatest_day ≡ true)
oneday_on [] = tt
oneday_on (day ∷ []) = on_day day
oneday_on (day ∷ more ∷ fields) = tt

-- ---- any row

as_on : {A : Type 0} (wrap : A → Command) (R : A → Type 0) (x : ReadResult A) → ((a : A) → R a → MeetsAuditFormats (wrap a)) → IfOk x R → IfOk (Ok wrap ⊛ x) MeetsAuditFormats
as_on wrap R x h k = on_apply R MeetsAuditFormats (Ok wrap) x h k

abbrev IsReaderInForm : NamedParser Command → Type 0
IsReaderInForm reader = (fields : List Text) → IfOk (reader.1 fields) MeetsAuditFormats

all_readers : AllByRecursion IsReaderInForm row_parsers
all_readers = (
  (λ fs. as_on AddBroker (λ b. is_well_formed_broker b ≡ true) (read_broker fs) (λ b e. e) (broker_on fs)),
  (
    (λ fs. as_on AddCustomer (λ c. is_well_formed_customer_row c ≡ true) (read_customer fs) (λ c e. e) (customer_on fs)),
    (
      (λ fs. as_on AddAccount (λ a. is_well_formed_account a ≡ true) (read_account fs) (λ a e. e) (account_on fs)),
      (
        (λ fs. as_on AddPermission (λ p. has_well_formed_permission_texts p ≡ true) (read_permission fs) (λ p e. e) (permission_on fs)),
        (
          (λ fs. as_on AddSecurity (λ l. is_well_formed_listing l ≡ true) (read_listing fs) (λ l e. e) (security_on fs)),
          (
            (λ fs. as_on AddCharge (λ c. is_well_formed_charge_row c ≡ true) (read_charge fs) (λ c e. e) (charge_on fs)),
            (
              (λ fs. as_on AddBand (λ b. is_well_formed_band b ≡ true) (read_commission_band fs) (λ b e. e) (band_on fs)),
              (
                (λ fs. as_on AddTaxRate (λ r. is_well_formed_tax_rate_row r ≡ true) (read_tax_rate fs) (λ r e. e) (tax_rate_on fs)),
                (
                  (λ fs. as_on AddCustomerTax (λ x. ⊤) (read_customer_tax fs) (λ x e. tt) (on_any (read_customer_tax fs))),
                  (
                    (λ fs. as_on PlaceOrder OrderMeetsAuditFormats (read_order fs) (λ o e. e) (order_on fs)),
                    (
                      (λ fs. as_on FeedTicks (λ ticks. AllByRecursion TickMeetsAuditFormats ticks) (read_feed fs) (λ ticks e. e) (feed_on fs)),
                      (
                        (λ fs. as_on CancelTrade (λ x. ⊤) (read_id_of_trade_to_cancel fs) (λ x e. tt) (on_any (read_id_of_trade_to_cancel fs))),
                        (
                          result_on,
                          (
                            (λ fs. as_on ChangeExecutors (λ x. ⊤) (read_distinct_ids fs) (λ x e. tt) (on_any (read_distinct_ids fs))),
                            (
                              upcash_on,
                              (
                                uptext_on,
                                (
                                  movement_on (λ a n. DepositCash a n) (λ a n e. e),
                                  (
                                    movement_on (λ a n. WithdrawCash a n) (λ a n e. e),
                                    ((λ fs. as_on SetOneDay (λ n. nat_le n greatest_day ≡ true) (read_one_day_settlement_start fs) (λ n e. e) (oneday_on fs)), tt),
                                  ),
                                ),
                              ),
                            ),
                          ),
                        ),
                      ),
                    ),
                  ),
                ),
              ),
            ),
          ),
        ),
      ),
    ),
  ),
)

pub parsed_in_form : (fields : List Text) → IfOk (parse_row fields) MeetsAuditFormats
unfolding parse_row
parsed_in_form [] = tt
parsed_in_form (kind ∷ fields) = by_found (find (λ reader. bytes_eq reader.0 kind) row_parsers) refl
  where
    by_found : (o : Option (NamedParser Command)) → find (λ reader. bytes_eq reader.0 kind) row_parsers ≡ o → IfOk (read_with_parser o fields) MeetsAuditFormats
    by_found None e = tt
    by_found (Some r) e = find-All IsReaderInForm (λ reader. bytes_eq reader.0 kind) row_parsers r all_readers e fields
