-- The rows of well-formed tables are well-formed column by column.
use Rattle.std.proofs.Common.{◌≡◌, ℕ, List, [], ◌∷◌, Bool, true, false, Option, Some, None, map, refl, sym, subst, inl, inr, arith, is_some, find, codes}
use Rattle.std.specs.Prelude.{◌&&◌, ◌||◌, ◌==◌, ◌≤◌, nat_le, bytes_eq}
use Rattle.std.specs.List.{list_any, list_all}
use Rattle.std.specs.Option.{option_map_or}
use Rattle.std.proofs.lemmas.Bool.{cases_Bool, and_parts, eqb-true, leb-true, le-leb}
use Rattle.std.proofs.lemmas.Slice.Eq.{bytes_eq-Decides}
use Rattle.sqlite_value.specs.declared.value.Value.{Value}
use Rattle.sqlite_value.specs.Order.{Row}
use Rattle.brk_money.specs.Moments.{greatest_stamp}
use Rattle.brk_money.specs.Kinds.{trade_type_code, trade_status_code, tax_status_number}
use Rattle.brk_money.specs.declared.trade_type.TradeType.{TradeType}
use Rattle.brk_money.specs.declared.trade_type.TradeType.TheVariants.{MarketBuy, MarketSell, StopLoss, LimitSell, LimitBuy}
use Rattle.brk_money.specs.declared.status.Status.{Status}
use Rattle.brk_money.specs.declared.status.Status.TheVariants.{Completed, Active, Submitted, Pending, Canceled}
use Rattle.brk_money.specs.declared.tax_status.TaxStatus.{TaxStatus}
use Rattle.brk_money.specs.declared.tax_status.TaxStatus.TheVariants.{Untaxed, Withheld, Reported}
use Rattle.brk_model.specs.Forms.{is_symbol}
use Rattle.brk_model.specs.Form.{is_id, is_quantity_in_schema, is_at_most_last_stamp, has_trade, has_account, has_security, has_customer, has_broker}
use Rattle.brk_model.specs.Form.{is_well_formed_customer_row, is_well_formed_broker_row, is_well_formed_account_row, is_well_formed_security_row}
use Rattle.brk_model.specs.Form.{is_well_formed_trade_row, is_well_formed_tax_rate_row, is_cash_type_of_trade}
use Rattle.brk_model.specs.Schemas.{Schema, third_schema}
use Rattle.brk_model.specs.Tables.{Tables}
use Rattle.brk_model_theorems.specs.FormParts.{SatisfiesFormParts}
use Rattle.brk_model_theorems.proofs.Conjunctions.{parts3, parts5, parts6, parts10}
use Rattle.brk_tables_schema.specs.Formed.{passes_all_cell_checks, is_trade_type_code, is_status_code, is_tax_status_number, is_cash_type_text}

pub both : {a b : Bool} → a ≡ true → b ≡ true → a && b ≡ true
both {a} {b} p q = rw p q

pub each_formed : {X : Type 0} (forms : List (Value → Bool)) (cells : X → Row) (form : X → Bool)
    → ((x : X) → form x ≡ true → passes_all_cell_checks forms (cells x) ≡ true) → (xs : List X) → list_all form xs ≡ true
    → list_all (passes_all_cell_checks forms) (map cells xs) ≡ true
each_formed forms cells form is [] h = refl
each_formed forms cells form is (x ∷ xs) h = let p = and_parts (form x) (list_all form xs) h in both (is x p.0) (each_formed forms cells form is xs p.1)

-- ---- what a row names is there, and has its form

any_gives : {X : Type 0} (p q : X → Bool) (xs : List X) → list_any p xs ≡ true → list_all q xs ≡ true → (x : X) × (p x ≡ true) × (q x ≡ true)
any_gives p q [] h all = absurd (let e = h in cc)
any_gives p q (x ∷ xs) h all = let k = and_parts (q x) (list_all q xs) all in elim (cases_Bool (p x)) [
  | inl e ↦ (x, e, k.0)
  | inr e ↦ any_gives p q xs (rw e at h) k.1
]

find_gives : {X : Type 0} (p q : X → Bool) (xs : List X) → is_some (find p xs) ≡ true → list_all q xs ≡ true → (x : X) × (p x ≡ true) × (q x ≡ true)
find_gives p q [] h all = absurd (let e = h in cc)
find_gives p q (x ∷ xs) h all = let k = and_parts (q x) (list_all q xs) all in elim (cases_Bool (p x)) [
  | inl e ↦ (x, e, k.0)
  | inr e ↦ find_gives p q xs (rw e at h) k.1
]

pub same_bytes : (a b : List ℕ) → bytes_eq a b ≡ true → a ≡ b
same_bytes a b h = (bytes_eq-Decides a b).0 h

module _ (schema : Schema) (t : Tables) (p : SatisfiesFormParts schema t) where
  pub customer_id : (id : ℕ) → has_customer t id ≡ true → is_id id ≡ true
  customer_id id h = let c = find_gives (λ c. c.id == id) is_well_formed_customer_row t.customers h p.customers in subst (λ n. is_id n ≡ true) (eqb-true c.0.id id c.1) (parts5 _ _ _ _ _ c.2).0

  pub broker_id : (id : ℕ) → has_broker t id ≡ true → is_id id ≡ true
  broker_id id h = let b = find_gives (λ b. b.id == id) is_well_formed_broker_row t.brokers h p.brokers in subst (λ n. is_id n ≡ true) (eqb-true b.0.id id b.1) (parts3 _ _ _ b.2).0

  pub tax_id : (id : ℕ) → list_any (λ r. r.id == id) t.tax_rates ≡ true → is_id id ≡ true
  tax_id id h = let r = any_gives (λ r. r.id == id) is_well_formed_tax_rate_row t.tax_rates h p.tax_rates in subst (λ n. is_id n ≡ true) (eqb-true r.0.id id r.1) (parts3 _ _ _ r.2).0

  pub account_id : (id : ℕ) → has_account t id ≡ true → is_id id ≡ true
  account_id id h = let a = find_gives (λ a. a.id == id) (is_well_formed_account_row t) t.accounts h p.accounts in subst (λ n. is_id n ≡ true) (eqb-true a.0.id id a.1) (parts6 _ _ _ _ _ _ a.2).0

  pub trade_id : (id : ℕ) → has_trade t id ≡ true → is_id id ≡ true
  trade_id id h = let r = find_gives (λ r. r.id == id) (is_well_formed_trade_row schema t) t.trades h p.trades in
      subst (λ n. is_id n ≡ true) (eqb-true r.0.id id r.1) (parts10 _ _ _ _ _ _ _ _ _ _ r.2).0

  pub symbol_of : (symbol : List ℕ) → has_security t symbol ≡ true → is_symbol symbol ≡ true
  symbol_of symbol h = let s = find_gives (λ s. bytes_eq s.symbol symbol) (is_well_formed_security_row t) t.securities h p.securities in
      subst (λ w. is_symbol w ≡ true) (same_bytes s.0.symbol symbol s.1) (parts5 _ _ _ _ _ s.2).0

  pub stamp_of : (stamp : ℕ) → is_at_most_last_stamp t stamp ≡ true → nat_le stamp greatest_stamp ≡ true
  stamp_of stamp h = go t.last p.clock h
    where
      go : (last : Option ℕ) → option_map_or (λ last. nat_le last greatest_stamp) last true ≡ true → option_map_or (λ last. nat_le stamp last) last false ≡ true → nat_le stamp greatest_stamp ≡ true
      go None c h = absurd (let e = h in cc)
      go (Some last) c h = let a = leb-true last greatest_stamp c in let b = leb-true stamp last h in le-leb stamp greatest_stamp (omega (arith, a, b))

-- ---- quantities

-- the limits of a schema are no greater than those of the third, by which a row is read
pub wider : (schema : Schema) → schema.greatest_qty ≤ third_schema.greatest_qty → (n : ℕ) → is_quantity_in_schema schema n ≡ true → is_quantity_in_schema third_schema n ≡ true
wider schema narrow n h =
    let k = and_parts (nat_le 1 n) (nat_le n schema.greatest_qty) h in
    both k.0 (at_most n schema.greatest_qty third_schema.greatest_qty narrow k.1)
  where
    at_most : (n a b : ℕ) → a ≤ b → nat_le n a ≡ true → nat_le n b ≡ true
    at_most n a b narrow h = let k = leb-true n a h in le-leb n b (omega (arith, narrow, k))

-- ---- words

pub type_formed : (kind : TradeType) → is_trade_type_code (trade_type_code kind) ≡ true
type_formed MarketBuy = refl
type_formed MarketSell = refl
type_formed StopLoss = refl
type_formed LimitSell = refl
type_formed LimitBuy = refl

pub status_formed : (status : Status) → is_status_code (trade_status_code status) ≡ true
status_formed Completed = refl
status_formed Active = refl
status_formed Submitted = refl
status_formed Pending = refl
status_formed Canceled = refl

pub tax_status_formed : (status : TaxStatus) → is_tax_status_number (tax_status_number status) ≡ true
tax_status_formed Untaxed = refl
tax_status_formed Withheld = refl
tax_status_formed Reported = refl

one_of : (a b : Bool) (P : Type 0) → a || b ≡ true → (a ≡ true → P) → (b ≡ true → P) → P
one_of true b P h f g = f refl
one_of false b P h f g = g h

pub cash_word_formed : (is_cash : Bool) (word : List ℕ) → is_cash_type_of_trade is_cash word ≡ true → is_cash_type_text word ≡ true
cash_word_formed true word h = one_of _ _ _ h
    (λ e. subst (λ w. is_cash_type_text w ≡ true) (sym (same_bytes word (codes "Cash Account") e)) refl) (λ e. subst (λ w. is_cash_type_text w ≡ true) (sym (same_bytes word (codes "Cash") e)) refl)
cash_word_formed false word h = one_of _ _ _ h
    (λ e. subst (λ w. is_cash_type_text w ≡ true) (sym (same_bytes word (codes "Margin") e)) refl)
    (λ e. subst (λ w. is_cash_type_text w ≡ true) (sym (same_bytes word (codes "Margin Account") e)) refl)
