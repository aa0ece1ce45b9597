-- The record that a row encodes.
use Rattle.std.proofs.Common.{◌≡◌, ℕ, zero, suc, ℤ, pos, negsuc, List, Option, Some, None, unwrap_or, refl, ap}
use Rattle.sqlite_value.specs.declared.value.Value.{Value}
use Rattle.sqlite_value.specs.declared.value.Value.TheVariants.{Int}
use Rattle.sqlite_value.specs.Order.{Row, column}
use Rattle.sqlite_rules.specs.Edit.{id_in}
use Rattle.brk_money.specs.Kinds.{tax_status_number, trade_type_code}
use Rattle.brk_money.specs.declared.tax_status.TaxStatus.{TaxStatus}
use Rattle.brk_money.specs.declared.tax_status.TaxStatus.TheVariants.{Untaxed, Withheld, Reported}
use Rattle.brk_money.specs.declared.trade_type.TradeType.{TradeType}
use Rattle.brk_money.specs.declared.trade_type.TradeType.TheVariants.{MarketBuy, MarketSell, StopLoss, LimitSell, LimitBuy}
use Rattle.brk_model.specs.Forms.{trade_type_with_code}
use Rattle.brk_model.specs.Records.{Customer, Permission, Charge, Band, TaxRate, CustomerTax, Kept}
use Rattle.brk_model.specs.Tables.{BrokerRow, AccountRow, SecurityRow, CashRow}
use Rattle.brk_tables_sql.proofs.Decode.{text_in}
use Rattle.brk_tables_schema.specs.Cells.{DeskRow, RuleRow, optional_natural_as_value, move_cells, rule_cells, desk_row_cells, kept_cells, broker_cells}
use Rattle.brk_tables_schema.specs.Cells.{customer_cells, account_cells, permission_cells, security_cells, charge_cells, band_cells, tax_rate_cells}
use Rattle.brk_tables_schema.specs.Cells.{customer_tax_cells}

abbrev pub natural : ℤ → ℕ
natural (pos n) = n
natural (negsuc n) = 0

abbrev pub number_in : Value → ℕ
number_in v = natural (id_in v)

abbrev pub maybe_in : Value → Option ℕ
maybe_in (Int z) = Some (natural z)
maybe_in _ = None

abbrev status_at : ℕ → TaxStatus
status_at zero = Untaxed
status_at (suc zero) = Withheld
status_at (suc (suc n)) = Reported

pub maybe_back : (o : Option ℕ) → maybe_in (optional_natural_as_value o) ≡ o
maybe_back None = refl
maybe_back (Some n) = refl

status_back : (s : TaxStatus) → status_at (tax_status_number s) ≡ s
status_back Untaxed = refl
status_back Withheld = refl
status_back Reported = refl

pub desk_back : Row → DeskRow
desk_back r = record { id = number_in (column r 0); schema = number_in (column r 1); last = maybe_in (column r 2) }

pub desk_is_back : (r : DeskRow) → desk_back (desk_row_cells r) ≡ r
unfolding desk_back
desk_is_back r = ap (λ o. let d : DeskRow = record r { last = o } in d) (maybe_back r.last)

pub kept_back : Row → Kept
kept_back r = record { key = record { batch = text_in (column r 0); n = number_in (column r 1) }; row_text = text_in (column r 2); line = text_in (column r 3) }

pub kept_is_back : (k : Kept) → kept_back (kept_cells k) ≡ k
unfolding kept_back text_in
kept_is_back k = refl

pub broker_back : Row → BrokerRow
broker_back r = record { id = number_in (column r 0); name = text_in (column r 1); trades = id_in (column r 2); commissions = number_in (column r 3) }

pub broker_is_back : (b : BrokerRow) → broker_back (broker_cells b) ≡ b
unfolding broker_back text_in
broker_is_back b = refl

pub customer_back : Row → Customer
customer_back r = record { id = number_in (column r 0); tier = number_in (column r 1); tax_id = text_in (column r 2); last_name = text_in (column r 3); first_name = text_in (column r 4) }

pub customer_is_back : (c : Customer) → customer_back (customer_cells c) ≡ c
unfolding customer_back text_in
customer_is_back c = refl

pub account_back : Row → AccountRow
account_back r = record {
  id = number_in (column r 0);
  customer = number_in (column r 1);
  broker = number_in (column r 2);
  name = text_in (column r 3);
  tax_status = status_at (number_in (column r 4));
  opening = id_in (column r 5);
  balance = id_in (column r 6);
}

pub account_is_back : (a : AccountRow) → account_back (account_cells a) ≡ a
unfolding account_back text_in
account_is_back a = ap (λ s. let r : AccountRow = record a { tax_status = s } in r) (status_back a.tax_status)

abbrev pub type_at : List ℕ → TradeType
type_at code = unwrap_or (trade_type_with_code code) MarketBuy

pub type_back : (k : TradeType) → type_at (trade_type_code k) ≡ k
type_back MarketBuy = refl
type_back MarketSell = refl
type_back StopLoss = refl
type_back LimitSell = refl
type_back LimitBuy = refl

pub permission_back : Row → Permission
permission_back r = record { account = number_in (column r 0); tax_id = text_in (column r 1); acl = text_in (column r 2); last_name = text_in (column r 3); first_name = text_in (column r 4) }

pub permission_is_back : (p : Permission) → permission_back (permission_cells p) ≡ p
unfolding permission_back text_in
permission_is_back p = refl

pub security_back : Row → SecurityRow
security_back r = record { symbol = text_in (column r 0); name = text_in (column r 1); exchange = text_in (column r 2); sector = text_in (column r 3) }

pub security_is_back : (s : SecurityRow) → security_back (security_cells s) ≡ s
unfolding security_back text_in
security_is_back s = refl

pub charge_back : Row → Charge
charge_back r = record { kind = type_at (text_in (column r 0)); tier = number_in (column r 1); amount = number_in (column r 2) }

pub charge_is_back : (c : Charge) → charge_back (charge_cells c) ≡ c
unfolding charge_back text_in
charge_is_back c = ap (λ k. let r : Charge = record c { kind = k } in r) (type_back c.kind)

pub band_back : Row → Band
band_back r = record {
  tier = number_in (column r 0);
  kind = type_at (text_in (column r 1));
  exchange = text_in (column r 2);
  from_qty =
      number_in (column r 3);
  to_qty = number_in (column r 4);
  rate = number_in (column r 5);
}

pub band_is_back : (b : Band) → band_back (band_cells b) ≡ b
unfolding band_back text_in
band_is_back b = ap (λ k. let r : Band = record b { kind = k } in r) (type_back b.kind)

pub tax_rate_back : Row → TaxRate
tax_rate_back r = record { id = number_in (column r 0); name = text_in (column r 1); rate = number_in (column r 2) }

pub tax_rate_is_back : (t : TaxRate) → tax_rate_back (tax_rate_cells t) ≡ t
unfolding tax_rate_back text_in
tax_rate_is_back t = refl

pub customer_tax_back : Row → CustomerTax
customer_tax_back r = record { customer = number_in (column r 0); tax = number_in (column r 1) }

pub customer_tax_is_back : (x : CustomerTax) → customer_tax_back (customer_tax_cells x) ≡ x
unfolding customer_tax_back
customer_tax_is_back x = refl

pub move_back : Row → CashRow
move_back r = record {
  id = number_in (column r 0);
  account = number_in (column r 1);
  trade = maybe_in (column r 2);
  stamp = number_in (column r 3);
  amount =
      id_in (column r 4);
  name = text_in (column r 5);
}

pub move_is_back : (m : CashRow) → move_back (move_cells m) ≡ m
unfolding move_back text_in
move_is_back m = ap (λ t. let r : CashRow = record m { trade = t } in r) (maybe_back m.trade)

pub rule_back : Row → RuleRow
rule_back r = record { id = number_in (column r 0); day = number_in (column r 1) }

pub rule_is_back : (r : RuleRow) → rule_back (rule_cells r) ≡ r
unfolding rule_back
rule_is_back r = refl
