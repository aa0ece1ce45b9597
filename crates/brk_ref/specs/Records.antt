-- The abstract value of each record of this crate.
use Rattle.std.specs.Prelude.{[], string_bytes}
use Rattle.brk_model.specs.Records.{Broker, Customer, Account, Permission, Charge, Band, TaxRate, CustomerTax, Key, Kept, Executor}
use Rattle.brk_model.specs.Commands.{Listing}
use Rattle.brk_model.specs.Tables.{BrokerRow, AccountRow, SecurityRow, LastTradeRow}
use Rattle.brk_ref.specs.declared.broker.Broker as broker
use Rattle.brk_ref.specs.declared.broker.BrokerRow as broker_row
use Rattle.brk_ref.specs.declared.customer.Customer as customer
use Rattle.brk_ref.specs.declared.account.Account as account
use Rattle.brk_ref.specs.declared.account.AccountRow as account_row
use Rattle.brk_ref.specs.declared.permission.Permission as permission
use Rattle.brk_ref.specs.declared.executor.Executor as executor
use Rattle.brk_ref.specs.declared.security.Security as security
use Rattle.brk_ref.specs.declared.listing.Listing as listing
use Rattle.brk_ref.specs.declared.last_trade.LastTrade as last_trade
use Rattle.brk_ref.specs.declared.charge.Charge as charge
use Rattle.brk_ref.specs.declared.band.Band as band
use Rattle.brk_ref.specs.declared.tax.Tax as tax
use Rattle.brk_ref.specs.declared.customer_tax.CustomerTax as customer_tax
use Rattle.brk_ref.specs.declared.key.Key as key
use Rattle.brk_ref.specs.declared.key.Kept as kept

-- The model's broker with the values of the typed broker `b`.
abbrev pub abstract_broker : broker.Broker → Broker
abstract_broker b = record { id = b.id; name = b.name }

-- The model's customer with the values of the typed customer `c`.
abbrev pub abstract_customer : customer.Customer → Customer
abstract_customer c = record { id = c.id; tier = c.tier; tax_id = c.tax_id; last_name = c.last_name; first_name = c.first_name }

-- The model's account with the values of the typed account `a`.
abbrev pub abstract_account : account.Account → Account
abstract_account a = record { id = a.id; customer = a.customer; broker = a.broker; name = a.name; tax_status = a.tax_status; opening = a.opening }

-- The model's permission with the values of the typed permission `p`.
abbrev pub abstract_permission : permission.Permission → Permission
abstract_permission p = record { account = p.account; acl = p.acl; tax_id = p.tax_id; last_name = p.last_name; first_name = p.first_name }

-- The model's executor with the values of the typed executor `e`.
abbrev pub abstract_executor : executor.Executor → Executor
abstract_executor e = record { first_name = e.first_name; last_name = e.last_name; tax_id = e.tax_id }

-- The model's SECURITY row with the values of the typed security `s`.
abbrev pub abstract_security_row : security.Security → SecurityRow
abstract_security_row s = record { symbol = s.symbol; name = s.name; exchange = s.exchange; sector = s.sector }

-- The model's listing with the values of the typed listing `l`: a security and its first price.
abbrev pub abstract_listing : listing.Listing → Listing
abstract_listing l = record { symbol = l.security.symbol; name = l.security.name; exchange = l.security.exchange; sector = l.security.sector; price = l.price }

-- The model's LAST_TRADE row with the values of the typed row `l`.
abbrev pub abstract_last_trade_row : last_trade.LastTrade → LastTradeRow
abstract_last_trade_row l = record { symbol = l.symbol; stamp = l.stamp; price = l.price; volume = l.volume }

-- The model's charge with the values of the typed charge `c`.
abbrev pub abstract_charge : charge.Charge → Charge
abstract_charge c = record { kind = c.kind; tier = c.tier; amount = c.amount }

-- The model's commission band with the values of the typed band `b`.
abbrev pub abstract_band : band.Band → Band
abstract_band b = record { tier = b.tier; kind = b.kind; exchange = b.exchange; from_qty = b.from_qty; to_qty = b.to_qty; rate = b.rate }

-- The model's tax rate with the values of the typed tax `t`.
abbrev pub abstract_tax_rate : tax.Tax → TaxRate
abstract_tax_rate t = record { id = t.id; name = t.name; rate = t.rate }

-- The model's tax of a customer with the values of the typed row `x`.
abbrev pub abstract_customer_tax : customer_tax.CustomerTax → CustomerTax
abstract_customer_tax x = record { customer = x.customer; tax = x.tax }

-- The model's key of a command with the values of the typed key `k`.
abbrev pub abstract_key : key.Key → Key
abstract_key k = record { batch = k.batch; n = k.n }

-- The model's KEPT row with the values of the typed row `k`.
abbrev pub abstract_kept_row : kept.Kept → Kept
abstract_kept_row k = record { key = abstract_key k.key; row_text = string_bytes k.row_text; line = string_bytes k.line }

-- The model's KEPT row with the key `k`, an empty stored request and an empty stored reply.
abbrev pub kept_row_with_empty_texts : key.Key → Kept
kept_row_with_empty_texts k = record { key = abstract_key k; row_text = []; line = [] }

-- The model's BROKER row with the values of the typed row `r`.
abbrev pub abstract_broker_row : broker_row.BrokerRow → BrokerRow
abstract_broker_row r = record { id = r.broker.id; name = r.broker.name; trades = r.trades; commissions = r.commissions }

-- The model's CUSTOMER_ACCOUNT row with the values of the typed row `r`.
abbrev pub abstract_account_row : account_row.AccountRow → AccountRow
abstract_account_row r = record {
  id = r.account.id;
  customer = r.account.customer;
  broker = r.account.broker;
  name = r.account.name;
  tax_status = r.account.tax_status;
  opening = r.account.opening;
  balance = r.balance;
}
