-- Reference data: the checks of a record that a command adds, and the plan of an accepted one.
use Rattle.std.specs.Prelude.{◌≡◌, ℕ, ◌+◌, Bool, true, not, nat_le, nat_lt, is_none, unwrap_or, List, [], ◌∷◌, ◌++◌, Option, Some, None}
use Rattle.brk_money.specs.Moments.{stamp_after}
use Rattle.brk_money.specs.declared.refusal.Refusal.TheVariants.{BadQty, NoAccount, NoCustomer, NoBroker, NoTax, Overlap, TaxSum, Range, ClockEnd}
use Rattle.brk_money.specs.declared.refusal.Limit.TheVariants as limit
use Rattle.brk_model.specs.Limits.{most_accounts_per_customer, greatest_tax_rate}
use Rattle.brk_model.specs.Tests.{RefusalCheck, first_refusal, duplicate_check}
use Rattle.brk_ref.specs.declared.band.Band.{Band}
use Rattle.brk_ref.specs.declared.last_trade.LastTrade.{LastTrade}
use Rattle.brk_ref.specs.declared.listing.Listing.{Listing}
use Rattle.brk_trade_rows.specs.declared.change.Change.{Change}
use Rattle.brk_trade_rows.specs.declared.change.Change.TheVariants as change
use Rattle.brk_trade_plans.specs.declared.plan.Plan.{Plan}
use Rattle.brk_trade_plans.specs.declared.reference.ReferenceFacts.{ReferenceFacts}
use Rattle.brk_trade_plans.specs.declared.reference.Reference.{Reference}
use Rattle.brk_trade_plans.specs.declared.reference.Reference.TheVariants as reference
use Rattle.brk_trade_plans.specs.declared.reply.Reply.TheVariants.{Booked}

-- The checks of a new account, in this order: customer and broker exist (`NoCustomer`, `NoBroker`),
-- its id is new (`Exists`), and its customer has fewer than 10 accounts (`Range(Accounts)`).
abbrev pub account_checks : ReferenceFacts → List RefusalCheck
account_checks found =
    (not found.customer, NoCustomer) ∷ (not found.broker, NoBroker) ∷ duplicate_check found.same_id
    ∷ (nat_le most_accounts_per_customer found.accounts, Range limit.Accounts) ∷ []

-- The checks of a new permission against the facts `found`, in this order: its account exists
-- (`NoAccount`), and no permission has its account and its tax id (`Exists`).
abbrev pub permission_checks : ReferenceFacts → List RefusalCheck
permission_checks found = (not found.account, NoAccount) ∷ duplicate_check found.same_id ∷ []

-- The checks of a new commission band, in this order: its upper bound is not below its lower bound
-- (`BadQty`), and no band of its tier, type and exchange overlaps it (`Overlap`).
abbrev pub band_checks : Band → ReferenceFacts → List RefusalCheck
band_checks band found = (nat_lt band.to_qty band.from_qty, BadQty) ∷ (found.overlaps, Overlap) ∷ []

-- True if a customer's tax rates and another rate (0 if `None`) sum to more than 100,000
-- hundred-thousandths (100 percent), or if the former do already (`None`).
abbrev pub exceeds_tax_limit : Option ℕ → Option ℕ → Bool
exceeds_tax_limit None rate = true
exceeds_tax_limit (Some rates) rate = nat_lt greatest_tax_rate (rates + unwrap_or rate 0)

-- The checks of a new tax of a customer, in this order: both exist (`NoCustomer`, `NoTax`), it is
-- not paid yet (`Exists`), and the rates with it do not exceed the greatest rate (`TaxSum`).
abbrev pub customer_tax_checks : ReferenceFacts → List RefusalCheck
customer_tax_checks found =
    (not found.customer, NoCustomer) ∷ (is_none found.rate, NoTax) ∷ duplicate_check found.same_id
    ∷ (exceeds_tax_limit found.rates found.rate, TaxSum) ∷ []

-- The checks of a new record of reference data. Accounts, permissions, bands and taxes of customers
-- have their own; any other record must have a new key, and a customer a new tax id (`Exists`).
abbrev pub reference_checks : Reference → ReferenceFacts → List RefusalCheck
reference_checks (reference.Broker broker) found = duplicate_check found.same_id ∷ []
reference_checks (reference.Customer customer) found = duplicate_check found.same_id ∷ duplicate_check found.same_tax_id ∷ []
reference_checks (reference.Account account) found = account_checks found
reference_checks (reference.Permission permission) found = permission_checks found
reference_checks (reference.Security listing) found = duplicate_check found.same_id ∷ []
reference_checks (reference.Charge charge) found = duplicate_check found.same_id ∷ []
reference_checks (reference.Band band) found = band_checks band found
reference_checks (reference.TaxRate tax) found = duplicate_check found.same_id ∷ []
reference_checks (reference.CustomerTax pays) found = customer_tax_checks found

-- The check that a stamp later than `last`, if there is one, exists at `now` (`ClockEnd`).
abbrev pub later_stamp_check : Option ℕ → ℕ → RefusalCheck
later_stamp_check last now = (is_none (stamp_after last now), ClockEnd)

-- The row change that adds a record of reference data; for a listing, its SECURITY row only.
abbrev pub row_change_adding_record : Reference → Change
row_change_adding_record (reference.Broker broker) = change.AddBroker broker
row_change_adding_record (reference.Customer customer) = change.AddCustomer customer
row_change_adding_record (reference.Account account) = change.AddAccount account
row_change_adding_record (reference.Permission permission) = change.AddPermission permission
row_change_adding_record (reference.Security listing) = change.AddSecurity listing.security
row_change_adding_record (reference.Charge charge) = change.AddCharge charge
row_change_adding_record (reference.Band band) = change.AddBand band
row_change_adding_record (reference.TaxRate tax) = change.AddTaxRate tax
row_change_adding_record (reference.CustomerTax pays) = change.AddCustomerTax pays

-- The first LAST_TRADE row of a listing: its first price, volume 0 and the stamp `stamp`.
abbrev pub initial_last_trade_of_listing : ℕ → Listing → LastTrade
initial_last_trade_of_listing stamp listing = record { symbol = listing.security.symbol; stamp = stamp; price = listing.price; volume = 0 }

-- The row changes that add a reference record; for a listing, also its first LAST_TRADE row.
abbrev pub row_changes_adding_record : ℕ → Reference → List Change
row_changes_adding_record stamp (reference.Security listing) =
    change.AddSecurity listing.security ∷ change.AddLastTrade (initial_last_trade_of_listing stamp listing) ∷ []
row_changes_adding_record stamp other = row_change_adding_record other ∷ []

-- `plan` adds `reference` at the stamp of the command. `found` are the facts in the tables, `last`
-- is the last stamp, `now` the clock reading. The record passes its checks, a later stamp exists,
-- the last stamp is set, and the reply is `Booked` with the stamp.
pub record IsReferencePlan (reference : Reference) (found : ReferenceFacts) (last : Option ℕ) (now : ℕ) (plan : Plan) : Type 0 where
  pub stamp : ℕ
  pub accepted : first_refusal (reference_checks reference found ++ later_stamp_check last now ∷ []) ≡ None
  pub stamped : stamp_after last now ≡ Some stamp
  pub replied : plan.reply ≡ Booked stamp
  pub changes : plan.changes.items ≡ row_changes_adding_record stamp reference ++ change.SetLastStamp stamp ∷ []
