-- The formats of a command's fields and of a key that an audit needs. A command of typed values
-- meets them; not every command that meets them is well-formed (`IsWellFormedCommand`).
use Rattle.brk_money.specs.OrderTypes.{price_of_order_type}
use Rattle.brk_money.specs.Moments.{greatest_day}
use Rattle.std.specs.Prelude.{◌≡◌, ⊤, ℕ, ◌&&◌, Bool, true, nat_le, IfSome}
use Rattle.std.specs.List.{AllByRecursion}
use Rattle.brk_model.specs.Limits.{greatest_amount, greatest_commission_rate, is_in_range}
use Rattle.brk_model.specs.Schemas.{third_schema}
use Rattle.brk_model.specs.Records.{Band, Key}
use Rattle.brk_model.specs.Commands.{Command, Listing, Order, Tick, AddBroker, AddCustomer, AddAccount, AddPermission, AddSecurity, AddCharge}
use Rattle.brk_model.specs.Commands.{AddBand, AddTaxRate, AddCustomerTax, PlaceOrder, FeedTicks, CancelTrade, CompleteTrade, ChangeExecutors}
use Rattle.brk_model.specs.Commands.{ChangeCashTypes, ChangeCashNames, DepositCash, WithdrawCash, SetOneDay}
use Rattle.brk_model.specs.Form.{has_well_formed_tier_exchange_and_bounds, is_well_formed_charge_row, is_well_formed_customer_row, is_price}
use Rattle.brk_model.specs.Form.{is_quantity_in_schema, is_well_formed_key, are_well_formed_listing_texts, is_well_formed_tax_rate_row}
use Rattle.brk_model.specs.Form.{has_well_formed_permission_texts}
use Rattle.brk_audit_theorems.specs.Sound.{is_well_formed_account, is_well_formed_broker}

-- True if the texts of the listing are well-formed and its price is within its limits (`is_price`).
abbrev pub is_well_formed_listing : Listing → Bool
is_well_formed_listing l = are_well_formed_listing_texts l.symbol l.name l.exchange l.sector && is_price l.price

-- True if tier and exchange of the band are well-formed, its bounds are quantities in the third
-- schema, and its rate is at most `greatest_commission_rate`; the order of bounds is not checked.
abbrev pub is_well_formed_band : Band → Bool
is_well_formed_band b = has_well_formed_tier_exchange_and_bounds third_schema b && nat_le b.rate greatest_commission_rate

-- The order's quantity is within the limits of the third schema, and its price, if it has one, is
-- within its limits (`is_price`). Its other fields are not checked.
pub record OrderMeetsAuditFormats (o : Order) : Type 0 where
  pub qty : is_quantity_in_schema third_schema o.qty ≡ true
  pub price : IfSome (price_of_order_type o.order_type) (λ p. is_price p ≡ true)

-- The price of the tick is within its limits (`is_price`); its symbol and quantity are not checked.
abbrev pub TickMeetsAuditFormats : Tick → Type 0
TickMeetsAuditFormats tick = is_price tick.price ≡ true

-- True if the amount of a movement, in cents, is at least 1 and at most the greatest amount.
abbrev pub is_movement_amount_within_limits : ℕ → Bool
is_movement_amount_within_limits n = is_in_range 1 greatest_amount n

-- The fields of the command whose formats and limits an audit checks are well-formed. Not checked
-- are whether ids and symbols exist, the order of a band's bounds, and the number of ids or ticks.
-- Vacuous for a customer's tax, a cancel, a text update and a feed without ticks.
abbrev pub MeetsAuditFormats : Command → Type 0
MeetsAuditFormats (AddBroker b) = is_well_formed_broker b ≡ true
MeetsAuditFormats (AddCustomer c) = is_well_formed_customer_row c ≡ true
MeetsAuditFormats (AddAccount a) = is_well_formed_account a ≡ true
MeetsAuditFormats (AddPermission p) = has_well_formed_permission_texts p ≡ true
MeetsAuditFormats (AddSecurity l) = is_well_formed_listing l ≡ true
MeetsAuditFormats (AddCharge c) = is_well_formed_charge_row c ≡ true
MeetsAuditFormats (AddBand b) = is_well_formed_band b ≡ true
MeetsAuditFormats (AddTaxRate r) = is_well_formed_tax_rate_row r ≡ true
MeetsAuditFormats (AddCustomerTax x) = ⊤
MeetsAuditFormats (PlaceOrder o) = OrderMeetsAuditFormats o
MeetsAuditFormats (FeedTicks ticks) = AllByRecursion TickMeetsAuditFormats ticks
MeetsAuditFormats (CancelTrade id) = ⊤
MeetsAuditFormats (CompleteTrade id price) = is_price price ≡ true
MeetsAuditFormats (ChangeExecutors ids) = ⊤
MeetsAuditFormats (ChangeCashTypes account first last) = ⊤
MeetsAuditFormats (ChangeCashNames symbol first last) = ⊤
MeetsAuditFormats (DepositCash account amount) = is_movement_amount_within_limits amount ≡ true
MeetsAuditFormats (WithdrawCash account amount) = is_movement_amount_within_limits amount ≡ true
MeetsAuditFormats (SetOneDay day) = nat_le day greatest_day ≡ true

-- The batch name of the key is well-formed, and its row number is from 1 to the greatest id.
abbrev pub IsWellFormedKey : Key → Type 0
IsWellFormedKey key = is_well_formed_key key ≡ true
