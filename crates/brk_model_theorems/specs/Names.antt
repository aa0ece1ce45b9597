-- References between the records of a base: named records exist, and trades are numbered from 1.
use Rattle.std.specs.Prelude.{◌≡◌, true, List, is_some}
use Rattle.std.specs.List.{AllByRecursion}
use Rattle.brk_model.specs.Records.{Account, Permission, CustomerTax, Trade, Movement}
use Rattle.brk_model.specs.Base.{Base, customer_with_id, account_with_id, tax_rate_record_with_id}
use Rattle.brk_model.specs.Names.{BrokerOfAccountExists, CustomerOfAccountExists, AccountOfTradeExists, SecurityOfTradeExists, AccountOfMovementExists}
use Rattle.brk_model.specs.Names.{TradesAreNumberedFrom}

-- The customer and the broker of the account `a` exist in `base`.
abbrev pub AccountReferencesResolve : Base → Account → Type 0
AccountReferencesResolve base a = CustomerOfAccountExists base a × BrokerOfAccountExists base a

-- The account of the permission `p` exists in `base`.
abbrev pub AccountOfPermissionExists : Base → Permission → Type 0
AccountOfPermissionExists base p = is_some (account_with_id base p.account) ≡ true

-- The customer and the tax rate of the customer's tax `x` exist in `base`.
abbrev pub CustomerTaxReferencesResolve : Base → CustomerTax → Type 0
CustomerTaxReferencesResolve base x = (is_some (customer_with_id base x.customer) ≡ true) × (is_some (tax_rate_record_with_id base x.tax) ≡ true)

-- The account and the security of the trade `t` exist in `base`.
abbrev pub TradeReferencesResolve : Base → Trade → Type 0
TradeReferencesResolve base t = AccountOfTradeExists base t × SecurityOfTradeExists base t

-- Every record to which the records of the five lists refer exists in `base`, and the trades of
-- `trades` are numbered from 1, in sequence.
pub record ReferencesResolve (base : Base) (accounts : List Account) (permissions : List Permission) (taxes : List CustomerTax) (trades : List Trade)
    (movements : List Movement) : Type 0 where
  pub parties : AllByRecursion (AccountReferencesResolve base) accounts
  pub permitted : AllByRecursion (AccountOfPermissionExists base) permissions
  pub taxed : AllByRecursion (CustomerTaxReferencesResolve base) taxes
  pub traded : AllByRecursion (TradeReferencesResolve base) trades
  pub numbered : TradesAreNumberedFrom 1 trades
  pub held : AllByRecursion (AccountOfMovementExists base) movements

-- Every record to which records of `base` refer exists in it, and its trades are numbered from 1.
abbrev pub BaseReferencesResolve : Base → Type 0
BaseReferencesResolve base = ReferencesResolve base base.accounts base.permissions base.customer_taxes base.trades base.movements
