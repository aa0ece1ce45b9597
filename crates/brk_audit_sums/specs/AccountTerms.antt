-- The terms of accounts (broker and tax status), in a map from their ids.
use Rattle.std.specs.Prelude.{ℕ}
use Rattle.std.specs.Option.{option_map_or}
use Rattle.std.specs.Ordering.{nat_cmp}
use Rattle.std.specs.BTreeMap.{BTreeMap, get}
use Rattle.brk_money.specs.declared.tax_status.TaxStatus.{TaxStatus}
use Rattle.brk_money.specs.declared.tax_status.TaxStatus.TheVariants.{Untaxed}
use Rattle.brk_ref.specs.declared.account.AccountRow.{AccountRow}
use Rattle.brk_audit_sums.specs.declared.account_terms.AccountTerms.{AccountTerms}

-- The broker and the tax status in the row `a` of CUSTOMER_ACCOUNT.
abbrev pub terms_of_account_row : AccountRow → AccountTerms
terms_of_account_row a = record { broker = a.account.broker; tax_status = a.account.tax_status }

-- The broker of the account in the map `terms`, or 0 if the map does not contain the account.
abbrev pub account_broker_in_terms : BTreeMap ℕ AccountTerms → ℕ → ℕ
account_broker_in_terms terms account = option_map_or (λ x. x.broker) (get nat_cmp terms account) 0

-- The tax status of the account in the map `terms`, or `Untaxed` if it is not there.
abbrev pub account_tax_status_in_terms : BTreeMap ℕ AccountTerms → ℕ → TaxStatus
account_tax_status_in_terms terms account = option_map_or (λ x. x.tax_status) (get nat_cmp terms account) Untaxed
