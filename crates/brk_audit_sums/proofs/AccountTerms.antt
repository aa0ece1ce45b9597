-- The terms of accounts in a map equal those of the rows.
use Rattle.std.proofs.Common.{◌≡◌, ℕ, ◌==◌, List, refl, sym, ◌∙◌, ap, Option, Some, None}
use Rattle.std.specs.Prelude.{find, option_map}
use Rattle.std.specs.Option.{option_map_or}
use Rattle.std.specs.Ordering.{nat_cmp}
use Rattle.std.specs.BTreeMap.{BTreeMap, get}
use Rattle.brk_money.specs.declared.tax_status.TaxStatus.TheVariants.{Untaxed}
use Rattle.brk_trade_books.proofs.Reading.{find-map}
use Rattle.brk_ref.specs.Records.{abstract_account_row}
use Rattle.brk_ref.specs.declared.account.AccountRow.{AccountRow}
use Rattle.brk_trade_rows.specs.Sheets.{abstract_sheets}
use Rattle.brk_trade_rows.specs.declared.sheets.Sheets.{Sheets}
use Rattle.brk_audit_sums.specs.AccountTerms.{account_broker_in_terms, account_tax_status_in_terms, terms_of_account_row}
use Rattle.brk_audit_sums.proofs.Sums.{account_broker_or_zero, account_tax_status_or_untaxed}
use Rattle.brk_audit_sums.specs.declared.account_terms.AccountTerms.{AccountTerms}

-- a map has the terms of some accounts
abbrev pub HasTerms : BTreeMap ℕ AccountTerms → List AccountRow → Type 0
HasTerms terms accounts = (id : ℕ) → get nat_cmp terms id ≡ option_map terms_of_account_row (find (λ a. a.account.id == id) accounts)

pub same_brokers : (s : Sheets) (terms : BTreeMap ℕ AccountTerms) → HasTerms terms s.accounts.items → (id : ℕ) → account_broker_in_terms terms id ≡ account_broker_or_zero (abstract_sheets s) id
same_brokers s terms h id =
    ap (λ o. option_map_or (λ x. x.broker) o 0) (h id) ∙ of_row (find (λ a. a.account.id == id) s.accounts.items)
    ∙ sym (ap (λ o. option_map_or (λ a. a.broker) o 0) (find-map (λ a. a.id == id) abstract_account_row s.accounts.items))
  where
    of_row : (o : Option AccountRow) → option_map_or (λ x. x.broker) (option_map terms_of_account_row o) 0 ≡ option_map_or (λ a. a.broker) (option_map abstract_account_row o) 0
    of_row None = refl
    of_row (Some a) = refl

pub same_tax_statuses : (s : Sheets) (terms : BTreeMap ℕ AccountTerms) → HasTerms terms s.accounts.items → (id : ℕ)
    → account_tax_status_in_terms terms id ≡ account_tax_status_or_untaxed (abstract_sheets s) id
same_tax_statuses s terms h id =
    ap (λ o. option_map_or (λ x. x.tax_status) o Untaxed) (h id) ∙ of_row (find (λ a. a.account.id == id) s.accounts.items)
    ∙ sym (ap (λ o. option_map_or (λ a. a.tax_status) o Untaxed) (find-map (λ a. a.id == id) abstract_account_row s.accounts.items))
  where
    of_row : (o : Option AccountRow) → option_map_or (λ x. x.tax_status) (option_map terms_of_account_row o) Untaxed ≡ option_map_or (λ a. a.tax_status) (option_map abstract_account_row o) Untaxed
    of_row None = refl
    of_row (Some a) = refl
