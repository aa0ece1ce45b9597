use Rattle.brk_tables_scan.proofs.Continued.{continues_four}
use Rattle.brk_tables_scan.proofs.all_tables.decode_terms_group.Goals as goal

pub returns : goal.returns
returns c =
    record {
      decoded = continues_four _ _ _ _ _ _ _ _ _ _ _ _ _ _ (λ p q r s. record { charges = p; bands = q; tax_rates = r; customer_taxes = s })
          c.in_ok-charges.ensures.decoding c.in_ok-bands.ensures.decoding c.in_ok-tax_rates.ensures.decoding c.in_ok-customer_taxes.ensures.decoding;
    }
