use Rattle.brk_tables_scan.proofs.Continued.{continues_four}
use Rattle.brk_tables_scan.proofs.all_tables.decode_listing_group.Goals as goal

pub returns : goal.returns
returns c =
    record {
      decoded = continues_four _ _ _ _ _ _ _ _ _ _ _ _ _ _ (λ p q r s. record { accounts = p; permissions = q; securities = r; last_trades = s })
          c.in_ok-accounts.ensures.decoding c.in_ok-permissions.ensures.decoding c.in_ok-securities.ensures.decoding c.in_ok-last_trades.ensures.decoding;
    }
