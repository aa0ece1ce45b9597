use Rattle.std.proofs.Common.{refl}
use Rattle.brk_tables_scan.proofs.Continued.{continues_three}
use Rattle.brk_tables_scan.proofs.all_tables.decode_owner_group.Goals as goal

pub returns : goal.returns
returns c =
    record {
      decoded = continues_three _ _ _ _ _ _ _ _ _ _ _ (λ p q r. record { desk = p; kept = refl; brokers = q; customers = r })
          c.in_ok-last.ensures.decoding c.in_ok-brokers.ensures.decoding c.in_ok-customers.ensures.decoding;
    }
