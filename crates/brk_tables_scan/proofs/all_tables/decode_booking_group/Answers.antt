use Rattle.brk_tables_scan.proofs.Continued.{continues_four}
use Rattle.brk_tables_scan.proofs.all_tables.decode_booking_group.Goals as goal

pub returns : goal.returns
returns c =
    record {
      decoded = continues_four _ _ _ _ _ _ _ _ _ _ _ _ _ _ (λ p q r s. record { summaries = p; holding_history = q; settlements = r; cash = s })
          c.in_ok-summaries.ensures.decoding c.in_ok-holding_history.ensures.decoding c.in_ok-settlements.ensures.decoding c.in_ok-cash.ensures.decoding;
    }
