use Rattle.brk_tables_scan.proofs.Continued.{continues_four}
use Rattle.brk_tables_scan.proofs.all_tables.decode_trade_group.Goals as goal

pub returns : goal.returns
returns c =
    record {
      decoded = continues_four _ _ _ _ _ _ _ _ _ _ _ _ _ _ (λ p q r s. record { trades = p; history = q; requests = r; holdings = s })
          c.in_ok-trades.ensures.decoding c.in_ok-history.ensures.decoding c.in_ok-requests.ensures.decoding c.in_ok-holdings.ensures.decoding;
    }
