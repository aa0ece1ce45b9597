use Rattle.brk_tables_scan.proofs.Continued.{continues_then}
use Rattle.brk_tables_scan.proofs.all_tables.decode_later_group.Goals as goal

pub returns : goal.returns
returns c =
    record { decoded = continues_then _ _ _ _ _ _ _ _ (λ p q. record { moves = p; rule = q }) c.in_ok-moves.ensures.decoding c.in_ok-rule.ensures.decoding }
