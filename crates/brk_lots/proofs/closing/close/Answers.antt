use Rattle.std.proofs.Common.{ap, pos, ◌∙◌}
use Rattle.brk_lots.specs.declared.closed_values.Values.{Values}
use Rattle.brk_lots.proofs.closing.close.Goals as goal

pub returns-clause-closing : goal.returns-clause-closing
returns-clause-closing g c ls lifo given fresh =
    let closed = c.in_ok-closed.ensures.closed ls lifo given fresh in
    record {
      lots = closed.lots;
      bought = c.from.ensures ∙ ap (λ (v : Values). pos v.buy_value) closed.values;
      sold = c.from-2.ensures ∙ ap (λ (v : Values). pos v.sell_value) closed.values;
    }
