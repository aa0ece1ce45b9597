use Rattle.std.proofs.Common.{◌≡◌}
use Rattle.brk_model.specs.Tables.{Tables}
use Rattle.brk_store_required.specs.Valuation.{AreValuedSummariesOfAccount, market_value_of_account}
use Rattle.brk_store_reads.proofs.Retelling.{retold}
use Rattle.brk_store_required.proofs.valuation.read_holdings_value.Goals as goal

pub returns : goal.returns
returns g c =
    let held = c.in_ok-held.held in
    record {
      read = retold g.S.Store c.args.store.now c.read_valued_summaries.new.store held held.value
          (λ held (t : Tables). AreValuedSummariesOfAccount t c.args.account held)
          (λ worth (t : Tables). worth ≡ market_value_of_account t c.args.account)
          (λ t p. p.value)
          c.in_ok-held.ensures.read;
    }
