use Rattle.std.proofs.Common.{◌∙◌, ◌+ℤ◌, ◌==◌, ℤ, Option, ap, find, map, option_map}
use Rattle.std.specs.Prelude.{bytes_eq}
use Rattle.brk_ref.specs.Rows.{abstract_summary_row}
use Rattle.brk_model.specs.Tables.{SummaryRow, Tables}
use Rattle.brk_desk_decisions.specs.OrderFactReads.{AreAssetsAndSharesOfAccount}
use Rattle.brk_store_required.specs.Valuation.{AreValuedSummariesOfAccount}
use Rattle.brk_store_reads.proofs.Retelling.{retold}
use Rattle.brk_desk_decisions.proofs.OrderFinds.{find-filter}
use Rattle.brk_desk_decisions.proofs.amounts.read_account_amounts.Goals as goal

pub returns-in-Some : goal.returns-in-Some
returns-in-Some g c =
    let account = c.args.account.now in
    let symbol = c.args.symbol.now in
    let held = c.in_ok-held.held in
    let shares = c.symbol_shares-shares.result in
    retold g.S.Store c.args.store.now c.read_valued_summaries.new.store held (c.in-Some.assets, shares)
    (λ held (t : Tables). AreValuedSummariesOfAccount t account.account.id held)
    (λ (amounts : ℤ × Option ℤ) (t : Tables). AreAssetsAndSharesOfAccount t account symbol amounts.0 amounts.1)
    (λ t p. record {
      assets_total = (rw c.in-Some.is at c.add_balance.ensures) ∙ ap (λ worth. account.balance +ℤ worth) p.value;
      shares_held = c.symbol_shares-shares.ensures
          ∙ ap (λ rows. option_map (λ (r : SummaryRow). r.qty) (find (λ (r : SummaryRow). bytes_eq r.symbol symbol) rows)) (ap (map abstract_summary_row) c.deref.ensures.value ∙ p.rows)
          ∙ ap (option_map (λ (r : SummaryRow). r.qty)) (find-filter (λ (r : SummaryRow). r.account == account.account.id) (λ (r : SummaryRow). bytes_eq r.symbol symbol) t.summaries);
    })
    c.in_ok-held.ensures.read
