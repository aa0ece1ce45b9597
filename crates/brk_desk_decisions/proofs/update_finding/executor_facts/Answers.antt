use Rattle.std.proofs.Common.{Option, Some, None, true, ◌≡◌}
use Rattle.std.specs.Global.{Vec}
use Rattle.std.specs.List.{list_any}
use Rattle.std.specs.Prelude.{MatchOption, is_none}
use Rattle.brk_model.specs.Joins.{trade_row_with_id}
use Rattle.brk_model.specs.Tables.{Tables}
use Rattle.brk_ref.specs.declared.trade_row.TradeRow.{TradeRow}
use Rattle.brk_ref_orders.specs.declared.update.Update.TheVariants as update
use Rattle.brk_store_reads.proofs.Sequences.{reads_retold}
use Rattle.brk_trade_books.specs.TradeReads.{AreTradesWithIds}
use Rattle.brk_trade_theorems.specs.Corrections.{UpdateFactsMatchTables}
use Rattle.brk_trade_plans.specs.declared.corrected.TextUpdate.{TextUpdate}
use Rattle.brk_trade_plans.specs.declared.corrected.TextUpdate.TheVariants.{Executors}
use Rattle.brk_desk_decisions.proofs.update_finding.executor_facts.Goals as goal

pub returns-in-Some : goal.returns-in-Some
returns-in-Some g c =
    let ids = c.args.trades.now in
    reads_retold g.S.Store c.args.store.now c.read_trades_by_ids.new.store {V = Option (Vec TradeRow)} {X = Option TextUpdate} (Some c.in-Some.trades) (Some (Executors c.in-Some.trades))
    (λ found (t : Tables). MatchOption found (list_any (λ id. is_none (trade_row_with_id t id)) ids ≡ true) (λ trades. AreTradesWithIds t ids trades.items))
    (λ found (t : Tables). UpdateFactsMatchTables t (update.Executors c.args.trades.now) found)
    (λ t e. e)
    (rw (c.in-Some.is, c.ids.ensures) at c.in_ok-trades.ensures.read)

pub returns-in-None : goal.returns-in-None
returns-in-None g c =
    let ids = c.args.trades.now in
    reads_retold g.S.Store c.args.store.now c.read_trades_by_ids.new.store {V = Option (Vec TradeRow)} {X = Option TextUpdate} None None
    (λ found (t : Tables). MatchOption found (list_any (λ id. is_none (trade_row_with_id t id)) ids ≡ true) (λ trades. AreTradesWithIds t ids trades.items))
    (λ found (t : Tables). UpdateFactsMatchTables t (update.Executors c.args.trades.now) found)
    (λ t e. e)
    (rw (c.in-None.is, c.ids.ensures) at c.in_ok-trades.ensures.read)
