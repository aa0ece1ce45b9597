use Rattle.std.proofs.Common.{◌≡◌, ◌∙◌, ◌==◌, filter, map, rules, subst}
use Rattle.std.specs.List.{list_any}
use Rattle.brk_ref.specs.Rows.{abstract_trade_row}
use Rattle.brk_ref.specs.declared.trade_row.TradeRow as trade
use Rattle.brk_model.specs.Tables.{AccountRow, Tables, TradeRow}
use Rattle.brk_model_explain.specs.BrokerLines.{broker_of_account_or_zero, completed_trades_of_broker}
use Rattle.brk_store.specs.Walked.{WalkPost, completed_trades_by_stamp}
use Rattle.brk_explain_reads.specs.declared.brokers.AccountFilter.{AccountFilter}
use Rattle.brk_explain_reads.proofs.Skipped.{accounts_known, trades_picked, walk_none, walk_on}
use Rattle.brk_explain_reads.proofs.brokers.visit_broker_trades.Goals as goal

pub returns-in-Err-clause-walked : goal.returns-in-Err-clause-walked
returns-in-Err-clause-walked g c =
    walk_none g.S.Store c.args.store.now c.broker_account_ids.new.self abstract_trade_row (λ t. completed_trades_of_broker t c.args.broker) g.V.Visitor.takes
    g.V.Visitor.stops c.args.visitor.now c.in-Err.fault _ (rw c.in-Err.is at c.broker_account_ids.ensures.read)

pub returns-clause-walked : goal.returns-clause-walked
returns-clause-walked g c =
    subst (λ v. WalkPost g.S.Store c.args.store.now c.visit_completed_trades.new.self abstract_trade_row (λ t. completed_trades_of_broker t c.args.broker)
    g.V.Visitor.takes g.V.Visitor.stops c.args.visitor.now v c.visit_completed_trades.result)
    (search (rules, c.visit_completed_trades.ensures.leads.0))
    (walk_on g.S.Store c.args.store.now c.broker_account_ids.new.self c.visit_completed_trades.new.self abstract_trade_row completed_trades_by_stamp (λ t. completed_trades_of_broker t c.args.broker)
    (λ (v : AccountFilter g.row.V.Denot). v.visitor.now) (λ v. v.accounts.now) (λ all (r : trade.TradeRow). list_any (λ i. i == r.account) all)
    g.V.Visitor.takes g.V.Visitor.stops _ c.visit_completed_trades.new.visitor
    c.visit_completed_trades.result c.visit_completed_trades.ensures.walked
    c.in-Ok.accounts (λ all (t : Tables). all.items ≡ map (λ (a : AccountRow). a.id) (filter (λ (a : AccountRow). a.broker == c.args.broker) t.accounts))
    (rw c.in-Ok.is at c.broker_account_ids.ensures.read)
    (λ t (u : TradeRow). broker_of_account_or_zero t u.account == c.args.broker)
    (λ clean on t holds e r. accounts_known g.S.Store c.args.store.now clean on t holds c.args.broker c.get-least.ensures.low c.as_slice.result.now (c.as_slice.ensures.value ∙ e) r.account)
    (trades_picked c.args.broker))

pub returns-clause-ready : goal.returns-clause-ready
returns-clause-ready g c = subst g.V.Visitor.ready (search (rules, c.visit_completed_trades.ensures.leads.0)) c.visit_completed_trades.ensures.ready

pub returns-clause-leads : goal.returns-clause-leads
returns-clause-leads g c = subst (g.V.Visitor.leads c.args.visitor.now) (search (rules, c.visit_completed_trades.ensures.leads.0)) c.visit_completed_trades.ensures.leads.1
