use Rattle.std.proofs.Common.{◌≡◌, ◌==◌, ◌∙◌, ap, filter, map, refl, sym}
use Rattle.std.specs.Prelude.{nat_lt}
use Rattle.brk_ref.specs.Rows.{abstract_history_row}
use Rattle.brk_ref.specs.declared.history_row.HistoryRow as row
use Rattle.brk_model.specs.Lists.{sort_by}
use Rattle.brk_model.specs.Tables.{HistoryRow, Tables}
use Rattle.brk_store_reads.proofs.Retelling.{retold}
use Rattle.brk_model_explain.specs.Trades.{sorted_statuses_of_trade}
use Rattle.brk_explain_reads.proofs.Sorted.{map_sorted}
use Rattle.brk_explain_reads.proofs.orders.read_statuses.Goals as goal

pub returns : goal.returns
returns g c =
    let history = c.in_ok-history.history in
    retold g.S.Store c.args.store.now c.history_of_trade.new.self history c.in_ok-statuses.statuses
    (λ all (t : Tables). map abstract_history_row all.items ≡ filter (λ (r : HistoryRow). r.trade == c.args.trade) t.history)
    (λ statuses (t : Tables). map abstract_history_row statuses.items ≡ sorted_statuses_of_trade t c.args.trade)
    (λ t e. ap (map abstract_history_row) c.in_ok-statuses.ensures
    ∙ sym (map_sorted (λ (a b : row.HistoryRow). nat_lt a.stamp b.stamp) (λ (a b : HistoryRow). nat_lt a.stamp b.stamp) abstract_history_row history.items (λ a b. refl))
    ∙ ap (sort_by (λ (a b : HistoryRow). nat_lt a.stamp b.stamp)) e)
    c.in_ok-history.ensures.read
