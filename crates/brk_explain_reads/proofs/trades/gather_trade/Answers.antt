use Rattle.std.proofs.Common.{◌≡◌, ◌==◌, ◌∙◌, ℕ, None, Option, Some, find, option_map, sym}
use Rattle.brk_money.specs.declared.fault.CallFault.{CallFault}
use Rattle.brk_ref.specs.Rows.{abstract_trade_row}
use Rattle.brk_ref.specs.declared.trade_row.TradeRow as row
use Rattle.brk_model.specs.Tables.{Tables, TradeRow}
use Rattle.brk_store_reads.proofs.Retelling.{retold}
use Rattle.brk_explain_rows.specs.Details.{AreDetailsOfTrade}
use Rattle.brk_explain_rows.specs.declared.details.TradeDetails.{TradeDetails}
use Rattle.brk_explain_reads.specs.Found.{IsOrderOfTrade, IsResultOfOrder}
use Rattle.brk_store_reads.proofs.Sequences.{read_with, none_read}
use Rattle.brk_explain_reads.proofs.Reading.{read_failed, both_change_nothing}
use Rattle.std.proofs.lemmas.Result.{err_from_is_err_and}
use Rattle.brk_explain_reads.proofs.DetailParts.{details_completed, details_ordered}
use Rattle.brk_explain_reads.proofs.trades.gather_trade.Goals as goal

-- the trade with an id
abbrev IsRowOf : ℕ → Option row.TradeRow → Tables → Type 0
IsRowOf id o t = option_map abstract_trade_row o ≡ find (λ (r : TradeRow). r.id == id) t.trades

pub returns-in_default : goal.returns-in_default
returns-in_default g c =
    retold g.S.Store c.args.store.now c.trade.new.self {V = Option row.TradeRow} {X = Option TradeDetails} None None
    (IsRowOf c.args.trade) (AreDetailsOfTrade c.args.trade) (λ t e. sym e)
    (rw c.in_default.is at c.in_ok-row.ensures.read)

pub returns-then-not-is_completed : goal.returns-then-not-is_completed
returns-then-not-is_completed g c =
    let row = c.in-Some.row in
    let order = c.in_ok-order.order in
    let details : TradeDetails = record { order = order; result = None } in
    read_with g.S.Store c.args.store.now c.trade.new.self c.read_order_details.new.store {H = CallFault} (Some row) order (Some details)
    (IsRowOf c.args.trade) (λ order (t : Tables). IsOrderOfTrade row order t) (AreDetailsOfTrade c.args.trade)
    (λ t e k. (abstract_trade_row row, sym e, details_ordered t row order k (sym c.is_completed.ensures ∙ c.if-not-is_completed.true)))
    (rw c.in-Some.is at c.in_ok-row.ensures.read) c.in_ok-order.ensures

pub returns : goal.returns
returns g c =
    let old = c.args.store.now in
    let row = c.in-Some.row in
    let order = c.in_ok-order.order in
    let outcome = c.in_ok-outcome.outcome in
    let details : TradeDetails = record { order = order; result = Some outcome } in
    read_with g.S.Store old c.read_order_details.new.store c.read_result_details.new.store {H = CallFault} order outcome (Some details)
    (λ order (t : Tables). (Some (abstract_trade_row row) ≡ find (λ (r : TradeRow). r.id == c.args.trade) t.trades) × IsOrderOfTrade row order t)
    (λ details (t : Tables). IsResultOfOrder order details t)
    (AreDetailsOfTrade c.args.trade)
    (λ t k come. (abstract_trade_row row, sym k.0, details_completed t row order outcome k.1 (sym c.is_completed.ensures ∙ c.if-not-is_completed.false) come))
    (read_with g.S.Store old c.trade.new.self c.read_order_details.new.store {H = CallFault} (Some row) order order
    (IsRowOf c.args.trade) (λ order (t : Tables). IsOrderOfTrade row order t)
    (λ order (t : Tables). (Some (abstract_trade_row row) ≡ find (λ (r : TradeRow). r.id == c.args.trade) t.trades) × IsOrderOfTrade row order t)
    (λ t e k. (e, k)) (rw c.in-Some.is at c.in_ok-row.ensures.read) c.in_ok-order.ensures)
    c.in_ok-outcome.ensures

pub returns-in_err-outcome : goal.returns-in_err-outcome
returns-in_err-outcome g c =
    let old = c.args.store.now in
    let row = c.in-Some.row in
    let order = c.in_ok-order.order in
    let p = err_from_is_err_and c.from_residual-in_err-outcome.result c.from_residual-in_err-outcome.ensures.1 in
    rw p.1
    (read_failed g.S.Store old c.read_order_details.new.store c.read_result_details.new.store order _ p.0
    (λ order (t : Tables). (Some (abstract_trade_row row) ≡ find (λ (r : TradeRow). r.id == c.args.trade) t.trades) × IsOrderOfTrade row order t)
    (λ details (t : Tables). IsResultOfOrder order details t)
    (AreDetailsOfTrade c.args.trade)
    (read_with g.S.Store old c.trade.new.self c.read_order_details.new.store {H = CallFault} (Some row) order order
    (IsRowOf c.args.trade) (λ order (t : Tables). IsOrderOfTrade row order t)
    (λ order (t : Tables). (Some (abstract_trade_row row) ≡ find (λ (r : TradeRow). r.id == c.args.trade) t.trades) × IsOrderOfTrade row order t)
    (λ t e k. (e, k)) (rw c.in-Some.is at c.in_ok-row.ensures.read) c.in_ok-order.ensures)
    c.in_err-outcome.ensures)

pub returns-in_err-order : goal.returns-in_err-order
returns-in_err-order g c =
    let old = c.args.store.now in
    let mid = c.trade.new.self in
    let end = c.read_order_details.new.store in
    let p = err_from_is_err_and c.from_residual-in_err-order.result c.from_residual-in_err-order.ensures.1 in
    rw p.1 (none_read g.S.Store old end p.0 _ (both_change_nothing g.S.Store old mid end _ _ _ _ c.in_ok-row.ensures.read c.in_err-order.ensures))
