use Rattle.std.proofs.Common.{◌≡◌, None, Option, Some, find, option_map, subst}
use Rattle.std.specs.Prelude.{IfSome, bytes_eq}
use Rattle.brk_money.specs.OrderTypes.{trade_type_of_order_type}
use Rattle.brk_money.specs.declared.fault.CallFault.{CallFault}
use Rattle.brk_model.specs.Records.{Band}
use Rattle.brk_model.specs.Joins.{security_row_with_symbol}
use Rattle.brk_model.specs.Tables.{SecurityRow, Tables}
use Rattle.brk_ref.specs.Records.{abstract_security_row}
use Rattle.brk_ref.specs.declared.security.Security.{Security}
use Rattle.brk_trade_books.specs.TradeReads.{commission_band_of_quantity}
use Rattle.brk_store_reads.proofs.Retelling.{retold}
use Rattle.brk_store_reads.proofs.Sequences.{failed_after, read_with}
use Rattle.std.proofs.lemmas.Result.{err_from_is_err_and}
use Rattle.brk_store_reads.specs.ReadSequences.{single_read_changes_nothing}
use Rattle.brk_desk_decisions.proofs.order_check_reads.read_order_rate.Goals as goal

pub returns-in_ok-rate-in-Some : goal.returns-in_ok-rate-in-Some
returns-in_ok-rate-in-Some g c =
    let order = c.args.order.now in
    read_with g.S.Store c.args.store.now c.security.new.self c.read_band_rate.new.store {H = CallFault} (Some c.in-Some.security) c.in_ok-rate-in-Some.rate c.in_ok-rate-in-Some.rate
    (λ o (t : Tables). option_map abstract_security_row o ≡ find (λ (r : SecurityRow). bytes_eq r.symbol order.symbol) t.securities)
    (λ rate (t : Tables). rate ≡ option_map (λ (b : Band). b.rate) (commission_band_of_quantity t c.args.tier (trade_type_of_order_type order.order_type) c.in-Some.security.exchange order.qty))
    (λ rate (t : Tables). IfSome (security_row_with_symbol t order.symbol)
    (λ s. rate ≡ option_map (λ (b : Band). b.rate)
    (commission_band_of_quantity t c.args.tier (trade_type_of_order_type order.order_type) s.exchange order.qty)))
    (λ t e f. subst (λ x. IfSome x
    (λ (s : SecurityRow). c.in_ok-rate-in-Some.rate
    ≡ option_map (λ (b : Band). b.rate) (commission_band_of_quantity t c.args.tier (trade_type_of_order_type order.order_type) s.exchange order.qty))) e f)
    (rw c.in-Some.is at c.in_ok-security.ensures.read) (rw c.kind.ensures at c.in_ok-rate-in-Some.ensures)

pub returns-in-None : goal.returns-in-None
returns-in-None g c =
    let order = c.args.order.now in
    retold g.S.Store c.args.store.now c.security.new.self {V = Option Security} {X = Option _} None None
    (λ o (t : Tables). option_map abstract_security_row o ≡ find (λ (r : SecurityRow). bytes_eq r.symbol order.symbol) t.securities)
    (λ rate (t : Tables). IfSome (security_row_with_symbol t order.symbol)
    (λ s. rate ≡ option_map (λ (b : Band). b.rate)
    (commission_band_of_quantity t c.args.tier (trade_type_of_order_type order.order_type) s.exchange order.qty)))
    (λ t e. subst (λ x. IfSome x
    (λ (s : SecurityRow). None
    ≡ option_map (λ (b : Band). b.rate) (commission_band_of_quantity t c.args.tier (trade_type_of_order_type order.order_type) s.exchange order.qty))) e tt)
    (rw c.in-None.is at c.in_ok-security.ensures.read)

pub returns-in_err-rate-in-Some : goal.returns-in_err-rate-in-Some
returns-in_err-rate-in-Some g c =
    let old = c.args.store.now in
    let p = err_from_is_err_and c.from_residual-in_err-rate-in-Some.result c.from_residual-in_err-rate-in-Some.ensures.1 in
    rw p.1 (failed_after g.S.Store old c.security.new.self c.read_band_rate.new.store _ p.0 _ _
    (single_read_changes_nothing old c.security.new.self _ _ c.in_ok-security.ensures.read) c.in_err-rate-in-Some.ensures)
