use Rattle.std.proofs.Common.{◌≡◌, ◌==◌, filter, map, option_map}
use Rattle.std.specs.Prelude.{◌&&◌, bytes_eq}
use Rattle.brk_money.specs.Kinds.{is_same_trade_type}
use Rattle.brk_ref.specs.Rows.{abstract_trade_row}
use Rattle.brk_model.specs.Records.{Band}
use Rattle.brk_model.specs.Tables.{Tables}
use Rattle.brk_ref.specs.Records.{abstract_band}
use Rattle.brk_store_reads.proofs.Retelling.{retold}
use Rattle.brk_model_explain.specs.Trades.{band_for_tier_and_exchange}
use Rattle.brk_explain_reads.proofs.TermParts.{band_known}
use Rattle.brk_explain_reads.proofs.terms.band_for_tier.Goals as goal

pub returns : goal.returns
returns g c =
    let order = c.args.order.now in
    let u = abstract_trade_row order.trade in
    let bands = c.in_ok-bands.bands in
    retold g.S.Store c.args.store.now c.commission_bands.new.self bands c.band_with_quantity.result
    (λ all (t : Tables). map abstract_band all.items ≡ filter (λ (r : Band). (r.tier == c.args.tier) && is_same_trade_type r.kind u.kind && bytes_eq r.exchange order.security.exchange) t.bands)
    (λ band (t : Tables). option_map abstract_band band ≡ band_for_tier_and_exchange t u c.args.tier order.security.exchange)
    (λ t e. band_known t u c.args.tier order.security.exchange (option_map abstract_band c.band_with_quantity.result) (map abstract_band bands.items) e c.band_with_quantity.ensures)
    c.in_ok-bands.ensures.read
