use Rattle.std.proofs.Common.{◌≡◌, ◌==◌, ◌∙◌, List, ap, filter, find, map, option_map}
use Rattle.std.specs.Prelude.{◌&&◌, bytes_eq, nat_le}
use Rattle.brk_money.specs.Kinds.{is_same_trade_type}
use Rattle.brk_model.specs.Records.{Band}
use Rattle.brk_model.specs.Tables.{Tables}
use Rattle.brk_ref.specs.Records.{abstract_band}
use Rattle.brk_trade_books.specs.TradeReads.{commission_band_of_quantity}
use Rattle.brk_store_reads.proofs.Retelling.{retold}
use Rattle.brk_desk_decisions.proofs.order_check_reads.read_band_rate.Goals as goal

pub returns : goal.returns
returns g c =
    retold g.S.Store c.args.store.now c.commission_bands.new.self c.in_ok-bands.bands c.band_for.result
    (λ all (t : Tables). map abstract_band all.items ≡ filter (λ (r : Band). (r.tier == c.args.tier) && is_same_trade_type r.kind c.args.kind && bytes_eq r.exchange c.args.exchange.now) t.bands)
    (λ rate (t : Tables). rate ≡ option_map (λ (b : Band). b.rate) (commission_band_of_quantity t c.args.tier c.args.kind c.args.exchange.now c.args.qty))
    (λ t e. c.band_for.ensures
    ∙ ap (λ (bands : List Band). option_map (λ (b : Band). b.rate) (find (λ (b : Band). nat_le b.from_qty c.args.qty && nat_le c.args.qty b.to_qty) bands))
    (ap (map abstract_band) c.deref.ensures.value ∙ e))
    c.in_ok-bands.ensures.read
