use Rattle.std.proofs.Common.{◌∙◌, ◌==◌, ◌&&◌, Bool, ap, filter, map}
use Rattle.std.specs.Prelude.{bytes_eq}
use Rattle.brk_money.specs.Kinds.{is_same_trade_type}
use Rattle.brk_model.specs.Records.{Band}
use Rattle.brk_ref.specs.Records.{abstract_band}
use Rattle.brk_store_index.proofs.Ranking.{ok_so}
use Rattle.brk_store_index.proofs.terms.Terms.bands.Goals as goal

pub returns : goal.returns
returns c =
    let test : Band → Bool = λ r. (r.tier == c.args.tier) && is_same_trade_type r.kind c.args.kind && bytes_eq r.exchange c.args.exchange.now in
    ok_so _ _ c.find_bands.result (λ found is t are. is ∙ ap (λ l. filter test (map abstract_band l)) c.deref.ensures.value ∙ ap (filter test) are.band_rows) c.find_bands.ensures
