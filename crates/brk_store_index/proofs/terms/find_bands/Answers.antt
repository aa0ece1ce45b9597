use Rattle.std.proofs.Common.{◌≡◌, ◌∙◌, ◌==◌, ◌&&◌, ◌++◌, ◌∷◌, [], Bool, ap, filter, map, sym}
use Rattle.std.specs.Prelude.{bytes_eq}
use Rattle.std.proofs.lemmas.List.{map-append, take_all}
use Rattle.brk_money.specs.Kinds.{is_same_trade_type}
use Rattle.brk_model.specs.Records.{Band}
use Rattle.brk_ref.specs.Records.{abstract_band}
use Rattle.brk_store_index.proofs.Ranking.{kept_more, left_more}
use Rattle.brk_store_index.proofs.terms.find_bands.Goals as goal
use Rattle.brk_store_index.proofs.terms.find_bands.Goals.{then-is_band_for+in_ok-copy+in_ok-push, else-is_band_for}

pub loop-band-init : goal.loop-band-init
loop-band-init c = ap (map abstract_band) c.new-found.ensures.items

pub loop-band-preserved : goal.loop-band-preserved
loop-band-preserved c =
    let test : Band → Bool = λ r. (r.tier == c.args.tier) && is_same_trade_type r.kind c.args.kind && bytes_eq r.exchange c.args.exchange.now in
    let found = c.loop-band.found.items in
    let passes : test (abstract_band c.band-item.result) ≡ c.is_band_for.result = sym c.is_band_for.ensures in
    elim c.if-is_band_for.branch [
      | then-is_band_for+in_ok-copy+in_ok-push w ↦
          ap (λ v. map abstract_band v.items) w.found-is ∙ ap (map abstract_band) w.in_ok-push.ensures.items ∙ map-append abstract_band found (w.in_ok-copy.copy ∷ [])
          ∙ ap (λ b. map abstract_band found ++ b ∷ []) w.in_ok-copy.ensures
          ∙ kept_more abstract_band test c.args.rows.now c.loop-band.band-index c.band-item.result (map abstract_band found) c.loop-band-test.true c.band-item.is (passes ∙ w.if-is_band_for.true) c.loop-band.invariant
      | else-is_band_for w ↦
          ap (λ v. map abstract_band v.items) w.found-is
          ∙ left_more abstract_band test c.args.rows.now c.loop-band.band-index c.band-item.result (map abstract_band found) c.loop-band-test.true c.band-item.is (passes ∙ w.if-is_band_for.false) c.loop-band.invariant
    ]

pub returns : goal.returns
returns c =
    let test : Band → Bool = λ r. (r.tier == c.args.tier) && is_same_trade_type r.kind c.args.kind && bytes_eq r.exchange c.args.exchange.now in
    c.loop-band.invariant ∙ ap (λ l. filter test (map abstract_band l)) (take_all c.loop-band.band-index c.args.rows.now c.loop-band-test.false)
