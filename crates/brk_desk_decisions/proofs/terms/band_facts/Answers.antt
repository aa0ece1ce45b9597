use Rattle.std.proofs.Common.{◌≡◌, ◌==◌, ◌∙◌, ap, filter, map}
use Rattle.std.specs.Prelude.{◌&&◌, bytes_eq}
use Rattle.std.specs.List.{list_any}
use Rattle.brk_money.specs.Kinds.{is_same_trade_type}
use Rattle.brk_model.specs.Records.{Band}
use Rattle.brk_model.specs.Tables.{Tables}
use Rattle.brk_model.specs.Tests.{bands_overlap}
use Rattle.brk_ref.specs.Records.{abstract_band}
use Rattle.brk_trade_books.specs.Reads.{overlaps_some_band}
use Rattle.brk_trade_plans.specs.declared.reference.ReferenceFacts.{ReferenceFacts}
use Rattle.brk_store_reads.proofs.Retelling.{retold}
use Rattle.brk_desk_decisions.proofs.terms.band_facts.Goals as goal

pub returns : goal.returns
returns g c =
    let b = abstract_band c.args.band.now in
    retold g.S.Store c.args.store.now c.commission_bands.new.self c.in_ok-bands.bands _
    (λ all (t : Tables). map abstract_band all.items ≡ filter (λ (r : Band). (r.tier == b.tier) && is_same_trade_type r.kind b.kind && bytes_eq r.exchange b.exchange) t.bands)
    (λ (found : ReferenceFacts) (t : Tables). found.overlaps ≡ overlaps_some_band t b)
    (λ t e. c.overlaps-overlapping.ensures ∙ ap (λ bands. list_any (bands_overlap b) (map abstract_band bands)) c.deref.ensures.value ∙ ap (list_any (bands_overlap b)) e)
    c.in_ok-bands.ensures.read
