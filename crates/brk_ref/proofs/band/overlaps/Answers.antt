use Rattle.std.proofs.Common.{rules, sym, ◌∙◌, tests}
use Rattle.std.proofs.lemmas.Iterator.{YieldsList-from_slice}
use Rattle.std.proofs.lemmas.Iterator.Search.{any_from_yields_List}
use Rattle.brk_model.specs.Tests.{bands_overlap}
use Rattle.brk_ref.specs.Records.{abstract_band}
use Rattle.brk_ref.proofs.Lists.{any_mapped}
use Rattle.brk_ref.proofs.band.overlaps.Goals as goal

pub returns : goal.returns
returns c =
    let bands = c.args.bands.now in
    any_from_yields_List (λ other. bands_overlap (abstract_band c.args.band.now) (abstract_band other)) _ _ _ c.any.ensures.ran (YieldsList-from_slice bands cc) (λ x b q k. search (rules, tests))
    ∙ sym (any_mapped (bands_overlap (abstract_band c.args.band.now)) abstract_band bands)
