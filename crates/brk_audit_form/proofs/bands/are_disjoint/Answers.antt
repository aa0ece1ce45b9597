use Rattle.std.proofs.Common.{not, rules, map}
use Rattle.std.proofs.lemmas.List.Sorted.{answers_always}
use Rattle.brk_model.specs.Keys.{band_key}
use Rattle.brk_model.specs.Tests.{bands_overlap}
use Rattle.brk_ref.specs.Records.{abstract_band}
use Rattle.brk_trade_rows.specs.Schemas.{abstract_schema}
use Rattle.brk_audit_theorems.proofs.Climbs.{climbs}
use Rattle.brk_audit_form.proofs.BandsApart.{apart_told}
use Rattle.brk_audit_form.proofs.bands.are_disjoint.Goals as goal

pub returns : goal.returns
returns c =
    apart_told (abstract_schema c.args.schema) abstract_band c.args.bands.now c.is_sorted_by.result (climbs band_key (map abstract_band c.args.bands.now) c.requires.keys) c.requires.bounds
    (c.is_sorted_by.ensures.cases (λ x y. not (bands_overlap (abstract_band x) (abstract_band y))) (answers_always _ _ _ (λ f a r h called. search rules)))
