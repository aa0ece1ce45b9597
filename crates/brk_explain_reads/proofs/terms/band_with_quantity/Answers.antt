use Rattle.std.proofs.Common.{◌≡◌, ◌∙◌, ◌∷◌, ℕ, Bool, List, [], ap, arith, find, length, map, option_map, refl, sym}
use Rattle.std.specs.Prelude.{◌&&◌, nat_le}
use Rattle.std.specs.Option.{option_or}
use Rattle.brk_model.specs.Records.{Band}
use Rattle.brk_ref.specs.Records.{abstract_band}
use Rattle.brk_ref.specs.declared.band.Band as ref
use Rattle.brk_explain_reads.proofs.TermParts.{first_before, first_last}
use Rattle.brk_explain_reads.proofs.terms.band_with_quantity.Goals as goal

abbrev Has : ℕ → Band → Bool
Has qty b = nat_le b.from_qty qty && nat_le qty b.to_qty

pub loop-band-init : goal.loop-band-init
loop-band-init c = first_last (Has c.args.qty) (map abstract_band c.args.bands.items)

pub loop-band-preserved : goal.loop-band-preserved
loop-band-preserved c =
    first_before abstract_band (Has c.args.qty) c.loop-band.rest.items c.pop.new.self.items c.in-Some.band (option_map abstract_band c.loop-band.found)
    (option_map abstract_band c.prefer_band_with_quantity-found.result) _
    c.in-Some.ensures.items c.loop-band.invariant c.prefer_band_with_quantity-found.ensures

none_left : (rest : List ref.Band) → length rest ≡ 0 → rest ≡ []
none_left [] e = refl
none_left (b ∷ rest) e = absurd (omega (arith, e))

pub returns : goal.returns
returns c = sym (c.loop-band.invariant
    ∙ ap (λ rest. option_or (find (Has c.args.qty) (map abstract_band rest)) (option_map abstract_band c.loop-band.found))
    (none_left c.loop-band.rest.items (sym c.loop-band.rest.ok.0 ∙ c.in_default.ensures.cases.0)))
