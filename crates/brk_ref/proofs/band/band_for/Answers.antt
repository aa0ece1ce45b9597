use Rattle.std.proofs.Common.{rules, sym, ap, ◌∙◌, ◌&&◌, tests}
use Rattle.std.specs.Prelude.{nat_le, option_map}
use Rattle.std.proofs.lemmas.Iterator.{YieldsList-from_slice}
use Rattle.std.proofs.lemmas.Iterator.Search.{find_from_yields_List}
use Rattle.brk_ref.specs.Records.{abstract_band}
use Rattle.brk_ref.proofs.Lists.{found_mapped}
use Rattle.brk_ref.proofs.band.band_for.Goals as goal

pub returns : goal.returns
returns c =
    let bands = c.args.bands.now in
    let found = find_from_yields_List (λ b. nat_le b.from_qty c.args.qty && nat_le c.args.qty b.to_qty) _ _ c.find.result c.find.ensures.ran
    (YieldsList-from_slice bands cc) (λ x b q k. search (rules, tests)) in
    let some = sym found ∙ ap (option_map (λ b. b.now)) c.in-Some.is in
    sym (found_mapped (λ b. nat_le b.from_qty c.args.qty && nat_le c.args.qty b.to_qty) abstract_band (λ b. b.rate) bands ∙ ap (option_map (λ b. b.rate)) some)

pub returns-in_default : goal.returns-in_default
returns-in_default c =
    let bands = c.args.bands.now in
    let found = find_from_yields_List (λ b. nat_le b.from_qty c.args.qty && nat_le c.args.qty b.to_qty) _ _ c.find.result c.find.ensures.ran
    (YieldsList-from_slice bands cc) (λ x b q k. search (rules, tests)) in
    let none = sym found ∙ ap (option_map (λ b. b.now)) c.in_default.is in
    sym (found_mapped (λ b. nat_le b.from_qty c.args.qty && nat_le c.args.qty b.to_qty) abstract_band (λ b. b.rate) bands ∙ ap (option_map (λ b. b.rate)) none)
