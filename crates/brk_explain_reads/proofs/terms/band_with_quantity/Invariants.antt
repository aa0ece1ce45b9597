use Rattle.std.proofs.Common.{◌≡◌, find, length, map, option_map}
use Rattle.std.specs.Prelude.{◌&&◌, nat_le}
use Rattle.std.specs.Option.{option_or}
use Rattle.brk_ref.specs.Records.{abstract_band}
use Rattle.brk_explain_reads.proofs.terms.band_with_quantity.Given as goal

abbrev pub invariant-loop-band : goal.invariant-loop-band
invariant-loop-band l =
    find (λ b. nat_le b.from_qty l.fn.qty && nat_le l.fn.qty b.to_qty) (map abstract_band l.fn.bands.items)
    ≡ option_or (find (λ b. nat_le b.from_qty l.fn.qty && nat_le l.fn.qty b.to_qty) (map abstract_band l.rest.items)) (option_map abstract_band l.found)

abbrev pub decreases-loop-band : goal.decreases-loop-band
decreases-loop-band l = length l.rest.items
