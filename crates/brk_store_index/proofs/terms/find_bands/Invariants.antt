use Rattle.std.proofs.Common.{◌≡◌, ◌==◌, ◌&&◌, filter, map, take}
use Rattle.std.specs.Prelude.{bytes_eq}
use Rattle.brk_money.specs.Kinds.{is_same_trade_type}
use Rattle.brk_ref.specs.Records.{abstract_band}
use Rattle.brk_store_index.proofs.terms.find_bands.Given as goal

abbrev pub invariant-loop-band : goal.invariant-loop-band
invariant-loop-band l = map abstract_band l.found.items
    ≡ filter (λ r. (r.tier == l.tier) && is_same_trade_type r.kind l.kind && bytes_eq r.exchange l.exchange) (map abstract_band (take l.band-index l.rows))
