use Rattle.std.proofs.Common.{◌≡◌, ◌∷◌, ◌++◌, take}
use Rattle.std.specs.Prelude.{flat_map, decimal, string_bytes}
use Rattle.brk_desk_commands.proofs.line.ticked_line.Given as goal

abbrev pub invariant-loop-trade : goal.invariant-loop-trade
invariant-loop-trade l = string_bytes l.line ≡ decimal l.fn.stamp ++ flat_map (λ trade. 44 ∷ decimal trade) (take l.trade-index l.triggered)
