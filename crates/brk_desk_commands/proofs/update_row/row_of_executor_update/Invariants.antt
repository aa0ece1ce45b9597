use Rattle.std.proofs.Common.{◌≡◌, ◌∷◌, ◌++◌, codes, take}
use Rattle.std.specs.Prelude.{decimal, flat_map, string_bytes}
use Rattle.brk_desk_commands.proofs.update_row.row_of_executor_update.Given as goal

abbrev pub invariant-loop-trade : goal.invariant-loop-trade
invariant-loop-trade l = string_bytes l.row ≡ codes "upname" ++ flat_map (λ trade. 31 ∷ decimal trade) (take l.trade-index l.trades)
