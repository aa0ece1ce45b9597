use Rattle.std.proofs.Common.{◌≡◌, ◌++◌, take}
use Rattle.brk_desk_queries.proofs.recents.append_history_rows.Given as goal

abbrev pub invariant-loop-row : goal.invariant-loop-row
invariant-loop-row l = l.history.items ≡ l.initial.history.items ++ take l.row-index l.rows
