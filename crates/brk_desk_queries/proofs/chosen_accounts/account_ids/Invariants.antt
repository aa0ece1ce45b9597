use Rattle.std.proofs.Common.{◌≡◌, map, take}
use Rattle.brk_ref.specs.Records.{abstract_account_row}
use Rattle.brk_desk_queries.proofs.chosen_accounts.account_ids.Given as goal

abbrev pub invariant-loop-row : goal.invariant-loop-row
invariant-loop-row l = l.ids.items ≡ map (λ row. row.id) (map abstract_account_row (take l.row-index l.rows))
