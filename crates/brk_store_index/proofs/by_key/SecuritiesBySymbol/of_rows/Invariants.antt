use Rattle.std.proofs.Common.{map, take}
use Rattle.brk_ref.specs.Records.{abstract_security_row}
use Rattle.brk_store_index.specs.ByKey.{AreSecuritiesOf}
use Rattle.brk_store_index.proofs.by_key.SecuritiesBySymbol.of_rows.Given as goal

abbrev pub invariant-loop-row : goal.invariant-loop-row
invariant-loop-row l = AreSecuritiesOf l.securities (map abstract_security_row (take l.row-index l.rows))
