use Rattle.std.proofs.Common.{rules}
use Rattle.std.proofs.lemmas.List.{append_assoc}
use Rattle.brk_report_lines.proofs.row_lines.lot_line.Goals as goal

pub returns : goal.returns
returns c = search (rules, append_assoc)
