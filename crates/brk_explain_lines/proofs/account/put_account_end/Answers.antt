use Rattle.std.proofs.Common.{rules}
use Rattle.std.proofs.lemmas.Grind.{flat_map-append}
use Rattle.std.proofs.lemmas.List.{append_assoc, length-map}
use Rattle.brk_explain_lines.proofs.account.put_account_end.Goals as goal

pub returns : goal.returns
returns c = search (rules, append_assoc, flat_map-append, length-map)
