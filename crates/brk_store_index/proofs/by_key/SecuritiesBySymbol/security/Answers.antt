use Rattle.std.proofs.Common.{◌≡◌, ◌∙◌, Some, None, ap, option_map, rules, sym}
use Rattle.std.specs.HashMap.{get_by_text}
use Rattle.brk_ref.specs.Records.{abstract_security_row}
use Rattle.brk_store_index.proofs.by_key.SecuritiesBySymbol.security.Goals as goal

pub returns : goal.returns
returns c =
    let found : get_by_text c.args.self.now.securities c.args.symbol.now ≡ Some c.in-Some.security.now = search rules in
    ap Some c.in_ok-copy.ensures ∙ sym (ap (option_map abstract_security_row) found)

pub returns-in_default : goal.returns-in_default
returns-in_default c =
    let none : get_by_text c.args.self.now.securities c.args.symbol.now ≡ None = search rules in
    sym (ap (option_map abstract_security_row) none)
