use Rattle.std.proofs.Common.{◌≡◌, ◌∙◌, Some, None, ap, option_map, rules, string_bytes}
use Rattle.std.specs.Prelude.{bytes_eq}
use Rattle.std.specs.HashMap.{get_by_text}
use Rattle.std.proofs.lemmas.Map.Text.{hash_map_updates_text}
use Rattle.brk_ref.specs.Records.{abstract_security_row}
use Rattle.brk_store_index.proofs.ByKeys.{mapped_put, not_mapped}
use Rattle.brk_store_index.proofs.by_key.SecuritiesBySymbol.add.Goals as goal

pub returns : goal.returns
returns c =
    let old = c.args.self.now.securities in
    let security = abstract_security_row c.args.security.now in
    let symbol = c.args.security.now.symbol in
    let key : string_bytes c.in_ok-symbol.symbol ≡ symbol = search rules in
    let none : get_by_text c.args.self.now.securities symbol ≡ None = search (rules, c.contains_key.ensures, c.if-contains_key.false, c.as_str.ensures) in
    record {
      fresh = not_mapped abstract_security_row (get_by_text old security.symbol) none;
      securities = λ symbol.
          ap (option_map abstract_security_row) (rw key at (hash_map_updates_text (string_bytes c.in_ok-symbol.symbol) old c.insert.new.self (Some c.in_ok-copy.copy) c.in_ok-insert.ensures.updates symbol))
          ∙ mapped_put abstract_security_row (bytes_eq security.symbol symbol) c.in_ok-copy.copy security (get_by_text old symbol) c.in_ok-copy.ensures;
    }
