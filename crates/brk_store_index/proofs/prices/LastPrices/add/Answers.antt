use Rattle.std.proofs.Common.{◌≡◌, None, rules, string_bytes}
use Rattle.std.proofs.lemmas.Map.Text.{hash_map_updates_text}
use Rattle.brk_store_index.specs.Prices.{price_of_symbol}
use Rattle.brk_store_index.proofs.prices.LastPrices.add.Goals as goal

pub returns : goal.returns
returns c =
    let old = c.args.self.now in
    let symbol = c.args.last.now.symbol in
    let key : string_bytes c.in_ok-symbol.symbol ≡ symbol = search rules in
    let fresh : price_of_symbol old symbol ≡ None = search rules in
    record { fresh = fresh; prices = rw key at (hash_map_updates_text (string_bytes c.in_ok-symbol.symbol) old.prices c.insert.new.self _ c.in_ok-insert.ensures.updates) }
