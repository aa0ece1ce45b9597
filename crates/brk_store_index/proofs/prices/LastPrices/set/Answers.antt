use Rattle.std.proofs.Common.{◌≡◌, Some, rules}
use Rattle.std.proofs.lemmas.Map.Text.{hash_map_updates_text}
use Rattle.brk_store_index.specs.Prices.{price_of_symbol}
use Rattle.brk_store_index.proofs.Pricing.{price_written}
use Rattle.brk_store_index.proofs.prices.LastPrices.set.Goals as goal

pub returns-in-Some : goal.returns-in-Some
returns-in-Some c =
    let old = c.args.self.now in
    let symbol = c.args.last.now.symbol in
    let price = c.args.last.now.price in
    let after = c.get_mut.follows.lender price in
    let lent = (c.get_mut.follows.holds price).3 (search rules) in
    let had : price_of_symbol old symbol ≡ Some c.in-Some.price.now = search rules in
    price_written (price_of_symbol old) (price_of_symbol (record old { prices = after })) symbol price c.in-Some.price.now had
    (hash_map_updates_text symbol old.prices after (Some price) (rw c.as_str.ensures at lent))
