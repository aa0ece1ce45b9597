use Rattle.std.proofs.Common.{rules, sym, ap, ◌∙◌, tests, not}
use Rattle.std.proofs.lemmas.Iterator.{YieldsList-from_slice}
use Rattle.std.proofs.lemmas.Iterator.Search.{any_from_yields_List}
use Rattle.brk_ref.proofs.Lists.{any_mapped}
use Rattle.brk_trade_plans.specs.Feed.{state_of_quote, is_state_of_symbol}
use Rattle.brk_trade_plans.proofs.feed.has_no_quote_of_symbol.Goals as goal

pub returns : goal.returns
returns c =
    let quotes = c.args.quotes.now in
    let symbol = c.args.tick.now.symbol in
    ap not (
    any_from_yields_List (λ quote. is_state_of_symbol symbol (state_of_quote quote)) _ _ _ c.any.ensures.ran (YieldsList-from_slice quotes cc) (λ x b q k. search (rules, tests))
    ∙ sym (any_mapped (is_state_of_symbol symbol) state_of_quote quotes))
