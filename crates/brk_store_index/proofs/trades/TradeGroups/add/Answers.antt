use Rattle.std.proofs.Common.{◌≡◌, None, rules}
use Rattle.brk_ref.specs.Rows.{abstract_trade_row}
use Rattle.brk_store_index.specs.Parts.{PutsTrade, place_of_trade, trade_places}
use Rattle.brk_store_index.proofs.Trading.{trade_added}
use Rattle.brk_store_index.proofs.trades.TradeGroups.add.Goals as goal

pub returns : goal.returns
returns c rows is =
    let r = abstract_trade_row c.args.trade.now in
    let fresh : trade_places c.args.self.now r.id ≡ None = search rules in
    let copied : c.in_ok-clone.field-0 ≡ r.symbol = search rules in
    let puts : PutsTrade c.args.self.now r.id (place_of_trade r) c.put.new.self = rw (copied, c.is_submitted.ensures) at c.in_ok-put.ensures in
    trade_added c.args.self.now c.put.new.self r rows fresh puts is
