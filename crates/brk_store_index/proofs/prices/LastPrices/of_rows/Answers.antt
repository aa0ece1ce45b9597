use Rattle.std.proofs.Common.{map, subst, sym, take}
use Rattle.std.proofs.lemmas.List.{take_all}
use Rattle.brk_ref.specs.Records.{abstract_last_trade_row}
use Rattle.brk_store_index.specs.Prices.{AreLastPricesOf}
use Rattle.brk_store_index.proofs.Elements.{mapped_more}
use Rattle.brk_store_index.proofs.Pricing.{price_pushed}
use Rattle.brk_store_index.proofs.prices.LastPrices.of_rows.Goals as goal

pub loop-row-preserved : goal.loop-row-preserved
loop-row-preserved c =
    let rows = c.args.rows.now in
    let i = c.loop-row.row-index in
    subst (AreLastPricesOf c.add.new.self) (sym (mapped_more abstract_last_trade_row rows i c.row-item.result c.loop-row-test.true c.row-item.is))
    (price_pushed c.loop-row.prices c.add.new.self (abstract_last_trade_row c.row-item.result) (map abstract_last_trade_row (take i rows)) c.in_ok-add.ensures c.loop-row.invariant)

pub returns : goal.returns
returns c = subst (λ l. AreLastPricesOf c.loop-row.prices (map abstract_last_trade_row l)) (take_all c.loop-row.row-index c.args.rows.now c.loop-row-test.false) c.loop-row.invariant
