use Rattle.std.proofs.Common.{map}
use Rattle.brk_ref.specs.Records.{abstract_account_row, abstract_last_trade_row}
use Rattle.brk_ref.specs.Rows.{abstract_cash_row, abstract_holding_row, abstract_lot_change_row, abstract_trade_row}
use Rattle.brk_store_index.proofs.Changing.{index_of_rows}
use Rattle.brk_store_index.proofs.index.RowIndex.of_rows.Goals as goal

pub returns : goal.returns
returns c t has terms =
    index_of_rows (record { lots = c.in_ok-of_rows.field-0; trades = c.in_ok-of_rows-2.field-0; accounts = c.in_ok-accounts_of_rows.field-0; changes = c.in_ok-lot_changes_of_rows.field-0; cash = c.in_ok-cash_of_rows.field-0; prices = c.in_ok-of_rows-3.field-0; terms = c.args.terms })
    (map abstract_holding_row c.args.lots.now) (map abstract_trade_row c.args.trades.now) (map abstract_account_row c.args.accounts.now) (map abstract_lot_change_row c.args.changes.now) (map abstract_cash_row c.args.cash.now) (map abstract_last_trade_row c.args.last_trades.now)
    c.in_ok-of_rows.ensures c.in_ok-of_rows-2.ensures c.in_ok-accounts_of_rows.ensures c.in_ok-lot_changes_of_rows.ensures c.in_ok-cash_of_rows.ensures c.in_ok-of_rows-3.ensures t has terms
