use Rattle.std.proofs.Common.{arith, map, take}
use Rattle.brk_ref.specs.Rows.{abstract_cash_row}
use Rattle.brk_store_index.specs.Groups.{ages_of_number}
use Rattle.brk_store_index.specs.Parts.{AreCashRowsOf}
use Rattle.brk_store_index.proofs.Aged.{no_ages, row_added}
use Rattle.brk_store_index.proofs.Changing.{cash_rows_same, cash_rows_with}
use Rattle.brk_store_index.proofs.index.cash_of_rows.Goals as goal

pub loop-row-init : goal.loop-row-init
loop-row-init c = λ number. no_ages (ages_of_number c.new-cash.result number) (c.new-cash.ensures number)

pub loop-row-preserved : goal.loop-row-preserved
loop-row-preserved c =
    let rows = map abstract_cash_row (take c.loop-row.row-index c.args.rows.now) in
    row_added abstract_cash_row (AreCashRowsOf c.insert_cash_row.new.groups) (cash_rows_same c.insert_cash_row.new.groups) c.args.rows.now c.loop-row.row-index c.row-item.result (omega arith) c.row-item.is
    (cash_rows_with c.loop-row.cash c.insert_cash_row.new.groups (abstract_cash_row c.row-item.result) rows c.in_ok-insert_cash_row.ensures c.loop-row.invariant)
