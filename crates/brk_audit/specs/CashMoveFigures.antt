-- The figures of a trade's cash row, as values of the program.
use Rattle.brk_audit_sums.specs.Settling.{CashRowFigures}
use Rattle.brk_audit.specs.declared.cash.CashMoveFigures as declared

-- The figures of a row of CASH_MOVE with the values of the program's figures `p`.
abbrev pub abstract_posted_figures : declared.CashMoveFigures → CashRowFigures
abstract_posted_figures p = record { account = p.account; trade = p.trade; stamp = p.stamp; amount = p.amount }
