use Rattle.brk_trade_books.proofs.Movements.{due_days_stay, step_one_day}
use Rattle.brk_trade_books.proofs.changes.one_day_settlement_start_changes_only_its_row.Goals as goal

pub returns : goal.returns
returns c = record { row = step_one_day; due_days = due_days_stay }
