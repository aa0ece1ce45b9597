use Rattle.brk_view_rows.proofs.ById.{shown_of_rising, shown_of_sheets}
use Rattle.brk_view_rows.proofs.theorems.submitted_row_records_equal_view.Goals as goal

pub returns-clause-sorted : goal.returns-clause-sorted
returns-clause-sorted c = shown_of_rising

pub returns-clause-stored : goal.returns-clause-stored
returns-clause-stored c = shown_of_sheets
