use Rattle.brk_model.specs.Sheets.{sheets}
use Rattle.brk_store_transactions.proofs.Found.{found_again}
use Rattle.brk_desk.proofs.AtFirst.{stands}
use Rattle.brk_desk.proofs.beginning.reopened_store_represents_exposed_base.Goals as goal

pub returns : goal.returns
returns g c = λ base calls outcomes after trees conn books sound formed may texts are opened.
    let both = stands base calls outcomes after formed (books, sound) may in
    record { rows = found_again g.S.Store (sheets after) trees conn are opened; consistent = record { books = both.0; sound = both.1; texts = texts } }
