use Rattle.std.proofs.Common.{◌≡◌, Some, drop, take}
use Rattle.std.specs.Global.{Vec}
use Rattle.std.specs.Option.{option_copied}
use Rattle.brk_ref.specs.Rows.{abstract_holding_row}
use Rattle.brk_ref.specs.declared.holding_row.HoldingRow as row
use Rattle.brk_store_index.specs.Ages.{ages_in, in_order}
use Rattle.brk_store_index.specs.Index.{lot_of_age}
use Rattle.brk_model.specs.Tables.{Tables}
use Rattle.brk_store.specs.Indexed.{HasRowOfEachAge}
use Rattle.brk_store_reads.specs.RowsByAge.{AreRowsOfAges}
use Rattle.brk_store_reads.proofs.ByAges.{found_of_ages, read_weaker}
use Rattle.brk_store.proofs.lots.read_indexed_page.Goals as goal

pub returns-clause-read : goal.returns-clause-read
returns-clause-read g c =
    let ages = ages_in (option_copied c.args.ages) in
    let f = λ (t : Tables). lot_of_age t.holdings c.args.account c.args.symbol.now in
    let chosen = take 4 (drop c.args.skipped (in_order c.args.lifo ages)) in
    read_weaker g.S.Store c.args.conn.now c.read_chosen_rows.new.conn c.read_chosen_rows.result
    (λ (rows : Vec row.HoldingRow) (t : Tables). AreRowsOfAges (λ age r. Some (abstract_holding_row r) ≡ f t age) chosen rows.items)
    (λ (rows : Vec row.HoldingRow) (t : Tables). HasRowOfEachAge c.args.account c.args.symbol.now c.args.lifo c.args.skipped ages rows.items t)
    (λ clean on rows t holds all. found_of_ages abstract_holding_row (f t) chosen rows.items all) c.read_chosen_rows.ensures.read
