use Rattle.std.proofs.Common.{◌≡◌, ◌-◌, Some, drop, rules, subst, take}
use Rattle.std.specs.Global.{Vec}
use Rattle.std.specs.Option.{option_copied}
use Rattle.brk_model.specs.Tables.{Tables}
use Rattle.brk_ref.specs.Rows.{abstract_cash_row}
use Rattle.brk_ref.specs.declared.cash_row.CashRow.{CashRow}
use Rattle.brk_store_index.specs.Ages.{ages_in}
use Rattle.brk_store_index.specs.Index.{cash_row_of_age}
use Rattle.brk_store_index.specs.declared.age.RowAge.{RowAge}
use Rattle.brk_store_reads.specs.RowsByAge.{AreRowsOfAges}
use Rattle.brk_store_reads.specs.RowsOfAccounts.{AreCashRowsBetween}
use Rattle.brk_store_reads.proofs.ByAges.{read_weaker}
use Rattle.brk_store_reads.proofs.cash_by_age.read_cash_rows_between.Goals as goal

pub returns-clause-read : goal.returns-clause-read
returns-clause-read g c =
    let ages = ages_in (option_copied c.args.ages) in
    let found = λ (t : Tables) (age : RowAge) (r : CashRow). Some (abstract_cash_row r) ≡ cash_row_of_age t.moves c.args.account age in
    let span = c.places_of_span-from.result in
    let places = c.places_of_span-from.ensures in
    let most : c.saturating_sub-most.result ≡ span.1 - span.0 = search rules in
    read_weaker g.S.Store c.args.conn.now c.read_chosen_rows.new.conn c.read_chosen_rows.result
    (λ (rows : Vec CashRow) (t : Tables). AreRowsOfAges (found t) (take c.saturating_sub-most.result (drop span.0 ages)) rows.items)
    (λ (rows : Vec CashRow) (t : Tables). AreCashRowsBetween t.moves c.args.account c.args.first c.args.last ages rows.items)
    (λ clean on rows t holds all. (span.0, span.1, places.first, places.last, subst (λ n. AreRowsOfAges (found t) (take n (drop span.0 ages)) rows.items) most all)) c.read_chosen_rows.ensures.read
