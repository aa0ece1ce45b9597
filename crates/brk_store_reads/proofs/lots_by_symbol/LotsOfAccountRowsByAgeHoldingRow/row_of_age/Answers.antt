use Rattle.std.proofs.Common.{◌≡◌, ◌∙◌, ◌==◌, Some, ap, find, option_map, refl, rules, true}
use Rattle.brk_model.specs.Tables.{HoldingRow, Tables}
use Rattle.brk_ref.specs.Rows.{abstract_holding_row}
use Rattle.brk_store_index.specs.Index.{lot_of_account_by_age, value_if}
use Rattle.brk_store_reads.specs.ReadSequences.{single_read_changes_nothing}
use Rattle.brk_store_reads.proofs.Retelling.{retold}
use Rattle.brk_store_reads.proofs.Sequences.{none_read}
use Rattle.brk_store_reads.proofs.lots_by_symbol.LotsOfAccountRowsByAgeHoldingRow.row_of_age.Goals as goal

pub returns-in_default-clause-read : goal.returns-in_default-clause-read
returns-in_default-clause-read g c =
    none_read g.S.Store c.args.conn.now c.read_lot_by_trade.new.conn _ _
    (single_read_changes_nothing c.args.conn.now c.read_lot_by_trade.new.conn c.read_lot_by_trade.result _ c.read_lot_by_trade.ensures.read)

pub returns-then-not-is_lot_of_account-clause-read : goal.returns-then-not-is_lot_of_account-clause-read
returns-then-not-is_lot_of_account-clause-read g c =
    none_read g.S.Store c.args.conn.now c.read_lot_by_trade.new.conn _ _
    (single_read_changes_nothing c.args.conn.now c.read_lot_by_trade.new.conn c.read_lot_by_trade.result _ c.read_lot_by_trade.ensures.read)

pub returns-clause-read : goal.returns-clause-read
returns-clause-read g c =
    let age = c.args.age.now in
    let row = c.in-Some.row in
    let test = λ (r : HoldingRow). r.account == c.args.self.now.account in
    let passes : test (abstract_holding_row row) ≡ true = search rules in
    let kept : Some (abstract_holding_row row) ≡ value_if test (Some (abstract_holding_row row)) = rw passes refl in
    retold g.S.Store c.args.conn.now c.read_lot_by_trade.new.conn (Some row) row
    (λ o (t : Tables). option_map abstract_holding_row o ≡ find (λ (r : HoldingRow). r.trade == age.id) t.holdings)
    (λ r (t : Tables). Some (abstract_holding_row r) ≡ lot_of_account_by_age t.holdings c.args.self.now.account age)
    (λ t e. kept ∙ ap (value_if test) e)
    (rw c.in-Some.is at c.in_ok-row.ensures.read)
