use Rattle.std.proofs.Common.{◌≡◌, ◌==◌, ◌&&◌, Some, find, option_map}
use Rattle.brk_model.specs.Tables.{HoldingHistoryRow, Tables}
use Rattle.brk_ref.specs.Rows.{abstract_lot_change_row}
use Rattle.brk_store_reads.specs.ReadSequences.{single_read_changes_nothing}
use Rattle.brk_store_reads.proofs.Retelling.{retold}
use Rattle.brk_store_reads.proofs.Sequences.{none_read}
use Rattle.brk_store_reads.proofs.accounts_by_age.LotChangesOfTradeRowsByAgeLotChange.row_of_age.Goals as goal

pub returns-in-Some-clause-read : goal.returns-in-Some-clause-read
returns-in-Some-clause-read g c =
    let is_change = λ (r : HoldingHistoryRow). (r.lot == c.args.age.now.id) && (r.trade == c.args.self.now.trade) in
    retold g.S.Store c.args.conn.now c.read_lot_change_by_key.new.conn (Some c.in-Some.row) c.in-Some.row
    (λ o (t : Tables). option_map abstract_lot_change_row o ≡ find is_change t.holding_history) (λ r (t : Tables). Some (abstract_lot_change_row r) ≡ find is_change t.holding_history)
    (λ t e. e) (rw c.in-Some.is at c.in_ok-row.ensures.read)

pub returns-in-None-clause-read : goal.returns-in-None-clause-read
returns-in-None-clause-read g c =
    none_read g.S.Store c.args.conn.now c.read_lot_change_by_key.new.conn _ _
    (single_read_changes_nothing c.args.conn.now c.read_lot_change_by_key.new.conn c.read_lot_change_by_key.result _ c.read_lot_change_by_key.ensures.read)
