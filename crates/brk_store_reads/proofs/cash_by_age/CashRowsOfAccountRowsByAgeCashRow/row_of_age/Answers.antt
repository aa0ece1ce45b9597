use Rattle.std.proofs.Common.{◌≡◌, ◌∙◌, ◌==◌, ◌&&◌, Some, ap, find, option_map, refl, rules, true}
use Rattle.brk_model.specs.Tables.{CashRow, Tables}
use Rattle.brk_ref.specs.Rows.{abstract_cash_row}
use Rattle.brk_store_index.specs.Index.{cash_row_of_age, value_if}
use Rattle.brk_store_reads.specs.ReadSequences.{empty_read_sequence_changes_nothing, single_read_changes_nothing}
use Rattle.brk_store_reads.proofs.Retelling.{retold}
use Rattle.brk_store_reads.proofs.Sequences.{none_read}
use Rattle.brk_store_reads.proofs.cash_by_age.CashRowsOfAccountRowsByAgeCashRow.row_of_age.Goals as goal

pub returns-in_default-clause-read : goal.returns-in_default-clause-read
returns-in_default-clause-read g c = none_read g.S.Store c.args.conn.now c.args.conn.now _ _ (empty_read_sequence_changes_nothing c.args.conn.now)

pub returns-in_default-2-clause-read : goal.returns-in_default-2-clause-read
returns-in_default-2-clause-read g c =
    none_read g.S.Store c.args.conn.now c.read_cash_row_by_id.new.conn _ _
    (single_read_changes_nothing c.args.conn.now c.read_cash_row_by_id.new.conn c.read_cash_row_by_id.result _ c.read_cash_row_by_id.ensures.read)

pub returns-then-not-is_cash_row_of_account-clause-read : goal.returns-then-not-is_cash_row_of_account-clause-read
returns-then-not-is_cash_row_of_account-clause-read g c =
    none_read g.S.Store c.args.conn.now c.read_cash_row_by_id.new.conn _ _
    (single_read_changes_nothing c.args.conn.now c.read_cash_row_by_id.new.conn c.read_cash_row_by_id.result _ c.read_cash_row_by_id.ensures.read)

pub returns-clause-read : goal.returns-clause-read
returns-clause-read g c =
    let age = c.args.age.now in
    let row = c.in-Some-2.row in
    let test = λ (r : CashRow). (r.account == c.args.self.now.account) && (r.stamp == age.stamp) in
    let passes : test (abstract_cash_row row) ≡ true = search rules in
    let kept : Some (abstract_cash_row row) ≡ value_if test (Some (abstract_cash_row row)) = rw passes refl in
    let same : c.in-Some.id ≡ age.id = search rules in
    retold g.S.Store c.args.conn.now c.read_cash_row_by_id.new.conn (Some row) row
    (λ o (t : Tables). option_map abstract_cash_row o ≡ find (λ (r : CashRow). r.id == c.in-Some.id) t.moves)
    (λ r (t : Tables). Some (abstract_cash_row r) ≡ cash_row_of_age t.moves c.args.self.now.account age)
    (λ t e. kept ∙ ap (value_if test) (e ∙ ap (λ n. find (λ (r : CashRow). r.id == n) t.moves) same))
    (rw c.in-Some-2.is at c.in_ok-row.ensures.read)
