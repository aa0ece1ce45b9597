use Rattle.std.proofs.Common.{◌≡◌, Some}
use Rattle.std.proofs.lemmas.Result.{err_from_is_err_and}
use Rattle.std.specs.Global.{Vec}
use Rattle.std.specs.Option.{option_copied}
use Rattle.brk_model.specs.Tables.{Tables}
use Rattle.brk_ref.specs.Rows.{abstract_holding_row}
use Rattle.brk_ref.specs.declared.holding_row.HoldingRow.{HoldingRow}
use Rattle.brk_store_index.specs.Ages.{ages_in}
use Rattle.brk_store_index.specs.Index.{lot_of_account_by_age}
use Rattle.brk_store_reads.specs.ReadSequences.{single_read_changes_nothing}
use Rattle.brk_store_reads.specs.RowsByAge.{AreRowsOfAges}
use Rattle.brk_store_reads.specs.RowsOfAccounts.{AreLotsBySymbol}
use Rattle.brk_store_reads.proofs.Retelling.{retold}
use Rattle.brk_store_reads.proofs.Sequences.{none_read}
use Rattle.brk_store_reads.proofs.lots_by_symbol.read_lots_by_symbol.Goals as goal

pub returns-clause-read : goal.returns-clause-read
returns-clause-read g c =
    let ages = ages_in (option_copied c.args.ages) in
    let found = c.in_ok-lots.lots in
    retold g.S.Store c.args.conn.now c.read_all_rows.new.conn found c.sort_lots.new.lots
    (λ (lots : Vec HoldingRow) (t : Tables). AreRowsOfAges (λ age row. Some (abstract_holding_row row) ≡ lot_of_account_by_age t.holdings c.args.account age) ages lots.items)
    (λ (lots : Vec HoldingRow) (t : Tables). AreLotsBySymbol t.holdings c.args.account ages lots.items)
    (λ t all. (found.items, all, c.in_ok-sort_lots.ensures)) c.in_ok-lots.ensures.read

pub returns-in_err-sort_lots-clause-read : goal.returns-in_err-sort_lots-clause-read
returns-in_err-sort_lots-clause-read g c =
    let p = err_from_is_err_and c.from_residual-in_err-sort_lots.result c.from_residual-in_err-sort_lots.ensures.1 in
    rw p.1 (none_read g.S.Store c.args.conn.now c.read_all_rows.new.conn p.0 _
    (single_read_changes_nothing c.args.conn.now c.read_all_rows.new.conn c.read_all_rows.result _ c.read_all_rows.ensures.read))
