use Rattle.sqlite.specs.Held.{state}
use Rattle.std.proofs.Common.{◌≡◌, Ok, subst}
use Rattle.brk_trade_rows.specs.Schemas.{abstract_schema}
use Rattle.brk_tables_sql.proofs.Inside.{step_read}
use Rattle.brk_tables_scan.specs.Decoded.{ReadsAndDecodesDeskTables, ReadsRawSheets}
use Rattle.brk_tables_scan.proofs.Continued.{continues_then}
use Rattle.brk_tables_scan.proofs.Failing.{fails}
use Rattle.brk_tables_scan.proofs.all_tables.read_all_tables.Goals as goal

pub returns-in_err-raw-clause-step : goal.returns-in_err-raw-clause-step
returns-in_err-raw-clause-step g c = fails c.from_residual.result _ c.from_residual.ensures.0 c.read_raw_sheets.ensures.step

pub returns-in_err-sheets-clause-step : goal.returns-in_err-sheets-clause-step
returns-in_err-sheets-clause-step g c = fails c.from_residual-in_err-sheets.result _ c.from_residual-in_err-sheets.ensures.0 c.read_raw_sheets.ensures.step

pub returns-clause-step : goal.returns-clause-step
returns-clause-step g c =
    let desk = abstract_schema c.args.schema in
    let old = state g.S.Store c.args.tx.now.conn.now in
    let new = state g.S.Store c.read_raw_sheets.new.tx.conn.now in
    let before = c.args.decoder.now.are_well_formed in
    let mid = c.read_raw_sheets.new.decoder.are_well_formed in
    let after = c.decode_raw_sheets.new.decoder.are_well_formed in
    step_read old new c.in_ok-raw.raw (Ok c.in_ok-sheets.sheets) (λ raw. ReadsRawSheets desk before mid raw) (λ sheets. ReadsAndDecodesDeskTables desk before after sheets)
    (λ sheets is read. let same : c.in_ok-sheets.sheets ≡ sheets = cc in
    subst (λ sheets. ReadsAndDecodesDeskTables desk before after sheets old new) same (record {
      kept = read.kept;
      raw = c.in_ok-raw.raw;
      read = read.read;
      decoded = continues_then _ _ _ _ _ _ _ _ (λ keys rows. rows read.kept keys) read.keys c.in_ok-sheets.ensures.decoded;
    }))
    c.in_ok-raw.ensures.step
