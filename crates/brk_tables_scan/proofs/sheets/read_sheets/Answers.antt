use Rattle.std.proofs.Common.{◌≡◌, Some, None, Ok, inl, inr, subst}
use Rattle.sqlite.specs.Held.{state}
use Rattle.brk_trade_rows.specs.Schemas.{abstract_schema}
use Rattle.brk_tables_sql.proofs.Inside.{step_read}
use Rattle.brk_tables_scan.specs.Decoded.{ReadsAndDecodesDeskTables}
use Rattle.brk_tables_scan.specs.KeptKeys.{tables_with_whole_kept_rows}
use Rattle.brk_tables_scan.specs.Whole.{AreSheetsOfDatabase}
use Rattle.brk_tables_scan.proofs.Reading.{rows_read, none_in_form, narrower}
use Rattle.brk_tables_scan.proofs.sheets.read_sheets.Goals as goal

pub returns-clause-step : goal.returns-clause-step
returns-clause-step g c =
    let desk = abstract_schema c.args.schema in
    let old = state g.S.Store c.args.tx.now.conn.now in
    let new = state g.S.Store c.read_all_tables.new.tx.conn.now in
    let flag = c.read_all_tables.new.decoder.are_well_formed in
    step_read old new c.in_ok-sheets.sheets (Ok (Some c.in_ok-sheets.sheets)) (λ sheets. ReadsAndDecodesDeskTables desk _ flag sheets) _
    (λ read is shown. (
      shown.read.stays.0,
      shown.read.stays.1,
      λ defined has. let same : Some c.in_ok-sheets.sheets ≡ read = cc in let rows = shown.decoded.value cc in
          subst (AreSheetsOfDatabase desk old.now) same (record {
            whole = rows.whole;
            keys = rows.keys;
            stored = rows_read desk old.now has defined shown.kept shown.raw shown.read.shown (tables_with_whole_kept_rows rows.whole c.in_ok-sheets.sheets) rows.encoded;
          }),
    ))
    c.in_ok-sheets.ensures.step

pub returns-then-not-decoder-clause-step : goal.returns-then-not-decoder-clause-step
returns-then-not-decoder-clause-step g c =
    let desk = abstract_schema c.args.schema in
    let old = state g.S.Store c.args.tx.now.conn.now in
    let new = state g.S.Store c.read_all_tables.new.tx.conn.now in
    let flag = c.read_all_tables.new.decoder.are_well_formed in
    step_read old new c.in_ok-sheets.sheets (Ok None) (λ sheets. ReadsAndDecodesDeskTables desk _ flag sheets) _
    (λ read is shown. (
      shown.read.stays.0,
      shown.read.stays.1,
      λ defined has. let same : None ≡ read = cc in subst (AreSheetsOfDatabase desk old.now) same
          (none_in_form desk (narrower c.args.schema) old.now shown.kept shown.raw shown.read.shown (elim (shown.decoded.form cc) [ inl not_at_start ↦ absurd (let e = not_at_start in cc) | inr fails ↦ fails ])),
    ))
    c.in_ok-sheets.ensures.step
