use Rattle.std.proofs.Common.{pos, [], ◌∷◌, ◌==◌, ◌&&◌, filter}
use Rattle.std.specs.Prelude.{bytes_eq}
use Rattle.sqlite_value.specs.declared.value.Value.TheVariants.{Int, Text}
use Rattle.sqlite.specs.Held.{state}
use Rattle.brk_money.specs.Kinds.{trade_type_code, is_same_trade_type}
use Rattle.brk_ref.specs.Records.{abstract_band}
use Rattle.brk_model.specs.Records.{Band}
use Rattle.brk_tables_sql.proofs.Answer.{look_all}
use Rattle.brk_tables_schema.specs.Cells.{band_cells}
use Rattle.brk_tables_schema.specs.Desk.{desk_tables}
use Rattle.brk_tables_schema.proofs.Back.{band_back, band_is_back}
use Rattle.brk_tables_reference.proofs.BandsFor
use Rattle.brk_tables_reference.proofs.BandsFor.{plain}
use Rattle.brk_tables_reference.proofs.ReferenceReads.{tells_bands}
use Rattle.brk_tables_reference.proofs.bands.bands_for.Goals as goal

pub select_rows-requires : goal.select_rows-requires
select_rows-requires g c = record { no_returning_clause = plain }

pub returns-clause-step : goal.returns-clause-step
returns-clause-step g c =
    let old = state g.S.Store c.args.tx.now.conn.now in
    let new = state g.S.Store c.select_rows.new.tx.conn.now in
    look_all desk_tables band_cells band_back band_is_back abstract_band BandsFor.statement
    (Int (pos c.args.tier) ∷ Text (trade_type_code c.args.kind) ∷ Text c.args.exchange.now ∷ []) old new c.in_ok-rows.rows (λ rows. rows.items) _
    c.deref.ensures.value
    (rw (c.tier_param.ensures, c.trade_type_param.ensures, c.text_param.ensures, c.as_str.ensures) at c.in_ok-rows.ensures.step)
    (λ all. all.items) c.decode_rows.result c.decode_rows.ensures.value
    (λ t. filter (λ (r : Band). (r.tier == c.args.tier) && is_same_trade_type r.kind c.args.kind && bytes_eq r.exchange c.args.exchange.now) t.bands)
    (tells_bands old new c.args.tier c.args.kind c.args.exchange.now _)
