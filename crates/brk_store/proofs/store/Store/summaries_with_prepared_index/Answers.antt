use Rattle.std.proofs.Common.{◌≡◌, ◌==◌, ℤ, IfSome, List, Option, filter, map, subst}
use Rattle.std.specs.Global.{Vec}
use Rattle.sqlite.specs.Held.{state}
use Rattle.brk_model.specs.Lists.{total_by}
use Rattle.brk_model.specs.Tables as tables
use Rattle.brk_model.specs.Tables.{Tables}
use Rattle.brk_ref.specs.Rows.{abstract_summary_row}
use Rattle.brk_ref.specs.declared.summary_row.SummaryRow.{SummaryRow}
use Rattle.brk_store_index.specs.Prices.{market_value_of_summary}
use Rattle.brk_store.proofs.ValuesByIndex.{index_if_made, retold_by_index}
use Rattle.brk_store.proofs.store.Store.summaries_with_prepared_index.Goals as goal

abbrev IsValue : Option ℤ → Tables → List SummaryRow → Type 0
IsValue value t rows = IfSome value (λ v. v ≡ total_by (market_value_of_summary t) (map abstract_summary_row rows))

pub returns : goal.returns
returns g c =
    let conn = c.self.inside.conn in
    let index = c.self.inside.index in
    let rows = c.in_ok-rows.rows in
    let value = c.market_value-value.result in
    record {
      read = retold_by_index g.S.Store conn c.read_account_summaries.new.conn c.args.self.now c.self.view_is index c.self.invariant.1 rows (rows, value)
          (λ (all : Vec SummaryRow) (t : Tables). map abstract_summary_row all.items ≡ filter (λ (r : tables.SummaryRow). r.account == c.args.account) t.summaries)
          (λ (held : Vec SummaryRow × Option ℤ) (t : Tables).
          (map abstract_summary_row held.0.items ≡ filter (λ (r : tables.SummaryRow). r.account == c.args.account) t.summaries) × IsValue held.1 t held.0.items)
          (λ t is has are. (are, subst (IsValue value t) c.deref.ensures.value (c.market_value-value.ensures t (index_if_made index (state g.S.Store conn).now t is has))))
          c.in_ok-rows.ensures.read;
    }
