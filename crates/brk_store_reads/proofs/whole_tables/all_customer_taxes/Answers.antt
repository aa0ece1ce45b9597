use Rattle.brk_ref.specs.Records.{abstract_customer_tax}
use Rattle.brk_tables_schema.specs.Desk.{CustomerTaxes}
use Rattle.brk_tables_schema.proofs.Back.{customer_tax_back, customer_tax_is_back}
use Rattle.brk_store_reads.proofs.WholeTables.{table_read}
use Rattle.brk_store_reads.proofs.whole_tables.all_customer_taxes.Goals as goal

pub returns-clause-step : goal.returns-clause-step
returns-clause-step g c =
    table_read CustomerTaxes abstract_customer_tax customer_tax_back customer_tax_is_back g.S.Store c.args.tx.now c.customer_tax_rows.new.tx c.in_ok-rows.rows c.deref.result.now c.deref.ensures.value c.decode_rows.result c.decode_rows.ensures.value c.in_ok-rows.ensures.step
