use Rattle.std.proofs.Common.{◌≡◌, ◌∙◌, find, option_map}
use Rattle.std.specs.Prelude.{bytes_eq}
use Rattle.brk_model.specs.Tables.{Tables}
use Rattle.brk_ref.specs.Records.{abstract_customer}
use Rattle.brk_trade_books.specs.Reads.{contains_customer_with_tax_id}
use Rattle.brk_trade_books.proofs.Reading.{is_there}
use Rattle.brk_store_reads.proofs.Retelling.{retold}
use Rattle.brk_desk_decisions.proofs.reference_finding.tax_id_exists.Goals as goal

pub returns : goal.returns
returns g c =
    retold g.S.Store c.args.store.now c.customer_by_tax_id.new.self c.in_ok-customer_by_tax_id.field-0 c.is_some.result
    (λ o (t : Tables). option_map abstract_customer o ≡ find (λ r. bytes_eq r.tax_id c.args.tax_id.now) t.customers) (λ there (t : Tables). there ≡ contains_customer_with_tax_id t c.args.tax_id.now)
    (λ t e. c.is_some.ensures ∙ is_there abstract_customer c.in_ok-customer_by_tax_id.field-0 (find (λ r. bytes_eq r.tax_id c.args.tax_id.now) t.customers) e)
    c.in_ok-customer_by_tax_id.ensures.read
