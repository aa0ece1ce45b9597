use Rattle.std.proofs.Common.{◌≡◌, ◌==◌, ◌∙◌, find, option_map}
use Rattle.std.specs.Prelude.{◌&&◌}
use Rattle.brk_model.specs.Tables.{Tables}
use Rattle.brk_ref.specs.Records.{abstract_customer_tax}
use Rattle.brk_trade_books.specs.Reads.{contains_customer_tax}
use Rattle.brk_trade_books.proofs.Reading.{is_there}
use Rattle.brk_store_reads.proofs.Retelling.{retold}
use Rattle.brk_desk_decisions.proofs.terms.has_customer_tax.Goals as goal

pub returns : goal.returns
returns g c =
    retold g.S.Store c.args.store.now c.customer_tax.new.self c.in_ok-customer_tax.field-0 c.is_some.result
    (λ o (t : Tables). option_map abstract_customer_tax o ≡ find (λ r. (r.customer == c.args.customer) && (r.tax == c.args.tax)) t.customer_taxes)
    (λ there (t : Tables). there ≡ contains_customer_tax t c.args.customer c.args.tax)
    (λ t e. c.is_some.ensures ∙ is_there abstract_customer_tax c.in_ok-customer_tax.field-0 (find (λ r. (r.customer == c.args.customer) && (r.tax == c.args.tax)) t.customer_taxes) e)
    c.in_ok-customer_tax.ensures.read
