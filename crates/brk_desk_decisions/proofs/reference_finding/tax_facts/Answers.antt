use Rattle.std.proofs.Common.{◌≡◌, ◌==◌, ◌∙◌, find, option_map}
use Rattle.brk_model.specs.Tables.{Tables}
use Rattle.brk_ref.specs.Records.{abstract_tax_rate}
use Rattle.brk_trade_books.specs.Reads.{contains_tax_rate}
use Rattle.brk_trade_books.proofs.Reading.{is_there}
use Rattle.brk_trade_plans.specs.declared.reference.ReferenceFacts.{ReferenceFacts}
use Rattle.brk_store_reads.proofs.Retelling.{retold}
use Rattle.brk_desk_decisions.proofs.reference_finding.tax_facts.Goals as goal

pub returns : goal.returns
returns g c =
    retold g.S.Store c.args.store.now c.tax_with_id.new.self c.in_ok-tax_with_id.field-0 _
    (λ o (t : Tables). option_map abstract_tax_rate o ≡ find (λ r. r.id == c.args.id) t.tax_rates) (λ (found : ReferenceFacts) (t : Tables). found.same_id ≡ contains_tax_rate t c.args.id)
    (λ t e. c.is_some-same_id.ensures ∙ is_there abstract_tax_rate c.in_ok-tax_with_id.field-0 (find (λ r. r.id == c.args.id) t.tax_rates) e)
    c.in_ok-tax_with_id.ensures.read
