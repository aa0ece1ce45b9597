use Rattle.std.proofs.Common.{◌≡◌, ◌∙◌, find, option_map}
use Rattle.std.specs.Prelude.{bytes_eq}
use Rattle.brk_model.specs.Tables.{Tables}
use Rattle.brk_ref.specs.Records.{abstract_security_row}
use Rattle.brk_model.specs.Form.{has_security}
use Rattle.brk_trade_books.proofs.Reading.{is_there}
use Rattle.brk_trade_plans.specs.declared.reference.ReferenceFacts.{ReferenceFacts}
use Rattle.brk_store_reads.proofs.Retelling.{retold}
use Rattle.brk_desk_decisions.proofs.reference_finding.security_facts.Goals as goal

pub returns : goal.returns
returns g c =
    retold g.S.Store c.args.store.now c.security.new.self c.in_ok-security.field-0 _
    (λ o (t : Tables). option_map abstract_security_row o ≡ find (λ r. bytes_eq r.symbol c.args.symbol.now) t.securities)
    (λ (found : ReferenceFacts) (t : Tables). found.same_id ≡ has_security t c.args.symbol.now)
    (λ t e. c.is_some-same_id.ensures ∙ is_there abstract_security_row c.in_ok-security.field-0 (find (λ r. bytes_eq r.symbol c.args.symbol.now) t.securities) e)
    c.in_ok-security.ensures.read
