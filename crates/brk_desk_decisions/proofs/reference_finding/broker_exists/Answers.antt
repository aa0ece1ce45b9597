use Rattle.std.proofs.Common.{◌≡◌, ◌==◌, ◌∙◌, find, option_map}
use Rattle.brk_model.specs.Tables.{Tables}
use Rattle.brk_ref.specs.Records.{abstract_broker_row}
use Rattle.brk_model.specs.Form.{has_broker}
use Rattle.brk_trade_books.proofs.Reading.{is_there}
use Rattle.brk_store_reads.proofs.Retelling.{retold}
use Rattle.brk_desk_decisions.proofs.reference_finding.broker_exists.Goals as goal

pub returns : goal.returns
returns g c =
    retold g.S.Store c.args.store.now c.broker.new.self c.in_ok-broker.field-0 c.is_some.result
    (λ o (t : Tables). option_map abstract_broker_row o ≡ find (λ r. r.id == c.args.id) t.brokers) (λ there (t : Tables). there ≡ has_broker t c.args.id)
    (λ t e. c.is_some.ensures ∙ is_there abstract_broker_row c.in_ok-broker.field-0 (find (λ r. r.id == c.args.id) t.brokers) e)
    c.in_ok-broker.ensures.read
