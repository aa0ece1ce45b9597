use Rattle.std.proofs.Common.{◌≡◌, ◌==◌, ◌∙◌, find, option_map}
use Rattle.std.specs.Prelude.{◌&&◌}
use Rattle.brk_money.specs.Kinds.{is_same_trade_type}
use Rattle.brk_model.specs.Tables.{Tables}
use Rattle.brk_ref.specs.Records.{abstract_charge}
use Rattle.brk_trade_books.specs.Reads.{contains_charge}
use Rattle.brk_trade_books.proofs.Reading.{is_there}
use Rattle.brk_trade_plans.specs.declared.reference.ReferenceFacts.{ReferenceFacts}
use Rattle.brk_store_reads.proofs.Retelling.{retold}
use Rattle.brk_desk_decisions.proofs.terms.charge_facts.Goals as goal

pub returns : goal.returns
returns g c =
    retold g.S.Store c.args.store.now c.charge.new.self c.in_ok-charge.field-0 _
    (λ o (t : Tables). option_map abstract_charge o ≡ find (λ r. is_same_trade_type r.kind c.args.charge.now.kind && (r.tier == c.args.charge.now.tier))
    t.charges) (λ (found : ReferenceFacts) (t : Tables). found.same_id ≡ contains_charge t c.args.charge.now.kind c.args.charge.now.tier)
    (λ t e. c.is_some-same_id.ensures
    ∙ is_there abstract_charge c.in_ok-charge.field-0
    (find (λ r. is_same_trade_type r.kind c.args.charge.now.kind && (r.tier == c.args.charge.now.tier)) t.charges) e)
    c.in_ok-charge.ensures.read
