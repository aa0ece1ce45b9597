use Rattle.std.proofs.Common.{◌≡◌, ◌==◌, Some, None, Option, ap, find, option_map}
use Rattle.std.specs.Prelude.{◌&&◌}
use Rattle.brk_model.specs.Records.{Charge}
use Rattle.brk_model.specs.Tables.{Tables}
use Rattle.brk_money.specs.Kinds.{is_same_trade_type}
use Rattle.brk_ref.specs.Records.{abstract_charge}
use Rattle.brk_ref.specs.declared.charge.Charge as ref
use Rattle.brk_trade_books.specs.OrderReads.{charge_of_type_and_tier}
use Rattle.brk_store_reads.proofs.Retelling.{retold}
use Rattle.brk_desk_decisions.proofs.order_check_reads.charge_of_tier.Goals as goal

pub returns-in-Some : goal.returns-in-Some
returns-in-Some g c =
    retold g.S.Store c.args.store.now c.charge.new.self (Some c.in-Some.charge) (Some c.in-Some.charge.amount)
    (λ o (t : Tables). option_map abstract_charge o ≡ find (λ (r : Charge). is_same_trade_type r.kind c.args.kind && (r.tier == c.args.tier)) t.charges)
    (λ charge (t : Tables). charge ≡ charge_of_type_and_tier t c.args.kind c.args.tier)
    (λ t e. ap (option_map (λ (r : Charge). r.amount)) e)
    (rw c.in-Some.is at c.in_ok-charge.ensures.read)

pub returns-in-None : goal.returns-in-None
returns-in-None g c =
    retold g.S.Store c.args.store.now c.charge.new.self {V = Option ref.Charge} {X = Option _} None None
    (λ o (t : Tables). option_map abstract_charge o ≡ find (λ (r : Charge). is_same_trade_type r.kind c.args.kind && (r.tier == c.args.tier)) t.charges)
    (λ charge (t : Tables). charge ≡ charge_of_type_and_tier t c.args.kind c.args.tier)
    (λ t e. ap (option_map (λ (r : Charge). r.amount)) e)
    (rw c.in-None.is at c.in_ok-charge.ensures.read)
