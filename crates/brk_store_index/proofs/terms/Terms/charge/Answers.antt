use Rattle.std.proofs.Common.{◌∙◌, ◌==◌, ◌&&◌, Bool, ap, find, map}
use Rattle.brk_money.specs.Kinds.{is_same_trade_type}
use Rattle.brk_model.specs.Records.{Charge}
use Rattle.brk_ref.specs.Records.{abstract_charge}
use Rattle.brk_store_index.proofs.terms.Terms.charge.Goals as goal

pub returns : goal.returns
returns c t are =
    let test : Charge → Bool = λ r. is_same_trade_type r.kind c.args.kind && (r.tier == c.args.tier) in
    c.find_charge.ensures ∙ ap (λ l. find test (map abstract_charge l)) c.deref.ensures.value ∙ ap (find test) are.charge_rows
