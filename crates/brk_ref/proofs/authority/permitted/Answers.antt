use Rattle.std.proofs.Common.{rules, sym, ◌∙◌, tests}
use Rattle.std.proofs.lemmas.Iterator.{YieldsList-from_slice}
use Rattle.std.proofs.lemmas.Iterator.Search.{any_from_yields_List}
use Rattle.brk_model.specs.Orders.{executor_has_identity}
use Rattle.brk_ref.specs.Records.{abstract_executor, abstract_permission}
use Rattle.brk_ref.proofs.Lists.{any_mapped, or_rest}
use Rattle.brk_ref.proofs.authority.permitted.Goals as goal

pub returns-else-has_identity : goal.returns-else-has_identity
returns-else-has_identity c =
    let permissions = c.args.permissions.now in
    let any = any_from_yields_List (λ p. executor_has_identity (abstract_executor c.args.executor.now) p.first_name p.last_name p.tax_id) _ _ _
    c.any.ensures.ran (YieldsList-from_slice permissions cc) (λ x b q k. search (rules, tests))
    ∙ sym (any_mapped (λ p. executor_has_identity (abstract_executor c.args.executor.now) p.first_name p.last_name p.tax_id) abstract_permission permissions) in
    or_rest _ c.any.result _ (sym c.has_identity.ensures ∙ c.if-has_identity.false) any
