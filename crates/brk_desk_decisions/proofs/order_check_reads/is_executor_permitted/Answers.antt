use Rattle.std.proofs.Common.{◌≡◌, ◌==◌, ◌∙◌, ap, find, option_map}
use Rattle.std.specs.Prelude.{◌&&◌, bytes_eq, option_to_list}
use Rattle.brk_model.specs.Orders.{is_customer_or_has_permission}
use Rattle.brk_model.specs.Tables.{Tables}
use Rattle.brk_ref.specs.Records.{abstract_customer, abstract_executor, abstract_permission}
use Rattle.brk_trade_books.specs.TradeReads.{permission_list_for_tax_id}
use Rattle.brk_store_reads.proofs.Retelling.{retold}
use Rattle.brk_desk_decisions.proofs.OrderFinds.{listed}
use Rattle.brk_desk_decisions.proofs.order_check_reads.is_executor_permitted.Goals as goal

pub returns : goal.returns
returns g c =
    retold g.S.Store c.args.store.now c.permission.new.self c.in_ok-permission.permission c.permitted.result
    (λ o (t : Tables). option_map abstract_permission o ≡ find (λ r. (r.account == c.args.account) && bytes_eq r.tax_id c.args.executor.now.tax_id) t.permissions)
    (λ is (t : Tables). is
    ≡ is_customer_or_has_permission (abstract_customer c.args.customer.now) (permission_list_for_tax_id t c.args.account c.args.executor.now.tax_id)
    (abstract_executor c.args.executor.now))
    (λ t e. c.permitted.ensures
    ∙ ap (λ ps. is_customer_or_has_permission (abstract_customer c.args.customer.now) ps (abstract_executor c.args.executor.now))
    (listed abstract_permission c.in_ok-permission.permission c.as_slice.result.now c.as_slice.ensures ∙ ap option_to_list e))
    c.in_ok-permission.ensures.read
