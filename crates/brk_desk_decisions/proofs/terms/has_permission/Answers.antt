use Rattle.std.proofs.Common.{◌≡◌, ◌==◌, ◌∙◌, find, option_map}
use Rattle.std.specs.Prelude.{◌&&◌, bytes_eq}
use Rattle.brk_model.specs.Tables.{Tables}
use Rattle.brk_ref.specs.Records.{abstract_permission}
use Rattle.brk_trade_books.specs.Reads.{contains_permission}
use Rattle.brk_trade_books.proofs.Reading.{is_there}
use Rattle.brk_store_reads.proofs.Retelling.{retold}
use Rattle.brk_desk_decisions.proofs.terms.has_permission.Goals as goal

pub returns : goal.returns
returns g c =
    retold g.S.Store c.args.store.now c.permission.new.self c.in_ok-permission.field-0 c.is_some.result
    (λ o (t : Tables). option_map abstract_permission o ≡ find (λ r. (r.account == c.args.account) && bytes_eq r.tax_id c.args.tax_id.now) t.permissions)
    (λ there (t : Tables). there ≡ contains_permission t c.args.account c.args.tax_id.now)
    (λ t e. c.is_some.ensures ∙ is_there abstract_permission c.in_ok-permission.field-0 (find (λ r. (r.account == c.args.account) && bytes_eq r.tax_id c.args.tax_id.now) t.permissions) e)
    c.in_ok-permission.ensures.read
