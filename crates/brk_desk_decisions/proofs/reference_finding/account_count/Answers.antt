use Rattle.std.proofs.Common.{◌≡◌, ◌==◌, ◌∙◌, filter, map}
use Rattle.brk_model.specs.Tables.{Tables}
use Rattle.brk_ref.specs.Records.{abstract_account_row}
use Rattle.brk_trade_books.specs.Reads.{account_count_of_customer}
use Rattle.brk_trade_books.proofs.Reading.{are_counted}
use Rattle.brk_store_reads.proofs.Retelling.{retold}
use Rattle.brk_desk_decisions.proofs.reference_finding.account_count.Goals as goal

pub returns : goal.returns
returns g c =
    retold g.S.Store c.args.store.now c.accounts_of_customer.new.self c.in_ok-accounts_of_customer.field-0 c.len.result
    (λ all (t : Tables). map abstract_account_row all.items ≡ filter (λ r. r.customer == c.args.customer) t.accounts) (λ count (t : Tables). count ≡ account_count_of_customer t c.args.customer)
    (λ t e. c.len.ensures ∙ c.in_ok-accounts_of_customer.field-0.ok.0
    ∙ are_counted abstract_account_row c.in_ok-accounts_of_customer.field-0.items (filter (λ r. r.customer == c.args.customer) t.accounts) e)
    c.in_ok-accounts_of_customer.ensures.read
