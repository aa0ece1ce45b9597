use Rattle.std.proofs.Common.{◌≡◌, ℤ, ap}
use Rattle.brk_store_required.specs.Valuation.{market_value_of_account}
use Rattle.brk_model.specs.Tables.{Tables}
use Rattle.brk_ref.specs.Records.{abstract_account_row}
use Rattle.brk_store_reads.proofs.Retelling.{retold}
use Rattle.brk_view_rows.specs.Worths.{worth_of_account}
use Rattle.brk_view_rows.specs.declared.worths.AccountWorth.{AccountWorth}
use Rattle.brk_desk_queries.proofs.accounts.read_worth.Goals as goal

pub returns : goal.returns
returns g c =
    let row = c.args.row.now in
    let of : ℤ → AccountWorth = λ assets. record { account = row.account.id; balance = row.balance; assets = assets } in
    retold g.S.Store c.args.store.now c.read_holdings_value.new.store c.in_ok-assets.assets (of c.in_ok-assets.assets)
    (λ assets (t : Tables). assets ≡ market_value_of_account t row.account.id) (λ worth (t : Tables). worth ≡ worth_of_account t (abstract_account_row row))
    (λ t e. ap of e) c.in_ok-assets.ensures.read
