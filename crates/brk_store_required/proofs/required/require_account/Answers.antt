use Rattle.std.proofs.Common.{◌≡◌, ◌==◌, Some, find, option_map, sym}
use Rattle.brk_model.specs.Tables.{AccountRow, Tables}
use Rattle.brk_ref.specs.Records.{abstract_account_row}
use Rattle.brk_store_required.specs.Required.{IsAccountWithId}
use Rattle.brk_store_reads.proofs.Retelling.{retold}
use Rattle.brk_store_required.proofs.required.require_account.Goals as goal

pub returns-in-Some : goal.returns-in-Some
returns-in-Some g c =
    record {
      read = retold g.S.Store c.args.store.now c.account.new.self (Some c.in-Some.account) c.in-Some.account
          (λ o (t : Tables). option_map abstract_account_row o ≡ find (λ (r : AccountRow). r.id == c.args.id) t.accounts) (λ account (t : Tables). IsAccountWithId t c.args.id account)
          (λ t e. sym e)
          (rw c.in-Some.is at c.in_ok-account.ensures.read);
    }
