use Rattle.std.proofs.Common.{◌≡◌, ◌==◌, Some, None, Option, ap, find, option_map}
use Rattle.brk_money.specs.declared.cents.Cents.{Cents}
use Rattle.brk_model.specs.Tables.{AccountRow, Tables}
use Rattle.brk_ref.specs.declared.account.AccountRow as account
use Rattle.brk_ref.specs.Records.{abstract_account_row}
use Rattle.brk_store_reads.proofs.Retelling.{retold}
use Rattle.brk_store.proofs.store.Store.read_balance.Goals as goal

pub returns-in-Some : goal.returns-in-Some
returns-in-Some g c =
    record {
      read = retold g.S.Store c.args.self.now c.account.new.self (Some c.in-Some.row) (Some c.in-Some.row.balance)
          (λ o (t : Tables). option_map abstract_account_row o ≡ find (λ (r : AccountRow). r.id == c.args.account) t.accounts)
          (λ balance (t : Tables). balance ≡ option_map (λ r. r.balance) (find (λ (r : AccountRow). r.id == c.args.account) t.accounts))
          (λ t e. ap (option_map (λ (r : AccountRow). r.balance)) e)
          (rw c.in-Some.is at c.in_ok-row.ensures.read);
    }

pub returns-in-None : goal.returns-in-None
returns-in-None g c =
    record {
      read = retold g.S.Store c.args.self.now c.account.new.self {V = Option account.AccountRow} {X = Option Cents} None None
          (λ o (t : Tables). option_map abstract_account_row o ≡ find (λ (r : AccountRow). r.id == c.args.account) t.accounts)
          (λ balance (t : Tables). balance ≡ option_map (λ r. r.balance) (find (λ (r : AccountRow). r.id == c.args.account) t.accounts))
          (λ t e. ap (option_map (λ (r : AccountRow). r.balance)) e)
          (rw c.in-None.is at c.in_ok-row.ensures.read);
    }
