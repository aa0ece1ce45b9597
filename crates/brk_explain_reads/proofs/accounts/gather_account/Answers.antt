use Rattle.std.proofs.Common.{◌≡◌, ◌==◌, ℕ, None, Option, Some, find, map, option_map, sym}
use Rattle.brk_money.specs.declared.fault.CallFault.{CallFault}
use Rattle.brk_model.specs.Tables.{AccountRow, Tables}
use Rattle.brk_ref.specs.Records.{abstract_account_row}
use Rattle.brk_ref.specs.declared.account.AccountRow as row
use Rattle.brk_store_reads.proofs.Retelling.{retold}
use Rattle.brk_model_explain.specs.AccountLines.{priced_holdings_of_account}
use Rattle.brk_explain_rows.specs.Details.{AreDetailsOfAccount, abstract_priced_holding}
use Rattle.brk_explain_rows.specs.declared.account_details.AccountDetails.{AccountDetails}
use Rattle.brk_store_reads.proofs.Sequences.{read_with, none_read}
use Rattle.brk_explain_reads.proofs.Reading.{both_change_nothing}
use Rattle.std.proofs.lemmas.Result.{err_from_is_err_and}
use Rattle.brk_explain_reads.proofs.accounts.gather_account.Goals as goal

-- the account with an id
abbrev IsRowOf : ℕ → Option row.AccountRow → Tables → Type 0
IsRowOf id o t = option_map abstract_account_row o ≡ find (λ (r : AccountRow). r.id == id) t.accounts

pub returns-in_default : goal.returns-in_default
returns-in_default g c =
    retold g.S.Store c.args.store.now c.account.new.self {V = Option row.AccountRow} {X = Option AccountDetails} None None
    (IsRowOf c.args.account) (AreDetailsOfAccount c.args.account) (λ t e. sym e)
    (rw c.in_default.is at c.in_ok-row.ensures.read)

pub returns : goal.returns
returns g c =
    let row = c.in-Some.row in
    let held = c.in_ok-held.held in
    let details : AccountDetails = record { account = row; held = held } in
    read_with g.S.Store c.args.store.now c.account.new.self c.read_priced_holdings.new.store {H = CallFault} (Some row) held (Some details)
    (IsRowOf c.args.account) (λ held (t : Tables). map abstract_priced_holding held.items ≡ priced_holdings_of_account t c.args.account) (AreDetailsOfAccount c.args.account)
    (λ t e k. (sym e, k))
    (rw c.in-Some.is at c.in_ok-row.ensures.read) c.in_ok-held.ensures

pub returns-in_err-held : goal.returns-in_err-held
returns-in_err-held g c =
    let old = c.args.store.now in
    let mid = c.account.new.self in
    let end = c.read_priced_holdings.new.store in
    let p = err_from_is_err_and c.from_residual-in_err-held.result c.from_residual-in_err-held.ensures.1 in
    rw p.1 (none_read g.S.Store old end p.0 _ (both_change_nothing g.S.Store old mid end _ _ _ _ c.in_ok-row.ensures.read c.in_err-held.ensures))
