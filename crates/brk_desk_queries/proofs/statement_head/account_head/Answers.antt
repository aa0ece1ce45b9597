use Rattle.std.proofs.Common.{◌≡◌, ◌==◌, ◌∙◌, ℕ, ℤ, Some, None, Option, ap, find, option_map, refl, sym}
use Rattle.std.proofs.lemmas.Bool.{eqb-true}
use Rattle.brk_money.specs.declared.fault.CallFault.{CallFault}
use Rattle.brk_model.specs.PositionView.{market_value_of_account_row}
use Rattle.brk_model.specs.Tables.{AccountRow, Tables}
use Rattle.brk_ref.specs.declared.account.AccountRow as account
use Rattle.brk_ref.specs.Records.{abstract_account_row}
use Rattle.brk_trade_books.proofs.Places.{find-at}
use Rattle.brk_store_reads.proofs.Retelling.{retold}
use Rattle.brk_store_required.specs.Valuation.{market_value_of_account}
use Rattle.brk_store_reads.proofs.Sequences.{failed_after, read_with}
use Rattle.brk_desk_queries.specs.Heads.{IsStatementHeadOfAccount}
use Rattle.brk_desk_queries.specs.declared.statement_head.Head.{Head}
use Rattle.std.proofs.lemmas.Result.{err_from_is_err_and}
use Rattle.brk_store_reads.specs.ReadSequences.{single_read_changes_nothing}
use Rattle.brk_desk_queries.proofs.statement_head.account_head.Goals as goal

-- the worth of what the account with an id holds
worth_is : (t : Tables) (id : ℕ) (a : AccountRow) (worth : ℤ) → Some a ≡ find (λ (r : AccountRow). r.id == id) t.accounts → worth ≡ market_value_of_account t id
    → worth ≡ market_value_of_account_row t a
worth_is t id a worth found e = e ∙ ap (market_value_of_account t) (sym (eqb-true a.id id (find-at (λ (r : AccountRow). r.id == id) t.accounts a (sym found)).passes))

pub returns-in_default : goal.returns-in_default
returns-in_default g c =
    retold g.S.Store c.args.store.now c.account.new.self {V = Option account.AccountRow} {X = Option Head} None None
    (λ o (t : Tables). option_map abstract_account_row o ≡ find (λ (r : AccountRow). r.id == c.args.account) t.accounts)
    (IsStatementHeadOfAccount c.args.account)
    (λ t e. sym e)
    (rw c.in_default.is at c.in_ok-row.ensures.read)

pub returns : goal.returns
returns g c =
    read_with g.S.Store c.args.store.now c.account.new.self c.read_holdings_value.new.store {H = CallFault} (Some c.in-Some.row) c.in_ok-holdings.holdings
    (Some (record { name = c.in-Some.row.account.name; opening = c.in-Some.row.account.opening; holdings = c.in_ok-holdings.holdings }))
    (λ o (t : Tables). option_map abstract_account_row o ≡ find (λ (r : AccountRow). r.id == c.args.account) t.accounts)
    (λ worth t. worth ≡ market_value_of_account t c.args.account)
    (IsStatementHeadOfAccount c.args.account)
    (λ t e w. (abstract_account_row c.in-Some.row, sym e, refl, refl, worth_is t c.args.account (abstract_account_row c.in-Some.row) c.in_ok-holdings.holdings e w))
    (rw c.in-Some.is at c.in_ok-row.ensures.read) c.in_ok-holdings.ensures.read

pub returns-in_err-holdings : goal.returns-in_err-holdings
returns-in_err-holdings g c =
    let old = c.args.store.now in
    let p = err_from_is_err_and c.from_residual-in_err-holdings.result c.from_residual-in_err-holdings.ensures.1 in
    rw p.1 (failed_after g.S.Store old c.account.new.self c.read_holdings_value.new.store _ p.0 _ _
    (single_read_changes_nothing old c.account.new.self _ _ c.in_ok-row.ensures.read) c.in_err-holdings.ensures.read)
