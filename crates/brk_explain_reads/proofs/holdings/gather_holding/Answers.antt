use Rattle.std.proofs.Common.{◌≡◌, ◌==◌, ℕ, Err, None, Ok, Option, Result, Some, find, inl, inr, option_map, refl, subst, sym}
use Rattle.std.specs.Prelude.{bytes_eq}
use Rattle.std.proofs.lemmas.Result.{err_from_is_err_and}
use Rattle.brk_money.specs.Spelling.{Text}
use Rattle.brk_money.specs.declared.fault.CallFault.{CallFault}
use Rattle.brk_money.specs.declared.refusal.Refusal.{Refusal}
use Rattle.brk_money.specs.declared.refusal.Refusal.TheVariants.{NoAccount, NoSecurity}
use Rattle.brk_model.specs.Tables.{AccountRow, SecurityRow, Tables}
use Rattle.brk_ref.specs.Records.{abstract_account_row, abstract_security_row}
use Rattle.brk_ref.specs.declared.account.AccountRow as row
use Rattle.brk_ref.specs.declared.security.Security as security
use Rattle.brk_store_reads.proofs.Retelling.{retold}
use Rattle.brk_explain_rows.specs.Details.{AreDetailsOfHolding}
use Rattle.brk_explain_rows.specs.declared.holding_details.HoldingDetails.{HoldingDetails}
use Rattle.brk_explain_reads.specs.HoldingParts.{AreTradesAndLotsOfHolding, AreQuantityAndPrice}
use Rattle.brk_store_reads.proofs.Sequences.{read_with, none_read}
use Rattle.brk_explain_reads.proofs.Reading.{read_failed, both_change_nothing}
use Rattle.brk_store_reads.specs.ReadSequences.{joined_reads_change_nothing, single_read_changes_nothing}
use Rattle.brk_explain_reads.proofs.holdings.gather_holding.Goals as goal

-- the account with an id, and the security with a symbol
abbrev IsRowOf : ℕ → Option row.AccountRow → Tables → Type 0
IsRowOf id o t = option_map abstract_account_row o ≡ find (λ (r : AccountRow). r.id == id) t.accounts

abbrev IsSecurityOf : Text → Option security.Security → Tables → Type 0
IsSecurityOf symbol o t = option_map abstract_security_row o ≡ find (λ (r : SecurityRow). bytes_eq r.symbol symbol) t.securities

-- both
abbrev AreParties : ℕ → Text → row.AccountRow → security.Security → Tables → Type 0
AreParties account symbol a s t = IsRowOf account (Some a) t × IsSecurityOf symbol (Some s) t

pub returns-in_default : goal.returns-in_default
returns-in_default g c =
    retold g.S.Store c.args.store.now c.account.new.self {V = Option row.AccountRow} {X = Result HoldingDetails Refusal} None (Err NoAccount)
    (IsRowOf c.args.account) (AreDetailsOfHolding c.args.account c.args.symbol.now) (λ t e. inl (sym e, refl))
    (rw c.in_default.is at c.in_ok-row.ensures.read)

pub returns-in_default-2 : goal.returns-in_default-2
returns-in_default-2 g c =
    let row = c.in-Some.row in
    read_with g.S.Store c.args.store.now c.account.new.self c.security.new.self {W = Option security.Security} {X = Result HoldingDetails Refusal} {H = CallFault} (Some row) None (Err NoSecurity)
    (IsRowOf c.args.account) (IsSecurityOf c.args.symbol.now) (AreDetailsOfHolding c.args.account c.args.symbol.now)
    (λ t a s. inr (abstract_account_row row, sym a, sym s, refl))
    (rw c.in-Some.is at c.in_ok-row.ensures.read) (rw c.in_default-2.is at c.in_ok-security.ensures.read)

pub returns : goal.returns
returns g c =
    let old = c.args.store.now in
    let account = c.args.account in
    let symbol = c.args.symbol.now in
    let row = c.in-Some.row in
    let security = c.in-Some-2.security in
    let held = c.in_ok-held.held in
    let now = c.in_ok-now.now in
    read_with g.S.Store old c.read_holding_trades.new.store c.read_quantity_with_price.new.store {H = CallFault} held now (Ok c.holding_details_of.result)
    (λ held (t : Tables). AreParties account symbol row security t × AreTradesAndLotsOfHolding t account symbol held)
    (λ now (t : Tables). AreQuantityAndPrice t account symbol now)
    (AreDetailsOfHolding account symbol)
    (λ t k e. subst (λ (s : HoldingDetails). AreDetailsOfHolding account symbol (Ok s) t) (sym c.holding_details_of.ensures) (sym k.0.0, sym k.0.1, k.1.0, k.1.1, e.0, e.1))
    (read_with g.S.Store old c.security.new.self c.read_holding_trades.new.store {H = CallFault} (Some security) held held
    (λ o (t : Tables). AreParties account symbol row security t) (λ held (t : Tables). AreTradesAndLotsOfHolding t account symbol held)
    (λ held (t : Tables). AreParties account symbol row security t × AreTradesAndLotsOfHolding t account symbol held)
    (λ t p k. (p, k))
    (read_with g.S.Store old c.account.new.self c.security.new.self {H = CallFault} (Some row) (Some security) (Some security)
    (IsRowOf account) (IsSecurityOf symbol) (λ o (t : Tables). AreParties account symbol row security t)
    (λ t a s. (a, s))
    (rw c.in-Some.is at c.in_ok-row.ensures.read) (rw c.in-Some-2.is at c.in_ok-security.ensures.read))
    c.in_ok-held.ensures)
    c.in_ok-now.ensures

pub returns-in_err-now : goal.returns-in_err-now
returns-in_err-now g c =
    let old = c.args.store.now in
    let account = c.args.account in
    let symbol = c.args.symbol.now in
    let row = c.in-Some.row in
    let security = c.in-Some-2.security in
    let held = c.in_ok-held.held in
    let p = err_from_is_err_and c.from_residual-in_err-now.result c.from_residual-in_err-now.ensures.1 in
    rw p.1
    (read_failed g.S.Store old c.read_holding_trades.new.store c.read_quantity_with_price.new.store held _ p.0
    (λ held (t : Tables). AreParties account symbol row security t × AreTradesAndLotsOfHolding t account symbol held)
    (λ now (t : Tables). AreQuantityAndPrice t account symbol now)
    (AreDetailsOfHolding account symbol)
    (read_with g.S.Store old c.security.new.self c.read_holding_trades.new.store {H = CallFault} (Some security) held held
    (λ o (t : Tables). AreParties account symbol row security t) (λ held (t : Tables). AreTradesAndLotsOfHolding t account symbol held)
    (λ held (t : Tables). AreParties account symbol row security t × AreTradesAndLotsOfHolding t account symbol held)
    (λ t p k. (p, k))
    (read_with g.S.Store old c.account.new.self c.security.new.self {H = CallFault} (Some row) (Some security) (Some security)
    (IsRowOf account) (IsSecurityOf symbol) (λ o (t : Tables). AreParties account symbol row security t)
    (λ t a s. (a, s))
    (rw c.in-Some.is at c.in_ok-row.ensures.read) (rw c.in-Some-2.is at c.in_ok-security.ensures.read))
    c.in_ok-held.ensures)
    c.in_err-now.ensures)

pub returns-in_err-security : goal.returns-in_err-security
returns-in_err-security g c =
    let old = c.args.store.now in
    let mid = c.account.new.self in
    let end = c.security.new.self in
    let p = err_from_is_err_and c.from_residual-in_err-security.result c.from_residual-in_err-security.ensures.1 in
    rw p.1 (none_read g.S.Store old end p.0 _ (both_change_nothing g.S.Store old mid end _ _ _ _ c.in_ok-row.ensures.read c.in_err-security.ensures.read))

pub returns-in_err-held : goal.returns-in_err-held
returns-in_err-held g c =
    let old = c.args.store.now in
    let mid = c.account.new.self in
    let late = c.security.new.self in
    let end = c.read_holding_trades.new.store in
    let p = err_from_is_err_and c.from_residual-in_err-held.result c.from_residual-in_err-held.ensures.1 in
    rw p.1
    (none_read g.S.Store old end p.0 _
    (joined_reads_change_nothing old late end (both_change_nothing g.S.Store old mid late _ _ _ _ c.in_ok-row.ensures.read c.in_ok-security.ensures.read)
    (single_read_changes_nothing late end _ _ c.in_err-held.ensures)))
