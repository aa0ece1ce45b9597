use Rattle.std.proofs.Common.{◌≡◌, Option, Some, None, ap, find, option_map, sym, true}
use Rattle.std.specs.Prelude.{MatchOption, bytes_eq, is_none}
use Rattle.brk_model.specs.Joins.{security_row_with_symbol}
use Rattle.brk_model.specs.Tables.{SecurityRow, Tables}
use Rattle.brk_money.specs.Spelling.{Text}
use Rattle.brk_ref.specs.Records.{abstract_security_row}
use Rattle.brk_ref.specs.declared.security.Security.{Security}
use Rattle.brk_store_reads.proofs.Retelling.{retold}
use Rattle.brk_trade_theorems.specs.Corrections.{SecurityHasName}
use Rattle.brk_desk_decisions.proofs.update_finding.security_name.Goals as goal

pub returns-in-Some : goal.returns-in-Some
returns-in-Some g c =
    retold g.S.Store c.args.store.now c.security.new.self {X = Option Text} (Some c.in-Some.security) (Some c.in-Some.security.name)
    (λ o (t : Tables). option_map abstract_security_row o ≡ find (λ (r : SecurityRow). bytes_eq r.symbol c.args.symbol.now) t.securities)
    (λ name (t : Tables). MatchOption name (is_none (security_row_with_symbol t c.args.symbol.now) ≡ true) (SecurityHasName t c.args.symbol.now))
    (λ t e. ap (option_map (λ (s : SecurityRow). s.name)) (sym e))
    (rw c.in-Some.is at c.in_ok-security.ensures.read)

pub returns-in-None : goal.returns-in-None
returns-in-None g c =
    retold g.S.Store c.args.store.now c.security.new.self {V = Option Security} {X = Option Text} None None
    (λ o (t : Tables). option_map abstract_security_row o ≡ find (λ (r : SecurityRow). bytes_eq r.symbol c.args.symbol.now) t.securities)
    (λ name (t : Tables). MatchOption name (is_none (security_row_with_symbol t c.args.symbol.now) ≡ true) (SecurityHasName t c.args.symbol.now))
    (λ t e. ap is_none (sym e))
    (rw c.in-None.is at c.in_ok-security.ensures.read)
