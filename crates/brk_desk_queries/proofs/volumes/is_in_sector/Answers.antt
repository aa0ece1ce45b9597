use Rattle.std.proofs.Common.{◌≡◌, ◌∙◌, None, Option, Some, ap, false, find, option_map, rules}
use Rattle.std.specs.Option.{option_map_or}
use Rattle.std.specs.Prelude.{bytes_eq}
use Rattle.brk_model.specs.Tables.{SecurityRow, Tables}
use Rattle.brk_ref.specs.Records.{abstract_security_row}
use Rattle.brk_ref.specs.declared.security.Security.{Security}
use Rattle.brk_store_reads.proofs.Retelling.{retold}
use Rattle.brk_desk_queries.specs.Volumes.{is_symbol_in_sector}
use Rattle.brk_desk_queries.proofs.volumes.is_in_sector.Goals as goal

pub returns-in-Some : goal.returns-in-Some
returns-in-Some g c =
    let security = c.in-Some.security in
    let sector = c.args.sector.now in
    let same : c.eq.result ≡ bytes_eq security.sector sector = first_of (cc, search rules) in
    retold g.S.Store c.args.store.now c.security.new.self (Some security) c.eq.result
    (λ o (t : Tables). option_map abstract_security_row o ≡ find (λ (r : SecurityRow). bytes_eq r.symbol c.args.symbol.now) t.securities)
    (λ is (t : Tables). is ≡ is_symbol_in_sector t sector c.args.symbol.now)
    (λ t e. same ∙ ap (λ o. option_map_or (λ (s : SecurityRow). bytes_eq s.sector sector) o false) e)
    (rw c.in-Some.is at c.in_ok-security.ensures.read)

pub returns-in-None : goal.returns-in-None
returns-in-None g c =
    let sector = c.args.sector.now in
    retold g.S.Store c.args.store.now c.security.new.self {V = Option Security} None false
    (λ o (t : Tables). option_map abstract_security_row o ≡ find (λ (r : SecurityRow). bytes_eq r.symbol c.args.symbol.now) t.securities)
    (λ is (t : Tables). is ≡ is_symbol_in_sector t sector c.args.symbol.now)
    (λ t e. ap (λ o. option_map_or (λ (s : SecurityRow). bytes_eq s.sector sector) o false) e)
    (rw c.in-None.is at c.in_ok-security.ensures.read)
