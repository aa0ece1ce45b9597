use Rattle.std.proofs.Common.{◌≡◌, Some, find, option_map, sym}
use Rattle.std.specs.Prelude.{bytes_eq}
use Rattle.brk_model.specs.Tables.{SecurityRow, Tables}
use Rattle.brk_ref.specs.Records.{abstract_security_row}
use Rattle.brk_store_required.specs.Required.{IsSecurityWithSymbol}
use Rattle.brk_store_reads.proofs.Retelling.{retold}
use Rattle.brk_store_required.proofs.required.require_security.Goals as goal

pub returns-in-Some : goal.returns-in-Some
returns-in-Some g c =
    record {
      read = retold g.S.Store c.args.store.now c.security.new.self (Some c.in-Some.security) c.in-Some.security
          (λ o (t : Tables). option_map abstract_security_row o ≡ find (λ (r : SecurityRow). bytes_eq r.symbol c.args.symbol.now) t.securities)
          (λ security (t : Tables). IsSecurityWithSymbol t c.args.symbol.now security)
          (λ t e. sym e)
          (rw c.in-Some.is at c.in_ok-security.ensures.read);
    }
