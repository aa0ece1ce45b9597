use Rattle.brk_store.proofs.KnownTerms.{known_is_read}
use Rattle.brk_store.proofs.store.Store.tax_with_id.Goals as goal

pub returns-in-Some : goal.returns-in-Some
returns-in-Some g c =
    record { read = known_is_read g.S.Store c.self.inside.conn c.known_if_open.new.conn c.args.self.now c.self.inside.index c.in-Some.tax c.self.view_is c.self.invariant.1 c.in-Some.ensures c.known_if_open.ensures.read }
