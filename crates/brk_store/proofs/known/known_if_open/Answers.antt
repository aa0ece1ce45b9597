use Rattle.std.proofs.Common.{◌≡◌, refl, rules}
use Rattle.brk_model.specs.Tables.{Tables}
use Rattle.brk_store_reads.specs.ReadSequences.{IsUnchangedByReads}
use Rattle.brk_store_reads.proofs.Sequences.{none_read, reads_are_read}
use Rattle.brk_store.proofs.AdoptedReads.{unchanged_by_test}
use Rattle.brk_store.proofs.known.known_if_open.Goals as goal

pub returns-in-Ok-clause-read : goal.returns-in-Ok-clause-read
returns-in-Ok-clause-read g c =
    let old = c.args.conn.now in
    let end = c.require_open.new.conn in
    let unchanged : IsUnchangedByReads g.S.Store old end = unchanged_by_test g.S.Store old end (search rules) c.require_open.ensures.unchanged c.require_open.ensures.survives in
    reads_are_read g.S.Store old end c.args.value (λ known (t : Tables). known ≡ c.args.value) (λ clean. (unchanged.unchanged_if_open clean (c.in-Ok.ensures.is_open clean)).was_open)
    (record { answered = λ clean t holds. refl; unchanged = unchanged })

pub returns-in-Err-clause-read : goal.returns-in-Err-clause-read
returns-in-Err-clause-read g c =
    let old = c.args.conn.now in
    let end = c.require_open.new.conn in
    none_read g.S.Store old end c.in-Err.failed (λ known (t : Tables). known ≡ c.args.value)
    (unchanged_by_test g.S.Store old end (search rules) c.require_open.ensures.unchanged c.require_open.ensures.survives)
