use Rattle.std.proofs.Common.{◌∙◌, subst}
use Rattle.std.proofs.lemmas.Result.{err_from_is_err_and}
use Rattle.brk_store_transactions.specs.Holds.{ReadPost}
use Rattle.brk_store_reads.specs.RowsByAge.{AreRowsOfAges}
use Rattle.brk_store_reads.specs.ReadSequences.{empty_read_sequence_changes_nothing}
use Rattle.brk_store_reads.proofs.Sequences.{none_read}
use Rattle.brk_store_reads.proofs.by_age.read_all_rows.Goals as goal

pub returns-clause-read : goal.returns-clause-read
returns-clause-read g c =
    subst (λ ages. ReadPost g.S.Store c.args.conn.now c.read_rows_of_ages.new.conn c.read_rows_of_ages.result
    (λ rows t. AreRowsOfAges (λ age row. g.K.RowsByAge.found c.args.kind.now age row t) ages rows.items))
    (c.deref.ensures.value ∙ c.in_ok-all.ensures) c.read_rows_of_ages.ensures.read

pub returns-in_err-all-clause-read : goal.returns-in_err-all-clause-read
returns-in_err-all-clause-read g c =
    let p = err_from_is_err_and c.from_residual.result c.from_residual.ensures.1 in
    rw p.1 (none_read g.S.Store c.args.conn.now c.args.conn.now p.0 _ (empty_read_sequence_changes_nothing c.args.conn.now))
