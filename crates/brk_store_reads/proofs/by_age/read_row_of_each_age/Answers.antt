use Rattle.std.proofs.Common.{◌+◌, Ok, arith, subst, take}
use Rattle.std.specs.Global.{Vec}
use Rattle.std.proofs.lemmas.List.{take_all}
use Rattle.std.proofs.lemmas.Result.{err_from_is_err_and}
use Rattle.brk_money.specs.declared.fault.CallFault.{CallFault}
use Rattle.brk_model.specs.Tables.{Tables}
use Rattle.brk_store_index.specs.declared.age.RowAge.{RowAge}
use Rattle.brk_store_reads.specs.RowsByAge.{AreRowsOfAges}
use Rattle.brk_store_reads.proofs.ByAges.{no_row, one_row, was_open_before}
use Rattle.brk_store_reads.proofs.Sequences.{no_reads, none_read, one_read, reads_are_read, reads_both, reads_retold, unchanged_after}
use Rattle.brk_store_reads.proofs.by_age.read_row_of_each_age.Goals as goal

pub loop-age-init : goal.loop-age-init
loop-age-init g c = record {
  reads = no_reads g.S.Store c.args.conn.now tt _ (λ t. no_row (λ age row. g.K.RowsByAge.found c.args.kind.now age row t) c.new-found.result.items c.new-found.ensures.items);
  opened = λ some. absurd (omega arith);
  mode = c.requires.mode;
}

pub loop-age-preserved : goal.loop-age-preserved
loop-age-preserved g c =
    let ages = c.args.ages.now in
    let i = c.loop-age.age-index in
    let row = c.in_ok-row.row in
    let found : Tables → RowAge → g.row.R.Denot → Type 0 = λ t age row. g.K.RowsByAge.found c.args.kind.now age row t in
    record {
      reads = reads_both g.S.Store c.args.conn.now c.loop-age.conn c.row_of_age.new.conn {H = CallFault} tt row tt
          (λ _ t. AreRowsOfAges (found t) (take i ages) c.loop-age.found.items) (λ r t. found t c.age-item.result r)
          (λ _ t. AreRowsOfAges (found t) (take (i + 1) ages) c.push.new.self.items)
          (λ t p q. one_row (found t) ages i c.age-item.result c.loop-age.found.items c.push.new.self.items row c.loop-age-test.true c.age-item.is c.in_ok-push.ensures.items p q)
          c.loop-age.invariant.reads (one_read g.S.Store c.loop-age.conn c.row_of_age.new.conn (Ok row) (λ r t. found t c.age-item.result r) c.in_ok-row.ensures.read);
      opened = λ some clean. was_open_before g.S.Store c.args.conn.now c.loop-age.conn c.row_of_age.new.conn row (λ r t. found t c.age-item.result r)
          c.loop-age.invariant.reads.unchanged c.in_ok-row.ensures.read clean;
      mode = c.row_of_age.ensures.mode;
    }

pub returns-clause-read : goal.returns-clause-read
returns-clause-read g c =
    let ages = c.args.ages.now in
    let i = c.loop-age.age-index in
    let found : Tables → RowAge → g.row.R.Denot → Type 0 = λ t age row. g.K.RowsByAge.found c.args.kind.now age row t in
    let told = λ (rows : Vec g.row.R.Denot) (t : Tables). AreRowsOfAges (found t) ages rows.items in
    reads_are_read g.S.Store c.args.conn.now c.loop-age.conn c.loop-age.found told (c.loop-age.invariant.opened (omega (arith, c.requires.some, c.loop-age-test.false)))
    (reads_retold g.S.Store c.args.conn.now c.loop-age.conn tt c.loop-age.found (λ _ t. AreRowsOfAges (found t) (take i ages) c.loop-age.found.items) told
    (λ t p. subst (λ l. AreRowsOfAges (found t) l c.loop-age.found.items) (take_all i ages c.loop-age-test.false) p) c.loop-age.invariant.reads)

pub returns-in_err-row-clause-read : goal.returns-in_err-row-clause-read
returns-in_err-row-clause-read g c =
    let found : Tables → RowAge → g.row.R.Denot → Type 0 = λ t age row. g.K.RowsByAge.found c.args.kind.now age row t in
    let p = err_from_is_err_and c.from_residual.result c.from_residual.ensures.1 in
    rw p.1 (none_read g.S.Store c.args.conn.now c.row_of_age.new.conn p.0 _
    (unchanged_after g.S.Store c.args.conn.now c.loop-age.conn c.row_of_age.new.conn c.row_of_age.result (λ r t. found t c.age-item.result r) c.loop-age.invariant.reads.unchanged c.row_of_age.ensures.read))

pub returns-in_err-push-clause-read : goal.returns-in_err-push-clause-read
returns-in_err-push-clause-read g c =
    let found : Tables → RowAge → g.row.R.Denot → Type 0 = λ t age row. g.K.RowsByAge.found c.args.kind.now age row t in
    let p = err_from_is_err_and c.from_residual-in_err-push.result c.from_residual-in_err-push.ensures.1 in
    rw p.1 (none_read g.S.Store c.args.conn.now c.row_of_age.new.conn p.0 _
    (unchanged_after g.S.Store c.args.conn.now c.loop-age.conn c.row_of_age.new.conn c.row_of_age.result (λ r t. found t c.age-item.result r) c.loop-age.invariant.reads.unchanged c.row_of_age.ensures.read))
