use Rattle.std.proofs.Common.{◌≡◌, [], None, Some}
use Rattle.std.specs.Prelude.{option_to_list}
use Rattle.brk_model.specs.Tables.{Tables}
use Rattle.brk_store_index.specs.declared.age.RowAge.{RowAge}
use Rattle.brk_store_reads.specs.RowsByAge.{AreRowsOfAges}
use Rattle.brk_store_reads.proofs.Retelling.{retold}
use Rattle.brk_store_reads.proofs.by_age.read_optional_row.Goals as goal

pub returns-in-Some-clause-read : goal.returns-in-Some-clause-read
returns-in-Some-clause-read g c =
    let found : Tables → RowAge → g.row.R.Denot → Type 0 = λ t age row. g.K.RowsByAge.found c.args.kind.now age row t in
    let age = c.in-Some.age in
    let row = c.in_ok-row.row in
    rw c.in-Some.is
    (retold g.S.Store c.args.conn.now c.row_of_age.new.conn row (Some row)
    (λ r t. found t age r) (λ r t. AreRowsOfAges (found t) (option_to_list (Some age)) (option_to_list r)) (λ t p. (p, tt)) c.in_ok-row.ensures.read)

pub returns-clause-read : goal.returns-clause-read
returns-clause-read g c =
    let found : Tables → RowAge → g.row.R.Denot → Type 0 = λ t age row. g.K.RowsByAge.found c.args.kind.now age row t in
    rw c.in_default.is
    (retold g.S.Store c.args.conn.now c.read_last_stamp.new.conn c.in_ok-_last._last None
    (λ last (t : Tables). last ≡ t.last) (λ r t. AreRowsOfAges (found t) [] (option_to_list r)) (λ t is. tt) c.in_ok-_last.ensures.read)
