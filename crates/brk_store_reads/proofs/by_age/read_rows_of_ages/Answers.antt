use Rattle.std.proofs.Common.{◌≡◌, ◌∙◌, [], length, subst, sym}
use Rattle.std.specs.Global.{Vec}
use Rattle.std.proofs.lemmas.Bool.{eqb-true}
use Rattle.std.proofs.lemmas.List.{nil_from_length}
use Rattle.brk_model.specs.Tables.{Tables}
use Rattle.brk_store_index.specs.declared.age.RowAge.{RowAge}
use Rattle.brk_store_reads.specs.RowsByAge.{AreRowsOfAges}
use Rattle.brk_store_reads.proofs.ByAges.{no_row}
use Rattle.brk_store_reads.proofs.Retelling.{retold}
use Rattle.brk_store_reads.proofs.by_age.read_rows_of_ages.Goals as goal

pub returns-then-is_empty-clause-read : goal.returns-then-is_empty-clause-read
returns-then-is_empty-clause-read g c =
    let found : Tables → RowAge → g.row.R.Denot → Type 0 = λ t age row. g.K.RowsByAge.found c.args.kind.now age row t in
    let ages = c.args.ages.now in
    let none : ages ≡ [] = nil_from_length ages (eqb-true (length ages) 0 (sym c.is_empty.ensures ∙ c.if-is_empty.true)) in
    retold g.S.Store c.args.conn.now c.read_last_stamp.new.conn c.in_ok-_last._last c.new.result (λ last (t : Tables). last ≡ t.last)
    (λ (rows : Vec g.row.R.Denot) (t : Tables). AreRowsOfAges (found t) ages rows.items)
    (λ t is. subst (λ l. AreRowsOfAges (found t) l c.new.result.items) (sym none) (no_row (found t) c.new.result.items c.new.ensures.items))
    c.in_ok-_last.ensures.read
