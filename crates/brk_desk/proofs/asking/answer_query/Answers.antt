use Rattle.std.proofs.lemmas.Result.{err_from_is_err_and}
use Rattle.brk_view_rows.specs.Queries.{abstract_query}
use Rattle.brk_desk.proofs.Asked.{is_asked, is_failed}
use Rattle.brk_desk.proofs.asking.answer_query.Goals as goal

pub returns : goal.returns
returns g c = record {
  asked =
      is_asked g.S.Store c.args.store.now c.view_of_query.new.store (abstract_query c.args.query.now) c.in_ok-view_of_query.field-0 c.in_ok-view_of_query.ensures;
}

pub returns-in_err-view_of_query : goal.returns-in_err-view_of_query
returns-in_err-view_of_query g c =
    let p = err_from_is_err_and c.from_residual.result c.from_residual.ensures.1 in
    record {
      asked = rw (p.1, p.2)
          (is_failed g.S.Store c.args.store.now c.view_of_query.new.store (abstract_query c.args.query.now) _ _ c.in_err-view_of_query.ensures);
    }
