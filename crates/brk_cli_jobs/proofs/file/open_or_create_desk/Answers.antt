use Rattle.std.proofs.Common.{Err, Ok, refl, ap, ◌∙◌}
use Rattle.std.proofs.lemmas.Result.{err_from_is_err_and}
use Rattle.brk_cli_jobs.proofs.Outcomes.{created_desk, failed_to_create, found_desk}
use Rattle.brk_cli_jobs.proofs.file.open_or_create_desk.Goals as goal

pub returns-in_err-close_desk-in-Ok-clause-opened :
    goal.returns-in_err-close_desk-in-Ok-clause-opened
returns-in_err-close_desk-in-Ok-clause-opened g c =
    let failed = c.in_err-close_desk-in-Ok in
    let fault = err_from_is_err_and c.from_residual-in_err-close_desk-in-Ok.result c.from_residual-in_err-close_desk-in-Ok.ensures.1 in
    created_desk g.S.Store g.P.FilePlace.connects g.P.FilePlace.disconnects c.args.path.now c.in_ok-first.first c.in-Ok.store (Err failed.field-0.0) _
    c.in_ok-first.ensures c.in-Ok.ensures.created failed.ensures (fault.1 ∙ ap (λ f. Err f) fault.2)

pub returns-in_ok-close_desk-in-Ok-clause-opened :
    goal.returns-in_ok-close_desk-in-Ok-clause-opened
returns-in_ok-close_desk-in-Ok-clause-opened g c =
    created_desk g.S.Store g.P.FilePlace.connects g.P.FilePlace.disconnects c.args.path.now c.in_ok-first.first c.in-Ok.store (Ok tt) _
    c.in_ok-first.ensures c.in-Ok.ensures.created c.in_ok-close_desk-in-Ok.ensures c.adopt_file.ensures.adopted

pub returns-in-Err-default-Damaged-clause-opened :
    goal.returns-in-Err-default-Damaged-clause-opened
returns-in-Err-default-Damaged-clause-opened g c =
    let refused = c.in-Err-default-Damaged in
    found_desk g.S.Store g.P.FilePlace.connects g.P.FilePlace.disconnects c.args.path.now c.in_ok-first.first refused.conn refused.field-0-1
    refused.field-0-1-0 _ refused.field-0-1-is refused.ensures.fault c.in_ok-first.ensures refused.ensures.created c.adopt_or_close.ensures.adopted

pub returns-in-Err-default-Store-clause-opened :
    goal.returns-in-Err-default-Store-clause-opened
returns-in-Err-default-Store-clause-opened g c =
    let failed = c.in-Err-default-Store in
    failed_to_create g.S.Store g.P.FilePlace.connects g.P.FilePlace.disconnects c.args.path.now c.in_ok-first.first failed.conn failed.field-0-1
    c.close_after.result _ failed.field-0-1-is c.close_after.ensures.same c.in_ok-first.ensures failed.ensures.created c.close_after.ensures.closed refl
