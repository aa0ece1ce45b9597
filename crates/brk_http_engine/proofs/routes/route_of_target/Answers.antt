use Rattle.std.proofs.Common.{sym, ◌∙◌, arith}
use Rattle.brk_http_engine.specs.declared.router.RouteKind.TheVariants.{Row, KeyedRow, View}
use Rattle.brk_http_engine.proofs.Matched.{matched}
use Rattle.brk_http_engine.proofs.RouteLemmas.{no_text, text_unrouted, with_route}
use Rattle.brk_http_engine.proofs.routes.route_of_target.Goals as goal

pub returns-in_default : goal.returns-in_default
returns-in_default g c = sym (no_text g.D.Service.forms.views c.args.target.now c.in_default.ensures.cases.0)

pub returns-in_default-at : goal.returns-in_default-at
returns-in_default-at g c =
    text_unrouted g.D.Service.forms.views c.args.router.now c.args.target.now c.in-Ok.text.now c.requires.named c.requires.routes
    (λ k. omega (arith, (c.type_inv.target k).fits)) c.in-Ok.ensures.cases.0 c.in-Ok.ensures.cases.1 c.in_default-at.ensures.missing

pub returns-in-Row : goal.returns-in-Row
returns-in-Row g c =
    matched g.D.Service.forms.views Row c.args.router.now _ c.args.target.now c.in-Ok.text.now _ c.requires.routes c.in-Ok.ensures.cases.0 c.in-Ok-at.ensures.path
    (λ k. omega (arith, (c.type_inv.target k).fits)) c.in-Ok.ensures.cases.1 c.in-Ok-at.ensures.found c.in-Row.is

pub returns-in-KeyedRow : goal.returns-in-KeyedRow
returns-in-KeyedRow g c =
    with_route g.D.Service.view_text c.route_to_keyed_row.result
    (matched g.D.Service.forms.views KeyedRow c.args.router.now _ c.args.target.now c.in-Ok.text.now _ c.requires.routes c.in-Ok.ensures.cases.0 c.in-Ok-at.ensures.path
    (λ k. omega (arith, (c.type_inv.target k).fits)) c.in-Ok.ensures.cases.1 c.in-Ok-at.ensures.found c.in-KeyedRow.is
    c.parameter_text-batch.result.now c.parameter_text-n.result.now c.parameter_text-batch.ensures c.parameter_text-n.ensures)
    c.route_to_keyed_row.ensures.route

pub returns-in-View : goal.returns-in-View
returns-in-View g c =
    c.route_to_view.ensures
    ∙ matched g.D.Service.forms.views View c.args.router.now _ c.args.target.now c.in-Ok.text.now _ c.requires.routes c.in-Ok.ensures.cases.0 c.in-Ok-at.ensures.path
    (λ k. omega (arith, (c.type_inv.target k).fits)) c.in-Ok.ensures.cases.1 c.in-Ok-at.ensures.found c.in-View.is
    c.parameter_text-view.result.now c.parameter_text-view.ensures
