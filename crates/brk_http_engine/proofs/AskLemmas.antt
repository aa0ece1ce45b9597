-- The demand of a request, check by check.
use Rattle.std.proofs.Common.{◌≡◌, List, Some, None, true, false, refl, codes}
use Rattle.std.specs.Prelude.{bytes_eq}
use Rattle.brk_money.specs.Spelling.{Text}
use Rattle.brk_model_http.specs.Asked.{ResponseOnly, RequestParsers, demand_of_texts, demand_of_request}
use Rattle.brk_model_http.specs.Bodies.{texts_of_body}
use Rattle.brk_model_http.specs.Found.{Request}
use Rattle.brk_model_http.specs.Replies.{FromProblem}
use Rattle.brk_model_http.specs.Routes.{Route, route_of_target}
use Rattle.brk_model_http.specs.declared.problem.RequestProblem.TheVariants.{NotFound, NotAllowed, BadRequest}

pub no_route : (forms : RequestParsers) (q : Request) → route_of_target forms.views q.target ≡ None → ResponseOnly (FromProblem NotFound) ≡ demand_of_request forms q
unfolding demand_of_request
no_route forms q e = rw (demand_of_request, e) refl

pub no_post : (forms : RequestParsers) (q : Request) (route : Route) → route_of_target forms.views q.target ≡ Some route
    → bytes_eq q.method (codes "POST") ≡ false → ResponseOnly (FromProblem NotAllowed) ≡ demand_of_request forms q
unfolding demand_of_request
no_post forms q route e t = rw (demand_of_request, e, t) refl

pub no_texts : (forms : RequestParsers) (q : Request) (route : Route) → route_of_target forms.views q.target ≡ Some route → bytes_eq q.method (codes "POST") ≡ true → texts_of_body q.body ≡ None
    → ResponseOnly (FromProblem BadRequest) ≡ demand_of_request forms q
unfolding demand_of_request
no_texts forms q route e t b = rw (demand_of_request, e, t, b) refl

pub all_there : (forms : RequestParsers) (q : Request) (route : Route) (texts : List Text) → route_of_target forms.views q.target ≡ Some route
    → bytes_eq q.method (codes "POST") ≡ true → texts_of_body q.body ≡ Some texts
    → demand_of_texts forms route texts ≡ demand_of_request forms q
unfolding demand_of_request
all_there forms q route texts e t b = rw (demand_of_request, e, t, b) refl

-- What a request demands, at each of its checks.
pub ruleset demand_checks = (no_route, no_post, no_texts, all_there)
