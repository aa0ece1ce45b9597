-- From the parts of a target to its route.
use Rattle.std.proofs.Common.{◌≡◌, ◌∙◌, List, Option, None, Bool, true, false, cond, refl, ap, subst, sym, IfOk}
use Rattle.std.specs.Prelude.{Result, option_map}
use Rattle.std.specs.Str.{is_utf8, IsUtf8}
use Rattle.std.proofs.lemmas.Str.{IsUtf8-from_is_utf8, is_utf8-from_IsUtf8}
use Rattle.brk_money.specs.Spelling.{Text}
use Rattle.brk_model_http.specs.Routes as model
use Rattle.brk_model_http.specs.Routes.{split_at_byte, route_of_segments, route_of_target}
use Rattle.std.specs.Prelude.{is_some}
use Rattle.std.proofs.Common.{ℕ, ◌<◌, get_or}
use Rattle.std.specs.List.{list_all}
use Rattle.matchit.specs.Router.{RouteOf}
use Rattle.matchit.specs.Rows.{RowsOf}
use Rattle.matchit.specs.Seek.{first}
use Rattle.brk_http_engine.proofs.Routing.{unrouted}
use Rattle.brk_http_engine.specs.Codes.{route_in_model}
use Rattle.brk_http_engine.specs.Rows.{is_nonempty, all_router_rows}
use Rattle.brk_http_engine.specs.declared.router.RouteKind.{RouteKind}
use Rattle.brk_http_engine.specs.declared.routes.Route.{Route}

pub no_text : (views : List Text) (target : Text) → ¬ (IsUtf8 target) → route_of_target views target ≡ None
unfolding route_of_target
no_text views target never = choose (is_utf8 target) refl
  where
    choose : (b : Bool) → is_utf8 target ≡ b → cond b (route_of_segments views (split_at_byte 47 target)) None ≡ None
    choose true e = elim (never (IsUtf8-from_is_utf8 target e)) [ ]
    choose false e = refl

pub routed : (views : List Text) (target : Text) → is_utf8 target ≡ true → route_of_target views target ≡ route_of_segments views (split_at_byte 47 target)
unfolding route_of_target
routed views target e = rw e refl

pub with_route : {V E : Type 0} (named : V → Text) (result : Result (Option (Route V)) E) {a b : Option model.Route} → a ≡ b
    → IfOk result (λ route. option_map (route_in_model named) route ≡ a) → IfOk result (λ route. option_map (route_in_model named) route ≡ b)
with_route named result e h = subst (λ (r : Option model.Route). IfOk result (λ route. option_map (route_in_model named) route ≡ r)) e h

pub text_unrouted : (views : List Text) (rows : RowsOf (RouteOf RouteKind)) (target text : Text) → list_all is_nonempty views ≡ true → rows ≡ all_router_rows
    → ((k : ℕ) → get_or target k 0 < 256) → text ≡ target → IsUtf8 target → first rows text ≡ None → None ≡ route_of_target views target
text_unrouted views rows target text named same_rows fits same utf8 none =
    sym (routed views target (is_utf8-from_IsUtf8 target utf8)
    ∙ unrouted views target named fits (ap is_some (sym (ap (λ (t : Text). first all_router_rows t) same) ∙ sym (ap (λ (r : RowsOf (RouteOf RouteKind)). first r text) same_rows) ∙ none)))
