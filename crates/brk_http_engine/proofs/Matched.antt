-- The route of a target that the router found, by the parameters of its match.
use Rattle.std.proofs.Common.{◌≡◌, ◌∙◌, ℕ, ◌<◌, List, [], ◌∷◌, ◌++◌, get_or, false, Some, refl, ap, subst, sym, codes, arith}
use Rattle.std.specs.Prelude.{MatchOption}
use Rattle.std.specs.Str.{IsUtf8}
use Rattle.std.proofs.lemmas.Str.{IsUtf8-from_ascii, is_utf8-from_IsUtf8}
use Rattle.std.proofs.lemmas.Str.Ascii.{IsAscii-cons, IsAscii-nil}
use Rattle.matchit.specs.Params.{walk, named, AllText}
use Rattle.matchit.specs.Router.{RouteOf}
use Rattle.matchit.specs.Rows.{RowsOf}
use Rattle.matchit.specs.Seek.{first, has_slash}
use Rattle.brk_money.specs.Spelling.{Text}
use Rattle.brk_model_http.specs.Routes.{split_at_byte, route_of_segments, route_of_target}
use Rattle.brk_http_engine.specs.Rows.{all_router_rows, keyed_row, view_row}
use Rattle.brk_http_engine.specs.declared.router.RouteKind.{RouteKind}
use Rattle.brk_http_engine.specs.declared.router.RouteKind.TheVariants.{Row, KeyedRow, View}
use Rattle.brk_http_engine.proofs.RouteLemmas.{routed}
use Rattle.brk_http_engine.proofs.Sought.{IsTargetOfRoute, are_bytes, found_target, plain_parts}
use Rattle.brk_http_engine.proofs.Walked.{utf8_cut, walk_view, walk_key}

split_plain : (x : Text) → has_slash x ≡ false → split_at_byte 47 x ≡ x ∷ []
unfolding split_at_byte
split_plain [] plain = refl
split_plain (b ∷ x) plain = let p = plain_parts b x plain in rw (p.0, split_plain x p.1) refl

split_cut : (x y : Text) → has_slash x ≡ false → split_at_byte 47 (x ++ 47 ∷ y) ≡ x ∷ split_at_byte 47 y
unfolding split_at_byte
split_cut [] y plain = refl
split_cut (b ∷ x) y plain = let p = plain_parts b x plain in rw (p.0, split_cut x y p.1) refl

view_is_text : IsUtf8 (codes "view")
view_is_text = IsUtf8-from_ascii (codes "view")
    (IsAscii-cons 118 (codes "iew") (omega arith) (IsAscii-cons 105 (codes "ew") (omega arith) (IsAscii-cons 101 (codes "w") (omega arith) (IsAscii-cons 119 [] (omega arith) IsAscii-nil))))

batch_is_text : IsUtf8 (codes "batch")
batch_is_text = IsUtf8-from_ascii (codes "batch")
    (IsAscii-cons 98 (codes "atch") (omega arith) (IsAscii-cons 97 (codes "tch") (omega arith) (IsAscii-cons 116 (codes "ch") (omega arith)
    (IsAscii-cons 99 (codes "h") (omega arith) (IsAscii-cons 104 [] (omega arith) IsAscii-nil)))))

n_is_text : IsUtf8 (codes "n")
n_is_text = IsUtf8-from_ascii (codes "n") (IsAscii-cons 110 [] (omega arith) IsAscii-nil)

-- The names of the parameters of a route, each with what it takes of the path.
abbrev parameters_of_route : RouteOf RouteKind → Text → List (Text × Text)
parameters_of_route route path = walk route.pattern route.text path route.names 0 0

-- If all names and parameters are texts, `text` is the first parameter with this name, or is empty
-- if there is none.
abbrev IsTextOfParameter : List (Text × Text) → Text → Text → Type 0
IsTextOfParameter parameters name text = AllText parameters → MatchOption (named name parameters) (text ≡ []) (λ part. text ≡ part)

-- The route of the target is that of a target of this kind with the parameters that the route
-- `route` of the router takes of `path`.
abbrev HasRouteOfKind : List Text → RouteKind → RouteOf RouteKind → Text → Text → Type 0
HasRouteOfKind views Row route path target = route_of_segments views ([] ∷ codes "rows" ∷ []) ≡ route_of_target views target
HasRouteOfKind views View route path target =
    (view : Text) → IsTextOfParameter (parameters_of_route route path) (codes "view") view
    → route_of_segments views ([] ∷ codes "ask" ∷ view ∷ []) ≡ route_of_target views target
HasRouteOfKind views KeyedRow route path target =
    (batch n : Text) → IsTextOfParameter (parameters_of_route route path) (codes "batch") batch → IsTextOfParameter (parameters_of_route route path) (codes "n") n
    → route_of_segments views ([] ∷ codes "rows" ∷ batch ∷ n ∷ []) ≡ route_of_target views target

route_of_kind : (views : List Text) (kind : RouteKind) (route : RouteOf RouteKind) (path target : Text) → path ≡ target → IsUtf8 target
    → IsTargetOfRoute kind route target → HasRouteOfKind views kind route path target
unfolding split_at_byte
route_of_kind views Row route path target same utf8 (is, shape) =
    sym (routed views target (is_utf8-from_IsUtf8 target utf8) ∙ ap (λ (t : Text). route_of_segments views (split_at_byte 47 t)) shape)
route_of_kind views View route path target same utf8 (v, is, shape, plain) = λ (view : Text) h.
    let text : IsUtf8 v = (utf8_cut (codes "/ask") v (subst IsUtf8 shape utf8)).1 in
    let taken : parameters_of_route route path ≡ (codes "view", v) ∷ [] =
    ap (λ (r : RouteOf RouteKind). parameters_of_route r path) is ∙ ap (λ (p : Text). parameters_of_route view_row.1 p) (same ∙ shape) ∙ walk_view v in
    let is_view : view ≡ v = subst (λ (all : List (Text × Text)). IsTextOfParameter all (codes "view") view) taken h
    (view_is_text, text, tt) in
    ap (λ (t : Text). route_of_segments views ([] ∷ codes "ask" ∷ t ∷ [])) is_view
    ∙ sym (routed views target (is_utf8-from_IsUtf8 target utf8) ∙ ap (λ (t : Text). route_of_segments views (split_at_byte 47 t)) shape
    ∙ ap (λ (parts : List Text). route_of_segments views ([] ∷ codes "ask" ∷ parts)) (split_plain v plain))
route_of_kind views KeyedRow route path target same utf8 (x, y, is, shape, plain, plain2) = λ (batch : Text) (n : Text) h k.
    let texts = utf8_cut x y ((utf8_cut (codes "/rows") (x ++ 47 ∷ y) (subst IsUtf8 shape utf8)).1) in
    let taken : parameters_of_route route path ≡ (codes "batch", x) ∷ (codes "n", y) ∷ [] =
    ap (λ (r : RouteOf RouteKind). parameters_of_route r path) is ∙ ap (λ (p : Text). parameters_of_route keyed_row.1 p) (same ∙ shape) ∙ walk_key x y plain in
    let all : AllText ((codes "batch", x) ∷ (codes "n", y) ∷ []) =
    (batch_is_text, texts.0, (n_is_text, texts.1, tt)) in
    let is_batch : batch ≡ x = subst (λ (all : List (Text × Text)). IsTextOfParameter all (codes "batch") batch) taken h all in
    let is_n : n ≡ y = subst (λ (all : List (Text × Text)). IsTextOfParameter all (codes "n") n) taken k all in
    ap (λ (t : Text). route_of_segments views ([] ∷ codes "rows" ∷ t ∷ n ∷ [])) is_batch
    ∙ ap (λ (t : Text). route_of_segments views ([] ∷ codes "rows" ∷ x ∷ t ∷ [])) is_n
    ∙ sym (routed views target (is_utf8-from_IsUtf8 target utf8) ∙ ap (λ (t : Text). route_of_segments views (split_at_byte 47 t)) shape
    ∙ ap (λ (parts : List Text). route_of_segments views ([] ∷ codes "rows" ∷ parts)) (split_cut x y plain ∙ ap (λ (parts : List Text). x ∷ parts) (split_plain y plain2)))

-- a target that the router finds has the route of this kind with the parameters of its match
pub matched : (views : List Text) (kind : RouteKind) (rows : RowsOf (RouteOf RouteKind)) (route : RouteOf RouteKind) (target text path : Text)
    → rows ≡ all_router_rows → text ≡ target → path ≡ text → ((k : ℕ) → get_or target k 0 < 256) → IsUtf8 target
    → first rows text ≡ Some route → route.value ≡ kind → HasRouteOfKind views kind route path target
matched views kind rows route target text path same_rows same_text same_path fits utf8 found is =
    let found_for_target : first all_router_rows target ≡ Some route =
    sym (ap (λ (t : Text). first all_router_rows t) same_text) ∙ sym (ap (λ (r : RowsOf (RouteOf RouteKind)). first r text) same_rows) ∙ found in
    route_of_kind views kind route path target (same_path ∙ same_text) utf8
    (subst (λ (k : RouteKind). IsTargetOfRoute k route target) is (found_target target route (are_bytes target fits) found_for_target))
