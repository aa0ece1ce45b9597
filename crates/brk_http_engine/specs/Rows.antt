-- The rows of the router for the three routes.
use Rattle.std.specs.Prelude.{ℕ, Bool, true, false, List, [], ◌∷◌, ◌++◌, codes}
use Rattle.matchit.specs.Rows.{RowsOf, param_token}
use Rattle.matchit.specs.Router.{RouteOf}
use Rattle.brk_http_engine.specs.declared.router.RouteKind.{RouteKind}
use Rattle.brk_http_engine.specs.declared.router.RouteKind.TheVariants.{Row, KeyedRow, View}

-- The row of the router for a route: its pattern, paired with this pattern, its text, the start
-- (included) and end (excluded), in bytes, of each parameter's name (`names`), and its kind.
abbrev pub router_row : List ℕ → List ℕ → List (ℕ × ℕ) → RouteKind → List ℕ × RouteOf RouteKind
router_row pattern text names kind = (pattern, record { pattern = pattern; text = text; names = names; value = kind })

-- The row of the router for `/ask/{view}`.
abbrev pub view_row : List ℕ × RouteOf RouteKind
view_row = router_row (codes "/ask/" ++ param_token ∷ []) (codes "/ask/{view}") ((6, 10) ∷ []) View

-- The row of the router for `/rows/{batch}/{n}`.
abbrev pub keyed_row : List ℕ × RouteOf RouteKind
keyed_row = router_row (codes "/rows/" ++ param_token ∷ 47 ∷ param_token ∷ []) (codes "/rows/{batch}/{n}") ((7, 12) ∷ (15, 16) ∷ []) KeyedRow

-- The row of the router for `/rows`.
abbrev pub unkeyed_row : List ℕ × RouteOf RouteKind
unkeyed_row = router_row (codes "/rows") (codes "/rows") [] Row

-- The rows of the router for `/ask/{view}`, `/rows/{batch}/{n}` and `/rows`, in this order.
abbrev pub all_router_rows : RowsOf (RouteOf RouteKind)
all_router_rows = view_row ∷ keyed_row ∷ unkeyed_row ∷ []

-- True if the list of bytes `name` is not empty.
abbrev pub is_nonempty : List ℕ → Bool
is_nonempty [] = false
is_nonempty (b ∷ name) = true
