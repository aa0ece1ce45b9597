-- The router finds every target that has a route.
use Rattle.std.proofs.Common.{◌≡◌, ℕ, ◌<◌, List, [], ◌∷◌, ◌++◌, get_or, Bool, true, false, cond, eqb, Some, None, refl, sym, ap, ◌∙◌, subst, codes}
use Rattle.std.specs.Prelude.{⊤, ◌==◌, ◌&&◌, ◌||◌, Ok, Err, bytes_eq, is_some, option_map}
use Rattle.std.specs.Fmt.{digits}
use Rattle.std.specs.List.{join_with_byte, list_all, list_any, onto_first, slice_split}
use Rattle.std.proofs.lemmas.Slice.Eq.{bytes_eq-Decides}
use Rattle.std.proofs.lemmas.List.Splits.{join_with_byte-slice_split}
use Rattle.matchit.specs.Seek.{first, has_slash, param_step, seek}
use Rattle.brk_money.specs.Spelling.{Text}
use Rattle.brk_money.specs.declared.refusal.Refusal.TheVariants.{BadText}
use Rattle.brk_model.specs.Forms.{ReadResult, read_id}
use Rattle.brk_model.specs.Records.{Key}
use Rattle.brk_model_http.specs.Routes.{Route, ToRow, has_first_segment, split_at_byte, route_of_segments, key_of_batch_row}
use Rattle.brk_http_engine.specs.Rows.{is_nonempty, all_router_rows, keyed_row, view_row}
use Rattle.brk_http_engine.proofs.Seeking.{seek_last, seek_two, seek_word}
use Rattle.brk_http_engine.proofs.Sought.{HasNoCodeOf256, are_bytes}

-- ---- the parts of a target

abbrev is_slash : ℕ → Bool
is_slash b = eqb b 47

-- No segment contains the number 256 or a slash.
abbrev ArePlainSegments : List Text → Type 0
ArePlainSegments [] = ⊤
ArePlainSegments (part ∷ parts) = (HasNoCodeOf256 part × (has_slash part ≡ false)) × ArePlainSegments parts

are_parts : (text : Text) → HasNoCodeOf256 text → ArePlainSegments (slice_split is_slash text)
are_parts [] s = ((tt, refl), tt)
are_parts (b ∷ text) (h, s) = choose (eqb b 47) refl (slice_split is_slash text) (are_parts text s)
  where
    choose : (t : Bool) → eqb b 47 ≡ t → (parts : List Text) → ArePlainSegments parts → ArePlainSegments (cond t ([] ∷ parts) (onto_first b parts))
    choose true e parts g = ((tt, refl), g)
    choose false e [] g = (((h, tt), rw e refl), tt)
    choose false e (part ∷ parts) ((s, plain), g) = (((h, s), rw e plain), g)

-- ---- the three routes

found_row : is_some (first all_router_rows (codes "/rows")) ≡ true
unfolding seek param_step
found_row = refl

found_view : (b : ℕ) (v : Text) → (256 == b) ≡ false → has_slash (b ∷ v) ≡ false → is_some (first all_router_rows (codes "/ask/" ++ b ∷ v)) ≡ true
found_view b v byte plain =
    ap is_some (seek_word (codes "/ask/") (b ∷ v) all_router_rows ((refl, refl, (refl, refl, (refl, refl, (refl, refl, (refl, refl, tt)))))) ∙ seek_last view_row.1 b v byte
    ∙ ap (λ (t : Bool). cond t None (Some view_row.1)) plain)

found_keyed : (b c : ℕ) (v w : Text) → (256 == b) ≡ false → has_slash (b ∷ v) ≡ false → (256 == c) ≡ false → has_slash (c ∷ w) ≡ false
    → is_some (first all_router_rows (codes "/rows/" ++ ((b ∷ v) ++ 47 ∷ c ∷ w))) ≡ true
found_keyed b c v w byte plain byte2 plain2 =
    ap is_some (seek_word (codes "/rows/") ((b ∷ v) ++ 47 ∷ c ∷ w) all_router_rows
    ((refl, refl, (refl, refl, (refl, refl, (refl, refl, (refl, refl, (refl, refl, tt))))))) ∙ seek_two keyed_row.1 b v (c ∷ w) byte plain
    ∙ seek_last keyed_row.1 c w byte2 ∙ ap (λ (t : Bool). cond t None (Some keyed_row.1)) plain2)

clash : {A : Type 0} {b : Bool} → b ≡ true → b ≡ false → A
clash is not_so = let e : true ≡ false = sym is ∙ not_so in absurd (cc)

begun : (a b word : Text) → has_first_segment a b word ≡ true → (a ≡ []) × (b ≡ word)
begun a b word h = both (bytes_eq a []) (bytes_eq b word) h ((bytes_eq-Decides a []).0) ((bytes_eq-Decides b word).0)
  where
    both : (x y : Bool) → (x && y) ≡ true → (x ≡ true → a ≡ []) → (y ≡ true → b ≡ word) → (a ≡ []) × (b ≡ word)
    both true true h f g = (f refl, g refl)
    both true false h f g = absurd (cc)
    both false y h f g = absurd (cc)

-- a known view has a name of one byte or more
known : (views : List Text) (view : Text) → list_all is_nonempty views ≡ true → list_any (λ v. bytes_eq v view) views ≡ true → is_nonempty view ≡ true
known [] view all any = absurd (cc)
known (v ∷ views) view all any = choose (known views view) (is_nonempty v) refl (bytes_eq v view) refl all any
  where
    choose : (list_all is_nonempty views ≡ true → list_any (λ v. bytes_eq v view) views ≡ true → is_nonempty view ≡ true) → (x : Bool) → is_nonempty v ≡ x
        → (y : Bool) → bytes_eq v view ≡ y → (x && list_all is_nonempty views) ≡ true → (y || list_any (λ v. bytes_eq v view) views) ≡ true
        → is_nonempty view ≡ true
    choose others true e true f all any = subst (λ t. is_nonempty t ≡ true) ((bytes_eq-Decides v view).0 f) e
    choose others true e false f all any = others all any
    choose others false e y f all any = absurd (cc)

no_batch : (f : Key → Route) (n : ReadResult ℕ) → option_map f (key_of_batch_row [] n) ≡ None
no_batch f (Ok n) = refl
no_batch f (Err refusal) = refl

no_number : read_id [] ≡ Err BadText
unfolding digits
no_number = refl

two_parts : (a b : Text) → is_some (first all_router_rows (join_with_byte 47 (a ∷ b ∷ []))) ≡ false → (t : Bool) → has_first_segment a b (codes "rows") ≡ t → cond t (Some (ToRow None)) None ≡ None
two_parts a b none false h = refl
two_parts a b none true h =
    let e = begun a b (codes "rows") h in
    clash found_row (subst (λ x. is_some (first all_router_rows (join_with_byte 47 (x ∷ codes "rows" ∷ []))) ≡ false) e.0
    (subst (λ x. is_some (first all_router_rows (join_with_byte 47 (a ∷ x ∷ []))) ≡ false) e.1 none))

three_parts : (views : List Text) (a b view : Text) (r : Route) → list_all is_nonempty views ≡ true → ArePlainSegments (view ∷ [])
    → is_some (first all_router_rows (join_with_byte 47 (a ∷ b ∷ view ∷ []))) ≡ false
    → (t : Bool) → has_first_segment a b (codes "ask") ≡ t → (u : Bool) → list_any (λ v. bytes_eq v view) views ≡ u → cond (t && u) (Some r) None ≡ None
three_parts views a b view r named parts none false h u k = refl
three_parts views a b view r named parts none true h false k = refl
three_parts views a b [] r named parts none true h true k = clash (known views [] named k) refl
three_parts views a b (c ∷ v) r named ((bytes, plain), others) none true h true k =
    let e = begun a b (codes "ask") h in
    clash (found_view c v bytes.0 plain)
    (subst (λ x. is_some (first all_router_rows (join_with_byte 47 (x ∷ codes "ask" ∷ (c ∷ v) ∷ []))) ≡ false) e.0
    (subst (λ x. is_some (first all_router_rows (join_with_byte 47 (a ∷ x ∷ (c ∷ v) ∷ []))) ≡ false) e.1 none))

four_parts : (a b batch n : Text) (f : Key → Route) → ArePlainSegments (batch ∷ n ∷ []) → is_some (first all_router_rows (join_with_byte 47 (a ∷ b ∷ batch ∷ n ∷ []))) ≡ false
    → (t : Bool) → has_first_segment a b (codes "rows") ≡ t → cond t (option_map f (key_of_batch_row batch (read_id n))) None ≡ None
four_parts a b batch n f parts none false h = refl
four_parts a b [] n f parts none true h = no_batch f (read_id n)
four_parts a b (c ∷ v) [] f parts none true h = ap (λ m. option_map f (key_of_batch_row (c ∷ v) m)) no_number
four_parts a b (c ∷ v) (d ∷ w) f ((bytes, plain), ((bytes2, plain2), others)) none true h =
    let e = begun a b (codes "rows") h in
    clash (found_keyed c d v w bytes.0 plain bytes2.0 plain2)
    (subst (λ x. is_some (first all_router_rows (join_with_byte 47 (x ∷ codes "rows" ∷ (c ∷ v) ∷ (d ∷ w) ∷ []))) ≡ false) e.0
    (subst (λ x. is_some (first all_router_rows (join_with_byte 47 (a ∷ x ∷ (c ∷ v) ∷ (d ∷ w) ∷ []))) ≡ false) e.1 none))

by_parts : (views : List Text) (parts : List Text) → list_all is_nonempty views ≡ true → ArePlainSegments parts
    → is_some (first all_router_rows (join_with_byte 47 parts)) ≡ false → route_of_segments views parts ≡ None
by_parts views [] named are none = refl
by_parts views (a ∷ []) named are none = refl
by_parts views (a ∷ b ∷ []) named are none = two_parts a b none (has_first_segment a b (codes "rows")) refl
by_parts views (a ∷ b ∷ view ∷ []) named are none = three_parts views a b view _ named are.1.1 none (has_first_segment a b (codes "ask")) refl (list_any (λ v. bytes_eq v view) views) refl
by_parts views (a ∷ b ∷ batch ∷ n ∷ []) named are none = four_parts a b batch n _ are.1.1 none (has_first_segment a b (codes "rows")) refl
by_parts views (a ∷ b ∷ c ∷ d ∷ e ∷ parts) named are none = refl

-- a target that the router does not find has no route
pub unrouted : (views : List Text) (target : Text) → list_all is_nonempty views ≡ true → ((k : ℕ) → get_or target k 0 < 256) → is_some (first all_router_rows target) ≡ false
    → route_of_segments views (split_at_byte 47 target) ≡ None
unfolding split_at_byte
unrouted views target named fits none =
    by_parts views (slice_split is_slash target) named (are_parts target (are_bytes target fits))
    (subst (λ t. is_some (first all_router_rows t) ≡ false) (sym (join_with_byte-slice_split 47 target)) none)
