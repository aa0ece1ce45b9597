-- The form of a path that the router finds.
use Rattle.std.proofs.Common.{◌≡◌, ℕ, zero, suc, ◌-◌, ◌<◌, ◌⊎◌, inl, inr, List, [], ◌∷◌, ◌++◌, length, get_or, Bool, true, false}
use Rattle.std.proofs.Common.{cond, ltb, Option, Some, None, refl, sym, ap, ◌∙◌, subst, arith, codes}
use Rattle.std.specs.Prelude.{⊤, ◌==◌}
use Rattle.std.proofs.lemmas.Bool.Decides.{nat_tests}
use Rattle.matchit.specs.Rows.{RowsOf, param_token, catch_all_token}
use Rattle.matchit.specs.Router.{RouteOf}
use Rattle.matchit.specs.Seek.{first, seek, step, own, param_step, has_slash, segment, cuts, with_suffix}
use Rattle.brk_http_engine.specs.Rows.{all_router_rows, keyed_row, unkeyed_row, view_row}
use Rattle.brk_http_engine.specs.declared.router.RouteKind.{RouteKind}
use Rattle.brk_http_engine.specs.declared.router.RouteKind.TheVariants.{Row, KeyedRow, View}
use Rattle.brk_http_engine.proofs.Seeking.{seek_nil, seek_byte, seek_param, seek_last, seek_two, rows_after_prefix}

-- No element of the text is the number 256.
abbrev pub HasNoCodeOf256 : List ℕ → Type 0
HasNoCodeOf256 [] = ⊤
HasNoCodeOf256 (b ∷ text) = ((256 == b) ≡ false) × HasNoCodeOf256 text

pub are_bytes : (text : List ℕ) → ((k : ℕ) → get_or text k 0 < 256) → HasNoCodeOf256 text
are_bytes [] fits = tt
are_bytes (b ∷ text) fits = (no_token b (fits 0), are_bytes text (λ k. fits (suc k)))
  where
    no_token : (n : ℕ) → n < 256 → (256 == n) ≡ false
    no_token n h = grind (arith, nat_tests)

bytes_after : (x rest : List ℕ) → HasNoCodeOf256 (x ++ rest) → HasNoCodeOf256 rest
bytes_after [] rest bytes = bytes
bytes_after (b ∷ x) rest bytes = bytes_after x rest bytes.1

no_find : {K A : Type 0} {x : Option K} {r : K} → x ≡ Some r → x ≡ None → A
no_find {r = r} is not_so = let e : None ≡ Some r = sym not_so ∙ is in absurd (cc)

same_find : {K : Type 0} {a b : K} → Some a ≡ Some b → b ≡ a
same_find e = cc

same_byte : (b c : ℕ) → (b == c) ≡ true → b ≡ c
same_byte b c e = grind (arith, nat_tests)

other_way : (b c : ℕ) → (b == c) ≡ false → (c == b) ≡ false
other_way b c e = grind (arith, nat_tests)

-- a text without a slash begins with another byte, and goes on without one
pub plain_parts : (b : ℕ) (v : List ℕ) → has_slash (b ∷ v) ≡ false → ((b == 47) ≡ false) × (has_slash v ≡ false)
plain_parts b v plain = by (b == 47) refl plain
  where
    by : (t : Bool) → (b == 47) ≡ t → cond t true (has_slash v) ≡ false → ((b == 47) ≡ false) × (has_slash v ≡ false)
    by true e p = absurd (cc)
    by false e p = (e, p)

-- a text has no slash, or is cut by its first one
cut : (path : List ℕ) → (has_slash path ≡ false) ⊎ ((x : List ℕ) × (y : List ℕ) × (path ≡ x ++ 47 ∷ y) × (has_slash x ≡ false))
cut [] = inl refl
cut (b ∷ path) = choose (b == 47) refl (cut path)
  where
    choose : (t : Bool) → (b == 47) ≡ t → (has_slash path ≡ false) ⊎ ((x : List ℕ) × (y : List ℕ) × (path ≡ x ++ 47 ∷ y) × (has_slash x ≡ false))
        → (has_slash (b ∷ path) ≡ false) ⊎ ((x : List ℕ) × (y : List ℕ) × (b ∷ path ≡ x ++ 47 ∷ y) × (has_slash x ≡ false))
    choose true e more = inr ([], path, ap (λ (n : ℕ). n ∷ path) (same_byte b 47 e), refl)
    choose false e (inl plain) = inl (rw e plain)
    choose false e (inr (x, y, is, plain)) = inr (b ∷ x, y, ap (λ (t : List ℕ). b ∷ t) is, rw e plain)

-- ---- a word

byte_found : {K : Type 0} (b c : ℕ) (path : List ℕ) (rs : RowsOf K) (r : K) → step param_token rs ≡ [] → step catch_all_token rs ≡ [] → seek 0 rs (c ∷ path) ≡ Some r
    → (b == c) ≡ true → (b ≡ c) × (seek 0 (step b rs) path ≡ Some r)
byte_found {K} b c path rs r p q found e =
    let same : b ≡ c = same_byte b c e in
    (same, subst (λ (n : ℕ). seek {K = K} 0 (step n rs) path ≡ Some r) (sym same) (sym (seek_byte rs c path p q) ∙ found))

only_byte : {K : Type 0} (b c : ℕ) (path : List ℕ) (rs : RowsOf K) (r : K) → step param_token rs ≡ [] → step catch_all_token rs ≡ [] → ((b == c) ≡ false → step c rs ≡ [])
    → seek 0 rs (c ∷ path) ≡ Some r → (b ≡ c) × (seek 0 (step b rs) path ≡ Some r)
only_byte {K} b c path rs r p q only found = choose (b == c) refl
  where
    choose : (t : Bool) → (b == c) ≡ t → (b ≡ c) × (seek 0 (step b rs) path ≡ Some r)
    choose true e = byte_found b c path rs r p q found e
    choose false e = no_find found (seek_byte rs c path p q ∙ ap (λ (rows : RowsOf K). seek 0 rows path) (only e) ∙ seek_nil {K = K} 0 path)

-- Each row of the router begins with the word, and none has a parameter before the end of the word.
abbrev IsOnlyWord : {K : Type 0} → List ℕ → RowsOf K → Type 0
IsOnlyWord [] rs = Unit {0}
IsOnlyWord (b ∷ w) rs =
    (own rs ≡ None) × (step param_token rs ≡ []) × (step catch_all_token rs ≡ []) × ((c : ℕ) → (b == c) ≡ false → step c rs ≡ []) × IsOnlyWord w (step b rs)

word_found : {K : Type 0} (w path : List ℕ) (rs : RowsOf K) (r : K) → IsOnlyWord w rs → seek 0 rs path ≡ Some r
    → (rest : List ℕ) × (path ≡ w ++ rest) × (seek 0 (rows_after_prefix w rs) rest ≡ Some r)
unfolding seek
word_found [] path rs r only found = (path, refl, found)
word_found (b ∷ w) [] rs r only found = no_find found only.0
word_found (b ∷ w) (c ∷ path) rs r only found =
    let s = only_byte b c path rs r only.1 only.2 (only.3 c) found in
    let more = word_found w path (step b rs) r only.4 s.1 in
    let P : ℕ → Type 0 = λ x. x ∷ path ≡ b ∷ (w ++ more.0) in
    (more.0, subst P s.0 (ap (λ (t : List ℕ). b ∷ t) more.1), more.2)

-- ---- parameters

last_found : {K : Type 0} (key r : K) (path : List ℕ) → HasNoCodeOf256 path → seek 0 ((param_token ∷ [], key) ∷ []) path ≡ Some r → (has_slash path ≡ false) × (r ≡ key)
unfolding seek
last_found key r [] bytes found = no_find found refl
last_found {K} key r (b ∷ v) bytes found = by (has_slash (b ∷ v)) refl (sym (seek_last key b v bytes.0) ∙ found)
  where
    by : (t : Bool) → has_slash (b ∷ v) ≡ t → cond {A = Option K} t None (Some key) ≡ Some r → (has_slash (b ∷ v) ≡ false) × (r ≡ key)
    by true e f = no_find f refl
    by false e f = (e, same_find f)

-- rows that go on with a slash find nothing where there is none
seek_plain : {K : Type 0} (key : K) (t : List ℕ) (k : ℕ) (v : List ℕ) → has_slash v ≡ false → seek k ((47 ∷ t, key) ∷ []) v ≡ None
unfolding seek
seek_plain key t k [] plain = refl
seek_plain key t (suc k) (b ∷ v) plain = seek_plain key t k v (plain_parts b v plain).1
seek_plain {K} key t zero (b ∷ v) plain =
    let e : (47 == b) ≡ false = other_way b 47 (plain_parts b v plain).0 in
    seek_byte ((47 ∷ t, key) ∷ []) b v refl refl ∙ rw e (seek_nil {K = K} 0 v)

-- What the first of two parameters takes, and the rows after it: `ends` says whether the segment of
-- the length `n` ends with a slash after one byte or more, and `slash` whether the path, one byte
-- and `v`, has a slash.
abbrev taken_by_first : {K : Type 0} → K → List ℕ → Bool → ℕ → Bool → ℕ × RowsOf K
taken_by_first {K} key v ends n slash =
    let suffix : List ℕ = cond ends (47 ∷ []) [] in
    let rows : RowsOf K = (47 ∷ param_token ∷ [], key) ∷ [] in
    cond (ltb 0 (length suffix)) (n - length suffix, with_suffix suffix rows) (cond slash (0, []) (suc (length v), rows))

two_plain : {K : Type 0} (key : K) (b : ℕ) (v : List ℕ) → (256 == b) ≡ false → has_slash (b ∷ v) ≡ false
    → seek 0 ((param_token ∷ 47 ∷ param_token ∷ [], key) ∷ []) (b ∷ v) ≡ None
unfolding param_step
two_plain {K} key b v byte plain = seek_param key (47 ∷ param_token ∷ []) b v byte ∙ by (cuts (segment (b ∷ v)) (47 ∷ [])) (length (segment (b ∷ v))) (has_slash (b ∷ v)) plain
  where
    by : (t : Bool) (n : ℕ) (s : Bool) → s ≡ false → seek ((taken_by_first {K = K} key v t n s).0 - 1) (taken_by_first {K = K} key v t n s).1 v ≡ None
    by true n s without = seek_plain key (param_token ∷ []) _ v (plain_parts b v plain).1
    by false n true without = absurd (cc)
    by false n false without = seek_plain key (param_token ∷ []) _ v (plain_parts b v plain).1

two_found : {K : Type 0} (key r : K) (path : List ℕ) → HasNoCodeOf256 path → seek 0 ((param_token ∷ 47 ∷ param_token ∷ [], key) ∷ []) path ≡ Some r
    → (x : List ℕ) × (y : List ℕ) × (path ≡ x ++ 47 ∷ y) × (has_slash x ≡ false) × (has_slash y ≡ false) × (r ≡ key)
unfolding seek param_step
two_found {K} key r path bytes found = by path (cut path) bytes found
  where
    by : (path : List ℕ) → (has_slash path ≡ false) ⊎ ((x : List ℕ) × (y : List ℕ) × (path ≡ x ++ 47 ∷ y) × (has_slash x ≡ false))
        → HasNoCodeOf256 path → seek 0 ((param_token ∷ 47 ∷ param_token ∷ [], key) ∷ []) path ≡ Some r
        → (x : List ℕ) × (y : List ℕ) × (path ≡ x ++ 47 ∷ y) × (has_slash x ≡ false) × (has_slash y ≡ false) × (r ≡ key)
    by [] (inl plain) bytes found = no_find found refl
    by (b ∷ v) (inl plain) bytes found = no_find found (two_plain key b v bytes.0 plain)
    by path (inr ([], y, is, plain)) bytes found =
        no_find (subst (λ (p : List ℕ). seek {K = K} 0 ((param_token ∷ 47 ∷ param_token ∷ [], key) ∷ []) p ≡ Some r) is found)
        (seek_param key (47 ∷ param_token ∷ []) 47 y refl ∙ seek_nil {K = K} 0 y)
    by path (inr (b ∷ v, y, is, plain)) bytes found =
        let all : HasNoCodeOf256 ((b ∷ v) ++ 47 ∷ y) = subst HasNoCodeOf256 is bytes in
        let last = last_found key r y (bytes_after (b ∷ v) (47 ∷ y) all).1
        (sym (seek_two key b v y all.0 plain) ∙ subst (λ (p : List ℕ). seek {K = K} 0 ((param_token ∷ 47 ∷ param_token ∷ [], key) ∷ []) p ≡ Some r) is found) in
        (b ∷ v, y, is, plain, last.0, last.1)

-- ---- the three routes

-- The route is that of its kind, and the text is a target that it matches.
abbrev pub IsTargetOfRoute : RouteKind → RouteOf RouteKind → List ℕ → Type 0
IsTargetOfRoute Row route text = (route ≡ unkeyed_row.1) × (text ≡ codes "/rows")
IsTargetOfRoute View route text = (v : List ℕ) × (route ≡ view_row.1) × (text ≡ codes "/ask/" ++ v) × (has_slash v ≡ false)
IsTargetOfRoute KeyedRow route text =
    (x : List ℕ) × (y : List ℕ) × (route ≡ keyed_row.1) × (text ≡ codes "/rows/" ++ (x ++ 47 ∷ y)) × (has_slash x ≡ false) × (has_slash y ≡ false)

as_route : {route wanted : RouteOf RouteKind} (text : List ℕ) → route ≡ wanted → IsTargetOfRoute wanted.value wanted text → IsTargetOfRoute route.value route text
as_route text is target = subst (λ (r : RouteOf RouteKind). IsTargetOfRoute r.value r text) (sym is) target

-- after `/rows`
rows_found : (route : RouteOf RouteKind) (rest : List ℕ) → HasNoCodeOf256 rest
    → seek 0 ((47 ∷ param_token ∷ 47 ∷ param_token ∷ [], keyed_row.1) ∷ ([], unkeyed_row.1) ∷ []) rest ≡ Some route
    → IsTargetOfRoute route.value route (codes "/rows" ++ rest)
unfolding seek
rows_found route [] bytes found = as_route (codes "/rows") (same_find found) (refl, refl)
rows_found route (c ∷ rest) bytes found =
    let slash = only_byte 47 c rest ((47 ∷ param_token ∷ 47 ∷ param_token ∷ [], keyed_row.1) ∷ ([], unkeyed_row.1) ∷ []) route refl refl (λ e. rw e refl) found in
    let two = two_found keyed_row.1 route rest bytes.1 slash.1 in
    let is : codes "/rows" ++ c ∷ rest ≡ codes "/rows/" ++ (two.0 ++ 47 ∷ two.1) =
    subst (λ (n : ℕ). codes "/rows" ++ n ∷ rest ≡ codes "/rows/" ++ (two.0 ++ 47 ∷ two.1)) slash.0 (ap (λ (t : List ℕ). codes "/rows/" ++ t) two.2) in
    as_route (codes "/rows" ++ c ∷ rest) two.5 (two.0, two.1, refl, is, two.3, two.4)

-- after the first slash
word_chosen : (route : RouteOf RouteKind) (path : List ℕ) → HasNoCodeOf256 path → seek 0 (step 47 all_router_rows) path ≡ Some route
    → IsTargetOfRoute route.value route (47 ∷ path)
unfolding seek
word_chosen route [] bytes found = no_find found refl
word_chosen route (c ∷ path) bytes found = choose (97 == c) refl
  where
    choose : (t : Bool) → (97 == c) ≡ t → IsTargetOfRoute route.value route (47 ∷ c ∷ path)
    choose true e =
        let a = byte_found 97 c path (step 47 all_router_rows) route refl refl found e in
        let word = word_found (codes "sk/") path (step 97 (step 47 all_router_rows)) route
        (refl, refl, refl, (λ n h. rw h refl), (refl, refl, refl, (λ n h. rw h refl), (refl, refl, refl, (λ n h. rw h refl), tt))) a.1 in
        let last = last_found view_row.1 route word.0 (bytes_after (codes "sk/") word.0 (subst HasNoCodeOf256 word.1 bytes.1)) word.2 in
        let is : 47 ∷ c ∷ path ≡ codes "/ask/" ++ word.0 =
        subst (λ (n : ℕ). 47 ∷ n ∷ path ≡ codes "/ask/" ++ word.0) a.0 (ap (λ (t : List ℕ). 47 ∷ 97 ∷ t) word.1) in
        as_route (47 ∷ c ∷ path) last.1 (word.0, refl, is, last.0)
    choose false e =
        let r = only_byte 114 c path (step 47 all_router_rows) route refl refl (λ h. rw (e, h) refl) found in
        let word = word_found (codes "ows") path (step 114 (step 47 all_router_rows)) route
        (refl, refl, refl, (λ n h. rw h refl), (refl, refl, refl, (λ n h. rw h refl), (refl, refl, refl, (λ n h. rw h refl), tt))) r.1 in
        let is : 47 ∷ c ∷ path ≡ codes "/rows" ++ word.0 =
        subst (λ (n : ℕ). 47 ∷ n ∷ path ≡ codes "/rows" ++ word.0) r.0 (ap (λ (t : List ℕ). 47 ∷ 114 ∷ t) word.1) in
        subst (λ (t : List ℕ). IsTargetOfRoute route.value route t) (sym is)
        (rows_found route word.0 (bytes_after (codes "ows") word.0 (subst HasNoCodeOf256 word.1 bytes.1)) word.2)

-- the target is one of the route that the router finds for it
pub found_target : (text : List ℕ) (route : RouteOf RouteKind) → HasNoCodeOf256 text → first all_router_rows text ≡ Some route → IsTargetOfRoute route.value route text
unfolding seek
found_target [] route bytes found = no_find found refl
found_target (c ∷ text) route bytes found =
    let slash = only_byte 47 c text all_router_rows route refl refl (λ e. rw e refl) found in
    subst (λ (n : ℕ). IsTargetOfRoute route.value route (n ∷ text)) slash.0 (word_chosen route text bytes.1 slash.1)
