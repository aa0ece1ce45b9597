-- The router's search for a path of which nothing is known.
use Rattle.std.proofs.Common.{◌≡◌, ℕ, zero, suc, ◌-◌, ◌<◌, List, [], ◌∷◌, ◌++◌, length, Bool, true, false, cond, ltb, Option, Some, None, refl, sym, ap, ◌∙◌, subst, arith}
use Rattle.std.specs.Prelude.{◌==◌}
use Rattle.std.proofs.lemmas.List.{length-append, drop_at}
use Rattle.std.proofs.lemmas.Bool.Decides.{nat_tests}
use Rattle.matchit.specs.Rows.{RowsOf, param_token, catch_all_token}
use Rattle.matchit.specs.Seek.{seek, step, own, or_else, param_step, has_slash, segment, cuts, longest_suffix, with_suffix}

-- No rows of the router, with the length 0 if `c` is true, otherwise `n`.
abbrev no_rows_with_length : {K : Type 0} → Bool → ℕ → ℕ × RowsOf K
no_rows_with_length c n = cond c (0, []) (n, [])

pub seek_nil : {K : Type 0} (k : ℕ) (path : List ℕ) → seek {K = K} k [] path ≡ None
unfolding seek param_step
seek_nil k [] = refl
seek_nil (suc k) (b ∷ path) = seek_nil k path
seek_nil {K} zero (b ∷ path) = rw (seek_nil {K = K} zero path) (by (has_slash (b ∷ path)) (length (b ∷ path)) (λ k. seek_nil {K = K} k path))
  where
    by : (c : Bool) (n : ℕ) → ((k : ℕ) → seek {K = K} k [] path ≡ None) → or_else (seek ((no_rows_with_length {K = K} c n).0 - 1) (no_rows_with_length {K = K} c n).1 path) None ≡ None
    by true n ih = rw (ih 0) refl
    by false n ih = rw (ih (n - 1)) refl

none_taken : {K : Type 0} (c : Bool) (n : ℕ) (path : List ℕ) (x : Option K) → or_else x (or_else (seek ((no_rows_with_length {K = K} c n).0 - 1) (no_rows_with_length {K = K} c n).1 path) None) ≡ x
none_taken {K} c n path (Some k) = refl
none_taken {K} true n path None = rw (seek_nil {K = K} 0 path) refl
none_taken {K} false n path None = rw (seek_nil {K = K} (n - 1) path) refl

-- with no parameter next, a byte leads to the rows that go on with it
pub seek_byte : {K : Type 0} (rs : RowsOf K) (b : ℕ) (path : List ℕ) → step param_token rs ≡ [] → step catch_all_token rs ≡ [] → seek 0 rs (b ∷ path) ≡ seek 0 (step b rs) path
unfolding seek param_step
seek_byte {K} rs b path p q = rw (p, q) (none_taken {K = K} (has_slash (b ∷ path)) (length (b ∷ path)) path (seek 0 (step b rs) path))

-- ---- a word, and then what the rows lead to

-- The rows of the router that begin with the bytes of `w`, without these bytes.
abbrev pub rows_after_prefix : {K : Type 0} → List ℕ → RowsOf K → RowsOf K
rows_after_prefix [] rs = rs
rows_after_prefix (b ∷ w) rs = rows_after_prefix w (step b rs)

-- No row of the router has a parameter before the end of the word.
abbrev pub HasNoParameterBeforeEnd : {K : Type 0} → List ℕ → RowsOf K → Type 0
HasNoParameterBeforeEnd [] rs = Unit {0}
HasNoParameterBeforeEnd (b ∷ w) rs = (step param_token rs ≡ []) × (step catch_all_token rs ≡ []) × HasNoParameterBeforeEnd w (step b rs)

pub seek_word : {K : Type 0} (w path : List ℕ) (rs : RowsOf K) → HasNoParameterBeforeEnd w rs → seek 0 rs (w ++ path) ≡ seek 0 (rows_after_prefix w rs) path
seek_word [] path rs p = refl
seek_word (b ∷ w) path rs (p, q, r) = seek_byte rs b (w ++ path) p q ∙ seek_word w path (step b rs) r

-- ---- a parameter

seek_skip : {K : Type 0} (v path : List ℕ) (rs : RowsOf K) → seek (length v) rs (v ++ path) ≡ seek 0 rs path
unfolding seek
seek_skip [] path rs = refl
seek_skip (b ∷ v) path rs = seek_skip v path rs

seek_end : {K : Type 0} (v : List ℕ) (rs : RowsOf K) → seek (length v) rs v ≡ own rs
unfolding seek
seek_end [] rs = refl
seek_end (b ∷ v) rs = seek_end v rs

or_none : {K : Type 0} (x : Option K) → or_else x None ≡ x
or_none None = refl
or_none (Some key) = refl

-- with only a parameter next, the path goes on after what the parameter takes
pub seek_param : {K : Type 0} (key : K) (t : List ℕ) (b : ℕ) (v : List ℕ) → (256 == b) ≡ false
    → seek 0 ((param_token ∷ t, key) ∷ []) (b ∷ v) ≡ seek ((param_step ((t, key) ∷ []) (b ∷ v)).0 - 1) (param_step ((t, key) ∷ []) (b ∷ v)).1 v
unfolding seek
seek_param {K} key t b v byte = rw (byte, seek_nil {K = K} 0 v) (or_none (seek ((param_step ((t, key) ∷ []) (b ∷ v)).0 - 1) (param_step ((t, key) ∷ []) (b ∷ v)).1 v))

-- a parameter at the end takes one byte or more without a slash
pub seek_last : {K : Type 0} (key : K) (b : ℕ) (v : List ℕ) → (256 == b) ≡ false
    → seek 0 ((param_token ∷ [], key) ∷ []) (b ∷ v) ≡ cond (has_slash (b ∷ v)) None (Some key)
unfolding param_step
seek_last {K} key b v byte = seek_param key [] b v byte ∙ by (has_slash (b ∷ v))
  where
    by : (t : Bool) → seek ((cond {A = ℕ × RowsOf K} t (0, []) (suc (length v), (([], key) ∷ []))).0 - 1) (cond {A = ℕ × RowsOf K} t (0, []) (suc (length v), (([], key) ∷ []))).1 v
        ≡ cond t None (Some key)
    by true = seek_nil {K = K} 0 v
    by false = let e : suc (length v) - 1 ≡ length v = omega arith in rw e (seek_end {K = K} v (([], key) ∷ []))

-- the first segment is what stands before the slash, with it
pub segment_cut : (v w : List ℕ) → has_slash v ≡ false → segment (v ++ 47 ∷ w) ≡ v ++ 47 ∷ []
segment_cut [] w plain = refl
segment_cut (b ∷ v) w plain = by (b == 47) refl plain (segment_cut v w)
  where
    by : (t : Bool) → (b == 47) ≡ t → cond t true (has_slash v) ≡ false → (has_slash v ≡ false → segment (v ++ 47 ∷ w) ≡ v ++ 47 ∷ [])
        → cond (b == 47) (b ∷ []) (b ∷ segment (v ++ 47 ∷ w)) ≡ b ∷ (v ++ 47 ∷ [])
    by true e p ih = cc
    by false e p ih = rw (e, ih p) refl

-- a segment with something before its slash ends so
slash_cuts : (b : ℕ) (v : List ℕ) → cuts ((b ∷ v) ++ 47 ∷ []) (47 ∷ []) ≡ true
slash_cuts b v =
    let l : length ((b ∷ v) ++ 47 ∷ []) - 1 ≡ length (b ∷ v) = omega (arith, length-append (b ∷ v) (47 ∷ [])) in
    let long : ltb 1 (length ((b ∷ v) ++ 47 ∷ [])) ≡ true = lt_yes 1 (length ((b ∷ v) ++ 47 ∷ [])) (omega (arith, length-append (b ∷ v) (47 ∷ []))) in
    rw (l, drop_at (b ∷ v) (47 ∷ []) (length (b ∷ v)) refl, long) refl
  where
    lt_yes : (m n : ℕ) → m < n → ltb m n ≡ true
    lt_yes m n h = grind (arith, nat_tests)

longest_is : {K : Type 0} (key : K) (b : ℕ) (v : List ℕ) → longest_suffix ((b ∷ v) ++ 47 ∷ []) ((47 ∷ param_token ∷ [], key) ∷ []) ≡ 47 ∷ []
longest_is key b v = let one : List ℕ = 47 ∷ [] in let P : Bool → Type 0 = λ t. cond t one [] ≡ one in subst P (sym (slash_cuts b v)) refl

step_is : {K : Type 0} (key : K) (b : ℕ) (v w : List ℕ) → has_slash (b ∷ v) ≡ false
    → param_step ((47 ∷ param_token ∷ [], key) ∷ []) ((b ∷ v) ++ 47 ∷ w) ≡ (length (b ∷ v), (47 ∷ param_token ∷ [], key) ∷ [])
unfolding param_step
step_is {K} key b v w plain =
    let rs : RowsOf K = (47 ∷ param_token ∷ [], key) ∷ [] in
    let s : segment ((b ∷ v) ++ 47 ∷ w) ≡ (b ∷ v) ++ 47 ∷ [] = segment_cut (b ∷ v) w plain in
    let l : longest_suffix (segment ((b ∷ v) ++ 47 ∷ w)) rs ≡ 47 ∷ [] = ap (λ t. longest_suffix t rs) s ∙ longest_is key b v in
    let n : length (segment ((b ∷ v) ++ 47 ∷ w)) - 1 ≡ length (b ∷ v) = omega (arith, ap length s, length-append (b ∷ v) (47 ∷ [])) in
    by (longest_suffix (segment ((b ∷ v) ++ 47 ∷ w)) rs) (length (segment ((b ∷ v) ++ 47 ∷ w))) l n
  where
    by : (t : List ℕ) (m : ℕ) → t ≡ 47 ∷ [] → m - 1 ≡ length (b ∷ v)
        → cond {A = ℕ × RowsOf K} (ltb 0 (length t)) (m - length t, with_suffix t ((47 ∷ param_token ∷ [], key) ∷ []))
        (cond (has_slash ((b ∷ v) ++ 47 ∷ w)) (0, []) (length ((b ∷ v) ++ 47 ∷ w), (47 ∷ param_token ∷ [], key) ∷ []))
        ≡ (length (b ∷ v), (47 ∷ param_token ∷ [], key) ∷ [])
    by t m e f = rw e (rw f refl)

-- of two parameters with a slash between, the first takes one byte or more before the first slash
pub seek_two : {K : Type 0} (key : K) (b : ℕ) (v w : List ℕ) → (256 == b) ≡ false → has_slash (b ∷ v) ≡ false
    → seek 0 ((param_token ∷ 47 ∷ param_token ∷ [], key) ∷ []) ((b ∷ v) ++ 47 ∷ w) ≡ seek 0 ((param_token ∷ [], key) ∷ []) w
seek_two {K} key b v w byte plain =
    let e : suc (length v) - 1 ≡ length v = omega arith in
    let rs : RowsOf K = (47 ∷ param_token ∷ [], key) ∷ [] in
    seek_param key (47 ∷ param_token ∷ []) b (v ++ 47 ∷ w) byte ∙ ap (λ (s : ℕ × RowsOf K). seek (s.0 - 1) s.1 (v ++ 47 ∷ w)) (step_is key b v w plain)
    ∙ ap (λ (k : ℕ). seek k rs (v ++ 47 ∷ w)) e ∙ seek_skip v (47 ∷ w) rs ∙ seek_byte rs 47 w refl refl
