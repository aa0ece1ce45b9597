-- The end of a head in a list is its end in a longer list.
use Rattle.std.proofs.Common.{◌≡◌, ℕ, zero, suc, ◌+◌, ◌<◌, ◌≤◌, List, [], ◌∷◌, ◌++◌, length, take, drop, min, Bool, true, false, Option, Some, None, refl, sym}
use Rattle.std.proofs.Common.{ap, ◌∙◌, subst, arith, append_assoc, IfSome}
use Rattle.std.specs.Prelude.{◌==◌, ◌&&◌, nat_le, if◌then◌else◌}
use Rattle.std.specs.Io.KnownBytes.{Consumes, IsAtEnd}
use Rattle.std.proofs.lemmas.List.{append-nil, take_all, length-append, take-append-le}
use Rattle.brk_model_http.specs.Heads.{leading_line_end_length, first_present_plus_one, line_end_length_after_line_feed, head_length, head_end_within}
use Rattle.std.proofs.lemmas.Bool.Decides.{nat_tests}
use Rattle.brk_http_reader.specs.Moves.{ReadsIntoBuffer}
use Rattle.brk_model_http.specs.declared.head_end.HeadEnd.TheVariants.{Nothing, TooLong, Cut, At}

-- The number in the option plus `n`, or `None`.
abbrev pub option_plus : ℕ → Option ℕ → Option ℕ
option_plus n None = None
option_plus n (Some k) = Some (k + n)

-- The length of the line end at the front of `bytes` if `t` is true, otherwise `None`.
abbrev line_end_length_if : Bool → List ℕ → Option ℕ
line_end_length_if t bytes = if t then leading_line_end_length bytes else None

pub raise_zero : (o : Option ℕ) → option_plus 0 o ≡ o
raise_zero None = refl
raise_zero (Some k) = ap (λ (n : ℕ). Some n) (omega arith)

pub raise_further : (i : ℕ) (o : Option ℕ) → option_plus i (first_present_plus_one None o) ≡ option_plus (i + 1) o
raise_further i None = refl
raise_further i (Some k) = ap (λ (n : ℕ). Some n) (omega arith)

pub head_len-nil : head_length [] ≡ None
unfolding head_length
head_len-nil = refl

pub head_len-cons : (b : ℕ) (bytes : List ℕ) → head_length (b ∷ bytes) ≡ first_present_plus_one (line_end_length_after_line_feed b bytes) (head_length bytes)
unfolding head_length
head_len-cons b bytes = refl

none_here : (t : Bool) → line_end_length_if t [] ≡ None
none_here true = refl
none_here false = refl

-- ---- within the text

begins_two : (s t u : Bool) (n : ℕ) → IfSome (if s then Some 1 else (if t && u then Some 2 else None)) (λ k. k ≤ suc (suc n))
begins_two true t u n = omega arith
begins_two false true true n = omega arith
begins_two false true false n = tt
begins_two false false u n = tt

begins_one : (s : Bool) → IfSome (if s then Some 1 else None) (λ k. k ≤ 1)
begins_one true = omega arith
begins_one false = tt

pub begins_within : (bytes : List ℕ) → IfSome (leading_line_end_length bytes) (λ n. n ≤ length bytes)
begins_within [] = tt
begins_within (b ∷ []) = begins_one (b == 10)
begins_within (b ∷ c ∷ bytes) = begins_two (b == 10) (b == 13) (c == 10) (length bytes)

here_within : (t : Bool) (bytes : List ℕ) → IfSome (line_end_length_if t bytes) (λ n. n ≤ length bytes)
here_within true bytes = begins_within bytes
here_within false bytes = tt

within_further : (x y : Option ℕ) (len : ℕ) → IfSome x (λ n. n ≤ len) → IfSome y (λ n. n ≤ len) → IfSome (first_present_plus_one x y) (λ n. n ≤ suc len)
within_further (Some k) y len p q = omega arith
within_further None (Some k) len p q = omega arith
within_further None None len p q = tt

pub head_len_within : (bytes : List ℕ) → IfSome (head_length bytes) (λ n. n ≤ length bytes)
head_len_within [] = rw head_len-nil tt
head_len_within (b ∷ bytes) =
    rw head_len-cons (within_further (line_end_length_after_line_feed b bytes) (head_length bytes) (length bytes) (here_within (b == 10) bytes) (head_len_within bytes))

-- ---- in a longer text

further_same : (x y z : Option ℕ) (n : ℕ) → ((m : ℕ) → y ≡ Some m → z ≡ Some m) → first_present_plus_one x y ≡ Some n → first_present_plus_one x z ≡ Some n
further_same (Some k) y z n f found = found
further_same None (Some m) z n f found = rw (f m refl) found
further_same None None z n f found = cc

one_none : (c : ℕ) → head_length (c ∷ []) ≡ None
one_none c = rw (head_len-cons, head_len-nil) (rw (none_here (c == 10)) refl)

further_here : (x z : Option ℕ) (n : ℕ) → first_present_plus_one x None ≡ Some n → first_present_plus_one x z ≡ Some n
further_here (Some k) z n found = found
further_here None z n found = cc

begins_longer : (t s : Bool) (c : ℕ) (more : List ℕ) (n : ℕ) (z : Option ℕ) → (c == 10) ≡ s
    → first_present_plus_one (if t then (if s then Some 1 else None) else None) None ≡ Some n
    → first_present_plus_one (line_end_length_if t (c ∷ more)) z ≡ Some n
begins_longer true true c [] n z e found = rw e found
begins_longer true true c (d ∷ more) n z e found = rw e found
begins_longer true false c more n z e found = cc
begins_longer false s c more n z e found = cc

-- an empty line stays where it is, whatever follows
pub head_len-append : (bytes more : List ℕ) (n : ℕ) → head_length bytes ≡ Some n → head_length (bytes ++ more) ≡ Some n
head_len-append [] more n found = let f = rw head_len-nil at found in cc
head_len-append (b ∷ []) more n found = let f = rw (one_none b) at found in cc
head_len-append (b ∷ c ∷ []) more n found =
    let f = rw (head_len-cons b (c ∷ []), one_none c) at found in
    rw (head_len-cons b (c ∷ more)) (begins_longer (b == 10) (c == 10) c more n (head_length (c ∷ more)) refl f)
head_len-append (b ∷ c ∷ d ∷ bytes) more n found =
    let f = rw (head_len-cons b (c ∷ d ∷ bytes)) at found in
    rw (head_len-cons b (c ∷ d ∷ (bytes ++ more)))
    (further_same (line_end_length_after_line_feed b (c ∷ d ∷ bytes)) (head_length (c ∷ d ∷ bytes)) (head_length (c ∷ d ∷ (bytes ++ more))) n
    (head_len-append (c ∷ d ∷ bytes) more) f)

-- ---- what a reader moves

pub Consumes_trans : (a b c : Option (List ℕ)) (xs ys : List ℕ) → Consumes a b xs → Consumes b c ys → Consumes a c (xs ++ ys)
Consumes_trans None b c xs ys p q = tt
Consumes_trans (Some l) None c xs ys p q = absurd p
Consumes_trans (Some l) (Some m) None xs ys p q = absurd q
Consumes_trans (Some l) (Some m) (Some n) xs ys p q = p ∙ ap (λ r. xs ++ r) q ∙ sym (append_assoc xs ys n)

pub Moves_trans : (a b c : Option (List ℕ)) (x y z : List ℕ) → ReadsIntoBuffer a b x y → ReadsIntoBuffer b c y z → ReadsIntoBuffer a c x z
Moves_trans a b c x y z (p, h, e) (q, i, f) = (p ++ q, Consumes_trans a b c p q h i, f ∙ ap (λ l. l ++ q) e ∙ append_assoc x p q)

-- the buffer and what remains are together what they were
pub moved_all : (a b : Option (List ℕ)) (x y l : List ℕ) → a ≡ Some l → ReadsIntoBuffer a b x y → (m : List ℕ) × (b ≡ Some m) × (x ++ l ≡ y ++ m)
moved_all a b x y l e (p, h, f) = moved b (subst (λ o. Consumes o b p) e h)
  where
    moved : (b : Option (List ℕ)) → Consumes (Some l) b p → (m : List ℕ) × (b ≡ Some m) × (x ++ l ≡ y ++ m)
    moved None q = absurd q
    moved (Some m) q = (m, refl, ap (λ r. x ++ r) q ∙ sym (append_assoc x p m) ∙ ap (λ r. r ++ m) (sym f))

-- ---- a step of the search

pub found_here : (i n b : ℕ) (bytes rest : List ℕ) → drop i bytes ≡ b ∷ rest → line_end_length_after_line_feed b rest ≡ Some n
    → option_plus i (head_length (drop i bytes)) ≡ head_length bytes → Some (i + 1 + n) ≡ head_length bytes
found_here i n b bytes rest cut found all =
    let e : head_length (drop i bytes) ≡ Some (n + 1) = rw (cut, head_len-cons, found) refl in
    let f = rw e at all in
    let g : i + 1 + n ≡ n + 1 + i = omega arith in
    rw g f

pub passed_here : (i b : ℕ) (bytes rest : List ℕ) → drop i bytes ≡ b ∷ rest → line_end_length_after_line_feed b rest ≡ None
    → option_plus i (head_length (drop i bytes)) ≡ head_length bytes → option_plus (i + 1) (head_length rest) ≡ head_length bytes
passed_here i b bytes rest cut none all =
    let e : head_length (drop i bytes) ≡ first_present_plus_one None (head_length rest) = rw (cut, head_len-cons, none) refl in
    let f = rw e at all in
    sym (raise_further i (head_length rest)) ∙ f

-- ---- the end of a head

take_longer : (limit : ℕ) (buffer more : List ℕ) → (rest : List ℕ) × (take limit (buffer ++ more) ≡ take (min (length buffer) limit) buffer ++ rest)
take_longer zero buffer more = (take zero more, rw min_zero refl)
  where
    min_zero : min (length buffer) zero ≡ zero
    min_zero = omega arith
take_longer (suc limit) [] more = (take (suc limit) more, let e : min zero (suc limit) ≡ zero = omega arith in rw e refl)
take_longer (suc limit) (b ∷ buffer) more =
    let r = take_longer limit buffer more in
    let e : min (suc (length buffer)) (suc limit) ≡ suc (min (length buffer) limit) = omega arith in
    (r.0, rw e (ap (λ l. b ∷ l) r.1))

pub end_at : (limit : ℕ) (buffer more : List ℕ) (n : ℕ) → head_length (take (min (length buffer) limit) buffer) ≡ Some n → At n ≡ head_end_within limit (buffer ++ more)
end_at limit buffer more n found =
    let r = take_longer limit buffer more in
    let e : head_length (take limit (buffer ++ more)) ≡ Some n = rw r.1 (head_len-append (take (min (length buffer) limit) buffer) r.0 n found) in
    rw e refl

all_of_it : (limit : ℕ) (buffer : List ℕ) → length buffer ≤ limit → take (min (length buffer) limit) buffer ≡ take limit buffer
all_of_it limit buffer short =
    let e : min (length buffer) limit ≡ length buffer = omega arith in
    rw e (take_all (length buffer) buffer (omega arith) ∙ sym (take_all limit buffer short))

le_yes : (m n : ℕ) → m ≤ n → nat_le m n ≡ true
le_yes m n h = grind (arith, nat_tests)

le_no : (m n : ℕ) → n < m → nat_le m n ≡ false
le_no m n h = grind (arith, nat_tests)

eq_no : (n : ℕ) → 0 < n → (n == 0) ≡ false
eq_no n h = grind (arith, nat_tests)

pub end_long : (limit : ℕ) (buffer more : List ℕ) → 0 < limit → head_length (take (min (length buffer) limit) buffer) ≡ None → limit ≤ length buffer → TooLong ≡ head_end_within limit (buffer ++ more)
end_long limit buffer more some none long =
    let e : min (length buffer) limit ≡ limit = omega arith in
    let f : head_length (take limit (buffer ++ more)) ≡ None = rw (take-append-le limit buffer more long) (rw e at none) in
    let l : length (buffer ++ more) ≡ length buffer + length more = length-append buffer more in
    rw (f, eq_no (length (buffer ++ more)) (omega arith), le_yes limit (length (buffer ++ more)) (omega arith)) refl

pub end_cut : (limit : ℕ) (buffer : List ℕ) → head_length (take (min (length buffer) limit) buffer) ≡ None → length buffer < limit → 0 < length buffer → Cut ≡ head_end_within limit (buffer ++ [])
end_cut limit buffer none short some =
    let e : head_length (take limit buffer) ≡ None = rw (← all_of_it limit buffer (omega arith)) none in
    rw (append-nil buffer, e, eq_no (length buffer) some, le_no limit (length buffer) short) refl

pub end_nothing : (limit : ℕ) (buffer : List ℕ) → length buffer ≡ 0 → Nothing ≡ head_end_within limit (buffer ++ [])
end_nothing limit [] empty = let e : take {A = ℕ} limit [] ≡ [] = take_all limit [] (omega arith) in rw (e, head_len-nil) refl
end_nothing limit (b ∷ buffer) empty = absurd (omega arith)

-- ---- the same of what a reader has left and a buffer holds

-- The type of the remaining bytes of a reader, or `None` if they are unknown.
abbrev RemainingBytes : Type 0
RemainingBytes = Option (List ℕ)

pub head_at : (limit : ℕ) (a b : Option (List ℕ)) (x y : List ℕ) (n : ℕ) → ReadsIntoBuffer a b x y → head_length (take (min (length y) limit) y) ≡ Some n
    → IfSome a (λ xs. At n ≡ head_end_within limit (x ++ xs))
head_at limit None b x y n moves found = tt
head_at limit (Some l) b x y n moves found =
    let m = moved_all (Some l) b x y l refl moves in
    rw m.2 (end_at limit y m.0 n found)

pub head_long : (limit : ℕ) (a b : Option (List ℕ)) (x y : List ℕ) → 0 < limit → ReadsIntoBuffer a b x y → head_length (take (min (length y) limit) y) ≡ None → limit ≤ length y
    → IfSome a (λ xs. TooLong ≡ head_end_within limit (x ++ xs))
head_long limit None b x y some moves none long = tt
head_long limit (Some l) b x y some moves none long =
    let m = moved_all (Some l) b x y l refl moves in
    rw m.2 (end_long limit y m.0 some none long)

-- nothing is left of a reader at its end
at_end : (b : Option (List ℕ)) (m : List ℕ) → IsAtEnd b → b ≡ Some m → m ≡ []
at_end b m end e = let P : Option (List ℕ) → Type 0 = λ o. IsAtEnd o in subst P e end

pub head_cut : (limit : ℕ) (a b : Option (List ℕ)) (x y : List ℕ) → ReadsIntoBuffer a b x y → IsAtEnd b → head_length (take (min (length y) limit) y) ≡ None → length y < limit → 0 < length y
    → IfSome a (λ xs. Cut ≡ head_end_within limit (x ++ xs))
head_cut limit None b x y moves end none short some = tt
head_cut limit (Some l) b x y moves end none short some =
    let m = moved_all (Some l) b x y l refl moves in
    rw (m.2, at_end b m.0 end m.1) (end_cut limit y none short some)

pub head_nothing : (limit : ℕ) (a b : Option (List ℕ)) (x y : List ℕ) → ReadsIntoBuffer a b x y → IsAtEnd b → length y ≡ 0
    → IfSome a (λ xs. Nothing ≡ head_end_within limit (x ++ xs))
head_nothing limit None b x y moves end empty = tt
head_nothing limit (Some l) b x y moves end empty =
    let m = moved_all (Some l) b x y l refl moves in
    rw (m.2, at_end b m.0 end m.1) (end_nothing limit y empty)
