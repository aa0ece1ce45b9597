-- A head ends with its first empty line, so the bytes up to there contain nothing after it.
use Rattle.std.proofs.Common.{◌≡◌, ℕ, zero, suc, ◌+◌, ◌≤◌, List, [], ◌∷◌, ◌++◌, length, take, Option, Some, None, refl, sym, ap, ◌∙◌, subst, arith, append_assoc, IfSome, Bool, true, false}
use Rattle.std.specs.Prelude.{◌==◌, ◌&&◌, if◌then◌else◌, nat_le}
use Rattle.std.specs.List.{flat_map}
use Rattle.std.proofs.lemmas.List.{length-append, nil_from_length}
use Rattle.httparse.specs.Grammar.{LineEnd, crlf, lf, print_end, Field, print_field, print_section, RequestHead, print_request, ReadsRequest}
use Rattle.brk_model_http.specs.Heads.{leading_line_end_length, first_present_plus_one, line_end_length_after_line_feed, head_length}
use Rattle.brk_http_reader.proofs.FrontLemmas.{head_len-cons, head_len-nil}
use Rattle.brk_model_http.specs.Heads.{head_end_within}
use Rattle.brk_model_http.specs.declared.head_end.HeadEnd.TheVariants.{Nothing, TooLong, Cut, At}

-- the list ends in LF
abbrev EndsInLf : List ℕ → Type 0
EndsInLf xs = (before : List ℕ) × (xs ≡ before ++ 10 ∷ [])

after : (xs ys : List ℕ) → EndsInLf ys → EndsInLf (xs ++ ys)
after xs ys (before, e) = (xs ++ before, ap (λ l. xs ++ l) e ∙ sym (append_assoc xs before (10 ∷ [])))

end_lf : (e : LineEnd) → EndsInLf (print_end e)
end_lf crlf = (13 ∷ [], refl)
end_lf lf = ([], refl)

field_lf : (f : Field) → EndsInLf (print_field f)
field_lf f = after _ (print_end f.end) (end_lf f.end)

-- The list ends with an empty line.
pub record EndsWithEmptyLine (xs : List ℕ) : Type 0 where
  pub before : List ℕ
  pub end : LineEnd
  pub is : xs ≡ before ++ 10 ∷ print_end end

section_empty : (fields : List Field) (last : LineEnd) (xs : List ℕ) → EndsInLf xs → EndsWithEmptyLine (xs ++ print_section fields last)
section_empty [] last xs (before, e) = record { before = before; end = last; is = ap (λ l. l ++ print_end last) e ∙ append_assoc before (10 ∷ []) (print_end last) }
section_empty (f ∷ fields) last xs ends =
    let r = section_empty fields last (xs ++ print_field f) (after xs (print_field f) (field_lf f)) in
    let e : xs ++ print_section (f ∷ fields) last ≡ (xs ++ print_field f) ++ print_section fields last =
    ap (λ l. xs ++ l) (append_assoc (print_field f) (flat_map print_field fields) (print_end last)) ∙ sym (append_assoc xs (print_field f) (print_section fields last)) in
    record { before = r.before; end = r.end; is = e ∙ r.is }

pub head_empty : (h : RequestHead) → EndsWithEmptyLine (print_request h)
unfolding print_request
head_empty h = section_empty h.fields h.last _ (after _ (print_end h.line_end) (end_lf h.line_end))

-- ---- the first empty line is no later

begins_end : (e : LineEnd) (rest : List ℕ) → leading_line_end_length (print_end e ++ rest) ≡ Some (length (print_end e))
begins_end crlf rest = refl
begins_end lf [] = refl
begins_end lf (b ∷ rest) = refl

-- The option has a number, which is at most `n`.
abbrev IsSomeAtMost : Option ℕ → ℕ → Type 0
IsSomeAtMost None n = ⊥
IsSomeAtMost (Some k) n = k ≤ n

short_two : (s t u : Bool) → IfSome (if s then Some 1 else (if t && u then Some 2 else None)) (λ k. k ≤ 2)
short_two true t u = omega arith
short_two false true true = omega arith
short_two false true false = tt
short_two false false u = tt

short_one : (s : Bool) → IfSome (if s then Some 1 else None) (λ k. k ≤ 2)
short_one true = omega arith
short_one false = tt

short : (bytes : List ℕ) → IfSome (leading_line_end_length bytes) (λ n. n ≤ 2)
short [] = tt
short (b ∷ []) = short_one (b == 10)
short (b ∷ c ∷ bytes) = short_two (b == 10) (b == 13) (c == 10)

short_after : (b : ℕ) (bytes : List ℕ) → IfSome (line_end_length_after_line_feed b bytes) (λ n. n ≤ 2)
short_after b bytes = by (b == 10)
  where
    by : (t : Bool) → IfSome (if t then leading_line_end_length bytes else None) (λ n. n ≤ 2)
    by true = short bytes
    by false = tt

further_most : (x y : Option ℕ) (n : ℕ) → IfSome x (λ k. k ≤ 2) → 2 ≤ n → IsSomeAtMost y n → IsSomeAtMost (first_present_plus_one x y) (suc n)
further_most (Some k) y n p two q = omega arith
further_most None (Some k) n p two q = omega arith
further_most None None n p two q = absurd q

end_some : (e : LineEnd) → 1 ≤ length (print_end e)
end_some crlf = omega arith
end_some lf = omega arith

most_here : (n k : ℕ) → n + 1 ≡ suc k → n + 1 ≤ suc k
most_here n k e = omega arith

pub first_by : (before rest : List ℕ) (e : LineEnd) → IsSomeAtMost (head_length ((before ++ 10 ∷ print_end e) ++ rest)) (length (before ++ 10 ∷ print_end e))
first_by [] rest e = rw (head_len-cons 10 (print_end e ++ rest), begins_end e rest) (omega arith)
first_by (b ∷ before) rest e =
    let two : 2 ≤ length (before ++ 10 ∷ print_end e) = omega (arith, length-append before (10 ∷ print_end e), end_some e) in
    rw (head_len-cons b ((before ++ 10 ∷ print_end e) ++ rest))
    (further_most (line_end_length_after_line_feed b ((before ++ 10 ∷ print_end e) ++ rest)) (head_length ((before ++ 10 ∷ print_end e) ++ rest)) (length (before ++ 10 ∷ print_end e))
    (short_after b ((before ++ 10 ∷ print_end e) ++ rest)) two (first_by before rest e))

-- in the bytes up to the first empty line a head is all
pub head_whole : (front rest : List ℕ) (h : RequestHead) → head_length front ≡ Some (length front) → ReadsRequest front h rest → rest ≡ []
head_whole front rest h first reads =
    let w = head_empty h in
    let e : front ≡ (w.before ++ 10 ∷ print_end w.end) ++ rest = reads.1 ∙ ap (λ l. l ++ rest) w.is in
    let P : List ℕ → Type 0 = λ l. IsSomeAtMost (head_length l) (length (w.before ++ 10 ∷ print_end w.end)) in
    let m : P front = subst P (sym e) (first_by w.before rest w.end) in
    let n : length front ≤ length (w.before ++ 10 ∷ print_end w.end) = rw first at m in
    let l : length front ≡ length (w.before ++ 10 ∷ print_end w.end) + length rest = ap length e ∙ length-append _ rest in
    nil_from_length rest (omega arith)

-- ---- the bytes up to the first empty line have it at their end

one_take : (b k : ℕ) (s : Bool) → (b == 10) ≡ s → (if s then Some 1 else None) ≡ Some k → leading_line_end_length (take k (b ∷ [])) ≡ Some k
one_take b k true e f = let n : 1 ≡ k = cc in rw (← n, e) refl
one_take b k false e f = cc

two_take : (b c k : ℕ) (bytes : List ℕ) (s t : Bool) → (b == 10) ≡ s → (b == 13 && c == 10) ≡ t → (if s then Some 1 else (if t then Some 2 else None)) ≡ Some k
    → leading_line_end_length (take k (b ∷ c ∷ bytes)) ≡ Some k
two_take b c k bytes true t e g f = let n : 1 ≡ k = cc in rw (← n, e) refl
two_take b c k bytes false true e g f = let n : 2 ≡ k = cc in rw (← n, e, g) refl
two_take b c k bytes false false e g f = cc

begins-take : (bytes : List ℕ) (k : ℕ) → leading_line_end_length bytes ≡ Some k → leading_line_end_length (take k bytes) ≡ Some k
begins-take [] k e = cc
begins-take (b ∷ []) k e = one_take b k (b == 10) refl e
begins-take (b ∷ c ∷ bytes) k e = two_take b c k bytes (b == 10) (b == 13 && c == 10) refl refl e

after-take : (b : ℕ) (bytes : List ℕ) (k : ℕ) → line_end_length_after_line_feed b bytes ≡ Some k → line_end_length_after_line_feed b (take k bytes) ≡ Some k
after-take b bytes k e = by (b == 10) e
  where
    by : (t : Bool) → (if t then leading_line_end_length bytes else None) ≡ Some k → (if t then leading_line_end_length (take k bytes) else None) ≡ Some k
    by true f = begins-take bytes k f
    by false f = cc

abbrev some_one : Option ℕ
some_one = Some 1

abbrev some_two : Option ℕ
some_two = Some 2

one_none : (b : ℕ) (s t : Bool) → (b == 10) ≡ s → (if s then some_one else (if t then some_two else None)) ≡ None → leading_line_end_length (b ∷ []) ≡ None
one_none b true t e f = cc
one_none b false t e f = rw e refl

begins-take-none : (bytes : List ℕ) (k : ℕ) → leading_line_end_length bytes ≡ None → leading_line_end_length (take k bytes) ≡ None
begins-take-none bytes zero e = refl
begins-take-none [] (suc k) e = refl
begins-take-none (b ∷ []) (suc zero) e = e
begins-take-none (b ∷ []) (suc (suc k)) e = e
begins-take-none (b ∷ c ∷ bytes) (suc zero) e = one_none b (b == 10) (b == 13 && c == 10) refl e
begins-take-none (b ∷ c ∷ bytes) (suc (suc k)) e = e

after-take-none : (b : ℕ) (bytes : List ℕ) (k : ℕ) → line_end_length_after_line_feed b bytes ≡ None → line_end_length_after_line_feed b (take k bytes) ≡ None
after-take-none b bytes k e = by (b == 10) e
  where
    by : (t : Bool) → (if t then leading_line_end_length bytes else None) ≡ None → (if t then leading_line_end_length (take k bytes) else None) ≡ None
    by true f = begins-take-none bytes k f
    by false f = refl

pub head_len-take : (xs : List ℕ) (n : ℕ) → head_length xs ≡ Some n → head_length (take n xs) ≡ Some n
head_len-take [] n e = let f = rw head_len-nil at e in cc
head_len-take (b ∷ bytes) n e =
    let f = rw (head_len-cons b bytes) at e in
    by (line_end_length_after_line_feed b bytes) (head_length bytes) refl refl f (λ m. head_len-take bytes m)
  where
    by : (x y : Option ℕ) → line_end_length_after_line_feed b bytes ≡ x → head_length bytes ≡ y → first_present_plus_one x y ≡ Some n
        → ((m : ℕ) → head_length bytes ≡ Some m → head_length (take m bytes) ≡ Some m) → head_length (take n (b ∷ bytes)) ≡ Some n
    by (Some k) y p q f ih =
        let g : k + 1 ≡ n = cc in
        let h : n ≡ suc k = omega arith in
        rw (h, head_len-cons b (take k bytes), after-take b bytes k p) (ap (λ (i : ℕ). Some i) (omega arith))
    by None (Some m) p q f ih =
        let g : m + 1 ≡ n = cc in
        let h : n ≡ suc m = omega arith in
        rw (h, head_len-cons b (take m bytes), after-take-none b bytes m p, ih m q) (ap (λ (i : ℕ). Some i) (omega arith))
    by None None p q f ih = cc

pub ends_at : (limit : ℕ) (input : List ℕ) (n : ℕ) → At n ≡ head_end_within limit input → head_length (take limit input) ≡ Some n
ends_at limit input n e = by (head_length (take limit input)) refl
  where
    by : (o : Option ℕ) → head_length (take limit input) ≡ o → head_length (take limit input) ≡ Some n
    by (Some k) f = let g : At n ≡ At k = rw f at e in let h : n ≡ k = cc in rw h f
    by None f = let g = rw f at e in other (length input == 0) (nat_le limit (length input)) g
      where
        other : (s t : Bool) → At n ≡ (if s then Nothing else (if t then TooLong else Cut)) → head_length (take limit input) ≡ Some n
        other true t h = cc
        other false true h = cc
        other false false h = cc
