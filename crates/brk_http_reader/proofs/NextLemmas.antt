-- From the bytes in the buffer to the first request of the whole input.
use Rattle.std.proofs.Common.{◌≡◌, ℕ, ◌+◌, ◌-◌, ◌<◌, ◌≤◌, List, [], ◌++◌, length, take, drop, Option, Some, None, refl, sym, ap, ◌∙◌, subst, arith}
use Rattle.std.proofs.Common.{append_assoc, IfSome, Bool, true, false, inl, inr, Ok, Err}
use Rattle.std.specs.Prelude.{nat_lt}
use Rattle.std.specs.Io.KnownBytes.{IsAtEnd, prepend_known}
use Rattle.std.proofs.lemmas.Bool.Decides.{nat_tests}
use Rattle.std.proofs.lemmas.List.{append-nil, length-append, length-take, length-drop, take-append-le, drop-append-le, take-take, drop-drop, length-take-le, take-append-drop}
use Rattle.httparse.specs.Grammar.{RequestHead}
use Rattle.httparse.specs.Spans.{span_bytes, IsWithin}
use Rattle.httparse.specs.declared.spans.Span.{Span}
use Rattle.brk_model_http.specs.Heads.{head_length, head_end, most_head_bytes}
use Rattle.brk_model_http.specs.Found.{RequestReading, Unreadable, CompleteRequest, IsRequestHead, reading_after_head, reading_with_body_length, ReadsFirstRequest, ReadsHeadAndBody, ReadsByHeadEnd}
use Rattle.brk_http_reader.specs.Heads.{FactsDescribeHead}
use Rattle.brk_http_reader.specs.Moves.{ReadsIntoBuffer}
use Rattle.brk_http_reader.specs.FirstRequests.{MatchesNextRequest}
use Rattle.brk_http_reader.specs.declared.head.HeadFacts.{HeadFacts}
use Rattle.brk_http_reader.specs.declared.next.RequestPositions.{RequestPositions}
use Rattle.brk_http_reader.specs.declared.next.NextRequest.TheVariants.{Whole}
use Rattle.brk_model_http.specs.declared.problem.RequestProblem.{RequestProblem}
use Rattle.brk_model_http.specs.declared.problem.RequestProblem.TheVariants.{BadRequest}
use Rattle.brk_model_http.specs.declared.head_end.HeadEnd.{HeadEnd}
use Rattle.brk_model_http.specs.declared.head_end.HeadEnd.TheVariants.{At}
use Rattle.brk_http_reader.proofs.FrontLemmas.{moved_all, head_len_within}
use Rattle.brk_http_reader.proofs.HeadLemmas.{head_whole, head_len-take, ends_at}

finds_at : (input : List ℕ) (n : ℕ) (found : RequestReading) → At n ≡ head_end input → ReadsHeadAndBody (take n input) (drop n input) found → ReadsFirstRequest input found
finds_at input n found e h = let P : HeadEnd → Type 0 = λ end. ReadsByHeadEnd end input found in subst P e h

front_len : (input : List ℕ) (n : ℕ) → At n ≡ head_end input → head_length (take n input) ≡ Some n
unfolding head_end
front_len input n e =
    let f = ends_at most_head_bytes input n e in
    let w : n ≤ length (take most_head_bytes input) = rw f at (head_len_within (take most_head_bytes input)) in
    let l : n ≤ most_head_bytes = omega (arith, w, length-take most_head_bytes input) in
    rw (take-take n most_head_bytes input l) at (head_len-take (take most_head_bytes input) n f)

finds_head : (input : List ℕ) (n : ℕ) (facts : HeadFacts) (h : RequestHead) (r : List ℕ) → At n ≡ head_end input → n ≤ length input
    → FactsDescribeHead (take n input) facts h r → ReadsFirstRequest input (reading_after_head h (drop n input))
finds_head input n facts h r e within head =
    let f : head_length (take n input) ≡ Some (length (take n input)) = rw (length-take-le n input within) (front_len input n e) in
    let none = head_whole (take n input) r h f head.reads in
    finds_at input n (reading_after_head h (drop n input)) e (inl (h, (rw none at head.reads, head.few), refl))

on_some : (a : Option (List ℕ)) (P : List ℕ → Type 0) → ((l : List ℕ) → a ≡ Some l → P l) → IfSome a P
on_some None P f = tt
on_some (Some l) P f = f l refl

at_some : (a : Option (List ℕ)) (l : List ℕ) (P : List ℕ → Type 0) → a ≡ Some l → IfSome a P → P l
at_some None l P e h = cc
at_some (Some m) l P e h = let f : m ≡ l = cc in subst P f h

lt_yes : (m n : ℕ) → m < n → nat_lt m n ≡ true
lt_yes m n h = grind (arith, nat_tests)

lt_no : (m n : ℕ) → n ≤ m → nat_lt m n ≡ false
lt_no m n h = grind (arith, nat_tests)

span_front : (p r : List ℕ) (s : Span) → IsWithin (length p) s → span_bytes (p ++ r) s ≡ span_bytes p s
span_front p r s (ordered, within) =
    let front : s.start ≤ length p = omega arith in
    let some : s.end - s.start ≤ length (drop s.start p) = omega (arith, length-drop s.start p) in
    ap (take (s.end - s.start)) (drop-append-le s.start p r front) ∙ take-append-le (s.end - s.start) (drop s.start p) r some

-- The positions of a request whose head ends at `n` and whose body has `len` bytes.
abbrev positions_of_request : HeadFacts → ℕ → ℕ → RequestPositions
positions_of_request facts n len = record { method = facts.method; target = facts.target; closes = facts.closes; body = record { start = n; end = n + len } }

-- ---- each outcome

module _ (a b : Option (List ℕ)) (x y : List ℕ) (n : ℕ) (moves : ReadsIntoBuffer a b x y) (value : IfSome a (λ xs. At n ≡ head_end (x ++ xs))) (within : n ≤ length y) where
  front_same : (l m : List ℕ) → x ++ l ≡ y ++ m → take n (x ++ l) ≡ take n y
  front_same l m e = ap (take n) e ∙ take-append-le n y m within

  long_enough : (l m : List ℕ) → x ++ l ≡ y ++ m → n ≤ length (x ++ l)
  long_enough l m e = omega (arith, ap length e, length-append y m)

  pub no_head : ((h : RequestHead) → ¬ (IsRequestHead (take n y) h))
      → IfSome a (λ xs. (found : RequestReading) × ReadsFirstRequest (x ++ xs) found × (found ≡ Unreadable BadRequest))
  no_head none = on_some a (λ xs. (found : RequestReading) × ReadsFirstRequest (x ++ xs) found × (found ≡ Unreadable BadRequest)) (λ l e.
      let m = moved_all a b x y l e moves in
      let f = front_same l m.0 m.2 in
      let v = at_some a l (λ xs. At n ≡ head_end (x ++ xs)) e value in
      (Unreadable BadRequest, finds_at (x ++ l) n (Unreadable BadRequest) v (inr ((λ h p. none h (subst (λ t. IsRequestHead t h) f p)), refl)), refl))

  known : (l m : List ℕ) (facts : HeadFacts) (h : RequestHead) (r : List ℕ) → a ≡ Some l → x ++ l ≡ y ++ m → FactsDescribeHead (take n y) facts h r
      → ReadsFirstRequest (x ++ l) (reading_after_head h (drop n (x ++ l)))
  known l m facts h r e same head =
      finds_head (x ++ l) n facts h r (at_some a l (λ xs. At n ≡ head_end (x ++ xs)) e value) (long_enough l m same)
      (subst (λ t. FactsDescribeHead t facts h r) (sym (front_same l m same)) head)

  pub bad_len : (facts : HeadFacts) (h : RequestHead) (r : List ℕ) (problem : RequestProblem) → FactsDescribeHead (take n y) facts h r → facts.len ≡ Err problem
      → IfSome a (λ xs. (found : RequestReading) × ReadsFirstRequest (x ++ xs) found × (found ≡ Unreadable problem))
  bad_len facts h r problem head e = on_some a (λ xs. (found : RequestReading) × ReadsFirstRequest (x ++ xs) found × (found ≡ Unreadable problem)) (λ l some.
      let m = moved_all a b x y l some moves in
      (reading_after_head h (drop n (x ++ l)), known l m.0 facts h r some m.2 head, ap (reading_with_body_length h (drop n (x ++ l))) (sym head.len ∙ e)))

  pub cut_body : (facts : HeadFacts) (h : RequestHead) (r : List ℕ) (len : ℕ) (c : Option (List ℕ)) (z : List ℕ) → FactsDescribeHead (take n y) facts h r → facts.len ≡ Ok len
      → ReadsIntoBuffer b c y z → IsAtEnd c → length z < n + len
      → IfSome a (λ xs. (found : RequestReading) × ReadsFirstRequest (x ++ xs) found × (found ≡ Unreadable BadRequest))
  cut_body facts h r len c z head e more end short = on_some a (λ xs. (found : RequestReading) × ReadsFirstRequest (x ++ xs) found × (found ≡ Unreadable BadRequest)) (λ l some.
      let m = moved_all a b x y l some moves in
      let k = moved_all b c y z m.0 m.1 more in
      let nil : k.0 ≡ [] = at_some c k.0 (λ t. t ≡ []) k.1 (ended_nil c end) in
      let all : x ++ l ≡ z = m.2 ∙ k.2 ∙ ap (λ t. z ++ t) nil ∙ append-nil z in
      let few : length (drop n (x ++ l)) < len = omega (arith, length-drop n (x ++ l), ap length all, long_enough l m.0 m.2) in
      let open_len : reading_after_head h (drop n (x ++ l)) ≡ reading_with_body_length h (drop n (x ++ l)) (Ok len) = ap (reading_with_body_length h (drop n (x ++ l))) (sym head.len ∙ e) in
      (reading_after_head h (drop n (x ++ l)), known l m.0 facts h r some m.2 head, open_len ∙ rw (lt_yes (length (drop n (x ++ l))) len few) refl))
    where
      ended_nil : (c : Option (List ℕ)) → IsAtEnd c → IfSome c (λ t. t ≡ [])
      ended_nil None h = tt
      ended_nil (Some t) h = h

  pub whole_body : (facts : HeadFacts) (h : RequestHead) (r : List ℕ) (len : ℕ) (c : Option (List ℕ)) (z : List ℕ) → FactsDescribeHead (take n y) facts h r → facts.len ≡ Ok len
      → ReadsIntoBuffer b c y z → n + len ≤ length z → IsWithin (length (take n y)) facts.method → IsWithin (length (take n y)) facts.target
      → IfSome a (λ xs. (found : RequestReading) × ReadsFirstRequest (x ++ xs) found × MatchesNextRequest (Whole (positions_of_request facts n len)) z c found)
  whole_body facts h r len c z head e more long ms ts =
      on_some a (λ xs. (found : RequestReading) × ReadsFirstRequest (x ++ xs) found × MatchesNextRequest (Whole (positions_of_request facts n len)) z c found)
      (λ l some.
      let m = moved_all a b x y l some moves in
      let k = moved_all b c y z m.0 m.1 more in
      let all : x ++ l ≡ z ++ k.0 = m.2 ∙ k.2 in
      let rest : List ℕ = drop n (x ++ l) in
      let at : rest ≡ drop n z ++ k.0 = ap (drop n) all ∙ drop-append-le n z k.0 (omega arith) in
      let some_len : len ≤ length (drop n z) = omega (arith, length-drop n z) in
      let enough : len ≤ length rest = omega (arith, ap length at, length-append (drop n z) k.0) in
      let open_len : reading_after_head h rest ≡ reading_with_body_length h rest (Ok len) = ap (reading_with_body_length h rest) (sym head.len ∙ e) in
      let z_is : z ≡ take n y ++ (drop n y ++ more.0) = more.2 ∙ ap (λ t. t ++ more.0) (sym (take-append-drop n y)) ∙ append_assoc (take n y) (drop n y) more.0 in
      let method : h.method ≡ span_bytes z facts.method = sym head.method ∙ sym (span_front (take n y) (drop n y ++ more.0) facts.method ms) ∙ ap (λ t. span_bytes t facts.method) (sym z_is) in
      let target : h.target ≡ span_bytes z facts.target = sym head.target ∙ sym (span_front (take n y) (drop n y ++ more.0) facts.target ts) ∙ ap (λ t. span_bytes t facts.target) (sym z_is) in
      let count : len ≡ n + len - n = omega arith in
      let body : take len rest ≡ take (n + len - n) (drop n z) = ap (take len) at ∙ take-append-le len (drop n z) k.0 some_len ∙ ap (λ i. take i (drop n z)) count in
      let after : drop len rest ≡ drop (n + len) z ++ k.0 = ap (drop len) at ∙ drop-append-le len (drop n z) k.0 some_len ∙ ap (λ t. t ++ k.0) (drop-drop len n z) in (
        reading_after_head h rest,
        known l m.0 facts h r some m.2 head,
        (drop (n + len) z ++ k.0, ap (prepend_known (drop (n + len) z)) k.1, open_len ∙ rw (lt_no (length rest) len enough) (made method target (sym head.closes) body after)),
      ))
    where
      made : {p p' q q' : List ℕ} {t t' : Bool} {u u' v v' : List ℕ} → p ≡ p' → q ≡ q' → t ≡ t' → u ≡ u' → v ≡ v'
          → CompleteRequest (record { method = p; target = q; closes = t; body = u }) v ≡ CompleteRequest (record { method = p'; target = q'; closes = t'; body = u' }) v'
      made d e f g h = cc
