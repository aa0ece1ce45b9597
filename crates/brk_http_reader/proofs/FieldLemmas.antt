-- The facts of the fields of a head with one more field, and the numbers of digits.
use Rattle.std.proofs.Common.{◌≡◌, ℕ, ◌+◌, ◌-◌, ◌*◌, ◌^◌, ◌<◌, ◌≤◌, List, [], ◌∷◌, ◌++◌, length, take, get_or, map, Bool, true, false, Some, None, refl, sym, ap, ◌∙◌, arith, Err, codes}
use Rattle.std.specs.Prelude.{◌&&◌, ◌||◌, if◌then◌else◌}
use Rattle.std.specs.List.{list_any, list_all}
use Rattle.std.specs.Char.{digit_value, is_ascii_digit}
use Rattle.std.specs.Str.Parse.{digits_value}
use Rattle.std.proofs.lemmas.List.{take_more, map-append}
use Rattle.std.proofs.lemmas.List.Elements.{filter_map-append}
use Rattle.std.proofs.lemmas.List.Folds.{list_all_at}
use Rattle.std.proofs.lemmas.Bool.Decides.{nat_tests}
use Rattle.std.proofs.lemmas.Grind.{pow_more}
use Rattle.httparse.proofs.ChunkLemmas.{digits_value_after_push}
use Rattle.httparse.specs.Spans.{header_bytes}
use Rattle.httparse.specs.declared.spans.HeaderSpan.{HeaderSpan}
use Rattle.brk_model_http.specs.Fields.{HeadField, is_equal_ignoring_case, values_of_field, has_connection_close, has_field_named, body_length_of_values, body_length_of_value}
use Rattle.brk_http_reader.specs.FieldFactUpdates.{facts_with_field}
use Rattle.brk_model_http.specs.declared.problem.RequestProblem.TheVariants.{BadRequest}
use Rattle.brk_http_reader.specs.declared.fields.FieldFactsSoFar.{FieldFactsSoFar}

-- The facts of all fields `ps` of a head: whether there is a `Transfer-Encoding` (`chunked`),
-- whether `Connection: close` asks to close the stream (`closes`), whether there is a
-- `Content-Length` (`any_length`), and the body length in bytes, 0 without a `Content-Length`, or
-- the problem with it (`len`). The case of ASCII letters in names and in `close` is ignored.
abbrev pub facts_of_fields : List HeadField → FieldFactsSoFar
facts_of_fields ps = record {
  chunked = has_field_named (codes "transfer-encoding") ps;
  closes = has_connection_close ps;
  any_length = has_field_named (codes "content-length") ps;
  len = body_length_of_values (values_of_field (codes "content-length") ps);
}

or_last : (a b c : Bool) → a || (b || c) ≡ (a || b) || c
or_last true b c = refl
or_last false b c = refl

or_false : (a : Bool) → a || false ≡ false || a
or_false true = refl
or_false false = refl

pub any_push : (p : HeadField → Bool) (ps : List HeadField) (q : HeadField) → list_any p (ps ++ q ∷ []) ≡ list_any p ps || p q
any_push p [] q = or_false (p q)
any_push p (x ∷ ps) q = ap (λ b. p x || b) (any_push p ps q) ∙ or_last (p x) (list_any p ps) (p q)

-- the values and whether there is one
values_any : (name : List ℕ) (ps : List HeadField) → has_field_named name ps ≡ false → values_of_field name ps ≡ []
values_any name [] none = refl
values_any name (p ∷ ps) none = by (is_equal_ignoring_case p.0 name) refl (values_any name ps)
  where
    by : (b : Bool) → is_equal_ignoring_case p.0 name ≡ b → (has_field_named name ps ≡ false → values_of_field name ps ≡ []) → values_of_field name (p ∷ ps) ≡ []
    by true e rest = let f = rw e at none in cc
    by false e rest = let f = rw e at none in rw e (rest f)

values_some : (name : List ℕ) (ps : List HeadField) → has_field_named name ps ≡ true → (v : List ℕ) × (vs : List (List ℕ)) × (values_of_field name ps ≡ v ∷ vs)
values_some name [] some = cc
values_some name (p ∷ ps) some = by (is_equal_ignoring_case p.0 name) refl (values_some name ps)
  where
    by : (b : Bool) → is_equal_ignoring_case p.0 name ≡ b → (has_field_named name ps ≡ true → (v : List ℕ) × (vs : List (List ℕ)) × (values_of_field name ps ≡ v ∷ vs))
        → (v : List ℕ) × (vs : List (List ℕ)) × (values_of_field name (p ∷ ps) ≡ v ∷ vs)
    by true e rest = (p.1, values_of_field name ps, rw e refl)
    by false e rest = let r = rest (rw e at some) in (r.0, r.1, rw e r.2)

many : (vs : List (List ℕ)) (v w : List ℕ) → body_length_of_values ((v ∷ vs) ++ w ∷ []) ≡ Err BadRequest
many [] v w = refl
many (u ∷ vs) v w = refl

len_push : (name : List ℕ) (ps : List HeadField) (q : HeadField)
    → body_length_of_values (values_of_field name (ps ++ q ∷ []))
    ≡ (if is_equal_ignoring_case q.0 name then (if has_field_named name ps then Err BadRequest else body_length_of_value q.1) else body_length_of_values
    (values_of_field name ps))
len_push name ps q = rw (filter_map-append (λ p. if is_equal_ignoring_case p.0 name then Some p.1 else None) ps (q ∷ [])) (by (is_equal_ignoring_case q.0 name) (has_field_named name ps) refl refl)
  where
    by : (b c : Bool) → is_equal_ignoring_case q.0 name ≡ b → has_field_named name ps ≡ c
        → body_length_of_values (values_of_field name ps ++ values_of_field name (q ∷ []))
        ≡ (if b then (if c then Err BadRequest else body_length_of_value q.1) else body_length_of_values (values_of_field name ps))
    by true true e f = let r = values_some name ps f in rw (e, r.2) (many r.1 r.0 q.1)
    by true false e f = rw (e, values_any name ps f) refl
    by false c e f = rw e (rw (nil (values_of_field name ps)) refl)
      where
        nil : (xs : List (List ℕ)) → xs ++ [] ≡ xs
        nil [] = refl
        nil (x ∷ xs) = ap (λ ys. x ∷ ys) (nil xs)

pub seen_push : (ps : List HeadField) (q : HeadField) → facts_of_fields (ps ++ q ∷ []) ≡ facts_with_field (facts_of_fields ps) q
seen_push ps q =
    let a = any_push (λ p. is_equal_ignoring_case p.0 (codes "transfer-encoding")) ps q in
    let b = any_push (λ p. is_equal_ignoring_case p.0 (codes "connection") && is_equal_ignoring_case p.1 (codes "close")) ps q in
    let d = any_push (λ p. is_equal_ignoring_case p.0 (codes "content-length")) ps q in
    let e = len_push (codes "content-length") ps q in
    (let made : facts_of_fields (ps ++ q ∷ []) ≡ facts_with_field (facts_of_fields ps) q = cc (a, b, d, e) in made)

pub seen_more : (front : List ℕ) (hs : List HeaderSpan) (i : ℕ) (d : HeaderSpan) (s : FieldFactsSoFar) → i < length hs
    → s ≡ facts_of_fields (map (header_bytes front) (take i hs))
    → facts_with_field s (header_bytes front (get_or hs i d)) ≡ facts_of_fields (map (header_bytes front) (take (i + 1) hs))
seen_more front hs i d s within all =
    let e : map (header_bytes front) (take (i + 1) hs) ≡ map (header_bytes front) (take i hs) ++ header_bytes front (get_or hs i d) ∷ [] =
    rw (take_more hs i d within) (map-append (header_bytes front) (take i hs) (get_or hs i d ∷ [])) in
    ap (λ t. facts_with_field t (header_bytes front (get_or hs i d))) all
    ∙ sym (seen_push (map (header_bytes front) (take i hs)) (header_bytes front (get_or hs i d)))
    ∙ ap facts_of_fields (sym e)

-- ---- digits

digit_is : (b : ℕ) → is_ascii_digit b ≡ true → (digit_value b ≡ b - 48) × (48 ≤ b) × (b < 58)
digit_is b h = (grind (arith, nat_tests), grind (arith, nat_tests), grind (arith, nat_tests))

pub digit_at : (bytes : List ℕ) (i : ℕ) → list_all is_ascii_digit bytes ≡ true → i < length bytes → is_ascii_digit (get_or bytes i 0) ≡ true
digit_at bytes i all within = by (is_ascii_digit (get_or bytes i 0)) refl
  where
    by : (b : Bool) → is_ascii_digit (get_or bytes i 0) ≡ b → b ≡ true
    by true e = refl
    by false e = let f = list_all_at is_ascii_digit bytes i 0 within e in cc

pub number_more : (bytes : List ℕ) (i n : ℕ) → list_all is_ascii_digit bytes ≡ true → i < length bytes
    → n ≡ digits_value 10 (take i bytes) → n < 10 ^ i
    → (n * 10 + (get_or bytes i 0 - 48) ≡ digits_value 10 (take (i + 1) bytes)) × (n * 10 + (get_or bytes i 0 - 48) < 10 ^ (i + 1))
number_more bytes i n all within value bound =
    let d = digit_is (get_or bytes i 0) (digit_at bytes i all within) in
    let p = digits_value_after_push 10 0 (take i bytes) (get_or bytes i 0) in
    let e : digits_value 10 (take (i + 1) bytes) ≡ digits_value 10 (take i bytes) * 10 + digit_value (get_or bytes i 0) = rw (take_more bytes i 0 within) p in
    let ten : 10 ^ (i + 1) ≡ 10 ^ i * 10 = pow_more 10 i in
    (rw (e, d.0, ← value) refl, omega (arith, d.0, d.1, d.2, ten))
