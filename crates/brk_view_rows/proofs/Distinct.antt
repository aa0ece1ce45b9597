-- Names that are counted once, at their first occurrence.
use Rattle.std.proofs.Common.{◌≡◌, List, [], ◌∷◌, ◌++◌, Bool, true, false, not, cond, refl, sym, ap, ◌∙◌, filter, Ok, Err}
use Rattle.std.specs.Prelude.{◌||◌, bytes_eq}
use Rattle.std.proofs.lemmas.Slice.Eq.{bytes_eq-Decides}
use Rattle.brk_money.specs.Spelling.{Text}
use Rattle.brk_money.specs.declared.refusal.Refusal.TheVariants.{BadText}
use Rattle.brk_model.specs.Forms.{ReadResult, ◌⊛◌, read_each_text, read_name}
use Rattle.brk_model.specs.Lists.{distinct_texts}
use Rattle.brk_ref.proofs.Applied.{text_left, text_right}
use Rattle.brk_view_rows.specs.BrokerNames.{distinct_parsed_names, contains_name, names_with_new_name}

-- The names of `more` that are not in `names`, in order, each only where it first occurs in `more`.
abbrev pub distinct_new_names : List Text → List Text → List Text
distinct_new_names names more = filter (λ name. not (contains_name names name)) (distinct_texts more)

-- The list `names` followed by the parsed names that are not in it, in order, each only where it
-- first occurs; the refusal of parsing if there is one.
abbrev pub names_then_new_names : List Text → ReadResult (List Text) → ReadResult (List Text)
names_then_new_names names (Ok more) = Ok (names ++ distinct_new_names names more)
names_then_new_names names (Err refusal) = Err refusal

-- ---- names left out twice

twice : {X : Type 0} (p q : X → Bool) (xs : List X) → ((x : X) → p x ≡ true → q x ≡ true) → filter p (filter q xs) ≡ filter p xs
twice p q [] h = refl
twice p q (x ∷ xs) h = by_tests (twice p q xs h) (p x) (q x) refl refl
  where
    by_tests : filter p (filter q xs) ≡ filter p xs → (b c : Bool) → p x ≡ b → q x ≡ c → filter p (cond (q x) (x ∷ filter q xs) (filter q xs)) ≡ cond (p x) (x ∷ filter p xs) (filter p xs)
    by_tests ih true true e f = rw (f, e) (ap (λ ys. x ∷ ys) ih)
    by_tests ih true false e f = absurd (let g : false ≡ true = sym f ∙ h x e in cc)
    by_tests ih false true e f = rw (f, e) ih
    by_tests ih false false e f = rw (f, e) ih

both : {X : Type 0} (p q r : X → Bool) (xs : List X) → ((x : X) → r x ≡ cond (q x) (p x) false) → filter p (filter q xs) ≡ filter r xs
both p q r [] h = refl
both p q r (x ∷ xs) h = by_tests (both p q r xs h) (p x) (q x) refl refl
  where
    by_tests : filter p (filter q xs) ≡ filter r xs → (b c : Bool) → p x ≡ b → q x ≡ c → filter p (cond (q x) (x ∷ filter q xs) (filter q xs)) ≡ cond (r x) (x ∷ filter r xs) (filter r xs)
    by_tests ih true true e f = rw (h x, f, e) (ap (λ ys. x ∷ ys) ih)
    by_tests ih true false e f = rw (h x, f) ih
    by_tests ih false true e f = rw (h x, f, e) ih
    by_tests ih false false e f = rw (h x, f) ih

same : (s t : Text) → bytes_eq s t ≡ true → s ≡ t
same s t e = (bytes_eq-Decides s t).0 e

not_true : (b : Bool) → not b ≡ true → b ≡ false
not_true true e = cc
not_true false e = refl

-- ---- a name that occurs once more, and one that is new

-- True if `name` is not one of `names`.
abbrev is_new : List Text → Text → Bool
is_new names name = not (contains_name names name)

told_again : (names : List Text) (name : Text) (more : List Text) → contains_name names name ≡ true → distinct_new_names names (name ∷ more) ≡ distinct_new_names names more
told_again names name more e =
    ap (λ b. cond (not b) (name ∷ rest) rest) e ∙ twice (is_new names) (λ other. not (bytes_eq other name)) (distinct_texts more) (λ x f. other x (bytes_eq x name) refl f)
  where
    rest : List Text
    rest = filter (is_new names) (filter (λ other. not (bytes_eq other name)) (distinct_texts more))

    other : (x : Text) (b : Bool) → bytes_eq x name ≡ b → is_new names x ≡ true → not (bytes_eq x name) ≡ true
    other x false g f = ap not g
    other x true g f = absurd (let k : false ≡ true = sym (not_true (contains_name names x) f) ∙ ap (contains_name names) (same x name g) ∙ e in cc)

any_last : (names : List Text) (name x : Text) → contains_name (names ++ name ∷ []) x ≡ contains_name names x || bytes_eq x name
any_last [] name x = or_false (bytes_eq x name)
  where
    or_false : (b : Bool) → b || false ≡ b
    or_false true = refl
    or_false false = refl
any_last (y ∷ names) name x = ap (λ b. bytes_eq x y || b) (any_last names name x) ∙ assoc (bytes_eq x y) (contains_name names x) (bytes_eq x name)
  where
    assoc : (a b c : Bool) → a || (b || c) ≡ (a || b) || c
    assoc true b c = refl
    assoc false b c = refl

neither : (a b : Bool) → not (a || b) ≡ cond (not b) (not a) false
neither true true = refl
neither true false = refl
neither false true = refl
neither false false = refl

append_one : {X : Type 0} (xs : List X) (x : X) (ys : List X) → xs ++ x ∷ ys ≡ (xs ++ x ∷ []) ++ ys
append_one [] x ys = refl
append_one (y ∷ xs) x ys = ap (λ zs. y ∷ zs) (append_one xs x ys)

told_first : (names : List Text) (name : Text) (more : List Text) → contains_name names name ≡ false
    → names ++ distinct_new_names names (name ∷ more) ≡ (names ++ name ∷ []) ++ distinct_new_names (names ++ name ∷ []) more
told_first names name more e =
    ap (λ b. names ++ cond (not b) (name ∷ rest) rest) e ∙ append_one names name rest
    ∙ ap (λ ys. (names ++ name ∷ []) ++ ys) (both (is_new names) (λ other. not (bytes_eq other name)) (is_new (names ++ name ∷ [])) (distinct_texts more)
    (λ x. ap not (any_last names name x) ∙ neither (contains_name names x) (bytes_eq x name)))
  where
    rest : List Text
    rest = filter (is_new names) (filter (λ other. not (bytes_eq other name)) (distinct_texts more))

told_next : (names : List Text) (name : Text) (more : List Text)
    → names ++ distinct_new_names names (name ∷ more) ≡ names_with_new_name names name ++ distinct_new_names (names_with_new_name names name) more
told_next names name more = by_test (contains_name names name) refl
  where
    taken : List Text → List Text
    taken ns = ns ++ distinct_new_names ns more

    by_test : (b : Bool) → contains_name names name ≡ b → names ++ distinct_new_names names (name ∷ more) ≡ taken (names_with_new_name names name)
    by_test true e = ap (λ ys. names ++ ys) (told_again names name more e) ∙ sym (ap (λ b. taken (cond b names (names ++ name ∷ []))) e)
    by_test false e = told_first names name more e ∙ sym (ap (λ b. taken (cond b names (names ++ name ∷ []))) e)

-- ---- what stays distinct

filter-append : {X : Type 0} (p : X → Bool) (xs ys : List X) → filter p (xs ++ ys) ≡ filter p xs ++ filter p ys
filter-append p [] ys = refl
filter-append p (x ∷ xs) ys =
    elim (p x) as (λ b. cond b (x ∷ filter p (xs ++ ys)) (filter p (xs ++ ys)) ≡ cond b (x ∷ filter p xs) (filter p xs) ++ filter p ys)
    [ true ↦ ap (λ zs. x ∷ zs) (filter-append p xs ys) | false ↦ filter-append p xs ys ]

distinct_last : (names : List Text) (name : Text) → distinct_texts (names ++ name ∷ []) ≡ distinct_texts names ++ filter (is_new names) (name ∷ [])
distinct_last [] name = refl
distinct_last (x ∷ names) name =
    ap (λ ys. x ∷ filter (λ other. not (bytes_eq other x)) ys) (distinct_last names name)
    ∙ ap (λ ys. x ∷ ys) (filter-append (λ other. not (bytes_eq other x)) (distinct_texts names) (filter (is_new names) (name ∷ [])))
    ∙ ap (λ ys. (x ∷ filter (λ other. not (bytes_eq other x)) (distinct_texts names)) ++ ys)
    (both (λ other. not (bytes_eq other x)) (is_new names) (is_new (x ∷ names)) (name ∷ []) (λ y. one_of (bytes_eq y x) (contains_name names y)))
  where
    one_of : (a b : Bool) → not (a || b) ≡ cond (not b) (not a) false
    one_of = neither

pub still_distinct : (names : List Text) (name : Text) → distinct_texts names ≡ names → distinct_texts (names_with_new_name names name) ≡ names_with_new_name names name
still_distinct names name d = by_test (contains_name names name) refl
  where
    by_test : (b : Bool) → contains_name names name ≡ b → distinct_texts (cond (contains_name names name) names (names ++ name ∷ [])) ≡ cond (contains_name names name) names (names ++ name ∷ [])
    by_test true e = rw e d
    by_test false e = rw e (distinct_last names name ∙ (λ i. d i ++ cond (not (e i)) (name ∷ []) []))

-- ---- as they are read

filter_all : {X : Type 0} (p : X → Bool) (xs : List X) → ((x : X) → p x ≡ true) → filter p xs ≡ xs
filter_all p [] h = refl
filter_all p (x ∷ xs) h = ap (λ b. cond b (x ∷ filter p xs) (filter p xs)) (h x) ∙ ap (λ ys. x ∷ ys) (filter_all p xs h)

append_nil : {X : Type 0} (xs : List X) → xs ++ [] ≡ xs
append_nil [] = refl
append_nil (x ∷ xs) = ap (λ ys. x ∷ ys) (append_nil xs)

pub none_yet : (read : ReadResult (List Text)) → distinct_parsed_names read ≡ names_then_new_names [] read
none_yet (Ok names) = ap Ok (sym (filter_all (is_new []) (distinct_texts names) (λ x. refl)))
none_yet (Err refusal) = refl

pub name_taken : (names : List Text) (name : Text) (read : ReadResult (List Text))
    → names_then_new_names names (Ok (λ x xs. x ∷ xs) ⊛ Ok name ⊛ read) ≡ names_then_new_names (names_with_new_name names name) read
name_taken names name (Ok more) = ap Ok (told_next names name more)
name_taken names name (Err refusal) = refl

pub all_taken : (names : List Text) → names_then_new_names names (Ok []) ≡ Ok names
all_taken names = ap Ok (append_nil names)

-- a name that was read is the next, and one that was not is the refusal
pub next_taken : (names : List Text) (field name : Text) (rest : List Text) → Ok name ≡ read_name field
    → names_then_new_names names (read_each_text read_name (field ∷ rest)) ≡ names_then_new_names (names_with_new_name names name) (read_each_text read_name rest)
next_taken names field name rest e =
    ap (λ read. names_then_new_names names (Ok (λ x xs. x ∷ xs) ⊛ read ⊛ read_each_text read_name rest)) (sym e) ∙ name_taken names name (read_each_text read_name rest)

pub next_refused : (names : List Text) (field : Text) (rest : List Text) → Err BadText ≡ read_name field → names_then_new_names names (read_each_text read_name (field ∷ rest)) ≡ Err BadText
next_refused names field rest e =
    ap (names_then_new_names names) (text_left (let cons : ReadResult (Text → List Text → List Text) = Ok (λ x xs. x ∷ xs) in cons ⊛ read_name field) (read_each_text read_name rest)
    (text_right (let cons : ReadResult (Text → List Text → List Text) = Ok (λ x xs. x ∷ xs) in cons) (read_name field) (sym e)))
