-- A text that is the name of no view.
use Rattle.std.proofs.Common.{◌≡◌, ◌≢◌, List, [], ◌∷◌, Bool, true, false, cond, Some, Err, refl, sym, ap, ◌∙◌, find, map}
use Rattle.std.specs.Prelude.{◌||◌, bytes_eq}
use Rattle.std.specs.List.{AllByRecursion, list_any}
use Rattle.std.proofs.lemmas.Slice.Eq.{bytes_eq-Decides}
use Rattle.brk_money.specs.Spelling.{Text}
use Rattle.brk_money.specs.declared.refusal.Refusal.TheVariants.{BadText}
use Rattle.brk_model.specs.Ask.{parse_query, view_parsers}
use Rattle.brk_model.specs.Parse.{NamedParser, parse_by_first_field, read_with_parser}
use Rattle.brk_view_rows.specs.ViewNames.{texts_of_view_names}

-- a text is none of some names
pub not_named : (text : Text) (names : List Text) → AllByRecursion (λ name. text ≢ name) names → list_any (λ name. bytes_eq name text) names ≡ false
not_named text [] h = refl
not_named text (name ∷ names) h = by_test (not_named text names h.1) (bytes_eq name text) ((bytes_eq-Decides name text).0)
  where
    by_test : list_any (λ n. bytes_eq n text) names ≡ false → (b : Bool) → (b ≡ true → name ≡ text) → b || list_any (λ n. bytes_eq n text) names ≡ false
    by_test ih false f = ih
    by_test ih true f = absurd (h.0 (sym (f refl)))

-- no parser has the name
none_found : {A : Type 0} (parsers : List (NamedParser A)) (view : Text) (arguments : List Text) → list_any (λ name. bytes_eq name view) (map (λ parser. parser.0) parsers) ≡ false
    → parse_by_first_field parsers (view ∷ arguments) ≡ Err BadText
none_found [] view arguments h = refl
none_found (parser ∷ parsers) view arguments h = by_test (none_found parsers view arguments) (bytes_eq parser.0 view) refl h
  where
    by_test : (list_any (λ name. bytes_eq name view) (map (λ p. p.0) parsers) ≡ false → parse_by_first_field parsers (view ∷ arguments) ≡ Err BadText) → (b : Bool) → bytes_eq parser.0 view ≡ b
        → b || list_any (λ name. bytes_eq name view) (map (λ p. p.0) parsers) ≡ false → parse_by_first_field (parser ∷ parsers) (view ∷ arguments) ≡ Err BadText
    by_test ih false e k = ap (λ b. read_with_parser (cond b (Some parser) (find (λ r. bytes_eq r.0 view) parsers)) arguments) e ∙ ih k
    by_test ih true e k = absurd (let same : true ≡ false = k in cc)

pub no_query : (view : Text) (arguments : List Text) → list_any (λ name. bytes_eq name view) texts_of_view_names ≡ false → parse_query view arguments ≡ Err BadText
unfolding parse_query
no_query view arguments h = none_found view_parsers view arguments h
