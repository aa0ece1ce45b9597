-- JSON lists whose values are all strings.
use Rattle.std.proofs.Common.{◌≡◌, ◌≢◌, ℕ, zero, suc, ◌<◌, List, [], ◌∷◌, length, map, get_or, Option, Some, None, refl, ap, ◌∙◌, sym, arith, Bool, true, false, cond, IfNone, IfSome, IfOk}
use Rattle.std.specs.Prelude.{option_map, Result, Ok, Err, String}
use Rattle.std.specs.Global.{Global, Vec}
use Rattle.std.specs.Str.{is_utf8, IsUtf8}
use Rattle.std.proofs.lemmas.Str.{IsUtf8-from_is_utf8, is_utf8-from_IsUtf8}
use Rattle.serde_json.specs.Read.{read}
use Rattle.brk_http_engine.specs.Codes.{bytes_of_texts}
use Rattle.std.specs.Option.{option_and_then}
use Rattle.serde_json.specs.Data.{Data, null, boolean, number, string, array, object}
use Rattle.serde_json.specs.View.{view, items_of, items_view}
use Rattle.serde_json.specs.Find.{as_str, as_array}
use Rattle.serde_json.specs.Written.{has_float, items_have_float}
use Rattle.serde_json.specs.declared.value.Value.{Value}
use Rattle.brk_money.specs.Spelling.{Text}
use Rattle.brk_model_http.specs.Bodies.{text_of_json_string, texts_of_json_array, texts_of_json_items, texts_of_body, json_array_of_texts}

no_text : (d : Data) (t : List ℕ) → None ≡ as_str d → d ≡ string t → ⊥
no_text d t e f = let g : as_str d ≡ Some t = ap as_str f in cc

-- a value that is no text stands in the list
pub not_texts : (values : List Value) (i : ℕ) (v : Value) (ts : List (List ℕ)) → i < length values → v ≡ get_or values i v → None ≡ as_str (view v)
    → map view values ≡ map string ts → ⊥
not_texts [] i v ts h is none e = omega arith
not_texts (x ∷ xs) i v [] h is none e = cc
not_texts (x ∷ xs) zero v (t ∷ ts) h is none e = no_text (view v) t none (ap view is ∙ (let f : view x ≡ string t = cc in f))
not_texts (x ∷ xs) (suc i) v (t ∷ ts) h is none e = not_texts xs i v ts (omega arith) is none (let f : map view xs ≡ map string ts = cc in f)

pub texts_found : (ts : List Text) → texts_of_json_items (items_of (map string ts)) ≡ Some ts
texts_found [] = refl
texts_found (t ∷ ts) = ap (λ o. option_map (λ xs. t ∷ xs) o) (texts_found ts)

text_only : (d : Data) (t : Text) → text_of_json_string d ≡ Some t → d ≡ string t
text_only (string s) t e = let f : s ≡ t = cc in ap string f
text_only null t e = cc
text_only (boolean b) t e = cc
text_only (number n) t e = cc
text_only (array ds) t e = cc
text_only (object ms) t e = cc

some_cons : (t : Text) (ds : List Data) (ts : List Text) (o : Option (List Text)) → texts_of_json_items (items_of ds) ≡ o → option_map (λ xs. t ∷ xs) o ≡ Some ts
    → (rest : List Text) × (texts_of_json_items (items_of ds) ≡ Some rest) × (ts ≡ t ∷ rest)
some_cons t ds ts None e f = cc
some_cons t ds ts (Some rest) e f = (rest, e, cc)

only_cons : (d : Data) (ds : List Data) (ts : List Text) (o : Option Text) → text_of_json_string d ≡ o
    → option_and_then (λ t. option_map (λ xs. t ∷ xs) (texts_of_json_items (items_of ds))) o ≡ Some ts
    → (t : Text) × (d ≡ string t) × (rest : List Text) × (texts_of_json_items (items_of ds) ≡ Some rest) × (ts ≡ t ∷ rest)
only_cons d ds ts None e f = cc
only_cons d ds ts (Some t) e f =
    let more = some_cons t ds ts (texts_of_json_items (items_of ds)) refl f in
    (t, text_only d t e, more.0, more.1, more.2)

texts_only : (ds : List Data) (ts : List Text) → texts_of_json_items (items_of ds) ≡ Some ts → ds ≡ map string ts
texts_only [] ts e = let f : [] ≡ ts = cc in ap (map string) f
texts_only (d ∷ ds) ts e =
    let h = only_cons d ds ts (text_of_json_string d) refl e in
    let k = texts_only ds h.2 h.3 in
    ap (λ x. x ∷ ds) h.1 ∙ ap (λ l. string h.0 ∷ l) k ∙ ap (map string) (sym h.4)

texts_none : (ds : List Data) (o : Option (List Text)) → texts_of_json_items (items_of ds) ≡ o → ((ts : List Text) → ds ≢ map string ts) → o ≡ None
texts_none ds None e never = refl
texts_none ds (Some ts) e never = elim (never ts (texts_only ds ts e)) [ ]

-- the texts in the data of a list of values
pub texts_there : (v : Value) (items : List Value) (ts : List Text) → Some (items_view items) ≡ as_array (view v) → map view items ≡ map string ts → texts_of_json_array (view v) ≡ Some ts
texts_there v items ts e same = there (view v) e
  where
    there : (d : Data) → Some (items_view items) ≡ as_array d → texts_of_json_array d ≡ Some ts
    there (array ds) e = let f : ds ≡ items_view items = cc in ap texts_of_json_items (f ∙ ap items_of same) ∙ texts_found ts
    there null e = cc
    there (boolean b) e = cc
    there (number n) e = cc
    there (string s) e = cc
    there (object ms) e = cc

pub texts_absent : (v : Value) (items : List Value) → Some (items_view items) ≡ as_array (view v) → ((ts : List Text) → map view items ≢ map string ts) → texts_of_json_array (view v) ≡ None
texts_absent v items e never = absent (view v) e
  where
    absent : (d : Data) → Some (items_view items) ≡ as_array d → texts_of_json_array d ≡ None
    absent (array ds) e = let f : ds ≡ items_view items = cc in ap texts_of_json_items f ∙ texts_none (map view items) _ refl never
    absent null e = cc
    absent (boolean b) e = cc
    absent (number n) e = cc
    absent (string s) e = cc
    absent (object ms) e = cc

pub no_list : (d : Data) → None ≡ as_array d → texts_of_json_array d ≡ None
no_list (array ds) e = cc
no_list null e = refl
no_list (boolean b) e = refl
no_list (number n) e = refl
no_list (string s) e = refl
no_list (object ms) e = refl

texts_plain : (ts : List Text) → items_have_float (items_of (map string ts)) ≡ false
texts_plain [] = refl
texts_plain (t ∷ ts) = texts_plain ts

pub list_plain : (ts : List Text) → has_float (json_array_of_texts ts) ≡ false
list_plain ts = texts_plain ts

pub records_plain : (rs : List (List Text)) → items_have_float (items_of (map json_array_of_texts rs)) ≡ false
records_plain [] = refl
records_plain (r ∷ rs) = rw (texts_plain r, records_plain rs) refl

pub not_utf8 : (body : Text) → ¬ (IsUtf8 body) → texts_of_body body ≡ None
unfolding texts_of_body
not_utf8 body never = choose (is_utf8 body) refl
  where
    choose : (b : Bool) → is_utf8 body ≡ b → cond b (option_and_then texts_of_json_array (read body)) None ≡ None
    choose true e = elim (never (IsUtf8-from_is_utf8 body e)) [ ]
    choose false e = refl

utf8_read : (body text : Text) → text ≡ body → IsUtf8 body → texts_of_body body ≡ option_and_then texts_of_json_array (read text)
unfolding texts_of_body
utf8_read body text same utf8 = rw (same, is_utf8-from_IsUtf8 body utf8) refl

pub no_value : (body text : Text) → text ≡ body → IsUtf8 body → read text ≡ None → None ≡ texts_of_body body
no_value body text same utf8 e = sym (utf8_read body text same utf8 ∙ ap (λ d. option_and_then texts_of_json_array d) e)

pub no_array : (body text : Text) (d : Data) → text ≡ body → IsUtf8 body → read text ≡ Some d → None ≡ as_array d → None ≡ texts_of_body body
no_array body text d same utf8 e none = sym (utf8_read body text same utf8 ∙ ap (λ o. option_and_then texts_of_json_array o) e ∙ no_list d none)

pub list_read : {E : Type 0} (body text : Text) (v : Value) (items : List Value) (r : Result (Option (Vec (String Global))) E) → text ≡ body → IsUtf8 body → read text ≡ Some (view v)
    → Some (items_view items) ≡ as_array (view v) → IfOk r (λ o. IfSome o (λ t. map view items ≡ map string (bytes_of_texts t)))
    → IfOk r (λ o. IfNone o ((ts : List Text) → map view items ≢ map string ts))
    → IfOk r (λ found. option_map bytes_of_texts found ≡ texts_of_body body)
list_read body text v items (Err e) same utf8 reads is found none = tt
list_read body text v items (Ok None) same utf8 reads is found none =
    sym (utf8_read body text same utf8 ∙ ap (λ o. option_and_then texts_of_json_array o) reads ∙ texts_absent v items is none)
list_read body text v items (Ok (Some t)) same utf8 reads is found none =
    sym (utf8_read body text same utf8 ∙ ap (λ o. option_and_then texts_of_json_array o) reads ∙ texts_there v items (bytes_of_texts t) is found)
