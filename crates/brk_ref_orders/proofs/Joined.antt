-- Ticks that are read one after another.
use Rattle.std.proofs.Common.{◌≡◌, Bool, true, false, refl, sym, ◌∙◌, ap, arith, cond, List, [], ◌∷◌, ◌++◌, append_assoc, length, get_or, take, drop, ◌-◌, ◌≤◌, ◌<◌, nat_eq}
use Rattle.std.proofs.lemmas.Bool.{leb-true, leb-false, le-leb, lt-leb}
use Rattle.std.proofs.lemmas.List.{take_rest}
use Rattle.std.specs.Borrow.{Bor}
use Rattle.std.specs.Prelude.{ℕ, Result, Ok, Err, nat_le}
use Rattle.brk_money.specs.Spelling.{Text}
use Rattle.brk_money.specs.declared.refusal.Refusal.{Refusal}
use Rattle.brk_money.specs.declared.refusal.Refusal.TheVariants.{BadText}
use Rattle.brk_model.specs.Commands.{Tick}
use Rattle.brk_model.specs.Forms.{ReadResult, ◌⊛◌, format_refusal_rank, read_symbol, read_price, read_quantity}
use Rattle.brk_model.specs.Parse.{read_ticks}
use Rattle.brk_ref_orders.specs.Reading.{appended_parse_results, abstract_parse_result}
use Rattle.brk_ref_orders.specs.Records.{abstract_tick_as_list}
use Rattle.brk_ref_orders.specs.declared.tick.Tick as tick
use Rattle.brk_ref.specs.Fields.{ParsesAs, texts_of_fields}
use Rattle.brk_ref.proofs.Applied.{text_right}

seen_reads : {A B : Type 0} (view : A → B) (r : Result A Refusal) (wanted : ReadResult B) → ParsesAs view r wanted → wanted ≡ abstract_parse_result view r
seen_reads view (Ok x) wanted e = e
seen_reads view (Err refusal) wanted e = e

-- the earlier of refusals
earlier : Refusal → Refusal → Refusal
earlier r s = cond (nat_le (format_refusal_rank r) (format_refusal_rank s)) r s

earlier_assoc : (r s t : Refusal) → earlier r (earlier s t) ≡ earlier (earlier r s) t
unfolding earlier
earlier_assoc r s t = by_both (nat_le (format_refusal_rank r) (format_refusal_rank s)) refl (nat_le (format_refusal_rank s) (format_refusal_rank t)) refl
  where
    by_both : (b : Bool) → nat_le (format_refusal_rank r) (format_refusal_rank s) ≡ b → (d : Bool) → nat_le (format_refusal_rank s) (format_refusal_rank t) ≡ d
        → cond (nat_le (format_refusal_rank r) (format_refusal_rank (cond (nat_le (format_refusal_rank s) (format_refusal_rank t)) s t))) r
        (cond (nat_le (format_refusal_rank s) (format_refusal_rank t)) s t)
        ≡ cond (nat_le (format_refusal_rank (cond (nat_le (format_refusal_rank r) (format_refusal_rank s)) r s)) (format_refusal_rank t))
        (cond (nat_le (format_refusal_rank r) (format_refusal_rank s)) r s) t
    by_both true e true f =
        let low = leb-true (format_refusal_rank r) (format_refusal_rank s) e in
        let high = leb-true (format_refusal_rank s) (format_refusal_rank t) f in
        rw (e, f, e, le-leb (format_refusal_rank r) (format_refusal_rank t) (omega (arith, low, high))) refl
    by_both true e false f = rw (e, f) refl
    by_both false e true f = rw (e, f, e) refl
    by_both false e false f =
        let low = leb-false (format_refusal_rank r) (format_refusal_rank s) e in
        let high = leb-false (format_refusal_rank s) (format_refusal_rank t) f in
        rw (e, f, lt-leb (format_refusal_rank r) (format_refusal_rank t) (omega (arith, low, high))) refl

joined_assoc : {X : Type 0} (a b c : ReadResult (List X)) → appended_parse_results a (appended_parse_results b c) ≡ appended_parse_results (appended_parse_results a b) c
unfolding earlier
joined_assoc (Ok xs) (Ok ys) (Ok zs) = ap Ok (sym (append_assoc xs ys zs))
joined_assoc (Ok xs) (Ok ys) (Err t) = refl
joined_assoc (Ok xs) (Err s) (Ok zs) = refl
joined_assoc (Ok xs) (Err s) (Err t) = refl
joined_assoc (Err r) (Ok ys) (Ok zs) = refl
joined_assoc (Err r) (Ok ys) (Err t) = refl
joined_assoc (Err r) (Err s) (Ok zs) = refl
joined_assoc (Err r) (Err s) (Err t) = ap Err (earlier_assoc r s t)

-- the ticks of a feed are its first and the others
first_tick : (s : ReadResult Text) (p q : ReadResult ℕ) (ticks : ReadResult (List Tick))
    → (let tick : Text → ℕ → ℕ → List Tick → List Tick = λ s p q ticks. record { symbol = s; price = p; qty = q } ∷ ticks in
    Ok tick ⊛ s ⊛ p ⊛ q ⊛ ticks ≡ appended_parse_results (Ok tick ⊛ s ⊛ p ⊛ q ⊛ Ok []) ticks)
first_tick (Ok s) (Ok p) (Ok q) (Ok ts) = refl
first_tick (Ok s) (Ok p) (Ok q) (Err t) = refl
first_tick (Ok s) (Ok p) (Err w) (Ok ts) = refl
first_tick (Ok s) (Ok p) (Err w) (Err t) = refl
first_tick (Ok s) (Err v) (Ok q) (Ok ts) = refl
first_tick (Ok s) (Err v) (Ok q) (Err t) = refl
first_tick (Ok s) (Err v) (Err w) (Ok ts) = refl
first_tick (Ok s) (Err v) (Err w) (Err t) = refl
first_tick (Err u) (Ok p) (Ok q) (Ok ts) = refl
first_tick (Err u) (Ok p) (Ok q) (Err t) = refl
first_tick (Err u) (Ok p) (Err w) (Ok ts) = refl
first_tick (Err u) (Ok p) (Err w) (Err t) = refl
first_tick (Err u) (Err v) (Ok q) (Ok ts) = refl
first_tick (Err u) (Err v) (Ok q) (Err t) = refl
first_tick (Err u) (Err v) (Err w) (Ok ts) = refl
first_tick (Err u) (Err v) (Err w) (Err t) = refl

-- one tick more was read
next_tick : (ticks new : ReadResult (List Tick)) (tick : Result tick.Tick Refusal) (s p q : Text) (after : List Text) (all : ReadResult (List Tick))
    → all ≡ appended_parse_results ticks (read_ticks (s ∷ p ∷ q ∷ after))
    → ParsesAs abstract_tick_as_list tick (read_ticks (s ∷ p ∷ q ∷ []))
    → new ≡ appended_parse_results ticks (abstract_parse_result abstract_tick_as_list tick)
    → all ≡ appended_parse_results new (read_ticks after)
next_tick ticks new tick s p q after all e h step =
    let tick_is = seen_reads abstract_tick_as_list tick (read_ticks (s ∷ p ∷ q ∷ [])) h in
    e
    ∙ ap (λ (r : ReadResult (List Tick)). appended_parse_results ticks r)
    (first_tick (read_symbol s) (read_price p) (read_quantity q) (read_ticks after) ∙ ap (λ (r : ReadResult (List Tick)). appended_parse_results r (read_ticks after)) tick_is)
    ∙ joined_assoc ticks (abstract_parse_result abstract_tick_as_list tick) (read_ticks after)
    ∙ ap (λ (r : ReadResult (List Tick)). appended_parse_results r (read_ticks after)) (sym step)

-- and of the fields, the first three are taken
pub next_fields : (ticks new : ReadResult (List Tick)) (tick : Result tick.Tick Refusal) (rest : List (Bor (List ℕ))) (d : Bor (List ℕ)) (all : ReadResult (List Tick))
    → 3 ≤ length rest
    → all ≡ appended_parse_results ticks (read_ticks (texts_of_fields rest))
    → ParsesAs abstract_tick_as_list tick (read_ticks ((get_or rest 0 d).now ∷ (get_or rest 1 d).now ∷ (get_or rest 2 d).now ∷ []))
    → new ≡ appended_parse_results ticks (abstract_parse_result abstract_tick_as_list tick)
    → all ≡ appended_parse_results new (read_ticks (texts_of_fields (take (length rest - 3) (drop 3 rest))))
next_fields ticks new tick [] d all l e h step = absurd (omega (arith, l))
next_fields ticks new tick (s ∷ []) d all l e h step = absurd (omega (arith, l))
next_fields ticks new tick (s ∷ p ∷ []) d all l e h step = absurd (omega (arith, l))
next_fields ticks new tick (s ∷ p ∷ q ∷ after) d all l e h step =
    next_tick ticks new tick s.now p.now q.now (texts_of_fields after) all e h step
    ∙ ap (λ (fields : List (Bor (List ℕ))). appended_parse_results new (read_ticks (texts_of_fields fields))) (sym (take_rest (s ∷ p ∷ q ∷ after) 3))

-- one field or two after the last tick
pub not_ticks : (front all : ReadResult (List Tick)) (rest : List (Bor (List ℕ))) → length rest < 3 → false ≡ nat_eq (length rest) 0
    → all ≡ appended_parse_results front (read_ticks (texts_of_fields rest)) → all ≡ Err BadText
not_ticks front all [] l h e = absurd (cc)
not_ticks front all (s ∷ []) l h e = e ∙ text_right (Ok (λ xs ys. xs ++ ys) ⊛ front) (Err BadText) refl
not_ticks front all (s ∷ p ∷ []) l h e = e ∙ text_right (Ok (λ xs ys. xs ++ ys) ⊛ front) (Err BadText) refl
not_ticks front all (s ∷ p ∷ q ∷ after) l h e = absurd (omega (arith, l))
