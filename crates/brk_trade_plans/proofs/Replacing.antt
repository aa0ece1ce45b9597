-- A text cut at the first occurrence of a part, and the replacements before and after the cut.
use Rattle.std.proofs.Common.{◌≡◌, ℕ, zero, suc, ◌<◌, ◌≤◌, ◌||◌, Bool, true, false, refl, sym, subst, ap, ◌∙◌, length, [], ◌∷◌, ◌++◌, append_assoc, take, drop, arith}
use Rattle.std.specs.Prelude.{nat_eq, None, Some, MatchBool}
use Rattle.std.specs.List.{starts_with}
use Rattle.std.specs.Str.Pattern.{FindsText, HasMatch, LacksTextAt}
use Rattle.std.proofs.lemmas.List.{take-append-drop}
use Rattle.brk_money.specs.Spelling.{Text}
use Rattle.brk_model.specs.Lists.{contains_text, skip_and_replace_text, replace_text}
use Rattle.brk_model_theorems.proofs.Replaced.{lacks, replaced_first, replaced_nothing, stands}

-- ---- whether it is there

pub held_nowhere : (part text : Text) → ((i : ℕ) → i ≤ length text → LacksTextAt part text i) → contains_text part text ≡ false
held_nowhere part [] l = lacks part [] (l 0 (omega arith))
held_nowhere part (c ∷ text) l =
    ap (λ b. b || contains_text part text) (lacks part (c ∷ text) (l 0 (omega arith))) ∙ held_nowhere part text (λ i k. l (suc i) (omega (arith, k)))

or_true : (b : Bool) → b || true ≡ true
or_true true = refl
or_true false = refl

stands_first : (part text : Text) → starts_with nat_eq text part ≡ true → contains_text part text ≡ true
stands_first part [] e = e
stands_first part (c ∷ text) e = ap (λ b. b || contains_text part text) e

pub held_at : (part text rest : Text) (i : ℕ) → drop i text ≡ part ++ rest → i ≤ length text → contains_text part text ≡ true
held_at part text rest zero e l = stands_first part text (ap (λ (t : Text). starts_with nat_eq t part) e ∙ stands part rest)
held_at part [] rest (suc i) e l = absurd (omega (arith, l))
held_at part (c ∷ text) rest (suc i) e l =
    ap (λ b. starts_with nat_eq (c ∷ text) part || b) (held_at part text rest i e (omega (arith, l))) ∙ or_true (starts_with nat_eq (c ∷ text) part)

pub held_if_found : (part text : Text) (b : Bool) → MatchBool b (HasMatch (FindsText part) text) (FindsText part text None) → b ≡ contains_text part text
held_if_found part text true (i, j, found, l, k) = sym (held_at part text (drop j text) i found.1.split (omega (arith, l, k)))
held_if_found part text false found = sym (held_nowhere part text found)

-- ---- as the text is gone through

-- what was written and the rest that is still to be gone through
abbrev pub IsReplacedSoFar : Text → Text → Text → Text → Text → Type 0
IsReplacedSoFar part new text written rest = replace_text part new text ≡ written ++ replace_text part new rest

pub none_yet : (part new text : Text) → IsReplacedSoFar part new text [] text
none_yet part new text = refl

pub one_replaced : (part new text written rest before after : Text) (i j : ℕ) → 1 ≤ length part → FindsText part rest (Some (i, j)) → before ≡ take i rest → after ≡ drop j rest → length before ≡ i
    → IsReplacedSoFar part new text written rest → IsReplacedSoFar part new text ((written ++ before) ++ new) after
unfolding replace_text
one_replaced part new text written rest before after i j h found b a n so_far =
    let cut : rest ≡ before ++ part ++ after =
    sym (take-append-drop i rest) ∙ ap (λ (front : Text). front ++ drop i rest) (sym b)
    ∙ ap (λ (t : Text). before ++ t) (found.1.split ∙ ap (λ (t : Text). part ++ t) (sym a)) ∙ sym (append_assoc before part after) in
    let lacking : (k : ℕ) → k < length before → LacksTextAt part (before ++ part ++ after) k =
    λ k l. let P : Text → Type 0 = λ t. LacksTextAt part t k in subst P cut (found.0 k (omega (arith, l, n))) in
    so_far ∙ ap (λ (t : Text). written ++ skip_and_replace_text 0 part new t) cut
    ∙ ap (λ (t : Text). written ++ t) (replaced_first part new before after h lacking)
    ∙ sym (append_assoc written (before ++ new) (skip_and_replace_text 0 part new after))
    ∙ ap (λ (t : Text). t ++ skip_and_replace_text 0 part new after) (sym (append_assoc written before new))

pub all_replaced : (part new text written rest : Text) → FindsText part rest None → IsReplacedSoFar part new text written rest → written ++ rest ≡ replace_text part new text
unfolding replace_text
all_replaced part new text written rest found so_far =
    sym (so_far ∙ ap (λ (t : Text). written ++ t) (replaced_nothing part new rest found))
