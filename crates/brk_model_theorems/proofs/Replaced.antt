-- A text in which a part is replaced: its first occurrence, and then what follows it.
use Rattle.std.proofs.Common.{◌≡◌, ℕ, suc, ◌-◌, ◌<◌, ◌≤◌, ◌||◌, Bool, true, false, cond, refl, sym, ap, ◌∙◌, length, [], ◌∷◌, ◌++◌, take, drop, arith}
use Rattle.std.specs.Prelude.{nat_eq}
use Rattle.std.specs.List.{starts_with}
use Rattle.std.specs.Str.Pattern.{LacksTextAt}
use Rattle.std.proofs.lemmas.Bool.{false_from_ne_true}
use Rattle.std.proofs.lemmas.List.{take-append-drop}
use Rattle.std.proofs.lemmas.Slice.Eq.{bytes_eq-Decides}
use Rattle.brk_money.specs.Spelling.{Text}
use Rattle.brk_model.specs.Lists.{contains_text, skip_and_replace_text, replace_text}
use Rattle.brk_model_theorems.specs.Texts.{OccursNowhereBefore}

-- a part stands at the front of what begins with it, and of nothing else
take_part : (part rest : Text) → take (length part) (part ++ rest) ≡ part
take_part [] rest = refl
take_part (c ∷ part) rest = ap (λ (text : Text). c ∷ text) (take_part part rest)

pub stands : (part rest : Text) → starts_with nat_eq (part ++ rest) part ≡ true
stands part rest = (bytes_eq-Decides part (take (length part) (part ++ rest))).1 (sym (take_part part rest))

pub lacks : (part text : Text) → LacksTextAt part text 0 → starts_with nat_eq text part ≡ false
lacks part text h =
    false_from_ne_true (starts_with nat_eq text part)
    (λ e. h (drop (length part) text)
    (sym (take-append-drop (length part) text) ∙ ap (λ (front : Text). front ++ drop (length part) text) (sym ((bytes_eq-Decides part (take (length part) text)).0 e))))

-- the part itself is passed over
passed : (part new rest front : Text) → skip_and_replace_text (length front) part new (front ++ rest) ≡ skip_and_replace_text 0 part new rest
passed part new rest [] = refl
passed part new rest (c ∷ front) = passed part new rest front

at_front : (part new rest : Text) → 1 ≤ length part → skip_and_replace_text 0 part new (part ++ rest) ≡ new ++ skip_and_replace_text 0 part new rest
at_front [] new rest h = absurd (omega (arith, h))
at_front (c ∷ part) new rest h =
    ap (λ b. cond b (new ++ skip_and_replace_text (length (c ∷ part) - 1) (c ∷ part) new (part ++ rest)) (c ∷ skip_and_replace_text 0 (c ∷ part) new (part ++ rest))) (stands (c ∷ part) rest)
    ∙ ap (λ (n : ℕ). new ++ skip_and_replace_text n (c ∷ part) new (part ++ rest)) (one_less (length part))
    ∙ ap (λ (text : Text). new ++ text) (passed (c ∷ part) new rest part)
  where
    one_less : (n : ℕ) → suc n - 1 ≡ n
    one_less n = omega arith

-- the first occurrence is replaced, and then what follows it
pub replaced_first : (part new before after : Text) → 1 ≤ length part → ((i : ℕ) → i < length before → LacksTextAt part (before ++ part ++ after) i)
    → skip_and_replace_text 0 part new (before ++ part ++ after) ≡ before ++ new ++ skip_and_replace_text 0 part new after
replaced_first part new [] after h l = at_front part new after h
replaced_first part new (c ∷ before) after h l =
    ap (λ b. cond b (new ++ skip_and_replace_text (length part - 1) part new (before ++ part ++ after)) (c ∷ skip_and_replace_text 0 part new (before ++ part ++ after)))
    (lacks part (c ∷ before ++ part ++ after) (l 0 (omega arith)))
    ∙ ap (λ (text : Text). c ∷ text) (replaced_first part new before after h (λ i k. l (suc i) (omega (arith, k))))

-- nothing is replaced where it stands nowhere
pub replaced_nothing : (part new text : Text) → ((i : ℕ) → i ≤ length text → LacksTextAt part text i) → skip_and_replace_text 0 part new text ≡ text
replaced_nothing part new [] l = refl
replaced_nothing part new (c ∷ text) l =
    ap (λ b. cond b (new ++ skip_and_replace_text (length part - 1) part new text) (c ∷ skip_and_replace_text 0 part new text)) (lacks part (c ∷ text) (l 0 (omega arith)))
    ∙ ap (λ (rest : Text). c ∷ rest) (replaced_nothing part new text (λ i k. l (suc i) (omega (arith, k))))

-- ---- the replacement in these words

pub replaces_first : (part new before after : Text) → 1 ≤ length part → OccursNowhereBefore (length before) part (before ++ part ++ after)
    → replace_text part new (before ++ part ++ after) ≡ before ++ new ++ replace_text part new after
unfolding replace_text
replaces_first part new before after h l = replaced_first part new before after h l

neither : (a b : Bool) → a || b ≡ false → (a ≡ false) × (b ≡ false)
neither true b e = absurd (cc)
neither false b e = (refl, e)

kept : (part new text : Text) → contains_text part text ≡ false → skip_and_replace_text 0 part new text ≡ text
kept part new [] e = refl
kept part new (c ∷ text) e =
    let k = neither (starts_with nat_eq (c ∷ text) part) (contains_text part text) e in
    ap (λ b. cond b (new ++ skip_and_replace_text (length part - 1) part new text) (c ∷ skip_and_replace_text 0 part new text)) k.0
    ∙ ap (λ (rest : Text). c ∷ rest) (kept part new text k.1)

pub replaces_nothing : (part new text : Text) → contains_text part text ≡ false → replace_text part new text ≡ text
unfolding replace_text
replaces_nothing part new text e = kept part new text e
