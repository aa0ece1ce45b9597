-- The parameters of a match, for the routes with parameters.
use Rattle.std.proofs.Common.{◌≡◌, ℕ, ◌+◌, ◌-◌, ◌<◌, ◌≤◌, List, [], ◌∷◌, ◌++◌, length, get_or, true, false, leb, refl, sym, ap, ◌∙◌, arith, codes, append_assoc}
use Rattle.std.proofs.Math.Seq.{take-append_seam, drop-append_seam, get_or-append_seam}
use Rattle.std.proofs.lemmas.List.{append-nil, length-append}
use Rattle.std.proofs.lemmas.Bool.{lt-ltb}
use Rattle.std.proofs.lemmas.Bool.Decides.{nat_tests}
use Rattle.std.specs.Str.{IsUtf8}
use Rattle.std.proofs.lemmas.Str.{IsUtf8-take, IsUtf8-drop, IsUtf8-past_char, IsCharBoundary-before_ascii, encode_ascii}
use Rattle.matchit.specs.Rows.{param_token}
use Rattle.matchit.specs.Params.{walk, wild_from, wild_stop, part_of}
use Rattle.matchit.specs.Seek.{has_slash}
use Rattle.matchit.proofs.ParamsLemmas.{walk-next}
use Rattle.brk_http_engine.proofs.Seeking.{segment_cut}

-- a text that is cut at a slash has two texts
pub utf8_cut : (x y : List ℕ) → IsUtf8 (x ++ 47 ∷ y) → IsUtf8 x × IsUtf8 y
utf8_cut x y text =
    let at : List ℕ = x ++ 47 ∷ y in
    let inside : length x < length at = omega (arith, length-append x (47 ∷ y)) in
    let slash : get_or at (length x) 0 ≡ 47 = get_or-append_seam x 47 y 0 in
    let edge = IsCharBoundary-before_ascii at (length x) inside (omega (arith, slash)) in
    let first : IsUtf8 x = rw take-append_seam at (IsUtf8-take at (length x) text edge) in
    let rest : IsUtf8 (47 ∷ y) = rw drop-append_seam at (IsUtf8-drop at (length x) text edge) in
    (first, IsUtf8-past_char (47 ∷ y) y 47 rest (sym (ap (λ (t : List ℕ). t ++ y) (encode_ascii 47 (omega arith)))))

part_is : (text a x b : List ℕ) (start end : ℕ) → text ≡ a ++ (x ++ b) → start ≡ length a → end ≡ length a + length x → part_of text start end ≡ x
part_is text a x b start end is starts ends =
    let n : length text ≡ length a + (length x + length b) = ap length is ∙ length-append a (x ++ b) ∙ ap (λ k. length a + k) (length-append x b) in
    let low : leb start end ≡ true = within start end (omega arith) in
    let high : leb end (length text) ≡ true = within end (length text) (omega arith) in
    let size : end - start ≡ length x = omega arith in
    rw (low, high, size, is, starts, drop-append_seam a (x ++ b)) (take-append_seam x b)
  where
    within : (m n : ℕ) → m ≤ n → leb m n ≡ true
    within m n h = grind (arith, nat_tests)

view_starts : (n : ℕ) → 5 ≤ n → (5, 5) ≡ wild_from (codes "/ask/" ++ param_token ∷ []) n 0 0
view_starts n h =
    rw (lt-ltb 0 n (omega arith), lt-ltb 1 n (omega arith), lt-ltb 2 n (omega arith), lt-ltb 3 n (omega arith), lt-ltb 4 n (omega arith)) refl

key_starts : (n : ℕ) → 6 ≤ n → (6, 6) ≡ wild_from (codes "/rows/" ++ param_token ∷ 47 ∷ param_token ∷ []) n 0 0
key_starts n h =
    rw (lt-ltb 0 n (omega arith), lt-ltb 1 n (omega arith), lt-ltb 2 n (omega arith), lt-ltb 3 n (omega arith), lt-ltb 4 n (omega arith), lt-ltb 5 n (omega arith)) refl

number_starts : (n at : ℕ) → at < n → (8, at + 1) ≡ wild_from (47 ∷ param_token ∷ []) n 7 at
number_starts n at h = rw (lt-ltb at n h) refl

pub walk_view : (v : List ℕ)
    → walk (codes "/ask/" ++ param_token ∷ []) (codes "/ask/{view}") (codes "/ask/" ++ v) ((6, 10) ∷ []) 0 0 ≡ (codes "view", v) ∷ []
walk_view v =
    let path : List ℕ = codes "/ask/" ++ v in
    walk-next (codes "/ask/" ++ param_token ∷ []) (codes "/ask/{view}") path ((6, 10) ∷ []) 0 0 0 (length path) 6 (5, 5) (omega arith)
    (view_starts (length path) (omega arith)) refl refl
    ∙ ap (λ (part : List ℕ). (codes "view", part) ∷ []) (part_is path (codes "/ask/") v [] 5 (length path) (simp append-nil) refl (omega arith))

pub walk_key : (x y : List ℕ) → has_slash x ≡ false
    → walk (codes "/rows/" ++ param_token ∷ 47 ∷ param_token ∷ []) (codes "/rows/{batch}/{n}") (codes "/rows/" ++ (x ++ 47 ∷ y)) ((7, 12) ∷ (15, 16) ∷ []) 0 0
    ≡ (codes "batch", x) ∷ (codes "n", y) ∷ []
walk_key x y plain =
    let path : List ℕ = codes "/rows/" ++ (x ++ 47 ∷ y) in
    let pattern : List ℕ = codes "/rows/" ++ param_token ∷ 47 ∷ param_token ∷ [] in
    let names : List (ℕ × ℕ) = (7, 12) ∷ (15, 16) ∷ [] in
    let stop : ℕ = 6 + length x in
    let n : length path ≡ 7 + (length x + length y) = omega (arith, length-append x (47 ∷ y)) in
    let stops : stop ≡ wild_stop pattern 6 path 6 = omega (arith, ap length (segment_cut x y plain), length-append x (47 ∷ [])) in
    walk-next pattern (codes "/rows/{batch}/{n}") path names 0 0 0 stop 7 (6, 6) (omega arith) (key_starts (length path) (omega arith)) stops refl
    ∙ ap (λ (pairs : List (List ℕ × List ℕ)). (codes "batch", part_of path 6 stop) ∷ pairs)
    (walk-next pattern (codes "/rows/{batch}/{n}") path names 1 7 stop (length path) 9 (8, stop + 1) (omega arith) (number_starts (length path) stop (omega arith)) refl refl)
    ∙ ap (λ (part : List ℕ). (codes "batch", part) ∷ (codes "n", part_of path (stop + 1) (length path)) ∷ []) (part_is path (codes "/rows/") x (47 ∷ y) 6 stop refl refl refl)
    ∙ ap (λ (part : List ℕ). (codes "batch", x) ∷ (codes "n", part) ∷ [])
    (part_is path (codes "/rows/" ++ (x ++ 47 ∷ [])) y [] (stop + 1) (length path) (simp (append_assoc, append-nil)) (omega (arith, length-append x (47 ∷ [])))
    (omega (arith, length-append x (47 ∷ []))))
