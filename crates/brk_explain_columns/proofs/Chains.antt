-- Texts and lines that are appended one after another.
use Rattle.std.proofs.Common.{◌≡◌, ◌∙◌, List, [], ◌++◌, Result, Ok, Err, append-nil, ap, sym}
use Rattle.std.specs.Result.{OnOk}
use Rattle.std.proofs.lemmas.Grind.{flat_map-append}
use Rattle.std.proofs.lemmas.List.{append_assoc}
use Rattle.brk_model.specs.Statement.{text_of_lines}
use Rattle.brk_money.specs.Spelling.{Text}
use Rattle.brk_report_lines.specs.Written.{line_with_line_feed}

-- a text, and what follows it
pub more : (o a rest x y : Text) → x ≡ o ++ a → y ≡ x ++ rest → y ≡ o ++ (a ++ rest)
more o a rest x y h k = k ∙ ap (λ (l : Text). l ++ rest) h ∙ append_assoc o a rest

-- the last text
pub last : (o a x : Text) → x ≡ o ++ a → x ≡ o ++ (a ++ [])
last o a x h = h ∙ ap (λ (l : Text). o ++ l) (sym (append-nil a))

-- lines, and the lines that follow them
pub more_lines : (o x y : Text) (a b : List Text) → x ≡ o ++ text_of_lines a → y ≡ x ++ text_of_lines b → y ≡ o ++ text_of_lines (a ++ b)
more_lines o x y a b h k = more o (text_of_lines a) (text_of_lines b) x y h k ∙ ap (λ (t : Text). o ++ t) (sym (flat_map-append line_with_line_feed a b))

-- what holds of a value that is returned
pub on_ok : {T E P Q : Type 0} (r : Result T E) → OnOk r P → (P → Q) → OnOk r Q
on_ok (Ok v) h f = f h
on_ok (Err e) h f = tt

-- two texts
pub first2 : (o a b y : Text) → y ≡ (o ++ a) ++ b → y ≡ o ++ (a ++ b)
first2 o a b y k = k ∙ append_assoc o a b

-- a text, and two texts that follow it
pub more2 : (o s a b x y : Text) → x ≡ o ++ s → y ≡ (x ++ a) ++ b → y ≡ o ++ ((s ++ a) ++ b)
more2 o s a b x y h k = k ∙ ap (λ (l : Text). (l ++ a) ++ b) h ∙ ap (λ (l : Text). l ++ b) (append_assoc o s a) ∙ append_assoc o (s ++ a) b

-- the rest of a line
pub line_end : (o s t x y : Text) → x ≡ o ++ s → y ≡ x ++ line_with_line_feed t → y ≡ o ++ line_with_line_feed (s ++ t)
line_end o s t x y h k = more o s (line_with_line_feed t) x y h k ∙ ap (λ (l : Text). o ++ l) (sym (append_assoc s t (line_with_line_feed [])))
