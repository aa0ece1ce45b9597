-- A comparison with a known word decides whether the words are equal.
use Rattle.std.proofs.Common.{◌≡◌, Bool, true, false, sym, ◌∙◌}
use Rattle.std.specs.Prelude.{bytes_eq}
use Rattle.std.proofs.lemmas.Bool.{false_from_ne_true}
use Rattle.std.proofs.lemmas.Slice.Eq.{bytes_eq-Decides}
use Rattle.brk_money.specs.Spelling.{Text}

pub same_word : (word slice known : Text) (r : Bool) → r ≡ bytes_eq word slice → slice ≡ known → r ≡ true → word ≡ known
same_word word slice known r e s t = (bytes_eq-Decides word slice).0 (sym e ∙ t) ∙ s

pub other_word : (word slice known : Text) (r : Bool) → r ≡ bytes_eq word slice → slice ≡ known → r ≡ false → bytes_eq known word ≡ false
other_word word slice known r e s f =
    false_from_ne_true (bytes_eq known word) (λ same. let is : known ≡ word = (bytes_eq-Decides known word).0 same in let yes = (bytes_eq-Decides word slice).1 (sym is ∙ sym s) in absurd (cc))
