-- Equal tests: Booleans that imply each other, and comparisons in either order.
use Rattle.std.proofs.Common.{◌≡◌, ℕ, ◌==◌, Bool, true, false, refl, sym}
use Rattle.std.specs.Prelude.{bytes_eq}
use Rattle.std.proofs.lemmas.Bool.{eqb-true, eq-eqb}
use Rattle.std.proofs.lemmas.Slice.Eq.{bytes_eq-Decides}
use Rattle.brk_money.specs.Spelling.{Text}

pub both_ways : (a b : Bool) → (a ≡ true → b ≡ true) → (b ≡ true → a ≡ true) → a ≡ b
both_ways true b f g = sym (f refl)
both_ways false true f g = g refl
both_ways false false f g = refl

pub same_text : (s t : Text) → bytes_eq s t ≡ true → s ≡ t
same_text s t e = (bytes_eq-Decides s t).0 e

text_back : (s t : Text) → bytes_eq s t ≡ true → bytes_eq t s ≡ true
text_back s t e = (bytes_eq-Decides t s).1 (sym (same_text s t e))

-- two texts, or two numbers, are compared either way round
pub texts_back : (s t : Text) → bytes_eq s t ≡ bytes_eq t s
texts_back s t = both_ways (bytes_eq s t) (bytes_eq t s) (text_back s t) (text_back t s)

pub numbers_back : (m n : ℕ) → (m == n) ≡ (n == m)
numbers_back m n = both_ways (m == n) (n == m) (λ e. eq-eqb n m (sym (eqb-true m n e))) (λ e. eq-eqb m n (sym (eqb-true n m e)))
