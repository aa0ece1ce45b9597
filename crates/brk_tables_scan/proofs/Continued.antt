-- Steps of a decoding, one after the other, are one step.
use Rattle.std.proofs.Common.{Bool, inl, inr}
use Rattle.std.specs.Prelude.{◌&&◌}
use Rattle.brk_tables_scan.specs.Decoded.{ContinuesDecoding}
use Rattle.brk_tables_scan.proofs.Formless.{first_fails, last_fails}

pub continues_then : (a b c p q : Bool) (P Q D : Type 0) → (P → Q → D) → ContinuesDecoding a b p P → ContinuesDecoding b c q Q → ContinuesDecoding a c (p && q) D
continues_then a b c p q P Q D both first next = record {
  before = λ e. first.before (next.before e);
  value = λ e. both (first.value (next.before e)) (next.value e);
  form = λ e. elim (next.form e) [
    | inl before ↦ elim (first.form before) [ inl at_start ↦ inl at_start | inr fails ↦ inr (first_fails p q fails) ]
    | inr fails ↦ inr (last_fails p q fails)
  ];
}

module _ (a b c d p q r : Bool) (P Q R D : Type 0) (all : P → Q → R → D) where
  pub continues_three : ContinuesDecoding a b p P → ContinuesDecoding b c q Q → ContinuesDecoding c d r R → ContinuesDecoding a d (p && q && r) D
  continues_three one two three =
      let ab = continues_then a b c p q P Q (P × Q) (λ x y. (x, y)) one two in
      continues_then a c d (p && q) r (P × Q) R D (λ x y. all x.0 x.1 y) ab three

module _ (a b c d e p q r s : Bool) (P Q R S D : Type 0) (all : P → Q → R → S → D) where
  pub continues_four : ContinuesDecoding a b p P → ContinuesDecoding b c q Q → ContinuesDecoding c d r R → ContinuesDecoding d e s S → ContinuesDecoding a e (p && q && r && s) D
  continues_four one two three four =
      let ab = continues_then a b c p q P Q (P × Q) (λ x y. (x, y)) one two in
      let abc = continues_then a c d (p && q) r (P × Q) R ((P × Q) × R) (λ x y. (x, y)) ab three in
      continues_then a d e (p && q && r) s ((P × Q) × R) S D (λ x y. all x.0.0 x.0.1 x.1 y) abc four

module _ (a b c d e f g p q r s t u : Bool) (P Q R S T U D : Type 0) (all : P → Q → R → S → T → U → D) where
  pub continues_six : ContinuesDecoding a b p P → ContinuesDecoding b c q Q → ContinuesDecoding c d r R → ContinuesDecoding d e s S → ContinuesDecoding e f t T
      → ContinuesDecoding f g u U → ContinuesDecoding a g (p && q && r && s && t && u) D
  continues_six one two three four five six =
      let abcd = continues_four a b c d e p q r s P Q R S (((P × Q) × R) × S) (λ x y z w. (((x, y), z), w)) one two three four in
      let abcde = continues_then a e f (p && q && r && s) t (((P × Q) × R) × S) T ((((P × Q) × R) × S) × T) (λ x y. (x, y)) abcd five in
      continues_then a f g (p && q && r && s && t) u ((((P × Q) × R) × S) × T) U D (λ x y. all x.0.0.0.0 x.0.0.0.1 x.0.0.1 x.0.1 x.1 y) abcde six
