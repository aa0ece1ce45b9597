-- Maps with numbers as keys.
use Rattle.std.proofs.Common.{◌≡◌, ℕ, ◌+◌, ◌==◌, false, cond, sym, ◌∙◌, ap, Less, Greater, ⊎_elim, arith, Some}
use Rattle.std.specs.Prelude.{unwrap_or}
use Rattle.std.specs.Ordering.{nat_cmp, is_eq}
use Rattle.std.specs.Cmp.{nat_cmp_is}
use Rattle.std.specs.BTreeMap.{BTreeMap, get, is_at}
use Rattle.std.proofs.lemmas.Bool.{cases_eq, cases_order, eq-eqb, ne_eqb}

pub apart : (k q : ℕ) → (k ≡ q → ⊥) → is_at (nat_cmp k) q ≡ false
apart k q ne =
    ⊎_elim (λ e. absurd (ne e)) (λ o. ⊎_elim (λ l. ap is_eq (sym (nat_cmp_is k q Less l))) (λ g. ap is_eq (sym (nat_cmp_is k q Greater g))) o) (cases_order k q)

-- one more at a key, and nothing elsewhere
pub one_more : (m n : BTreeMap ℕ ℕ) (k q : ℕ) → get nat_cmp n k ≡ Some (unwrap_or (get nat_cmp m k) 0 + 1)
    → ((q : ℕ) → is_at (nat_cmp k) q ≡ false → get nat_cmp n q ≡ get nat_cmp m q)
    → unwrap_or (get nat_cmp n q) 0 ≡ unwrap_or (get nat_cmp m q) 0 + cond (k == q) 1 0
one_more m n k q e f =
    ⊎_elim
    (λ p. sym (ap (λ q. unwrap_or (get nat_cmp n q) 0) p) ∙ ap (λ o. unwrap_or o 0) e ∙ ap (λ q. unwrap_or (get nat_cmp m q) 0 + 1) p
    ∙ sym (ap (λ b. unwrap_or (get nat_cmp m q) 0 + cond b 1 0) (eq-eqb k q p)))
    (λ ne. ap (λ o. unwrap_or o 0) (f q (apart k q ne)) ∙ none (unwrap_or (get nat_cmp m q) 0) ∙ sym (ap (λ b. unwrap_or (get nat_cmp m q) 0 + cond b 1 0) (ne_eqb k q ne)))
    (cases_eq k q)
  where
    none : (n : ℕ) → n ≡ n + 0
    none n = omega arith
