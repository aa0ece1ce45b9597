use Rattle.std.proofs.Common.{◌≡◌, Bool, true, false, ℕ, List, [], ◌∷◌, refl, inl, inr, ap, arith}
use Rattle.brk_model.specs.Tables.{CashRow}
use Rattle.brk_model_examples.proofs.OnLiterals.{model_on_literals}
use Rattle.brk_model_examples.proofs.audits.audit_fails_for_invalid_movement_rows.Goals as goal

-- the stamp of the first row, by which two tables differ
first_stamp : List CashRow → ℕ
first_stamp [] = 0
first_stamp (row ∷ rows) = row.stamp

-- The two numbers are equal.
abbrev Equal : ℕ → ℕ → Type 0
Equal m n = m ≡ n

-- The two Booleans are equal.
abbrev Same : Bool → Bool → Type 0
Same a b = a ≡ b

pub returns-clause-other_sign : goal.returns-clause-other_sign
unfolding model_on_literals
returns-clause-other_sign c = inr (λ e. let q : Same false true = e in absurd (cc), refl)

pub returns-clause-nothing_moved : goal.returns-clause-nothing_moved
unfolding model_on_literals
returns-clause-nothing_moved c = inr (λ e. let q : Same false true = e in absurd (cc), refl)

pub returns-clause-other_name : goal.returns-clause-other_name
unfolding model_on_literals
returns-clause-other_name c = inr (λ e. let q : Same false true = e in absurd (cc), refl)

pub returns-clause-after_the_last : goal.returns-clause-after_the_last
unfolding model_on_literals
returns-clause-after_the_last c = inr (λ e. let q : Same false true = e in absurd (cc), refl)

pub returns-clause-at_a_completion : goal.returns-clause-at_a_completion
unfolding model_on_literals
returns-clause-at_a_completion c = inl (refl, inr (λ e. let q : Same false true = e in absurd (cc), refl))

pub returns-clause-before_it : goal.returns-clause-before_it
unfolding model_on_literals first_stamp
returns-clause-before_it c =
    inl (
      refl,
      inl (
        refl,
        inl (
          refl,
          inl (
            refl,
            inl (
              refl,
              inl (
                refl,
                inl
                    (refl, inl (refl, inl (refl, inr (λ e. let q : Equal 1709251200017 1709251200005 = ap first_stamp e.1 in omega (q, arith), refl)))),
              ),
            ),
          ),
        ),
      ),
    )
