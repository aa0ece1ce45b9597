use Rattle.std.proofs.Common.{◌≡◌, Bool, true, false, ℕ, List, refl, inl, inr, ap, length, arith}
use Rattle.brk_model.specs.Tables.{OldCashRow}
use Rattle.brk_model_examples.proofs.OnLiterals.{model_on_literals}
use Rattle.brk_model_examples.proofs.audits.audit_depends_on_schema.Goals as goal

-- how many rows there are, by which two tables differ
left : List OldCashRow → ℕ
left rows = length rows

-- The two numbers are equal.
abbrev Equal : ℕ → ℕ → Type 0
Equal m n = m ≡ n

-- The two Booleans are equal.
abbrev Same : Bool → Bool → Type 0
Same a b = a ≡ b

pub returns-clause-quantity : goal.returns-clause-quantity
unfolding model_on_literals
returns-clause-quantity c = inr (λ e. let q : Same false true = e in absurd (cc), refl)

pub returns-clause-band : goal.returns-clause-band
unfolding model_on_literals
returns-clause-band c = inr (λ e. let q : Same false true = e in absurd (cc), refl)

pub returns-clause-no_rule_yet : goal.returns-clause-no_rule_yet
unfolding model_on_literals
returns-clause-no_rule_yet c = inr (λ e. let q : Same false true = e in absurd (cc), refl)

pub returns-clause-no_moves_yet : goal.returns-clause-no_moves_yet
unfolding model_on_literals
returns-clause-no_moves_yet c = inr (λ e. let q : Same false true = e in absurd (cc), refl)

pub returns-clause-larger_limits : goal.returns-clause-larger_limits
unfolding model_on_literals
returns-clause-larger_limits c = inl (refl, inl (refl, inl (refl, inl (refl, inl (refl, inl (refl, inl (refl, inl (refl, inl (refl, inl ((refl, refl), inl (refl, refl)))))))))))

pub returns-clause-no_cash_any_more : goal.returns-clause-no_cash_any_more
unfolding model_on_literals left
returns-clause-no_cash_any_more c =
    inl (
      refl,
      inl (
        refl,
        inl
            (refl, inl (refl, inl (refl, inl (refl, inl (refl, inl (refl, inl (refl, inr (λ e. let q : Equal 1 0 = ap left e.0 in omega (q, arith), refl)))))))),
      ),
    )
