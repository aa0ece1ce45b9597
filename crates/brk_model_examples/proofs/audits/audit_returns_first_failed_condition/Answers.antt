use Rattle.std.proofs.Common.{◌≡◌, Bool, true, false, ℕ, ℤ, List, [], ◌∷◌, length, refl, inl, inr, ap, arith}
use Rattle.std.specs.Prelude.{nat_abs}
use Rattle.brk_model.specs.Tables.{RequestRow, HoldingRow, HoldingHistoryRow, SummaryRow, SettlementRow, OldCashRow, CashRow}
use Rattle.brk_model_examples.proofs.OnLiterals.{model_on_literals}
use Rattle.brk_model_examples.proofs.audits.audit_returns_first_failed_condition.Goals as goal

-- a number of the first row, by which two tables differ
length_of : List RequestRow → ℕ
length_of rows = length rows

length_of_lots : List HoldingRow → ℕ
length_of_lots rows = length rows

lot_qty : List HoldingRow → ℕ
lot_qty [] = 0
lot_qty (row ∷ rows) = nat_abs row.qty

lot_price : List HoldingRow → ℕ
lot_price [] = 0
lot_price (row ∷ rows) = row.price

after_qty : List HoldingHistoryRow → ℕ
after_qty [] = 0
after_qty (row ∷ rows) = nat_abs row.after

summary_qty : List SummaryRow → ℕ
summary_qty [] = 0
summary_qty (row ∷ rows) = nat_abs row.qty

first_number : List ℤ → ℕ
first_number [] = 0
first_number (row ∷ rows) = nat_abs row

first_natural : List ℕ → ℕ
first_natural [] = 0
first_natural (row ∷ rows) = row

settled : List SettlementRow → ℕ
settled [] = 0
settled (row ∷ rows) = nat_abs row.amount

moved : List CashRow → ℕ
moved [] = 0
moved (row ∷ rows) = nat_abs row.amount

first_id : List CashRow → ℕ
first_id [] = 0
first_id (row ∷ rows) = row.id

first_due : List SettlementRow → ℕ
first_due [] = 0
first_due (row ∷ rows) = row.due_day

left : List OldCashRow → ℕ
left rows = length rows

-- The two numbers are equal.
abbrev Equal : ℕ → ℕ → Type 0
Equal m n = m ≡ n

-- The two Booleans are equal.
abbrev Same : Bool → Bool → Type 0
Same a b = a ≡ b

pub returns-clause-no_quantity : goal.returns-clause-no_quantity
unfolding model_on_literals
returns-clause-no_quantity c = inr (λ e. let q : Same false true = e in absurd (cc), refl)

pub returns-clause-no_last_trade : goal.returns-clause-no_last_trade
unfolding model_on_literals
returns-clause-no_last_trade c = inr (λ e. let q : Same false true = e in absurd (cc), refl)

pub returns-clause-no_submission : goal.returns-clause-no_submission
unfolding model_on_literals
returns-clause-no_submission c = inl (refl, inr (λ e. let q : Same false true = e in absurd (cc), refl))

pub returns-clause-other_status : goal.returns-clause-other_status
unfolding model_on_literals
returns-clause-other_status c = inl (refl, inr (λ e. let q : Same false true = e in absurd (cc), refl))

pub returns-clause-a_request : goal.returns-clause-a_request
unfolding model_on_literals length_of
returns-clause-a_request c = inl (refl, inl (refl, inr (λ e. let q : Equal 1 0 = ap length_of e in omega (q, arith), refl)))

pub returns-clause-other_lot : goal.returns-clause-other_lot
unfolding model_on_literals lot_qty
returns-clause-other_lot c = inl (refl, inl (refl, inl (refl, inr (λ e. let q : Equal 99 100 = ap lot_qty e in omega (q, arith), refl))))

pub returns-clause-other_lot_price : goal.returns-clause-other_lot_price
unfolding model_on_literals lot_price
returns-clause-other_lot_price c = inl (refl, inl (refl, inl (refl, inr (λ e. let q : Equal 1011 1010 = ap lot_price e in omega (q, arith), refl))))

pub returns-clause-other_trade_price : goal.returns-clause-other_trade_price
unfolding model_on_literals lot_price
returns-clause-other_trade_price c = inl (refl, inl (refl, inl (refl, inr (λ e. let q : Equal 1010 1011 = ap lot_price e in omega (q, arith), refl))))

pub returns-clause-other_history : goal.returns-clause-other_history
unfolding model_on_literals after_qty
returns-clause-other_history c = inl (refl, inl (refl, inl (refl, inl (refl, inr (λ e. let q : Equal 99 100 = ap after_qty e in omega (q, arith), refl)))))

pub returns-clause-other_summary : goal.returns-clause-other_summary
unfolding model_on_literals summary_qty
returns-clause-other_summary c = inl (refl, inl (refl, inl (refl, inl (refl, inl (refl, inr (λ e. let q : Equal 101 100 = ap summary_qty e in omega (q, arith), refl))))))

pub returns-clause-other_count : goal.returns-clause-other_count
unfolding model_on_literals first_number
returns-clause-other_count c = inl (refl, inl (refl, inl (refl, inl (refl, inl (refl, inl (refl, inr (λ e. let q : Equal 2 1 = ap first_number e in omega (q, arith), refl)))))))

pub returns-clause-other_commissions : goal.returns-clause-other_commissions
unfolding model_on_literals first_natural
returns-clause-other_commissions c =
    inl (
      refl,
      inl (
        refl,
        inl
            (refl, inl (refl, inl (refl, inl (refl, inl (refl, inr (λ e. let q : Equal 1011 1010 = ap first_natural e in omega (q, arith), refl)))))),
      ),
    )

pub returns-clause-other_commission : goal.returns-clause-other_commission
unfolding model_on_literals first_natural
returns-clause-other_commission c =
    inl (
      refl,
      inl (
        refl,
        inl
            (refl, inl (refl, inl (refl, inl (refl, inl (refl, inr (λ e. let q : Equal 1010 1011 = ap first_natural e in omega (q, arith), refl)))))),
      ),
    )

pub returns-clause-other_settlement : goal.returns-clause-other_settlement
unfolding model_on_literals settled
returns-clause-other_settlement c =
    inl (
      refl,
      inl (
        refl,
        inl
            (refl, inl (refl, inl (refl, inl (refl, inl (refl, inl (refl, inr (λ e. let q : Equal 102509 102510 = ap settled e in omega (q, arith), refl))))))),
      ),
    )

pub returns-clause-other_cash : goal.returns-clause-other_cash
unfolding model_on_literals moved
returns-clause-other_cash c =
    inl (
      refl,
      inl (
        refl,
        inl (
          refl,
          inl (
            refl,
            inl
                (refl, inl (refl, inl (refl, inl (refl, inl (refl, inr (λ e. let q : Equal 102509 102510 = ap moved e.1 in omega (q, arith), refl)))))),
          ),
        ),
      ),
    )

pub returns-clause-second_row : goal.returns-clause-second_row
unfolding model_on_literals
returns-clause-second_row c = inr (λ e. let q : Same false true = e in absurd (cc), refl)

pub returns-clause-other_number : goal.returns-clause-other_number
unfolding model_on_literals first_id
returns-clause-other_number c =
    inl (
      refl,
      inl (
        refl,
        inl
            (refl, inl (refl, inl (refl, inl (refl, inl (refl, inl (refl, inl (refl, inr (λ e. let q : Equal 2 1 = ap first_id e.1 in omega (q, arith), refl)))))))),
      ),
    )

pub returns-clause-left_behind : goal.returns-clause-left_behind
unfolding model_on_literals left
returns-clause-left_behind c =
    inl (
      refl,
      inl (
        refl,
        inl
            (refl, inl (refl, inl (refl, inl (refl, inl (refl, inl (refl, inl (refl, inr (λ e. let q : Equal 1 0 = ap left e.0 in omega (q, arith), refl)))))))),
      ),
    )

pub returns-clause-early_day : goal.returns-clause-early_day
unfolding model_on_literals first_due
returns-clause-early_day c =
    inl (
      refl,
      inl (
        refl,
        inl
            (refl, inl (refl, inl (refl, inl (refl, inl (refl, inl (refl, inr (λ e. let q : Equal 19785 19784 = ap first_due e in omega (q, arith), refl))))))),
      ),
    )

pub returns-clause-other_balance : goal.returns-clause-other_balance
unfolding model_on_literals first_number
returns-clause-other_balance c =
    inl (
      refl,
      inl (
        refl,
        inl (
          refl,
          inl (
            refl,
            inl (
              refl,
              inl (
                refl,
                inl
                    (refl, inl (refl, inl (refl, inl ((refl, refl), inr (λ e. let q : Equal 897491 897490 = ap first_number e in omega (q, arith), refl))))),
              ),
            ),
          ),
        ),
      ),
    )

pub returns-clause-two_changes : goal.returns-clause-two_changes
unfolding model_on_literals length_of_lots
returns-clause-two_changes c = inl (refl, inl (refl, inl (refl, inr (λ e. let q : Equal 0 1 = ap length_of_lots e in omega (q, arith), refl))))
