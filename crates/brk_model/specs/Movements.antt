-- Deposits, withdrawals and the first day of one-day settlement.
use Rattle.std.specs.Prelude.{ℕ, ◌+◌, [], ◌∷◌, ◌++◌, length, Some, pos, neg_ℤ, codes}
use Rattle.brk_model.specs.Records.{Movement}
use Rattle.brk_model.specs.Base.{Base}
use Rattle.brk_model.specs.Derived.{balance_of_account, postings_of_base}
use Rattle.brk_model.specs.Commands.{Reply, MovedCash}

-- The movement of a deposit of `amount` cents to `account` at `stamp`, with the name `Deposit`.
abbrev pub deposit_movement : ℕ → ℕ → ℕ → Movement
deposit_movement stamp account amount = record { account = account; stamp = stamp; amount = pos amount; name = codes "Deposit" }

-- The movement of a withdrawal of `amount` cents from `account` at `stamp`, named `Withdrawal`.
abbrev pub withdrawal_movement : ℕ → ℕ → ℕ → Movement
withdrawal_movement stamp account amount = record { account = account; stamp = stamp; amount = neg_ℤ (pos amount); name = codes "Withdrawal" }

-- The base `base` with the movement `m` added at the end.
abbrev pub base_after_movement : Base → Movement → Base
base_after_movement base m = record base { movements = base.movements ++ m ∷ [] }

-- The base `base` with `day`, in days since 1970-01-01, as the first day of one-day settlement.
abbrev pub base_with_one_day_settlement_start : Base → ℕ → Base
base_with_one_day_settlement_start base day = record base { rule = Some day }

-- The reply to the movement `m`: its stamp, the number of its cash row (one more than `base` has
-- postings), and the balance of its account after it.
abbrev pub reply_to_movement : Base → Movement → Reply
reply_to_movement base m =
    MovedCash m.stamp (length (postings_of_base base) + 1) (balance_of_account base.accounts (postings_of_base (base_after_movement base m)) m.account)
