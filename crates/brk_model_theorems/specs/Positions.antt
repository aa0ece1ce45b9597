-- The sides and the lots of positions.
use Rattle.std.specs.Prelude.{◌≡◌, ◌==◌, ◌&&◌, ℕ, Bool, List, bytes_eq}
use Rattle.std.specs.List.{AllByRecursion}
use Rattle.brk_money.specs.Spelling.{Text}
use Rattle.brk_money.specs.declared.side.Side.{Side}
use Rattle.brk_model.specs.Shares.{Share}
use Rattle.brk_model.specs.Tables.{HoldingRow}

-- All shares of the list have the side `side`. The empty list always satisfies this.
abbrev pub AllSharesHaveSide : Side → List Share → Type 0
AllSharesHaveSide side shares = AllByRecursion (λ share. share.side ≡ side) shares

-- All shares of the list have one side, bought or sold short. The empty list always satisfies this.
abbrev pub AllSharesHaveSameSide : List Share → Type 0
AllSharesHaveSameSide shares = (side : Side) × AllSharesHaveSide side shares

-- True if the HOLDING row `row` has the account `account` and the symbol `symbol`.
abbrev pub is_row_of_position : ℕ → Text → HoldingRow → Bool
is_row_of_position account symbol row = (row.account == account) && bytes_eq row.symbol symbol
