-- The lines of the typed facts of a holding.
use Rattle.std.specs.Prelude.{List, map, None, unwrap_or, ℤ}
use Rattle.std.specs.List.{last_or}
use Rattle.brk_money.specs.Spelling.{Text}
use Rattle.brk_ref.specs.Rows.{abstract_trade_row}
use Rattle.brk_ref.specs.Records.{abstract_account_row, abstract_security_row}
use Rattle.brk_model_explain.specs.HoldingLines.{holding_lines_from_trades_and_lots}
use Rattle.brk_model_explain.specs.Holdings.{LotChange}
use Rattle.brk_explain_rows.specs.Details.{abstract_lot_details}
use Rattle.brk_explain_rows.specs.declared.holding_details.HoldingDetails.{HoldingDetails}

-- The quantity of a lot after the last of its `changes`, or `opened` without changes.
abbrev pub quantity_after_changes : ℤ → List LotChange → ℤ
quantity_after_changes opened changes = unwrap_or (last_or None (map (λ c. c.after) changes)) opened

-- All lines of the explanation of the holding with the typed facts `s`.
abbrev pub lines_of_holding_details : HoldingDetails → List Text
lines_of_holding_details s =
    holding_lines_from_trades_and_lots (abstract_account_row s.account) (abstract_security_row s.security)
    (map abstract_trade_row s.done.items) (map abstract_lot_details s.lots.items) s.shares s.price
