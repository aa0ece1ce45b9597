-- Sums of shares by position: an account and a symbol.
use Rattle.std.specs.Prelude.{ℕ, List, Option, Some, None, if◌then◌else◌}
use Rattle.std.specs.Borrow.{Bor}
use Rattle.brk_money.specs.Kinds.{side_of_trade_type}
use Rattle.brk_money.specs.Spelling.{Text}
use Rattle.brk_model.specs.Shares.{signed_by_side}
use Rattle.brk_model.specs.Tables.{SummaryRow, TradeRow}
use Rattle.brk_audit_sums.specs.Completed.{is_completed_trade_row}
use Rattle.brk_audit_sums.specs.declared.tally.KeyedAmount.{KeyedAmount}

-- The posting `p` with the bytes of its symbol in place of a reference to them.
abbrev pub posting_with_owned_symbol : KeyedAmount (ℕ × Bor (List ℕ)) → KeyedAmount (ℕ × Text)
posting_with_owned_symbol p = record { key = (p.key.0, p.key.1.now); amount = p.amount }

-- The quantity of a completed trade, negated for a sale, at its account and symbol, or `None`.
abbrev pub share_posting_of_trade : TradeRow → Option (KeyedAmount (ℕ × Text))
share_posting_of_trade r =
    if is_completed_trade_row r then Some (record { key = (r.account, r.symbol); amount = signed_by_side (side_of_trade_type r.kind) r.qty }) else None

-- The quantity of the holding summary as a posting at its account and symbol.
abbrev pub share_posting_of_summary : SummaryRow → KeyedAmount (ℕ × Text)
share_posting_of_summary h = record { key = (h.account, h.symbol); amount = h.qty }
