-- The three schemas of a database, which differ in the table of cash rows, in the table of the
-- first day of one-day settlement, and in the limits of quantities.
use Rattle.std.specs.Prelude.{ℕ, Bool, true, false}
use Rattle.brk_model.specs.Limits.{greatest_qty, greatest_summary_quantity}

-- A schema: its number, whether it has the tables CASH_MOVE and SETTLE_RULE, and its limits.
pub record Schema : Type 0 where
  -- The number that DESK contains (D_SCHEMA).
  pub number : ℕ
  -- True if cash rows are numbered and may have no trade (CASH_MOVE); otherwise each belongs to a
  -- trade (CASH_TRANSACTION).
  pub has_cash_move_table : Bool
  -- True if the table of the first day of one-day settlement exists (SETTLE_RULE).
  pub has_settle_rule_table : Bool
  -- The greatest quantity of a trade, a request and a commission band, in shares (T_QTY, TR_QTY,
  -- CR_FROM_QTY, CR_TO_QTY).
  pub greatest_qty : ℕ
  -- The greatest absolute value of a holding summary, in shares (HS_QTY).
  pub greatest_summary_quantity : ℕ

-- The first schema: cash rows of trades only, no first day of one-day settlement, quantities of at
-- most 999,999 shares, and summaries of an absolute value of at most 999,999,999 shares.
abbrev pub first_schema : Schema
first_schema = record { number = 1; has_cash_move_table = false; has_settle_rule_table = false; greatest_qty = 999999; greatest_summary_quantity = 999999999 }

-- The second schema: the first one with cash rows of movements too.
abbrev pub second_schema : Schema
second_schema = record { number = 2; has_cash_move_table = true; has_settle_rule_table = false; greatest_qty = 999999; greatest_summary_quantity = 999999999 }

-- The third schema: cash rows of trades and of movements, the first day of one-day settlement,
-- quantities of at most 9,999,999 and summaries of at most 9,999,999,999 shares in absolute value.
abbrev pub third_schema : Schema
third_schema = record {
  number = 3;
  has_cash_move_table = true;
  has_settle_rule_table = true;
  greatest_qty = greatest_qty;
  greatest_summary_quantity = greatest_summary_quantity;
}
