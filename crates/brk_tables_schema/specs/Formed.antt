-- The checks of each column of a row, independent of other columns and rows.
use Rattle.std.specs.Prelude.{ℕ, pos, Bool, true, false, ◌&&◌, ◌||◌, ◌==◌, nat_le, List, [], ◌∷◌, is_some, bytes_eq}
use Rattle.std.specs.List.{list_any}
use Rattle.std.specs.Str.{is_utf8}
use Rattle.sqlite_value.specs.declared.value.Value.{Value}
use Rattle.sqlite_value.specs.declared.value.Value.TheVariants.{Null, Int, Text as Words}
use Rattle.sqlite_value.specs.Order.{Row}
use Rattle.brk_money.specs.Spelling.{is_within_amount_limit}
use Rattle.brk_money.specs.Kinds.{trade_status_code, tax_status_with_number}
use Rattle.brk_money.specs.Moments.{greatest_day, greatest_stamp}
use Rattle.brk_money.specs.declared.status.Status.{Status}
use Rattle.brk_money.specs.declared.status.Status.TheVariants.{Completed, Active, Submitted, Pending, Canceled}
use Rattle.brk_model.specs.Limits.{greatest_amount, greatest_charge, greatest_commission_rate, greatest_tax_rate}
use Rattle.brk_model.specs.Form.{is_id, is_cash_row_number, is_quantity_in_schema, is_price, is_tier}
use Rattle.brk_model.specs.Schemas.{Schema, third_schema}
use Rattle.brk_model.specs.Forms.{is_name, is_tax_id, is_symbol, is_exchange, is_acl, is_batch_name, trade_type_with_code}
use Rattle.brk_ref.specs.Rows.{cash_type_text}
use Rattle.brk_ref.specs.declared.cash_type.CashType.{CashType}
use Rattle.brk_ref.specs.declared.cash_type.CashType.TheVariants.{CashAccount, Cash, Margin, MarginAccount}

-- ---- The check of one column

-- True if the value is an INTEGER of at least 0 whose number passes the check `form`.
abbrev pub is_natural_cell : (ℕ → Bool) → Value → Bool
is_natural_cell form (Int (pos n)) = form n
is_natural_cell form _ = false

-- True if the value is NULL, or an INTEGER of at least 0 whose number passes the check `form`.
abbrev pub is_null_or_natural_cell : (ℕ → Bool) → Value → Bool
is_null_or_natural_cell form Null = true
is_null_or_natural_cell form (Int (pos n)) = form n
is_null_or_natural_cell form _ = false

-- True if the value is an INTEGER.
abbrev pub is_integer_cell : Value → Bool
is_integer_cell (Int n) = true
is_integer_cell _ = false

-- True if the value is an INTEGER of at most 10^17 in absolute value: an amount in cents.
abbrev pub is_signed_amount_cell : Value → Bool
is_signed_amount_cell (Int n) = is_within_amount_limit n
is_signed_amount_cell _ = false

-- True if the value is a TEXT whose bytes pass the check `form`.
abbrev pub is_text_cell : (List ℕ → Bool) → Value → Bool
is_text_cell form (Words s) = form s
is_text_cell form _ = false

-- True if the value is the INTEGER 0 or 1.
abbrev pub is_flag_cell : Value → Bool
is_flag_cell = is_natural_cell (λ n. (n == 0) || (n == 1))

-- True if the value is a TEXT in UTF-8.
abbrev pub is_utf8_cell : Value → Bool
is_utf8_cell = is_text_cell is_utf8

-- True if the text is the code of some trade type.
abbrev pub is_trade_type_code : List ℕ → Bool
is_trade_type_code s = is_some (trade_type_with_code s)

-- The list of all statuses of a trade.
abbrev pub all_statuses : List Status
all_statuses = Completed ∷ Active ∷ Submitted ∷ Pending ∷ Canceled ∷ []

-- True if the text is the code of some status of a trade.
abbrev pub is_status_code : List ℕ → Bool
is_status_code s = list_any (λ status. bytes_eq (trade_status_code status) s) all_statuses

-- The list of all cash types of a settlement.
abbrev pub all_cash_types : List CashType
all_cash_types = CashAccount ∷ Cash ∷ Margin ∷ MarginAccount ∷ []

-- True if the text is the text of some cash type of a settlement.
abbrev pub is_cash_type_text : List ℕ → Bool
is_cash_type_text s = list_any (λ kind. bytes_eq (cash_type_text kind) s) all_cash_types

-- True if the number is the number of some tax status of an account.
abbrev pub is_tax_status_number : ℕ → Bool
is_tax_status_number n = is_some (tax_status_with_number n)

-- True if the value is an INTEGER that is an id.
abbrev pub is_id_cell : Value → Bool
is_id_cell = is_natural_cell is_id

-- True if the value is an INTEGER that is the number of a cash row.
abbrev pub is_cash_row_number_cell : Value → Bool
is_cash_row_number_cell = is_natural_cell is_cash_row_number

-- True if the value is a TEXT in the format of a name.
abbrev pub is_name_cell : Value → Bool
is_name_cell = is_text_cell is_name

-- True if the value is a TEXT in the format of a tax id.
abbrev pub is_tax_id_cell : Value → Bool
is_tax_id_cell = is_text_cell is_tax_id

-- True if the value is a TEXT in the format of a symbol.
abbrev pub is_symbol_cell : Value → Bool
is_symbol_cell = is_text_cell is_symbol

-- True if the value is a TEXT in the format of the name of an exchange.
abbrev pub is_exchange_cell : Value → Bool
is_exchange_cell = is_text_cell is_exchange

-- True if the value is a TEXT that is the code of a trade type.
abbrev pub is_trade_type_cell : Value → Bool
is_trade_type_cell = is_text_cell is_trade_type_code

-- True if the value is a TEXT that is the code of a trade's status.
abbrev pub is_status_cell : Value → Bool
is_status_cell = is_text_cell is_status_code

-- True if the value is an INTEGER that is a customer tier: from 1 to 3, both included.
abbrev pub is_tier_cell : Value → Bool
is_tier_cell = is_natural_cell is_tier

-- True if the value is an INTEGER that is a quantity of shares in schema 3.
abbrev pub is_quantity_cell : Value → Bool
is_quantity_cell = is_natural_cell (is_quantity_in_schema third_schema)

-- True if the value is an INTEGER that is a price, in cents.
abbrev pub is_price_cell : Value → Bool
is_price_cell = is_natural_cell is_price

-- True if the value is an INTEGER that is a stamp, in milliseconds since 1970-01-01 UTC.
abbrev pub is_stamp_cell : Value → Bool
is_stamp_cell = is_natural_cell (λ n. nat_le n greatest_stamp)

-- True if the value is an INTEGER from 0 to the greatest amount, in cents or in shares.
abbrev pub is_amount_cell : Value → Bool
is_amount_cell = is_natural_cell (λ n. nat_le n greatest_amount)

-- True if the value is an INTEGER that is a commission rate, in hundredths of a percent.
abbrev pub is_commission_rate_cell : Value → Bool
is_commission_rate_cell = is_natural_cell (λ n. nat_le n greatest_commission_rate)

-- True if the value is an INTEGER that is a tax rate, in hundred-thousandths.
abbrev pub is_tax_rate_cell : Value → Bool
is_tax_rate_cell = is_natural_cell (λ n. nat_le n greatest_tax_rate)

-- True if the value is an INTEGER that is a day, in days since 1970-01-01.
abbrev pub is_day_cell : Value → Bool
is_day_cell = is_natural_cell (λ n. nat_le n greatest_day)

-- True if the value is an INTEGER that is the number of a tax status.
abbrev pub is_tax_status_cell : Value → Bool
is_tax_status_cell = is_natural_cell is_tax_status_number

-- True if the value is an INTEGER of at least 0 and at most the greatest charge, in cents.
abbrev pub is_charge_cell : Value → Bool
is_charge_cell = is_natural_cell (λ n. nat_le n greatest_charge)

-- True if the value is NULL or a stamp (`is_stamp_cell`).
abbrev pub is_null_or_stamp_cell : Value → Bool
is_null_or_stamp_cell = is_null_or_natural_cell (λ n. nat_le n greatest_stamp)

-- ---- The check of a row

-- True if the row has as many columns as there are checks, and each passes its check.
abbrev pub passes_all_cell_checks : List (Value → Bool) → Row → Bool
passes_all_cell_checks [] [] = true
passes_all_cell_checks (has_form ∷ forms) (v ∷ row) = has_form v && passes_all_cell_checks forms row
passes_all_cell_checks _ _ = false

-- The checks of DESK's columns: the id is 1, the number the schema's, the last stamp NULL or valid.
abbrev pub desk_column_cell_checks : Schema → List (Value → Bool)
desk_column_cell_checks schema = is_natural_cell (λ n. n == 1) ∷ is_natural_cell (λ n. n == schema.number) ∷ is_null_or_stamp_cell ∷ []

-- True if there is exactly one row of DESK, and it passes the checks of its columns.
abbrev pub has_one_valid_desk_row : Schema → List Row → Bool
has_one_valid_desk_row schema (row ∷ []) = passes_all_cell_checks (desk_column_cell_checks schema) row
has_one_valid_desk_row schema _ = false

-- The checks of the columns of KEPT, in the order of the columns.
abbrev pub kept_column_cell_checks : List (Value → Bool)
kept_column_cell_checks = is_text_cell is_batch_name ∷ is_id_cell ∷ is_utf8_cell ∷ is_utf8_cell ∷ []

-- The checks of the columns of BROKER, in the order of the columns.
abbrev pub broker_column_cell_checks : List (Value → Bool)
broker_column_cell_checks = is_id_cell ∷ is_name_cell ∷ is_integer_cell ∷ is_natural_cell (λ n. true) ∷ []

-- The checks of the columns of CUSTOMER, in the order of the columns.
abbrev pub customer_column_cell_checks : List (Value → Bool)
customer_column_cell_checks = is_id_cell ∷ is_tier_cell ∷ is_tax_id_cell ∷ is_name_cell ∷ is_name_cell ∷ []

-- The checks of the columns of CUSTOMER_ACCOUNT, in the order of the columns.
abbrev pub account_column_cell_checks : List (Value → Bool)
account_column_cell_checks = is_id_cell ∷ is_id_cell ∷ is_id_cell ∷ is_name_cell ∷ is_tax_status_cell ∷ is_signed_amount_cell ∷ is_signed_amount_cell ∷ []

-- The checks of the columns of ACCOUNT_PERMISSION, in the order of the columns.
abbrev pub permission_column_cell_checks : List (Value → Bool)
permission_column_cell_checks = is_id_cell ∷ is_tax_id_cell ∷ is_text_cell is_acl ∷ is_name_cell ∷ is_name_cell ∷ []

-- The checks of the columns of SECURITY, in the order of the columns.
abbrev pub security_column_cell_checks : List (Value → Bool)
security_column_cell_checks = is_symbol_cell ∷ is_name_cell ∷ is_exchange_cell ∷ is_name_cell ∷ []

-- The checks of the columns of LAST_TRADE, in the order of the columns.
abbrev pub last_trade_column_cell_checks : List (Value → Bool)
last_trade_column_cell_checks = is_symbol_cell ∷ is_stamp_cell ∷ is_price_cell ∷ is_amount_cell ∷ []

-- The checks of the columns of CHARGE, in the order of the columns.
abbrev pub charge_column_cell_checks : List (Value → Bool)
charge_column_cell_checks = is_trade_type_cell ∷ is_tier_cell ∷ is_charge_cell ∷ []

-- The checks of the columns of COMMISSION_RATE, in the order of the columns.
abbrev pub band_column_cell_checks : List (Value → Bool)
band_column_cell_checks = is_tier_cell ∷ is_trade_type_cell ∷ is_exchange_cell ∷ is_quantity_cell ∷ is_quantity_cell ∷ is_commission_rate_cell ∷ []

-- The checks of the columns of TAXRATE, in the order of the columns.
abbrev pub tax_rate_column_cell_checks : List (Value → Bool)
tax_rate_column_cell_checks = is_id_cell ∷ is_name_cell ∷ is_tax_rate_cell ∷ []

-- The checks of the columns of CUSTOMER_TAXRATE, in the order of the columns.
abbrev pub customer_tax_column_cell_checks : List (Value → Bool)
customer_tax_column_cell_checks = is_id_cell ∷ is_id_cell ∷ []

-- The checks of the columns of TRADE, in the order of the columns.
abbrev pub trade_column_cell_checks : List (Value → Bool)
trade_column_cell_checks =
    is_id_cell ∷ is_stamp_cell ∷ is_status_cell ∷ is_trade_type_cell ∷ is_flag_cell ∷ is_symbol_cell ∷ is_quantity_cell ∷ is_price_cell ∷ is_id_cell
    ∷ is_utf8_cell ∷ is_null_or_natural_cell is_price ∷ is_charge_cell
    ∷ is_amount_cell ∷ is_amount_cell ∷ is_flag_cell ∷ []

-- The checks of the columns of TRADE_HISTORY, in the order of the columns.
abbrev pub history_column_cell_checks : List (Value → Bool)
history_column_cell_checks = is_id_cell ∷ is_status_cell ∷ is_stamp_cell ∷ []

-- The checks of the columns of TRADE_REQUEST, in the order of the columns.
abbrev pub request_column_cell_checks : List (Value → Bool)
request_column_cell_checks = is_id_cell ∷ is_trade_type_cell ∷ is_symbol_cell ∷ is_quantity_cell ∷ is_price_cell ∷ is_id_cell ∷ []

-- The checks of the columns of HOLDING, in the order of the columns.
abbrev pub holding_column_cell_checks : List (Value → Bool)
holding_column_cell_checks = is_id_cell ∷ is_id_cell ∷ is_symbol_cell ∷ is_stamp_cell ∷ is_price_cell ∷ is_integer_cell ∷ []

-- The checks of the columns of HOLDING_SUMMARY, in the order of the columns.
abbrev pub summary_column_cell_checks : List (Value → Bool)
summary_column_cell_checks = is_id_cell ∷ is_symbol_cell ∷ is_integer_cell ∷ []

-- The checks of the columns of HOLDING_HISTORY, in the order of the columns.
abbrev pub holding_history_column_cell_checks : List (Value → Bool)
holding_history_column_cell_checks = is_id_cell ∷ is_id_cell ∷ is_integer_cell ∷ is_integer_cell ∷ []

-- The checks of the columns of SETTLEMENT, in the order of the columns.
abbrev pub settlement_column_cell_checks : List (Value → Bool)
settlement_column_cell_checks = is_id_cell ∷ is_text_cell is_cash_type_text ∷ is_day_cell ∷ is_signed_amount_cell ∷ []

-- The checks of the columns of CASH_TRANSACTION, in the order of the columns.
abbrev pub cash_column_cell_checks : List (Value → Bool)
cash_column_cell_checks = is_id_cell ∷ is_stamp_cell ∷ is_signed_amount_cell ∷ is_utf8_cell ∷ []

-- The checks of the columns of CASH_MOVE, in the order of the columns.
abbrev pub move_column_cell_checks : List (Value → Bool)
move_column_cell_checks = is_cash_row_number_cell ∷ is_id_cell ∷ is_null_or_natural_cell is_id ∷ is_stamp_cell ∷ is_signed_amount_cell ∷ is_utf8_cell ∷ []

-- The checks of the columns of SETTLE_RULE, in the order of the columns.
abbrev pub rule_column_cell_checks : List (Value → Bool)
rule_column_cell_checks = is_natural_cell (λ n. n == 1) ∷ is_day_cell ∷ []

-- True if there is no row of SETTLE_RULE, or exactly one, which passes the checks of its columns.
abbrev pub has_at_most_one_valid_rule_row : List Row → Bool
has_at_most_one_valid_rule_row [] = true
has_at_most_one_valid_rule_row (row ∷ []) = passes_all_cell_checks rule_column_cell_checks row
has_at_most_one_valid_rule_row _ = false
