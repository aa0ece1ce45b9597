-- Written by tools/generate/tables.py: the definition of each table: its columns, its primary key, and
-- its UNIQUE constraints and foreign keys, if any. The database stores its rows under the number
-- `tree`.
use Rattle.std.specs.Prelude.{ℕ, [], ◌∷◌, codes, Some, None}
use Rattle.sqlite_schema.specs.declared.schema.Table.{Table}
use Rattle.brk_tables_sql.specs.Desk.{text_column, integer_column, nullable_integer_column, foreign_key, table_without_checks}

-- The definition of the table DESK.
abbrev pub desk_row_table : ℕ → Table
desk_row_table tree = table_without_checks (codes "DESK") tree
    (integer_column (codes "D_ID") ∷ integer_column (codes "D_SCHEMA") ∷ nullable_integer_column (codes "D_LAST") ∷ [])
    (Some 0) (0 ∷ []) ([]) ([])

-- The definition of the table KEPT.
abbrev pub kept_table : ℕ → Table
kept_table tree = table_without_checks (codes "KEPT") tree
    (text_column (codes "K_BATCH") ∷ integer_column (codes "K_N") ∷ text_column (codes "K_ROW") ∷ text_column (codes "K_LINE") ∷ [])
    None (1 ∷ 2 ∷ []) ((1 ∷ 2 ∷ []) ∷ []) ([])

-- The definition of the table BROKER.
abbrev pub broker_table : ℕ → Table
broker_table tree = table_without_checks (codes "BROKER") tree
    (integer_column (codes "B_ID") ∷ text_column (codes "B_NAME") ∷ integer_column (codes "B_NUM_TRADES") ∷ integer_column (codes "B_COMM_TOTAL") ∷ [])
    (Some 0) (0 ∷ []) ([]) ([])

-- The definition of the table CUSTOMER.
abbrev pub customer_table : ℕ → Table
customer_table tree = table_without_checks (codes "CUSTOMER") tree
    (integer_column (codes "C_ID") ∷ integer_column (codes "C_TIER") ∷ text_column (codes "C_TAX_ID") ∷ text_column (codes "C_L_NAME")
    ∷ text_column (codes "C_F_NAME") ∷ [])
    (Some 0) (0 ∷ []) ((3 ∷ []) ∷ []) ([])

-- The definition of the table CUSTOMER_ACCOUNT.
abbrev pub account_table : ℕ → Table
account_table tree = table_without_checks (codes "CUSTOMER_ACCOUNT") tree
    (integer_column (codes "CA_ID") ∷ integer_column (codes "CA_C_ID") ∷ integer_column (codes "CA_B_ID") ∷ text_column (codes "CA_NAME")
    ∷ integer_column (codes "CA_TAX_ST") ∷ integer_column (codes "CA_OPEN") ∷ integer_column (codes "CA_BAL") ∷ [])
    (Some 0) (0 ∷ []) ([]) (foreign_key 2 (codes "CUSTOMER") (codes "C_ID") ∷ foreign_key 3 (codes "BROKER") (codes "B_ID") ∷ [])

-- The definition of the table ACCOUNT_PERMISSION.
abbrev pub permission_table : ℕ → Table
permission_table tree = table_without_checks (codes "ACCOUNT_PERMISSION") tree
    (integer_column (codes "AP_CA_ID") ∷ text_column (codes "AP_TAX_ID") ∷ text_column (codes "AP_ACL") ∷ text_column (codes "AP_L_NAME")
    ∷ text_column (codes "AP_F_NAME") ∷ [])
    None (1 ∷ 2 ∷ []) ((1 ∷ 2 ∷ []) ∷ []) (foreign_key 1 (codes "CUSTOMER_ACCOUNT") (codes "CA_ID") ∷ [])

-- The definition of the table SECURITY.
abbrev pub security_table : ℕ → Table
security_table tree = table_without_checks (codes "SECURITY") tree
    (text_column (codes "S_SYMB") ∷ text_column (codes "S_NAME") ∷ text_column (codes "S_EX_ID") ∷ text_column (codes "S_SECTOR") ∷ [])
    None (1 ∷ []) ((1 ∷ []) ∷ []) ([])

-- The definition of the table LAST_TRADE.
abbrev pub last_trade_table : ℕ → Table
last_trade_table tree = table_without_checks (codes "LAST_TRADE") tree
    (text_column (codes "LT_S_SYMB") ∷ integer_column (codes "LT_DTS") ∷ integer_column (codes "LT_PRICE") ∷ integer_column (codes "LT_VOL") ∷ [])
    None (1 ∷ []) ((1 ∷ []) ∷ []) (foreign_key 1 (codes "SECURITY") (codes "S_SYMB") ∷ [])

-- The definition of the table CHARGE.
abbrev pub charge_table : ℕ → Table
charge_table tree = table_without_checks (codes "CHARGE") tree
    (text_column (codes "CH_TT_ID") ∷ integer_column (codes "CH_C_TIER") ∷ integer_column (codes "CH_CHRG") ∷ [])
    None (1 ∷ 2 ∷ []) ((1 ∷ 2 ∷ []) ∷ []) ([])

-- The definition of the table COMMISSION_RATE.
abbrev pub band_table : ℕ → Table
band_table tree = table_without_checks (codes "COMMISSION_RATE") tree
    (integer_column (codes "CR_C_TIER") ∷ text_column (codes "CR_TT_ID") ∷ text_column (codes "CR_EX_ID") ∷ integer_column (codes "CR_FROM_QTY")
    ∷ integer_column (codes "CR_TO_QTY") ∷ integer_column (codes "CR_RATE") ∷ [])
    None (1 ∷ 2 ∷ 3 ∷ 4 ∷ []) ((1 ∷ 2 ∷ 3 ∷ 4 ∷ []) ∷ []) ([])

-- The definition of the table TAXRATE.
abbrev pub tax_rate_table : ℕ → Table
tax_rate_table tree = table_without_checks (codes "TAXRATE") tree
    (integer_column (codes "TX_ID") ∷ text_column (codes "TX_NAME") ∷ integer_column (codes "TX_RATE") ∷ [])
    (Some 0) (0 ∷ []) ([]) ([])

-- The definition of the table CUSTOMER_TAXRATE.
abbrev pub customer_tax_table : ℕ → Table
customer_tax_table tree = table_without_checks (codes "CUSTOMER_TAXRATE") tree (integer_column (codes "CX_C_ID") ∷ integer_column (codes "CX_TX_ID") ∷ [])
    None (1 ∷ 2 ∷ []) ((1 ∷ 2 ∷ []) ∷ []) (foreign_key 1 (codes "CUSTOMER") (codes "C_ID") ∷ foreign_key 2 (codes "TAXRATE") (codes "TX_ID") ∷ [])

-- The definition of the table TRADE.
abbrev pub trade_table : ℕ → Table
trade_table tree = table_without_checks (codes "TRADE") tree
    (integer_column (codes "T_ID") ∷ integer_column (codes "T_DTS") ∷ text_column (codes "T_ST_ID") ∷ text_column (codes "T_TT_ID")
    ∷ integer_column (codes "T_IS_CASH") ∷ text_column (codes "T_S_SYMB") ∷ integer_column (codes "T_QTY") ∷ integer_column (codes "T_BID_PRICE")
    ∷ integer_column (codes "T_CA_ID") ∷ text_column (codes "T_EXEC_NAME") ∷ nullable_integer_column (codes "T_TRADE_PRICE")
    ∷ integer_column (codes "T_CHRG") ∷ integer_column (codes "T_COMM") ∷ integer_column (codes "T_TAX") ∷ integer_column (codes "T_LIFO") ∷ [])
    (Some 0) (0 ∷ []) ([]) (foreign_key 6 (codes "SECURITY") (codes "S_SYMB") ∷ foreign_key 9 (codes "CUSTOMER_ACCOUNT") (codes "CA_ID") ∷ [])

-- The definition of the table TRADE_HISTORY.
abbrev pub trade_history_table : ℕ → Table
trade_history_table tree = table_without_checks (codes "TRADE_HISTORY") tree
    (integer_column (codes "TH_T_ID") ∷ text_column (codes "TH_ST_ID") ∷ integer_column (codes "TH_DTS") ∷ [])
    None (1 ∷ 2 ∷ []) ((1 ∷ 2 ∷ []) ∷ []) (foreign_key 1 (codes "TRADE") (codes "T_ID") ∷ [])

-- The definition of the table TRADE_REQUEST.
abbrev pub request_table : ℕ → Table
request_table tree = table_without_checks (codes "TRADE_REQUEST") tree
    (integer_column (codes "TR_T_ID") ∷ text_column (codes "TR_TT_ID") ∷ text_column (codes "TR_S_SYMB") ∷ integer_column (codes "TR_QTY")
    ∷ integer_column (codes "TR_BID_PRICE") ∷ integer_column (codes "TR_B_ID") ∷ [])
    (Some 0) (0 ∷ []) ([])
    (foreign_key 0 (codes "TRADE") (codes "T_ID") ∷ foreign_key 3 (codes "SECURITY") (codes "S_SYMB") ∷ foreign_key 6 (codes "BROKER") (codes "B_ID") ∷ [])

-- The definition of the table HOLDING.
abbrev pub holding_table : ℕ → Table
holding_table tree = table_without_checks (codes "HOLDING") tree
    (integer_column (codes "H_T_ID") ∷ integer_column (codes "H_CA_ID") ∷ text_column (codes "H_S_SYMB") ∷ integer_column (codes "H_DTS")
    ∷ integer_column (codes "H_PRICE") ∷ integer_column (codes "H_QTY") ∷ [])
    (Some 0) (0 ∷ []) ([])
    (foreign_key 0 (codes "TRADE") (codes "T_ID") ∷ foreign_key 2 (codes "CUSTOMER_ACCOUNT") (codes "CA_ID")
    ∷ foreign_key 3 (codes "SECURITY") (codes "S_SYMB") ∷ [])

-- The definition of the table HOLDING_SUMMARY.
abbrev pub summary_table : ℕ → Table
summary_table tree = table_without_checks (codes "HOLDING_SUMMARY") tree
    (integer_column (codes "HS_CA_ID") ∷ text_column (codes "HS_S_SYMB") ∷ integer_column (codes "HS_QTY") ∷ [])
    None (1 ∷ 2 ∷ []) ((1 ∷ 2 ∷ []) ∷ []) (foreign_key 1 (codes "CUSTOMER_ACCOUNT") (codes "CA_ID") ∷ foreign_key 2 (codes "SECURITY") (codes "S_SYMB") ∷ [])

-- The definition of the table HOLDING_HISTORY.
abbrev pub holding_history_table : ℕ → Table
holding_history_table tree = table_without_checks (codes "HOLDING_HISTORY") tree
    (integer_column (codes "HH_H_T_ID") ∷ integer_column (codes "HH_T_ID") ∷ integer_column (codes "HH_BEFORE_QTY")
    ∷ integer_column (codes "HH_AFTER_QTY") ∷ [])
    None (1 ∷ 2 ∷ []) ((1 ∷ 2 ∷ []) ∷ []) (foreign_key 1 (codes "TRADE") (codes "T_ID") ∷ foreign_key 2 (codes "TRADE") (codes "T_ID") ∷ [])

-- The definition of the table SETTLEMENT.
abbrev pub settlement_table : ℕ → Table
settlement_table tree = table_without_checks (codes "SETTLEMENT") tree
    (integer_column (codes "SE_T_ID") ∷ text_column (codes "SE_CASH_TYPE") ∷ integer_column (codes "SE_CASH_DUE_DATE")
    ∷ integer_column (codes "SE_AMT") ∷ [])
    (Some 0) (0 ∷ []) ([]) (foreign_key 0 (codes "TRADE") (codes "T_ID") ∷ [])

-- The definition of the table CASH_TRANSACTION.
abbrev pub cash_transaction_table : ℕ → Table
cash_transaction_table tree = table_without_checks (codes "CASH_TRANSACTION") tree
    (integer_column (codes "CT_T_ID") ∷ integer_column (codes "CT_DTS") ∷ integer_column (codes "CT_AMT") ∷ text_column (codes "CT_NAME") ∷ [])
    (Some 0) (0 ∷ []) ([]) (foreign_key 0 (codes "TRADE") (codes "T_ID") ∷ [])

-- The definition of the table CASH_MOVE.
abbrev pub cash_move_table : ℕ → Table
cash_move_table tree = table_without_checks (codes "CASH_MOVE") tree
    (integer_column (codes "CM_ID") ∷ integer_column (codes "CM_CA_ID") ∷ nullable_integer_column (codes "CM_T_ID") ∷ integer_column (codes "CM_DTS")
    ∷ integer_column (codes "CM_AMT") ∷ text_column (codes "CM_NAME") ∷ [])
    (Some 0) (0 ∷ []) ((3 ∷ []) ∷ []) (foreign_key 2 (codes "CUSTOMER_ACCOUNT") (codes "CA_ID") ∷ foreign_key 3 (codes "TRADE") (codes "T_ID") ∷ [])

-- The definition of the table SETTLE_RULE.
abbrev pub settle_rule_table : ℕ → Table
settle_rule_table tree = table_without_checks (codes "SETTLE_RULE") tree (integer_column (codes "SR_ID") ∷ integer_column (codes "SR_DAY") ∷ [])
    (Some 0) (0 ∷ []) ([]) ([])
