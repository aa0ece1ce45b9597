-- Written by tools/generate/tables.py: the tables as the code names them, and their SQL texts.
use Rattle.std.specs.Prelude.{ℕ, List, ◌++◌, codes}
use Rattle.brk_tables_schema.specs.Desk.{DeskTable, TheDesk, KeptRows, Brokers, Customers, Accounts, Permissions, Securities, LastTrades, Charges}
use Rattle.brk_tables_schema.specs.Desk.{Bands, TaxRates, CustomerTaxes, Trades, TradeHistory, Requests, Holdings, Summaries, HoldingHistory}
use Rattle.brk_tables_schema.specs.Desk.{Settlements, CashRows, CashMoves, SettleRules, table_name}
use Rattle.brk_tables_schema.specs.declared.table.Table.{Table}
use Rattle.brk_tables_schema.specs.declared.table.Table.TheVariants as table

-- The table of the specification that a value of the code's type `Table` represents.
abbrev pub abstract_table : Table → DeskTable
abstract_table table.TheDesk = TheDesk
abstract_table table.KeptRows = KeptRows
abstract_table table.Brokers = Brokers
abstract_table table.Customers = Customers
abstract_table table.Accounts = Accounts
abstract_table table.Permissions = Permissions
abstract_table table.Securities = Securities
abstract_table table.LastTrades = LastTrades
abstract_table table.Charges = Charges
abstract_table table.Bands = Bands
abstract_table table.TaxRates = TaxRates
abstract_table table.CustomerTaxes = CustomerTaxes
abstract_table table.Trades = Trades
abstract_table table.TradeHistory = TradeHistory
abstract_table table.Requests = Requests
abstract_table table.Holdings = Holdings
abstract_table table.Summaries = Summaries
abstract_table table.HoldingHistory = HoldingHistory
abstract_table table.Settlements = Settlements
abstract_table table.CashRows = CashRows
abstract_table table.CashMoves = CashMoves
abstract_table table.SettleRules = SettleRules

-- The CREATE TABLE statement of each table of a desk, with its columns, keys and foreign keys.
abbrev pub create_table_text : DeskTable → List ℕ
create_table_text TheDesk = codes "CREATE TABLE DESK (D_ID INTEGER PRIMARY KEY NOT NULL, D_SCHEMA INTEGER NOT NULL, D_LAST INTEGER) STRICT"
create_table_text KeptRows =
    codes "CREATE TABLE KEPT (K_BATCH TEXT NOT NULL, K_N INTEGER NOT NULL, K_ROW TEXT NOT NULL, K_LINE TEXT NOT NULL, "
    ++ codes "PRIMARY KEY (K_BATCH, K_N)) STRICT"
create_table_text Brokers =
    codes "CREATE TABLE BROKER (B_ID INTEGER PRIMARY KEY NOT NULL, B_NAME TEXT NOT NULL, B_NUM_TRADES INTEGER NOT NULL, "
    ++ codes "B_COMM_TOTAL INTEGER NOT NULL) STRICT"
create_table_text Customers =
    codes "CREATE TABLE CUSTOMER (C_ID INTEGER PRIMARY KEY NOT NULL, C_TIER INTEGER NOT NULL, C_TAX_ID TEXT NOT NULL UNIQUE, "
    ++ codes "C_L_NAME TEXT NOT NULL, C_F_NAME TEXT NOT NULL) STRICT"
create_table_text Accounts =
    codes "CREATE TABLE CUSTOMER_ACCOUNT (CA_ID INTEGER PRIMARY KEY NOT NULL, CA_C_ID INTEGER NOT NULL REFERENCES CUSTOMER (C_ID), "
    ++ codes "CA_B_ID INTEGER NOT NULL REFERENCES BROKER (B_ID), CA_NAME TEXT NOT NULL, CA_TAX_ST INTEGER NOT NULL, CA_OPEN INTEGER NOT NULL, "
    ++ codes "CA_BAL INTEGER NOT NULL) STRICT"
create_table_text Permissions =
    codes "CREATE TABLE ACCOUNT_PERMISSION (AP_CA_ID INTEGER NOT NULL REFERENCES CUSTOMER_ACCOUNT (CA_ID), AP_TAX_ID TEXT NOT NULL, "
    ++ codes "AP_ACL TEXT NOT NULL, AP_L_NAME TEXT NOT NULL, AP_F_NAME TEXT NOT NULL, PRIMARY KEY (AP_CA_ID, AP_TAX_ID)) STRICT"
create_table_text Securities =
    codes "CREATE TABLE SECURITY (S_SYMB TEXT NOT NULL PRIMARY KEY, S_NAME TEXT NOT NULL, S_EX_ID TEXT NOT NULL, "
    ++ codes "S_SECTOR TEXT NOT NULL) STRICT"
create_table_text LastTrades =
    codes "CREATE TABLE LAST_TRADE (LT_S_SYMB TEXT NOT NULL PRIMARY KEY REFERENCES SECURITY (S_SYMB), LT_DTS INTEGER NOT NULL, "
    ++ codes "LT_PRICE INTEGER NOT NULL, LT_VOL INTEGER NOT NULL) STRICT"
create_table_text Charges =
    codes "CREATE TABLE CHARGE (CH_TT_ID TEXT NOT NULL, CH_C_TIER INTEGER NOT NULL, CH_CHRG INTEGER NOT NULL, "
    ++ codes "PRIMARY KEY (CH_TT_ID, CH_C_TIER)) STRICT"
create_table_text Bands =
    codes "CREATE TABLE COMMISSION_RATE (CR_C_TIER INTEGER NOT NULL, CR_TT_ID TEXT NOT NULL, CR_EX_ID TEXT NOT NULL, "
    ++ codes "CR_FROM_QTY INTEGER NOT NULL, CR_TO_QTY INTEGER NOT NULL, CR_RATE INTEGER NOT NULL, "
    ++ codes "PRIMARY KEY (CR_C_TIER, CR_TT_ID, CR_EX_ID, CR_FROM_QTY)) STRICT"
create_table_text TaxRates = codes "CREATE TABLE TAXRATE (TX_ID INTEGER PRIMARY KEY NOT NULL, TX_NAME TEXT NOT NULL, TX_RATE INTEGER NOT NULL) STRICT"
create_table_text CustomerTaxes =
    codes "CREATE TABLE CUSTOMER_TAXRATE (CX_C_ID INTEGER NOT NULL REFERENCES CUSTOMER (C_ID), "
    ++ codes "CX_TX_ID INTEGER NOT NULL REFERENCES TAXRATE (TX_ID), PRIMARY KEY (CX_C_ID, CX_TX_ID)) STRICT"
create_table_text Trades =
    codes "CREATE TABLE TRADE (T_ID INTEGER PRIMARY KEY NOT NULL, T_DTS INTEGER NOT NULL, T_ST_ID TEXT NOT NULL, T_TT_ID TEXT NOT NULL, "
    ++ codes "T_IS_CASH INTEGER NOT NULL, T_S_SYMB TEXT NOT NULL REFERENCES SECURITY (S_SYMB), T_QTY INTEGER NOT NULL, "
    ++ codes "T_BID_PRICE INTEGER NOT NULL, T_CA_ID INTEGER NOT NULL REFERENCES CUSTOMER_ACCOUNT (CA_ID), T_EXEC_NAME TEXT NOT NULL, "
    ++ codes "T_TRADE_PRICE INTEGER, T_CHRG INTEGER NOT NULL, T_COMM INTEGER NOT NULL, T_TAX INTEGER NOT NULL, T_LIFO INTEGER NOT NULL) STRICT"
create_table_text TradeHistory =
    codes "CREATE TABLE TRADE_HISTORY (TH_T_ID INTEGER NOT NULL REFERENCES TRADE (T_ID), TH_ST_ID TEXT NOT NULL, TH_DTS INTEGER NOT NULL, "
    ++ codes "PRIMARY KEY (TH_T_ID, TH_ST_ID)) STRICT"
create_table_text Requests =
    codes "CREATE TABLE TRADE_REQUEST (TR_T_ID INTEGER PRIMARY KEY NOT NULL REFERENCES TRADE (T_ID), TR_TT_ID TEXT NOT NULL, "
    ++ codes "TR_S_SYMB TEXT NOT NULL REFERENCES SECURITY (S_SYMB), TR_QTY INTEGER NOT NULL, TR_BID_PRICE INTEGER NOT NULL, "
    ++ codes "TR_B_ID INTEGER NOT NULL REFERENCES BROKER (B_ID)) STRICT"
create_table_text Holdings =
    codes "CREATE TABLE HOLDING (H_T_ID INTEGER PRIMARY KEY NOT NULL REFERENCES TRADE (T_ID), "
    ++ codes "H_CA_ID INTEGER NOT NULL REFERENCES CUSTOMER_ACCOUNT (CA_ID), H_S_SYMB TEXT NOT NULL REFERENCES SECURITY (S_SYMB), "
    ++ codes "H_DTS INTEGER NOT NULL, H_PRICE INTEGER NOT NULL, H_QTY INTEGER NOT NULL) STRICT"
create_table_text Summaries =
    codes "CREATE TABLE HOLDING_SUMMARY (HS_CA_ID INTEGER NOT NULL REFERENCES CUSTOMER_ACCOUNT (CA_ID), "
    ++ codes "HS_S_SYMB TEXT NOT NULL REFERENCES SECURITY (S_SYMB), HS_QTY INTEGER NOT NULL, PRIMARY KEY (HS_CA_ID, HS_S_SYMB)) STRICT"
create_table_text HoldingHistory =
    codes "CREATE TABLE HOLDING_HISTORY (HH_H_T_ID INTEGER NOT NULL REFERENCES TRADE (T_ID), "
    ++ codes "HH_T_ID INTEGER NOT NULL REFERENCES TRADE (T_ID), HH_BEFORE_QTY INTEGER NOT NULL, HH_AFTER_QTY INTEGER NOT NULL, "
    ++ codes "PRIMARY KEY (HH_H_T_ID, HH_T_ID)) STRICT"
create_table_text Settlements =
    codes "CREATE TABLE SETTLEMENT (SE_T_ID INTEGER PRIMARY KEY NOT NULL REFERENCES TRADE (T_ID), SE_CASH_TYPE TEXT NOT NULL, "
    ++ codes "SE_CASH_DUE_DATE INTEGER NOT NULL, SE_AMT INTEGER NOT NULL) STRICT"
create_table_text CashRows =
    codes "CREATE TABLE CASH_TRANSACTION (CT_T_ID INTEGER PRIMARY KEY NOT NULL REFERENCES TRADE (T_ID), CT_DTS INTEGER NOT NULL, "
    ++ codes "CT_AMT INTEGER NOT NULL, CT_NAME TEXT NOT NULL) STRICT"
create_table_text CashMoves =
    codes "CREATE TABLE CASH_MOVE (CM_ID INTEGER PRIMARY KEY NOT NULL, CM_CA_ID INTEGER NOT NULL REFERENCES CUSTOMER_ACCOUNT (CA_ID), "
    ++ codes "CM_T_ID INTEGER UNIQUE REFERENCES TRADE (T_ID), CM_DTS INTEGER NOT NULL, CM_AMT INTEGER NOT NULL, CM_NAME TEXT NOT NULL) STRICT"
create_table_text SettleRules = codes "CREATE TABLE SETTLE_RULE (SR_ID INTEGER PRIMARY KEY NOT NULL, SR_DAY INTEGER NOT NULL) STRICT"

-- The text of the statement that deletes all rows of the table `w`. A look-up by name compiles it,
-- without executing it, to test whether a table of this name exists.
abbrev pub existence_probe_text : DeskTable → List ℕ
existence_probe_text w = codes "DELETE FROM " ++ table_name w
