-- Two rows of a table have different keys.
use Rattle.std.proofs.Common.{◌≡◌, ◌⊎◌, pos, [], ◌∷◌, take, is_eq, refl, ap, inl, inr}
use Rattle.sqlite_value.specs.declared.value.Value.TheVariants.{Int}
use Rattle.sqlite_value.specs.Order.{column}
use Rattle.sqlite_value.proofs.OrderLemmas.{then-Equal}
use Rattle.brk_model.specs.Keys.{history_key, summary_key, holding_history_key}
use Rattle.brk_tables_sql.proofs.Writes.{IsRowidKey, IsUniqueKey}
use Rattle.brk_tables_schema.specs.Desk.{DeskTable, TheDesk, KeptRows, Brokers, Customers, Accounts, Permissions, Securities, LastTrades, Charges, Bands}
use Rattle.brk_tables_schema.specs.Desk.{TaxRates, CustomerTaxes, Trades, TradeHistory, Requests, Holdings, Summaries, HoldingHistory, Settlements, CashRows}
use Rattle.brk_tables_schema.specs.Desk.{CashMoves, SettleRules, table_definition_at_tree, encoded_row, ordering_by_primary_key}
use Rattle.brk_tables_schema.proofs.Places.{desk_keyed, broker_keyed, customer_keyed, account_keyed, tax_rate_keyed}
use Rattle.brk_tables_schema.proofs.Unique.{same_key, kept_keyed, permission_keyed, security_keyed, last_trade_keyed, charge_keyed, band_keyed, customer_tax_keyed}

-- the key is the rowid, or what a UNIQUE names
abbrev pub IsOnce : DeskTable → Type 0
IsOnce w = IsRowidKey (table_definition_at_tree w) (encoded_row w) (ordering_by_primary_key w) ⊎ IsUniqueKey (table_definition_at_tree w) (encoded_row w) (ordering_by_primary_key w)

pub desk_row_once : IsOnce TheDesk
desk_row_once = inl desk_keyed

pub broker_once : IsOnce Brokers
broker_once = inl broker_keyed

pub customer_once : IsOnce Customers
customer_once = inl customer_keyed

pub account_once : IsOnce Accounts
account_once = inl account_keyed

pub tax_rate_once : IsOnce TaxRates
tax_rate_once = inl tax_rate_keyed

pub kept_once : IsOnce KeptRows
kept_once = inr kept_keyed

pub permission_once : IsOnce Permissions
permission_once = inr permission_keyed

pub security_once : IsOnce Securities
security_once = inr security_keyed

pub last_trade_once : IsOnce LastTrades
last_trade_once = inr last_trade_keyed

pub charge_once : IsOnce Charges
charge_once = inr charge_keyed

pub band_once : IsOnce Bands
band_once = inr band_keyed

pub customer_tax_once : IsOnce CustomerTaxes
customer_tax_once = inr customer_tax_keyed

pub trade_once : IsOnce Trades
trade_once =
    inl (λ tree r s x y e f. let a : column r 0 ≡ Int (pos x.id) = cc in let b : column s 0 ≡ Int (pos y.id) = cc in rw (a, b) (ap is_eq (then-Equal _)))

pub request_once : IsOnce Requests
request_once =
    inl (λ tree r s x y e f. let a : column r 0 ≡ Int (pos x.trade) = cc in let b : column s 0 ≡ Int (pos y.trade) = cc in rw (a, b) (ap is_eq (then-Equal _)))

pub holding_once : IsOnce Holdings
holding_once =
    inl (λ tree r s x y e f. let a : column r 0 ≡ Int (pos x.trade) = cc in let b : column s 0 ≡ Int (pos y.trade) = cc in rw (a, b) (ap is_eq (then-Equal _)))

pub settlement_once : IsOnce Settlements
settlement_once =
    inl (λ tree r s x y e f. let a : column r 0 ≡ Int (pos x.trade) = cc in let b : column s 0 ≡ Int (pos y.trade) = cc in rw (a, b) (ap is_eq (then-Equal _)))

pub cash_once : IsOnce CashRows
cash_once =
    inl (λ tree r s x y e f. let a : column r 0 ≡ Int (pos x.trade) = cc in let b : column s 0 ≡ Int (pos y.trade) = cc in rw (a, b) (ap is_eq (then-Equal _)))

pub history_once : IsOnce TradeHistory
history_once = inr (record { key = 1 ∷ 2 ∷ []; first = λ tree. refl; tied = λ tree r s x y e f. same_key (history_key x) (history_key y) (1 ∷ 2 ∷ []) r s (ap (take 2) e) (ap (take 2) f) })

pub summary_once : IsOnce Summaries
summary_once = inr (record { key = 1 ∷ 2 ∷ []; first = λ tree. refl; tied = λ tree r s x y e f. same_key (summary_key x) (summary_key y) (1 ∷ 2 ∷ []) r s (ap (take 2) e) (ap (take 2) f) })

pub holding_history_once : IsOnce HoldingHistory
holding_history_once =
    inr (record {
      key = 1 ∷ 2 ∷ [];
      first = λ tree. refl;
      tied =
          λ tree r s x y e f. same_key (holding_history_key x) (holding_history_key y) (1 ∷ 2 ∷ []) r s (ap (take 2) e) (ap (take 2) f);
    })

pub move_once : IsOnce CashMoves
move_once =
    inl (λ tree r s x y e f. let a : column r 0 ≡ Int (pos x.id) = cc in let b : column s 0 ≡ Int (pos y.id) = cc in rw (a, b) (ap is_eq (then-Equal _)))

pub rule_once : IsOnce SettleRules
rule_once =
    inl (λ tree r s x y e f. let a : column r 0 ≡ Int (pos x.id) = cc in let b : column s 0 ≡ Int (pos y.id) = cc in rw (a, b) (ap is_eq (then-Equal _)))
