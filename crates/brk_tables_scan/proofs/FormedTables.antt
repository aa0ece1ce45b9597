-- The rows of well-formed tables are well-formed column by column, table by table.
use Rattle.std.proofs.Common.{◌≡◌, ℕ, List, [], ◌∷◌, Bool, true, false, Option, Some, None, map, refl, sym, ap, subst, is_some, is_none}
use Rattle.std.specs.Prelude.{bytes_eq, ◌&&◌, ◌≤◌, if◌then◌else◌, nat_le}
use Rattle.std.specs.List.{list_all, list_any}
use Rattle.std.specs.Option.{option_map_or}
use Rattle.std.specs.Str.{is_utf8}
use Rattle.std.proofs.lemmas.Bool.{and_parts, eq-eqb}
use Rattle.sqlite_value.specs.Order.{Row}
use Rattle.brk_money.specs.Spelling.{is_within_amount_limit}
use Rattle.brk_money.specs.Moments.{greatest_day, greatest_stamp}
use Rattle.brk_model.specs.Limits.{greatest_tax_rate, greatest_charge, greatest_amount}
use Rattle.brk_model.specs.Forms.{is_name, is_tax_id, is_symbol, is_exchange, is_batch_name, is_acl}
use Rattle.brk_model.specs.Joins.{trade_row_with_id}
use Rattle.brk_model.specs.Form.{is_id, is_tier, is_price, is_cash_type_of_trade, is_cash_row_name_of_trade, satisfies_form_condition, is_well_formed_kept_row}
use Rattle.brk_model.specs.Form.{is_well_formed_broker_row, is_well_formed_customer_row, is_well_formed_account_row, is_well_formed_permission_row}
use Rattle.brk_model.specs.Form.{is_well_formed_security_row, is_well_formed_last_trade_row, is_well_formed_charge_row, is_well_formed_band_row}
use Rattle.brk_model.specs.Form.{is_well_formed_tax_rate_row, is_well_formed_customer_tax_row, is_well_formed_trade_row, is_well_formed_history_row}
use Rattle.brk_model.specs.Form.{is_well_formed_request_row, is_well_formed_holding_row, is_well_formed_summary_row, is_well_formed_holding_history_row}
use Rattle.brk_model.specs.Form.{is_well_formed_settlement_row, is_well_formed_cash_transaction_row, is_well_formed_cash_move_row, has_cash_row_name_of_trade}
use Rattle.brk_model.specs.Form.{is_movement_name_and_amount, is_cash_row_number, has_account, is_at_most_last_stamp, has_utf8_texts, has_customer, has_broker}
use Rattle.brk_model.specs.Form.{is_quantity_in_schema, has_security, has_price_matching_completion}
use Rattle.brk_model.specs.Schemas.{Schema, third_schema}
use Rattle.brk_model.specs.Tables.{Tables, CashRow}
use Rattle.brk_model_theorems.specs.FormParts.{SatisfiesFormParts}
use Rattle.brk_model_theorems.proofs.Conjunctions.{parts3, parts4, parts5, parts6, parts10}
use Rattle.brk_model_theorems.proofs.FormParts.{form_parts}
use Rattle.brk_tables_schema.specs.Cells.{flag_as_value, optional_natural_as_value, desk_row_cells, kept_cells, broker_cells, customer_cells, account_cells}
use Rattle.brk_tables_schema.specs.Cells.{permission_cells, security_cells, last_trade_cells, charge_cells, band_cells, tax_rate_cells, customer_tax_cells}
use Rattle.brk_tables_schema.specs.Cells.{trade_cells, history_cells, request_cells, holding_cells, summary_cells, holding_history_cells, settlement_cells}
use Rattle.brk_tables_schema.specs.Cells.{cash_cells, move_cells, rule_cells}
use Rattle.brk_tables_schema.specs.Desk.{DeskTable, TheDesk, KeptRows, Brokers, Customers, Accounts, Permissions, Securities, LastTrades, Charges, Bands}
use Rattle.brk_tables_schema.specs.Desk.{TaxRates, CustomerTaxes, Trades, TradeHistory, Requests, Holdings, Summaries, HoldingHistory, Settlements, CashRows}
use Rattle.brk_tables_schema.specs.Desk.{CashMoves, SettleRules, desk_rows, rule_rows, encoded_row, rows_of_table_in_schema}
use Rattle.brk_tables_schema.specs.Formed.{passes_all_cell_checks, has_one_valid_desk_row, is_flag_cell, is_null_or_natural_cell, kept_column_cell_checks}
use Rattle.brk_tables_schema.specs.Formed.{broker_column_cell_checks, customer_column_cell_checks, account_column_cell_checks, permission_column_cell_checks}
use Rattle.brk_tables_schema.specs.Formed.{security_column_cell_checks, last_trade_column_cell_checks, charge_column_cell_checks, band_column_cell_checks}
use Rattle.brk_tables_schema.specs.Formed.{tax_rate_column_cell_checks, customer_tax_column_cell_checks, trade_column_cell_checks, history_column_cell_checks}
use Rattle.brk_tables_schema.specs.Formed.{request_column_cell_checks, holding_column_cell_checks, summary_column_cell_checks}
use Rattle.brk_tables_schema.specs.Formed.{holding_history_column_cell_checks, settlement_column_cell_checks, cash_column_cell_checks, move_column_cell_checks}
use Rattle.brk_tables_schema.specs.Formed.{has_at_most_one_valid_rule_row}
use Rattle.brk_tables_scan.specs.Raw.{raw_rows_of_table}
use Rattle.brk_tables_scan.specs.declared.all_tables.RawSheets.{RawSheets}
use Rattle.brk_tables_scan.specs.Decoded.{are_raw_sheets_well_formed}
use Rattle.brk_tables_scan.proofs.InForm.{both, each_formed, customer_id, broker_id, tax_id, account_id, trade_id, symbol_of, stamp_of, type_formed}
use Rattle.brk_tables_scan.proofs.InForm.{status_formed, tax_status_formed, cash_word_formed, wider}

all_both : {X : Type 0} (p q : X → Bool) (xs : List X) → list_all p xs ≡ true → list_all q xs ≡ true → list_all (λ x. p x && q x) xs ≡ true
all_both p q [] h k = refl
all_both p q (x ∷ xs) h k = let a = and_parts (p x) (list_all p xs) h in let b = and_parts (q x) (list_all q xs) k in both (both a.0 b.0) (all_both p q xs a.1 b.1)

flag_formed : (b : Bool) → is_flag_cell (flag_as_value b) ≡ true
flag_formed true = refl
flag_formed false = refl

price_formed : (b : Bool) (price : Option ℕ) → (if b then option_map_or is_price price false else is_none price) ≡ true → is_null_or_natural_cell is_price (optional_natural_as_value price) ≡ true
price_formed b None h = refl
price_formed true (Some n) h = h
price_formed false (Some n) h = absurd (let e = h in cc)

some_of : {X : Type 0} (o : Option X) (f : X → Bool) → option_map_or f o false ≡ true → (x : X) × (o ≡ Some x) × (f x ≡ true)
some_of None f h = absurd (let e = h in cc)
some_of (Some x) f h = (x, refl, h)

desk_formed : (schema : Schema) (last : Option ℕ) → option_map_or (λ last. nat_le last greatest_stamp) last true ≡ true
    → has_one_valid_desk_row schema (map desk_row_cells (desk_rows schema last)) ≡ true
desk_formed schema None h = both refl (both (eq-eqb schema.number schema.number refl) refl)
desk_formed schema (Some n) h = both refl (both (eq-eqb schema.number schema.number refl) (both h refl))

rule_formed : (rule : Option ℕ) → option_map_or (λ day. nat_le day greatest_day) rule true ≡ true → has_at_most_one_valid_rule_row (map rule_cells (rule_rows rule)) ≡ true
rule_formed None h = refl
rule_formed (Some day) h = both refl (both h refl)

module _ (schema : Schema) (narrow : schema.greatest_qty ≤ third_schema.greatest_qty) (t : Tables) (p : SatisfiesFormParts schema t) where
  kept_formed : list_all (λ k. is_utf8 k.row_text && is_utf8 k.line) t.kept ≡ true → list_all (passes_all_cell_checks kept_column_cell_checks) (map kept_cells t.kept) ≡ true
  kept_formed texts = each_formed kept_column_cell_checks kept_cells (λ k. is_well_formed_kept_row k && (is_utf8 k.row_text && is_utf8 k.line))
      (λ k h. let a = and_parts (is_well_formed_kept_row k) (is_utf8 k.row_text && is_utf8 k.line) h in
      let b = and_parts (is_batch_name k.key.batch) (is_id k.key.n) a.0 in let c = and_parts (is_utf8 k.row_text) (is_utf8 k.line) a.1 in
      both b.0 (both b.1 (both c.0 (both c.1 refl)))) t.kept (all_both is_well_formed_kept_row _ t.kept p.kept texts)

  brokers_formed : list_all (passes_all_cell_checks broker_column_cell_checks) (map broker_cells t.brokers) ≡ true
  brokers_formed = each_formed broker_column_cell_checks broker_cells is_well_formed_broker_row (λ b h. let q = parts3 _ _ _ h in both q.0 (both q.1 (both refl (both refl refl)))) t.brokers p.brokers

  customers_formed : list_all (passes_all_cell_checks customer_column_cell_checks) (map customer_cells t.customers) ≡ true
  customers_formed = each_formed customer_column_cell_checks customer_cells is_well_formed_customer_row
      (λ c h. let q = parts5 (is_id c.id) (is_tier c.tier) (is_tax_id c.tax_id) (is_name c.last_name) (is_name c.first_name) h in
      both q.0 (both q.1 (both q.2 (both q.3 (both q.4 refl))))) t.customers p.customers

  accounts_formed : list_all (passes_all_cell_checks account_column_cell_checks) (map account_cells t.accounts) ≡ true
  accounts_formed = each_formed account_column_cell_checks account_cells (is_well_formed_account_row t)
      (λ a h. let q = parts6 (is_id a.id) (is_name a.name) (is_within_amount_limit a.opening) (is_within_amount_limit a.balance) (has_customer t a.customer)
      (has_broker t a.broker) h in
      both q.0 (both (customer_id schema t p a.customer q.4)
      (both (broker_id schema t p a.broker q.5) (both q.1 (both (tax_status_formed a.tax_status) (both q.2 (both q.3 refl))))))) t.accounts p.accounts

  permissions_formed : list_all (passes_all_cell_checks permission_column_cell_checks) (map permission_cells t.permissions) ≡ true
  permissions_formed = each_formed permission_column_cell_checks permission_cells (is_well_formed_permission_row t)
      (λ a h. let q = parts5 (is_acl a.acl) (is_tax_id a.tax_id) (is_name a.last_name) (is_name a.first_name) (has_account t a.account) h in
      both (account_id schema t p a.account q.4) (both q.1 (both q.0 (both q.2 (both q.3 refl))))) t.permissions p.permissions

  securities_formed : list_all (passes_all_cell_checks security_column_cell_checks) (map security_cells t.securities) ≡ true
  securities_formed = each_formed security_column_cell_checks security_cells (is_well_formed_security_row t)
      (λ s h. let q = parts5 (is_symbol s.symbol) (is_name s.name) (is_exchange s.exchange) (is_name s.sector)
      (list_any (λ l. bytes_eq l.symbol s.symbol) t.last_trades) h in both q.0 (both q.1 (both q.2 (both q.3 refl)))) t.securities p.securities

  last_trades_formed : list_all (passes_all_cell_checks last_trade_column_cell_checks) (map last_trade_cells t.last_trades) ≡ true
  last_trades_formed = each_formed last_trade_column_cell_checks last_trade_cells (is_well_formed_last_trade_row t)
      (λ l h. let q = parts4 _ _ _ _ h in both (symbol_of schema t p l.symbol q.0) (both (stamp_of schema t p l.stamp q.1) (both q.2 (both q.3 refl))))
      t.last_trades p.last_trades

  charges_formed : list_all (passes_all_cell_checks charge_column_cell_checks) (map charge_cells t.charges) ≡ true
  charges_formed = each_formed charge_column_cell_checks charge_cells is_well_formed_charge_row
      (λ c h. let q = and_parts _ _ h in both (type_formed c.kind) (both q.0 (both q.1 refl))) t.charges p.charges

  bands_formed : list_all (passes_all_cell_checks band_column_cell_checks) (map band_cells t.bands) ≡ true
  bands_formed = each_formed band_column_cell_checks band_cells (is_well_formed_band_row schema)
      (λ b h. let q = parts6 _ _ _ _ _ _ h in
      both q.0 (both (type_formed b.kind) (both q.1 (both (wider schema narrow b.from_qty q.2) (both (wider schema narrow b.to_qty q.3) (both q.5 refl))))))
      t.bands p.bands

  tax_rates_formed : list_all (passes_all_cell_checks tax_rate_column_cell_checks) (map tax_rate_cells t.tax_rates) ≡ true
  tax_rates_formed = each_formed tax_rate_column_cell_checks tax_rate_cells is_well_formed_tax_rate_row
      (λ r h. let q = parts3 (is_id r.id) (is_name r.name) (nat_le r.rate greatest_tax_rate) h in both q.0 (both q.1 (both q.2 refl))) t.tax_rates p.tax_rates

  customer_taxes_formed : list_all (passes_all_cell_checks customer_tax_column_cell_checks) (map customer_tax_cells t.customer_taxes) ≡ true
  customer_taxes_formed =
      each_formed customer_tax_column_cell_checks customer_tax_cells (is_well_formed_customer_tax_row t)
      (λ x h. let q = and_parts _ _ h in both (customer_id schema t p x.customer q.0) (both (tax_id schema t p x.tax q.1) refl)) t.customer_taxes
      p.customer_taxes

  trades_formed : list_all (λ r. is_utf8 r.executor) t.trades ≡ true → list_all (passes_all_cell_checks trade_column_cell_checks) (map trade_cells t.trades) ≡ true
  trades_formed texts = each_formed trade_column_cell_checks trade_cells (λ r. is_well_formed_trade_row schema t r && is_utf8 r.executor)
      (λ r h.
      let both_parts = and_parts (is_well_formed_trade_row schema t r) _ h in
      let q = parts10 (is_id r.id) (is_quantity_in_schema schema r.qty) (is_price r.bid) (nat_le r.charge greatest_charge) (nat_le r.commission greatest_amount) (nat_le r.tax greatest_amount)
      (is_at_most_last_stamp t r.stamp) (has_security t r.symbol) (has_account t r.account) (has_price_matching_completion t r) both_parts.0 in
      both q.0 (both (stamp_of schema t p r.stamp q.6)
      (both (status_formed r.status)
      (both (type_formed r.kind)
      (both (flag_formed r.is_cash)
      (both (symbol_of schema t p r.symbol q.7) (both (wider schema narrow r.qty q.1) (both q.2 (both (account_id schema t p r.account q.8)
      (both both_parts.1 (both (price_formed _ r.price q.9) (both q.3 (both q.4 (both q.5 (both (flag_formed r.is_lifo) refl)))))))))))))))
      t.trades (all_both (is_well_formed_trade_row schema t) _ t.trades p.trades texts)

  history_formed : list_all (passes_all_cell_checks history_column_cell_checks) (map history_cells t.history) ≡ true
  history_formed = each_formed history_column_cell_checks history_cells (is_well_formed_history_row t)
      (λ r h. let q = parts3 _ _ _ h in both (trade_id schema t p r.trade q.0) (both (status_formed r.status) (both (stamp_of schema t p r.stamp q.1) refl)))
      t.history p.history

  requests_formed : list_all (passes_all_cell_checks request_column_cell_checks) (map request_cells t.requests) ≡ true
  requests_formed = each_formed request_column_cell_checks request_cells (is_well_formed_request_row schema t)
      (λ r h. let q = parts5 _ _ _ _ _ h in
      both (trade_id schema t p r.trade q.0)
      (both (type_formed r.kind)
      (both (symbol_of schema t p r.symbol q.1) (both (wider schema narrow r.qty q.2) (both q.3 (both (broker_id schema t p r.broker q.4) refl))))))
      t.requests p.requests

  holdings_formed : list_all (passes_all_cell_checks holding_column_cell_checks) (map holding_cells t.holdings) ≡ true
  holdings_formed = each_formed holding_column_cell_checks holding_cells (is_well_formed_holding_row t)
      (λ r h. let q = parts5 _ _ _ _ _ h in
      both (trade_id schema t p r.trade q.0)
      (both (account_id schema t p r.account q.1)
      (both (symbol_of schema t p r.symbol q.2) (both (stamp_of schema t p r.stamp q.3) (both q.4 (both refl refl)))))) t.holdings p.holdings

  summaries_formed : list_all (passes_all_cell_checks summary_column_cell_checks) (map summary_cells t.summaries) ≡ true
  summaries_formed = each_formed summary_column_cell_checks summary_cells (is_well_formed_summary_row schema t)
      (λ r h. let q = parts3 _ _ _ h in both (account_id schema t p r.account q.0) (both (symbol_of schema t p r.symbol q.1) (both refl refl))) t.summaries
      p.summaries

  holding_history_formed : list_all (passes_all_cell_checks holding_history_column_cell_checks) (map holding_history_cells t.holding_history) ≡ true
  holding_history_formed =
      each_formed holding_history_column_cell_checks holding_history_cells (is_well_formed_holding_history_row t)
      (λ r h. let q = and_parts _ _ h in both (trade_id schema t p r.lot q.0) (both (trade_id schema t p r.trade q.1) (both refl (both refl refl))))
      t.holding_history p.holding_history

  settlements_formed : list_all (passes_all_cell_checks settlement_column_cell_checks) (map settlement_cells t.settlements) ≡ true
  settlements_formed = each_formed settlement_column_cell_checks settlement_cells (is_well_formed_settlement_row t)
      (λ r h. let q = parts3 _ _ _ h in let s = some_of (trade_row_with_id t r.trade) (λ row. is_cash_type_of_trade row.is_cash r.cash_type) q.0 in
      both (trade_id schema t p r.trade (ap is_some s.1)) (both (cash_word_formed s.0.is_cash r.cash_type s.2) (both q.1 (both q.2 refl)))) t.settlements p.settlements

  cash_formed : list_all (λ r. is_utf8 r.name) t.cash ≡ true → list_all (passes_all_cell_checks cash_column_cell_checks) (map cash_cells t.cash) ≡ true
  cash_formed texts = each_formed cash_column_cell_checks cash_cells (λ r. is_well_formed_cash_transaction_row t r && is_utf8 r.name)
      (λ r h. let a = and_parts (is_well_formed_cash_transaction_row t r) _ h in let q = parts3 _ _ _ a.0 in let s = some_of (trade_row_with_id t r.trade) (is_cash_row_name_of_trade t r.name) q.0 in
      both (trade_id schema t p r.trade (ap is_some s.1)) (both (stamp_of schema t p r.stamp q.1) (both q.2 (both a.1 refl)))) t.cash
      (all_both (is_well_formed_cash_transaction_row t) _ t.cash p.cash texts)

  cash_of_formed : (r : CashRow) (trade : Option ℕ) → option_map_or (has_cash_row_name_of_trade t r) trade (is_movement_name_and_amount r.name r.amount) ≡ true
      → is_null_or_natural_cell is_id (optional_natural_as_value trade) ≡ true
  cash_of_formed r None h = refl
  cash_of_formed r (Some id) h = let s = some_of (trade_row_with_id t id) (is_cash_row_name_of_trade t r.name) h in trade_id schema t p id (ap is_some s.1)

  moves_formed : list_all (λ r. is_utf8 r.name) t.moves ≡ true → list_all (passes_all_cell_checks move_column_cell_checks) (map move_cells t.moves) ≡ true
  moves_formed texts = each_formed move_column_cell_checks move_cells (λ r. is_well_formed_cash_move_row t r && is_utf8 r.name)
      (λ r h. let a = and_parts (is_well_formed_cash_move_row t r) _ h in
      let q = parts5 (is_cash_row_number r.id) (has_account t r.account)
      (option_map_or (has_cash_row_name_of_trade t r) r.trade (is_movement_name_and_amount r.name r.amount)) (is_at_most_last_stamp t r.stamp)
      (is_within_amount_limit r.amount) a.0 in
      both q.0 (both (account_id schema t p r.account q.1)
      (both (cash_of_formed r r.trade q.2) (both (stamp_of schema t p r.stamp q.3) (both q.4 (both a.1 refl)))))) t.moves
      (all_both (is_well_formed_cash_move_row t) _ t.moves p.moves texts)

pub tables_formed : (schema : Schema) → schema.greatest_qty ≤ third_schema.greatest_qty → (t : Tables) (kept : List Row) (raw : RawSheets)
    → ((w : DeskTable) → raw_rows_of_table kept raw w ≡ map (encoded_row w) (rows_of_table_in_schema schema w t)) → satisfies_form_condition schema t ≡ true
    → has_utf8_texts t ≡ true → are_raw_sheets_well_formed schema kept raw ≡ true
tables_formed schema narrow t kept raw same form texts =
    let p = form_parts schema t form in
    let q = parts4 _ _ _ _ texts in
    both (subst (λ rows. list_all (passes_all_cell_checks kept_column_cell_checks) rows ≡ true) (sym (same KeptRows)) (kept_formed schema narrow t p q.0))
    (both (both (both (both (both
    (both (both (subst (λ rows. has_one_valid_desk_row schema rows ≡ true) (sym (same TheDesk)) (desk_formed schema t.last p.clock))
    (subst (λ rows. list_all (passes_all_cell_checks broker_column_cell_checks) rows ≡ true) (sym (same Brokers)) (brokers_formed schema narrow t p)))
    (subst (λ rows. list_all (passes_all_cell_checks customer_column_cell_checks) rows ≡ true) (sym (same Customers)) (customers_formed schema narrow t p)))
    (both (both (both (subst (λ rows. list_all (passes_all_cell_checks account_column_cell_checks) rows ≡ true) (sym (same Accounts))
    (accounts_formed schema narrow t p))
    (subst (λ rows. list_all (passes_all_cell_checks permission_column_cell_checks) rows ≡ true) (sym (same Permissions))
    (permissions_formed schema narrow t p)))
    (subst (λ rows. list_all (passes_all_cell_checks security_column_cell_checks) rows ≡ true) (sym (same Securities)) (securities_formed schema narrow t p)))
    (subst (λ rows. list_all (passes_all_cell_checks last_trade_column_cell_checks) rows ≡ true) (sym (same LastTrades))
    (last_trades_formed schema narrow t p))))
    (both (both (both (subst (λ rows. list_all (passes_all_cell_checks charge_column_cell_checks) rows ≡ true) (sym (same Charges))
    (charges_formed schema narrow t p))
    (subst (λ rows. list_all (passes_all_cell_checks band_column_cell_checks) rows ≡ true) (sym (same Bands)) (bands_formed schema narrow t p)))
    (subst (λ rows. list_all (passes_all_cell_checks tax_rate_column_cell_checks) rows ≡ true) (sym (same TaxRates)) (tax_rates_formed schema narrow t p)))
    (subst (λ rows. list_all (passes_all_cell_checks customer_tax_column_cell_checks) rows ≡ true) (sym (same CustomerTaxes))
    (customer_taxes_formed schema narrow t p))))
    (both (both (both (subst (λ rows. list_all (passes_all_cell_checks trade_column_cell_checks) rows ≡ true) (sym (same Trades))
    (trades_formed schema narrow t p q.1))
    (subst (λ rows. list_all (passes_all_cell_checks history_column_cell_checks) rows ≡ true) (sym (same TradeHistory)) (history_formed schema narrow t p)))
    (subst (λ rows. list_all (passes_all_cell_checks request_column_cell_checks) rows ≡ true) (sym (same Requests)) (requests_formed schema narrow t p)))
    (subst (λ rows. list_all (passes_all_cell_checks holding_column_cell_checks) rows ≡ true) (sym (same Holdings)) (holdings_formed schema narrow t p))))
    (both (both (both (subst (λ rows. list_all (passes_all_cell_checks summary_column_cell_checks) rows ≡ true) (sym (same Summaries))
    (summaries_formed schema narrow t p))
    (subst (λ rows. list_all (passes_all_cell_checks holding_history_column_cell_checks) rows ≡ true) (sym (same HoldingHistory))
    (holding_history_formed schema narrow t p)))
    (subst (λ rows. list_all (passes_all_cell_checks settlement_column_cell_checks) rows ≡ true) (sym (same Settlements))
    (settlements_formed schema narrow t p)))
    (subst (λ rows. list_all (passes_all_cell_checks cash_column_cell_checks) rows ≡ true) (sym (same CashRows)) (cash_formed schema narrow t p q.2))))
    (both (subst (λ rows. list_all (passes_all_cell_checks move_column_cell_checks) rows ≡ true) (sym (same CashMoves)) (moves_formed schema narrow t p q.3))
    (subst (λ rows. has_at_most_one_valid_rule_row rows ≡ true) (sym (same SettleRules)) (rule_formed t.rule p.rule))))
