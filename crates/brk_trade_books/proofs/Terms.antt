-- The tables after a permission, a security, a charge, a band, a tax rate or a customer's tax is
-- added.
use Rattle.std.proofs.Common.{◌≡◌, ℕ, ◌==◌, List, [], ◌∷◌, ◌++◌, ◌∙◌, ap}
use Rattle.std.specs.Prelude.{flat_map, bytes_eq}
use Rattle.brk_money.specs.Spelling.{Text}
use Rattle.brk_model.specs.Records.{Permission, Security, Charge, Band, TaxRate, CustomerTax, Trade}
use Rattle.brk_model.specs.Base.{Base, completed_trades, is_completed}
use Rattle.brk_model.specs.Derived.{trades_of_account, shares_of_position, holding_summary_quantity, balance_of_account, trade_count_of_broker, commission_total_of_broker}
use Rattle.brk_model.specs.Tables.{tables_of_base_in_schema, security_row, last_trade_row, summary_rows}
use Rattle.brk_model.specs.Keys.{word, rows_sorted_by_key, permission_key, security_key, last_trade_key, charge_key, band_key, tax_rate_key, customer_tax_key, summary_key}
use Rattle.brk_model.specs.Sheets.{sheets, tables_sorted_by_key}
use Rattle.brk_model.specs.Commands.{Listing, AddPermission, AddSecurity, AddCharge, AddBand, AddTaxRate, AddCustomerTax}
use Rattle.brk_model.specs.Step.{security_of_listing, base_after_command_unstamped, base_after_accepted_command}
use Rattle.brk_trade_rows.specs.Changes.{tables_with_permission, tables_with_charge, tables_with_band, tables_with_tax_rate, tables_with_customer_tax, tables_with_last_stamp}
use Rattle.brk_trade_books.specs.Steps.{tables_with_listing}
use Rattle.brk_trade_books.proofs.Order.{NewKey, by_key-append}
use Rattle.brk_trade_books.proofs.Same.{NonePass, All-of, All-mapped, All-filter, filter-none, flat_map-append, flat_map-same}
use Rattle.brk_trade_books.proofs.References.{row_last, no_summary, append_nil}

-- ---- kinds that nothing follows from

pub permission_rows : (base : Base) (stamp : ℕ) (p : Permission) → NewKey permission_key p base.permissions
    → sheets (base_after_accepted_command base stamp (AddPermission p)) ≡ tables_with_last_stamp stamp (tables_with_permission p (sheets base))
unfolding tables_of_base_in_schema tables_sorted_by_key base_after_command_unstamped shares_of_position holding_summary_quantity balance_of_account trade_count_of_broker commission_total_of_broker
permission_rows base stamp p h =
    ap (λ rows. record (tables_with_last_stamp stamp (sheets base)) { permissions = rows }) (by_key-append permission_key base.permissions p h)

pub charge_rows : (base : Base) (stamp : ℕ) (c : Charge) → NewKey charge_key c base.charges
    → sheets (base_after_accepted_command base stamp (AddCharge c)) ≡ tables_with_last_stamp stamp (tables_with_charge c (sheets base))
unfolding tables_of_base_in_schema tables_sorted_by_key base_after_command_unstamped shares_of_position holding_summary_quantity balance_of_account trade_count_of_broker commission_total_of_broker
charge_rows base stamp c h = ap (λ rows. record (tables_with_last_stamp stamp (sheets base)) { charges = rows }) (by_key-append charge_key base.charges c h)

pub band_rows : (base : Base) (stamp : ℕ) (b : Band) → NewKey band_key b base.bands
    → sheets (base_after_accepted_command base stamp (AddBand b)) ≡ tables_with_last_stamp stamp (tables_with_band b (sheets base))
unfolding tables_of_base_in_schema tables_sorted_by_key base_after_command_unstamped shares_of_position holding_summary_quantity balance_of_account trade_count_of_broker commission_total_of_broker
band_rows base stamp b h = ap (λ rows. record (tables_with_last_stamp stamp (sheets base)) { bands = rows }) (by_key-append band_key base.bands b h)

pub tax_rate_rows : (base : Base) (stamp : ℕ) (r : TaxRate) → NewKey tax_rate_key r base.tax_rates
    → sheets (base_after_accepted_command base stamp (AddTaxRate r)) ≡ tables_with_last_stamp stamp (tables_with_tax_rate r (sheets base))
unfolding tables_of_base_in_schema tables_sorted_by_key base_after_command_unstamped shares_of_position holding_summary_quantity balance_of_account trade_count_of_broker commission_total_of_broker
tax_rate_rows base stamp r h = ap (λ rows. record (tables_with_last_stamp stamp (sheets base)) { tax_rates = rows }) (by_key-append tax_rate_key base.tax_rates r h)

pub customer_tax_rows : (base : Base) (stamp : ℕ) (x : CustomerTax) → NewKey customer_tax_key x base.customer_taxes
    → sheets (base_after_accepted_command base stamp (AddCustomerTax x)) ≡ tables_with_last_stamp stamp (tables_with_customer_tax x (sheets base))
unfolding tables_of_base_in_schema tables_sorted_by_key base_after_command_unstamped shares_of_position holding_summary_quantity balance_of_account trade_count_of_broker commission_total_of_broker
customer_tax_rows base stamp x h =
    ap (λ rows. record (tables_with_last_stamp stamp (sheets base)) { customer_taxes = rows }) (by_key-append customer_tax_key base.customer_taxes x h)

-- ---- a security: no trade is in it yet

no_summary_of_symbol : (base : Base) (account : ℕ) (symbol : Text) → NonePass (λ t. bytes_eq t.symbol symbol) base.trades
    → summary_rows (completed_trades base) account symbol ≡ []
no_summary_of_symbol base account symbol h =
    no_summary (completed_trades base) account symbol
    (filter-none (λ t. bytes_eq t.symbol symbol) (trades_of_account (completed_trades base) account)
    (All-filter _ (λ t. t.account == account) (completed_trades base) (All-filter _ is_completed base.trades h)))

pub security_rows : (base : Base) (stamp : ℕ) (l : Listing) → NewKey (λ r. word r.symbol ∷ []) (security_of_listing stamp l) base.securities
    → NonePass (λ t. bytes_eq t.symbol l.symbol) base.trades
    → sheets (base_after_accepted_command base stamp (AddSecurity l)) ≡ tables_with_last_stamp stamp (tables_with_listing stamp l (sheets base))
unfolding tables_of_base_in_schema tables_sorted_by_key base_after_command_unstamped shares_of_position holding_summary_quantity balance_of_account trade_count_of_broker commission_total_of_broker
security_rows base stamp l h unused =
    let s : Security = security_of_listing stamp l in
    let done : List Trade = completed_trades base in
    let rows = row_last security_key security_row base.securities s (All-mapped _ security_row base.securities h) in
    let lasts = row_last last_trade_key last_trade_row base.securities s (All-mapped _ last_trade_row base.securities h) in
    let sums : flat_map (λ a. flat_map (λ s. summary_rows done a.id s.symbol) (base.securities ++ s ∷ [])) base.accounts
    ≡ flat_map (λ a. flat_map (λ s. summary_rows done a.id s.symbol) base.securities) base.accounts =
    flat_map-same _ _ base.accounts (All-of base.accounts (λ a.
    flat_map-append (λ s. summary_rows done a.id s.symbol) base.securities (s ∷ [])
    ∙ ap (λ more. flat_map (λ s. summary_rows done a.id s.symbol) base.securities ++ (more ++ [])) (no_summary_of_symbol base a.id l.symbol unused)
    ∙ append_nil (flat_map (λ s. summary_rows done a.id s.symbol) base.securities))) in
    λ i. record (tables_with_last_stamp stamp (sheets base)) {
      securities = rows i;
      last_trades = lasts i;
      summaries = rows_sorted_by_key summary_key (sums i);
    }
