-- The audit condition `Form`: formats, limits, references and keys of the rows of a database.
use Rattle.std.specs.Prelude.{ℕ, Bool, true, false, not, ◌&&◌, ◌||◌, ◌==◌, nat_le, if◌then◌else◌, List, [], ◌∷◌, map, filter, find, length, Option, is_some}
use Rattle.std.specs.Prelude.{is_none, ℤ, pos, nat_abs, int_lt, codes, bytes_eq, flat_map, option_to_list}
use Rattle.std.specs.List.{list_any, list_all, range_with_len}
use Rattle.std.specs.Option.{option_map_or}
use Rattle.std.specs.Str.{is_utf8}
use Rattle.brk_money.specs.Spelling.{Text, is_within_amount_limit}
use Rattle.brk_money.specs.Moments.{greatest_day, greatest_stamp}
use Rattle.brk_money.specs.Kinds.{is_same_trade_status}
use Rattle.brk_money.specs.declared.status.Status.{Status}
use Rattle.brk_money.specs.declared.status.Status.TheVariants.{Completed}
use Rattle.brk_model.specs.Limits.{greatest_price, greatest_charge, greatest_commission_rate, greatest_tax_rate, greatest_amount, greatest_id}
use Rattle.brk_model.specs.Limits.{greatest_cash_row_number, most_accounts_per_customer, is_in_range}
use Rattle.brk_model.specs.Lists.{all_distinct}
use Rattle.brk_model.specs.Schemas.{Schema}
use Rattle.brk_model.specs.Records.{Customer, Permission, Charge, Band, TaxRate, CustomerTax, Key, Kept, SettleRule}
use Rattle.brk_model.specs.Base.{tax_rate_sum_of_customer, customer_with_id_in_list}
use Rattle.brk_model.specs.Tables.{Tables, BrokerRow, AccountRow, SecurityRow, LastTradeRow, TradeRow, HistoryRow, RequestRow, HoldingRow, SummaryRow}
use Rattle.brk_model.specs.Tables.{HoldingHistoryRow, SettlementRow, OldCashRow, CashRow}
use Rattle.brk_model.specs.Derived.{due_day_of_completion_stamp}
use Rattle.brk_model.specs.Results.{cash_row_name}
use Rattle.brk_model.specs.Tests.{bands_overlap}
use Rattle.brk_model.specs.Forms.{is_name, is_tax_id, is_symbol, is_exchange, is_acl, is_batch_name}
use Rattle.brk_model.specs.Joins.{history_rows_with_trade_id, trade_row_with_id, security_row_with_symbol, account_row_with_id}
use Rattle.brk_model.specs.Adopted.{base_of_tables, trade_of_row}
use Rattle.brk_model.specs.Keys.{KeyPart, is_key_less, kept_key, broker_key, customer_key, account_key, permission_key, security_key, last_trade_key}
use Rattle.brk_model.specs.Keys.{charge_key, band_key, tax_rate_key, customer_tax_key, trade_key, history_key, request_key, holding_key, summary_key}
use Rattle.brk_model.specs.Keys.{holding_history_key, settlement_key, cash_transaction_key, cash_move_key}

-- True if `n` is an id: from 1 to `greatest_id`, both included.
abbrev pub is_id : ℕ → Bool
is_id n = is_in_range 1 greatest_id n

-- True if `n` is the number of a cash row: from 1 to `greatest_cash_row_number`, both included.
abbrev pub is_cash_row_number : ℕ → Bool
is_cash_row_number n = is_in_range 1 greatest_cash_row_number n

-- True if `n` is a quantity of shares in the schema: from 1 to its greatest one, both included.
abbrev pub is_quantity_in_schema : Schema → ℕ → Bool
is_quantity_in_schema schema n = is_in_range 1 schema.greatest_qty n

-- True if the price `n`, in cents, is from 1 to `greatest_price`, both included.
abbrev pub is_price : ℕ → Bool
is_price n = is_in_range 1 greatest_price n

-- True if `n` is a customer tier: from 1 to 3.
abbrev pub is_tier : ℕ → Bool
is_tier n = is_in_range 1 3 n

-- True if the stamp is at most the last stamp `last`; false if `last` is `None`.
abbrev pub is_up_to_last_stamp : Option ℕ → ℕ → Bool
is_up_to_last_stamp last stamp = option_map_or (λ l. nat_le stamp l) last false

-- True if the stamp is not after the last stamp of the tables, which must exist.
abbrev pub is_at_most_last_stamp : Tables → ℕ → Bool
is_at_most_last_stamp tables stamp = is_up_to_last_stamp tables.last stamp

-- True if the last stamp `last` is at most the greatest stamp, or there is none.
abbrev pub is_last_stamp_in_calendar : Option ℕ → Bool
is_last_stamp_in_calendar last = option_map_or (λ l. nat_le l greatest_stamp) last true

-- True if the first day of one-day settlement, `rule`, is at most the greatest day, or is none.
abbrev pub is_one_day_settlement_start_in_calendar : SettleRule → Bool
is_one_day_settlement_start_in_calendar rule = option_map_or (λ day. nat_le day greatest_day) rule true

-- True if the tables have a TRADE row with the id `id`.
abbrev pub has_trade : Tables → ℕ → Bool
has_trade tables id = is_some (trade_row_with_id tables id)

-- True if the tables have a CUSTOMER_ACCOUNT row with the id `id`.
abbrev pub has_account : Tables → ℕ → Bool
has_account tables id = is_some (account_row_with_id tables id)

-- True if the tables have a SECURITY row with the symbol `symbol`.
abbrev pub has_security : Tables → Text → Bool
has_security tables symbol = is_some (security_row_with_symbol tables symbol)

-- True if the tables have a CUSTOMER row with the id `id`.
abbrev pub has_customer : Tables → ℕ → Bool
has_customer tables id = is_some (customer_with_id_in_list tables.customers id)

-- True if the tables have a BROKER row with the id `id`.
abbrev pub has_broker : Tables → ℕ → Bool
has_broker tables id = is_some (find (λ b. b.id == id) tables.brokers)

-- True if the batch name of the key is well-formed and its row number is an id (`is_id`).
abbrev pub is_well_formed_key : Key → Bool
is_well_formed_key key = is_batch_name key.batch && is_id key.n

-- True if the key of a KEPT row is well-formed; the texts of row and reply are not checked.
abbrev pub is_well_formed_kept_row : Kept → Bool
is_well_formed_kept_row k = is_well_formed_key k.key

-- True if the id and the name of a record are well-formed.
abbrev pub are_well_formed_id_and_name : ℕ → Text → Bool
are_well_formed_id_and_name id name = is_id id && is_name name

-- True if the id and the name of a row of BROKER are well-formed and its commission total is at
-- most `greatest_amount` cents; the trade count is not checked.
abbrev pub is_well_formed_broker_row : BrokerRow → Bool
is_well_formed_broker_row b = are_well_formed_id_and_name b.id b.name && nat_le b.commissions greatest_amount

-- True if the id, the tier, the tax id and both names of a row of CUSTOMER are well-formed.
abbrev pub is_well_formed_customer_row : Customer → Bool
is_well_formed_customer_row c =
    is_id c.id
    && is_tier c.tier
    && is_tax_id c.tax_id
    && is_name c.last_name
    && is_name c.first_name

-- True if the id and the name of an account are well-formed, and the absolute value of its opening
-- balance `opening`, in cents, is at most `greatest_amount`.
abbrev pub are_well_formed_account_fields : ℕ → Text → ℤ → Bool
are_well_formed_account_fields id name opening = are_well_formed_id_and_name id name && is_within_amount_limit opening

-- True if id and name of a row of CUSTOMER_ACCOUNT are well-formed, opening balance and balance are
-- at most `greatest_amount` cents in absolute value, and its customer and broker exist.
abbrev pub is_well_formed_account_row : Tables → AccountRow → Bool
is_well_formed_account_row t a =
    are_well_formed_account_fields a.id a.name a.opening
    && is_within_amount_limit a.balance
    && has_customer t a.customer
    && has_broker t a.broker

-- True if ACL, tax id and both names of a permission are well-formed; its account is not checked.
abbrev pub has_well_formed_permission_texts : Permission → Bool
has_well_formed_permission_texts p =
    is_acl p.acl
    && is_tax_id p.tax_id
    && is_name p.last_name
    && is_name p.first_name

-- True if ACL, tax id and both names of a permission are well-formed, and its account exists.
abbrev pub is_well_formed_permission_row : Tables → Permission → Bool
is_well_formed_permission_row t p = has_well_formed_permission_texts p && has_account t p.account

-- True if the symbol, the name, the exchange and the sector of a security are well-formed.
abbrev pub are_well_formed_listing_texts : Text → Text → Text → Text → Bool
are_well_formed_listing_texts symbol name exchange sector = is_symbol symbol && is_name name && is_exchange exchange && is_name sector

-- True if the texts of a row of SECURITY are well-formed and a LAST_TRADE row of its symbol exists.
abbrev pub is_well_formed_security_row : Tables → SecurityRow → Bool
is_well_formed_security_row t s =
    are_well_formed_listing_texts s.symbol s.name s.exchange s.sector
    && list_any (λ l. bytes_eq l.symbol s.symbol) t.last_trades

-- True if the security of a row of LAST_TRADE exists, its stamp is not after the last stamp, which
-- must exist, its price is within its limits, and its volume is at most `greatest_amount` shares.
abbrev pub is_well_formed_last_trade_row : Tables → LastTradeRow → Bool
is_well_formed_last_trade_row t l =
    has_security t l.symbol
    && is_at_most_last_stamp t l.stamp
    && is_price l.price
    && nat_le l.volume greatest_amount

-- True if the tier of a row of CHARGE is 1 to 3 and its amount at most `greatest_charge` cents.
abbrev pub is_well_formed_charge_row : Charge → Bool
is_well_formed_charge_row c = is_tier c.tier && nat_le c.amount greatest_charge

-- True if the tier and the exchange of the band are well-formed and both bounds are quantities in
-- the schema (`is_quantity_in_schema`); their order is not checked.
abbrev pub has_well_formed_tier_exchange_and_bounds : Schema → Band → Bool
has_well_formed_tier_exchange_and_bounds schema b =
    is_tier b.tier
    && is_exchange b.exchange
    && is_quantity_in_schema schema b.from_qty
    && is_quantity_in_schema schema b.to_qty

-- True if tier, exchange and bounds of a row of COMMISSION_RATE are well-formed, the lower bound is
-- at most the upper, and the rate, in hundredths of a percent, is within its limit.
abbrev pub is_well_formed_band_row : Schema → Band → Bool
is_well_formed_band_row schema b =
    has_well_formed_tier_exchange_and_bounds schema b
    && nat_le b.from_qty b.to_qty
    && nat_le b.rate greatest_commission_rate

-- True if id and name of a TAXRATE row are well-formed and its rate is at most `greatest_tax_rate`.
abbrev pub is_well_formed_tax_rate_row : TaxRate → Bool
is_well_formed_tax_rate_row r = are_well_formed_id_and_name r.id r.name && nat_le r.rate greatest_tax_rate

-- True if the customer and the tax rate of a row of CUSTOMER_TAXRATE exist.
abbrev pub is_well_formed_customer_tax_row : Tables → CustomerTax → Bool
is_well_formed_customer_tax_row t x = has_customer t x.customer && list_any (λ r. r.id == x.tax) t.tax_rates

-- True if `is_done` and there is a price within its limits, or not `is_done` and there is none.
abbrev pub has_price_exactly_if : Bool → Option ℕ → Bool
has_price_exactly_if is_done price = if is_done then option_map_or is_price price false else is_none price

-- True if the TRADE row has a valid price if TRADE_HISTORY has its completion, and none otherwise.
abbrev pub has_price_matching_completion : Tables → TradeRow → Bool
has_price_matching_completion t row =
    has_price_exactly_if (list_any (λ h. is_same_trade_status h.status Completed) (history_rows_with_trade_id t row.id)) row.price

-- True if the numbers of a trade are within their limits: id, quantity (`is_quantity_in_schema`),
-- and, in cents, bid, charge (`greatest_charge`), and commission and tax (`greatest_amount`).
abbrev pub are_trade_numbers_in_range : Schema → (id qty bid charge commission tax : ℕ) → Bool
are_trade_numbers_in_range schema id qty bid charge commission tax =
    is_id id
    && is_quantity_in_schema schema qty
    && is_price bid
    && nat_le charge greatest_charge
    && nat_le commission greatest_amount
    && nat_le tax greatest_amount

-- True if the numbers of a row of TRADE are within their limits (`are_trade_numbers_in_range`), its
-- stamp is not after the last stamp, which must exist, its security and account exist, and its
-- price matches its history. Status and executor are not checked.
abbrev pub is_well_formed_trade_row : Schema → Tables → TradeRow → Bool
is_well_formed_trade_row schema t row =
    are_trade_numbers_in_range schema row.id row.qty row.bid row.charge row.commission row.tax
    && is_at_most_last_stamp t row.stamp
    && has_security t row.symbol
    && has_account t row.account
    && has_price_matching_completion t row

-- True if the status is not `Completed`, or its due day by `rule` is at most 9999-12-31.
abbrev pub settles_in_calendar_if_completed : SettleRule → Status → ℕ → Bool
settles_in_calendar_if_completed rule status stamp = not (is_same_trade_status status Completed) || nat_le (due_day_of_completion_stamp rule stamp) greatest_day

-- True if the trade of a row of TRADE_HISTORY exists, its stamp is not after the last stamp, which
-- must exist, and, for a completion, the due day is at most the greatest day, 9999-12-31.
abbrev pub is_well_formed_history_row : Tables → HistoryRow → Bool
is_well_formed_history_row t h =
    has_trade t h.trade
    && is_at_most_last_stamp t h.stamp
    && settles_in_calendar_if_completed t.rule h.status h.stamp

-- True if the quantity of a row of TRADE_REQUEST is within the limits of the schema `schema`, its
-- bid is within the limits of a price (`is_price`), and its trade, security and broker exist.
abbrev pub is_well_formed_request_row : Schema → Tables → RequestRow → Bool
is_well_formed_request_row schema t r =
    has_trade t r.trade
    && has_security t r.symbol
    && is_quantity_in_schema schema r.qty
    && is_price r.bid
    && has_broker t r.broker

-- True if trade, account and security of a row of HOLDING exist, its stamp is not after the last
-- stamp, which must exist, and its price is within its limits; the quantity is not checked.
abbrev pub is_well_formed_holding_row : Tables → HoldingRow → Bool
is_well_formed_holding_row t h =
    has_trade t h.trade
    && has_account t h.account
    && has_security t h.symbol
    && is_at_most_last_stamp t h.stamp
    && is_price h.price

-- True if the absolute value of the quantity of a row of HOLDING_SUMMARY, in shares, is at most the
-- greatest summary of the schema `schema`, and its account and security exist.
abbrev pub is_well_formed_summary_row : Schema → Tables → SummaryRow → Bool
is_well_formed_summary_row schema t s =
    has_account t s.account
    && has_security t s.symbol
    && nat_le (nat_abs s.qty) schema.greatest_summary_quantity

-- True if both trades of a row of HOLDING_HISTORY exist; the quantities are not checked.
abbrev pub is_well_formed_holding_history_row : Tables → HoldingHistoryRow → Bool
is_well_formed_holding_history_row t h = has_trade t h.lot && has_trade t h.trade

-- True if `word` is `Cash Account` or `Cash` if `is_cash`, otherwise `Margin` or `Margin Account`.
abbrev pub is_cash_type_of_trade : Bool → Text → Bool
is_cash_type_of_trade is_cash word =
    if is_cash then bytes_eq word (codes "Cash Account") || bytes_eq word (codes "Cash")
    else bytes_eq word (codes "Margin") || bytes_eq word (codes "Margin Account")

-- True if the trade of a row of SETTLEMENT exists and may have its cash type, the due day is at
-- most 9999-12-31, and the absolute value of the amount is at most `greatest_amount` cents.
abbrev pub is_well_formed_settlement_row : Tables → SettlementRow → Bool
is_well_formed_settlement_row t s =
    option_map_or (λ row. is_cash_type_of_trade row.is_cash s.cash_type) (trade_row_with_id t s.trade) false
    && nat_le s.due_day greatest_day
    && is_within_amount_limit s.amount

-- True if `name` is a cash row name of the trade of `row`, with " shares of " or " Shares of ".
abbrev pub is_cash_row_name_of_trade : Tables → Text → TradeRow → Bool
is_cash_row_name_of_trade t name row =
    bytes_eq name (cash_row_name (codes " shares of ") (base_of_tables t) (trade_of_row t row))
    || bytes_eq name (cash_row_name (codes " Shares of ") (base_of_tables t) (trade_of_row t row))

-- True if the trade of a row of CASH_TRANSACTION exists and may have its name
-- (`is_cash_row_name_of_trade`), the stamp is not after the last stamp, which must exist, and the
-- absolute value of the amount is at most `greatest_amount` cents.
abbrev pub is_well_formed_cash_transaction_row : Tables → OldCashRow → Bool
is_well_formed_cash_transaction_row t c =
    option_map_or (is_cash_row_name_of_trade t c.name) (trade_row_with_id t c.trade) false
    && is_at_most_last_stamp t c.stamp
    && is_within_amount_limit c.amount

-- True for the name `Deposit` and an amount above 0, and for `Withdrawal` and an amount below 0.
abbrev pub is_movement_name_and_amount : Text → ℤ → Bool
is_movement_name_and_amount name amount =
    (bytes_eq name (codes "Deposit") && int_lt (pos 0) amount) || (bytes_eq name (codes "Withdrawal") && int_lt amount (pos 0))

-- True if the trade `trade` exists and may have the name of the CASH_MOVE row.
abbrev pub has_cash_row_name_of_trade : Tables → CashRow → ℕ → Bool
has_cash_row_name_of_trade t r trade = option_map_or (is_cash_row_name_of_trade t r.name) (trade_row_with_id t trade) false

-- True if the number of a row of CASH_MOVE is within its limits, the absolute value of its amount
-- is at most `greatest_amount` cents, its account exists, and its stamp is not after the last
-- stamp, which must exist. If it has a trade, this exists and may have the name of the row;
-- otherwise a movement may have the name and the amount (`is_movement_name_and_amount`).
abbrev pub is_well_formed_cash_move_row : Tables → CashRow → Bool
is_well_formed_cash_move_row t r =
    is_cash_row_number r.id
    && has_account t r.account
    && option_map_or (has_cash_row_name_of_trade t r) r.trade (is_movement_name_and_amount r.name r.amount)
    && is_at_most_last_stamp t r.stamp
    && is_within_amount_limit r.amount

-- The ids of the trades of the CASH_MOVE rows, in their sequence; a row without a trade adds none.
abbrev pub trade_ids_of_cash_rows : List CashRow → List ℕ
trade_ids_of_cash_rows rows = flat_map (λ r. option_to_list r.trade) rows

-- True if each of CASH_MOVE and SETTLE_RULE that the schema `schema` lacks has no rows.
abbrev pub has_rows_only_in_tables_of_schema : Schema → Tables → Bool
has_rows_only_in_tables_of_schema schema t = (schema.has_cash_move_table || (length t.moves == 0)) && (schema.has_settle_rule_table || is_none t.rule)

-- True if no two bands of the list overlap (`bands_overlap`).
abbrev pub has_disjoint_bands : List Band → Bool
has_disjoint_bands [] = true
has_disjoint_bands (b ∷ bands) = not (list_any (bands_overlap b) bands) && has_disjoint_bands bands

-- True if the two lists are equal.
abbrev pub are_equal_number_lists : List ℕ → List ℕ → Bool
are_equal_number_lists [] [] = true
are_equal_number_lists (m ∷ ms) (n ∷ ns) = (m == n) && are_equal_number_lists ms ns
are_equal_number_lists _ _ = false

-- True if the customer `c` has at most ten accounts, and its tax rates, in hundred-thousandths,
-- total at most `greatest_tax_rate`; a tax whose TAXRATE row does not exist counts as 0.
abbrev pub is_within_customer_limits : Tables → Customer → Bool
is_within_customer_limits t c =
    nat_le (length (filter (λ a. a.customer == c.id) t.accounts)) most_accounts_per_customer
    && nat_le (tax_rate_sum_of_customer (base_of_tables t) c.id) greatest_tax_rate

-- True if the rows are sorted by `key`, strictly ascending (`is_key_less`): no key occurs twice.
abbrev pub is_sorted_by_unique_key : {Row : Type 0} → (Row → List KeyPart) → List Row → Bool
is_sorted_by_unique_key key [] = true
is_sorted_by_unique_key key (a ∷ []) = true
is_sorted_by_unique_key key (a ∷ b ∷ rows) = is_key_less (key a) (key b) && is_sorted_by_unique_key key (b ∷ rows)

-- True if all tables, except DESK and SETTLE_RULE, are sorted by their key, strictly ascending.
unfoldable pub has_tables_sorted_by_unique_key : Tables → Bool
has_tables_sorted_by_unique_key t =
    is_sorted_by_unique_key kept_key t.kept
    && is_sorted_by_unique_key broker_key t.brokers
    && is_sorted_by_unique_key customer_key t.customers
    && is_sorted_by_unique_key account_key t.accounts
    && is_sorted_by_unique_key permission_key t.permissions
    && is_sorted_by_unique_key security_key t.securities
    && is_sorted_by_unique_key last_trade_key t.last_trades
    && is_sorted_by_unique_key charge_key t.charges
    && is_sorted_by_unique_key band_key t.bands
    && is_sorted_by_unique_key tax_rate_key t.tax_rates
    && is_sorted_by_unique_key customer_tax_key t.customer_taxes
    && is_sorted_by_unique_key trade_key t.trades
    && is_sorted_by_unique_key history_key t.history
    && is_sorted_by_unique_key request_key t.requests
    && is_sorted_by_unique_key holding_key t.holdings
    && is_sorted_by_unique_key summary_key t.summaries
    && is_sorted_by_unique_key holding_history_key t.holding_history
    && is_sorted_by_unique_key settlement_key t.settlements
    && is_sorted_by_unique_key cash_transaction_key t.cash
    && is_sorted_by_unique_key cash_move_key t.moves

-- True if no two customers of the list have equal tax ids.
abbrev pub has_distinct_tax_ids : List Customer → Bool
has_distinct_tax_ids [] = true
has_distinct_tax_ids (c ∷ customers) = not (list_any (λ d. bytes_eq d.tax_id c.tax_id) customers) && has_distinct_tax_ids customers

-- True if the tables `t` satisfy the condition `Form` in the schema `schema`. Each row passes the
-- check of its table: formats, limits and references. Every table except DESK and SETTLE_RULE is
-- sorted by key, no key occurs twice in it, and no two customers have equal tax ids. Bands do not
-- overlap, no customer exceeds the limits of accounts and of tax rates, and trades are numbered
-- from 1 without a gap. No trade has two rows of CASH_MOVE, and at most `greatest_id` of these have
-- no trade. The last stamp and the first day of one-day settlement, if set, are at most 9999-12-31.
-- CASH_MOVE and SETTLE_RULE are empty if the schema lacks them.
unfoldable pub satisfies_form_condition : Schema → Tables → Bool
satisfies_form_condition schema t =
    is_last_stamp_in_calendar t.last
    && has_tables_sorted_by_unique_key t
    && has_distinct_tax_ids t.customers
    && list_all is_well_formed_kept_row t.kept
    && list_all is_well_formed_broker_row t.brokers
    && list_all is_well_formed_customer_row t.customers && list_all (is_within_customer_limits t) t.customers
    && list_all (is_well_formed_account_row t) t.accounts
    && list_all (is_well_formed_permission_row t) t.permissions
    && list_all (is_well_formed_security_row t) t.securities
    && list_all (is_well_formed_last_trade_row t) t.last_trades
    && list_all is_well_formed_charge_row t.charges
    && list_all (is_well_formed_band_row schema) t.bands && has_disjoint_bands t.bands
    && list_all is_well_formed_tax_rate_row t.tax_rates
    && list_all (is_well_formed_customer_tax_row t) t.customer_taxes
    && list_all (is_well_formed_trade_row schema t) t.trades && are_equal_number_lists (map (λ row. row.id) t.trades) (range_with_len 1 (length t.trades))
    && list_all (is_well_formed_history_row t) t.history
    && list_all (is_well_formed_request_row schema t) t.requests
    && list_all (is_well_formed_holding_row t) t.holdings
    && list_all (is_well_formed_summary_row schema t) t.summaries
    && list_all (is_well_formed_holding_history_row t) t.holding_history
    && list_all (is_well_formed_settlement_row t) t.settlements
    && list_all (is_well_formed_cash_transaction_row t) t.cash
    && list_all (is_well_formed_cash_move_row t) t.moves && all_distinct (trade_ids_of_cash_rows t.moves)
    && nat_le (length (filter (λ r. is_none r.trade) t.moves)) greatest_id
    && is_one_day_settlement_start_in_calendar t.rule
    && has_rows_only_in_tables_of_schema schema t

-- True if the texts of K_ROW, K_LINE, T_EXEC_NAME, CT_NAME and CM_NAME in the tables `t` are UTF-8.
abbrev pub has_utf8_texts : Tables → Bool
has_utf8_texts t =
    list_all (λ k. is_utf8 k.row_text && is_utf8 k.line) t.kept
    && list_all (λ r. is_utf8 r.executor) t.trades
    && list_all (λ r. is_utf8 r.name) t.cash
    && list_all (λ r. is_utf8 r.name) t.moves
