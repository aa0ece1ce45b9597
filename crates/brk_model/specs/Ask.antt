-- The result of a query on a base, a refusal or the view, and the parsing of a view's arguments.
use Rattle.std.specs.Prelude.{ℕ, List, [], ◌∷◌, ◌++◌, find, is_none, unwrap_or, Result, Ok, Err, codes, bytes_eq}
use Rattle.std.specs.List.{list_any}
use Rattle.brk_money.specs.Spelling.{Text}
use Rattle.brk_money.specs.declared.refusal.Refusal.{Refusal}
use Rattle.brk_money.specs.declared.refusal.Refusal.TheVariants.{BadText, NoCustomer, NoTrade}
use Rattle.brk_model.specs.Lists.{distinct_texts}
use Rattle.brk_model.specs.Base.{Base, trade_with_id}
use Rattle.brk_model.specs.Tables.{tables_of_base}
use Rattle.brk_model.specs.Orders.{estimate}
use Rattle.brk_model.specs.Tests.{RefusalCheck, first_refusal, account_exists_check, customer_exists_check, security_exists_check, checks_of_order}
use Rattle.brk_model.specs.Forms.{ReadResult, ◌⊛◌, read_id, read_stamp, read_distinct_ids, read_name, read_symbol, read_tax_id, read_each_text}
use Rattle.brk_model.specs.Forms.{one_to_twenty_elements, check_read_value}
use Rattle.brk_model.specs.Parse.{NamedParser, read_and_wrap, parse_by_first_field, read_order}
use Rattle.brk_model.specs.Queries.{View, Query, PositionOf, PositionOfTaxId, RecentOf, StatusOf, SubmittedTrades, EstimateOf, TradesWith, TradesOfAccount}
use Rattle.brk_model.specs.Queries.{TradesOfSymbol, LotsTouched, VolumeOf}
use Rattle.brk_model.specs.Views.{view_of_tables}
use Rattle.brk_model.specs.Rows.{estimate_fields}
use Rattle.brk_model.specs.Step.{value_unless_refused}

-- The checks of a query on `base`, in sequence: that the account, the customer, the security or all
-- trades of the query exist (`NoAccount`, `NoCustomer`, `NoSecurity`, `NoTrade`), or, for an
-- estimate, `checks_of_order`. The queries for submitted trades and for broker volumes have none.
unfoldable pub checks_of_query : Base → Query → List RefusalCheck
checks_of_query base (PositionOf customer) = customer_exists_check base customer ∷ []
checks_of_query base (PositionOfTaxId tax_id) = (is_none (find (λ c. bytes_eq c.tax_id tax_id) base.customers), NoCustomer) ∷ []
checks_of_query base (RecentOf account) = account_exists_check base account ∷ []
checks_of_query base (StatusOf account) = account_exists_check base account ∷ []
checks_of_query base SubmittedTrades = []
checks_of_query base (EstimateOf order) = checks_of_order base order
checks_of_query base (TradesWith ids) = (list_any (λ id. is_none (trade_with_id base id)) ids, NoTrade) ∷ []
checks_of_query base (TradesOfAccount account first last) = account_exists_check base account ∷ []
checks_of_query base (TradesOfSymbol symbol first last) = security_exists_check base symbol ∷ []
checks_of_query base (LotsTouched account first) = account_exists_check base account ∷ []
checks_of_query base (VolumeOf sector names) = []

-- The view of the query on `base`: one record with the figures of the estimate if the query asks
-- for one, otherwise the view of the query over the tables of `base` (`view_of_tables`).
unfoldable pub view_of_base : Base → Query → View
view_of_base base (EstimateOf order) = estimate_fields (estimate base order) ∷ []
view_of_base base query = unwrap_or (view_of_tables (tables_of_base base) query) []

-- The result of a query on `base`: the refusal of its first check that applies, otherwise its view.
unfoldable pub ask : Base → Query → Result View Refusal
ask base query = value_unless_refused (first_refusal (checks_of_query base query)) (view_of_base base query)

-- ---- from arguments to a query

-- The query that `read` reads from the only argument, or its refusal; otherwise `BadText`.
abbrev pub read_single_argument : (Text → ReadResult Query) → List Text → ReadResult Query
read_single_argument read (argument ∷ []) = read argument
read_single_argument read _ = Err BadText

-- The query `query` if there are no arguments, otherwise the refusal `BadText`.
abbrev pub read_no_arguments : Query → List Text → ReadResult Query
read_no_arguments query [] = Ok query
read_no_arguments query (argument ∷ arguments) = Err BadText

-- The query that three arguments parse as, a value (by `read`) and two stamps, or the refusal of a
-- malformed argument; the refusal `BadText` if there are fewer or more arguments.
abbrev pub read_value_and_stamps : {A : Type 0} → (Text → ReadResult A) → (A → ℕ → ℕ → Query) → List Text → ReadResult Query
read_value_and_stamps read query (what ∷ first ∷ last ∷ []) = Ok query ⊛ read what ⊛ read_stamp first ⊛ read_stamp last
read_value_and_stamps read query _ = Err BadText

-- The query for touched lots from exactly two arguments (account, first stamp), or `BadText`.
abbrev pub read_lots_query : List Text → ReadResult Query
read_lots_query (account ∷ first ∷ []) = Ok (λ a f. LotsTouched a f) ⊛ read_id account ⊛ read_stamp first
read_lots_query _ = Err BadText

-- The 1 to 20 distinct broker names that the arguments parse as, in the sequence of their first
-- occurrences; otherwise `BadText` if a name is malformed or there is none, else `TooMany`.
abbrev pub read_broker_names : List Text → ReadResult (List Text)
read_broker_names names = check_read_value (λ ns. one_to_twenty_elements (distinct_texts ns)) (read_each_text read_name names)

-- The query for broker volumes from a sector and broker names, of which 1 to 20 are distinct;
-- otherwise `TooMany` if all arguments are well-formed and more names are distinct, else `BadText`.
abbrev pub read_volume_query : List Text → ReadResult Query
read_volume_query [] = Err BadText
read_volume_query (sector ∷ names) = Ok (λ s ns. VolumeOf s ns) ⊛ read_name sector ⊛ read_broker_names names

-- ---- the views

-- The views `submitted` and `estimate`, each with the parser of its query from the arguments.
abbrev pub order_view_parsers : List (NamedParser Query)
order_view_parsers = (codes "submitted", read_no_arguments SubmittedTrades) ∷ (codes "estimate", read_and_wrap EstimateOf read_order) ∷ []

-- The views `customer`, `taxid`, `recent` and `status`, each with its query's parser.
abbrev pub account_view_parsers : List (NamedParser Query)
account_view_parsers =
    (codes "customer", read_single_argument (read_and_wrap PositionOf read_id))
    ∷ (codes "taxid", read_single_argument (read_and_wrap PositionOfTaxId read_tax_id))
    ∷ (codes "recent", read_single_argument (read_and_wrap RecentOf read_id)) ∷ (codes "status", read_single_argument (read_and_wrap StatusOf read_id)) ∷ []

-- The views `trades`, `accounttrades`, `symboltrades` and `lots`, each with its query's parser.
abbrev pub lookup_view_parsers : List (NamedParser Query)
lookup_view_parsers =
    (codes "trades", read_and_wrap TradesWith read_distinct_ids) ∷ (codes "accounttrades", read_value_and_stamps read_id (λ a f l. TradesOfAccount a f l))
    ∷ (codes "symboltrades", read_value_and_stamps read_symbol (λ s f l. TradesOfSymbol s f l)) ∷ (codes "lots", read_lots_query) ∷ []

-- The name of the view `volume`, with the parser of its query from the arguments, as a list of one.
abbrev pub volume_view_parsers : List (NamedParser Query)
volume_view_parsers = (codes "volume", read_volume_query) ∷ []

-- The names of all views, each with the parser of its query from the arguments.
abbrev pub view_parsers : List (NamedParser Query)
view_parsers = order_view_parsers ++ account_view_parsers ++ lookup_view_parsers ++ volume_view_parsers

-- The query that the name of a view and its arguments parse as, or the refusal of the parser of
-- that view; the refusal `BadText` if there is no such view.
unfoldable pub parse_query : Text → List Text → ReadResult Query
parse_query view arguments = parse_by_first_field view_parsers (view ∷ arguments)
