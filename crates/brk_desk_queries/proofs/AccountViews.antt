-- The view of the values of a customer's accounts, from the rows read, is the model's.
use Rattle.std.proofs.Common.{◌≡◌, ℕ, ◌==◌, List, Bool, Some, None, Ok, Err, sym, ap, ◌∙◌, map, filter, find}
use Rattle.std.specs.Prelude.{◌&&◌, bytes_eq, is_none}
use Rattle.std.specs.Global.{Vec}
use Rattle.std.specs.List.{list_any}
use Rattle.std.proofs.lemmas.Bool.{eqb-true}
use Rattle.brk_money.specs.Spelling.{Text}
use Rattle.brk_money.specs.declared.refusal.Refusal.TheVariants.{NoCustomer}
use Rattle.brk_model.specs.Ask.{view_of_base, ask, checks_of_query}
use Rattle.brk_model.specs.Base.{customer_with_id}
use Rattle.brk_model.specs.Keys.{customer_key, is_row_key_less}
use Rattle.brk_model.specs.PositionView.{customer_position_view}
use Rattle.brk_model.specs.Queries.{PositionOf, PositionOfTaxId}
use Rattle.brk_model.specs.Records.{Customer}
use Rattle.brk_model.specs.Sheets.{sheets, tables_sorted_by_key}
use Rattle.brk_model.specs.Tables.{Tables, tables_of_base_in_schema, tables_of_base}
use Rattle.brk_model.specs.Views.{view_of_tables}
use Rattle.brk_trade_books.proofs.Places.{find-at}
use Rattle.brk_trade_books.proofs.Reading.{reads_customer}
use Rattle.brk_view_rows.specs.Views.{records_of_view}
use Rattle.brk_view_rows.specs.Worths.{worth_of_account}
use Rattle.brk_view_rows.specs.declared.view.View.{View}
use Rattle.brk_view_rows.specs.declared.view.View.TheVariants as views
use Rattle.brk_view_rows.specs.declared.worths.AccountWorth.{AccountWorth}
use Rattle.brk_desk_queries.specs.QueryResults.{AnswersQueryAsModel}
use Rattle.brk_desk_queries.proofs.Tested.{answered, carried_as, is_missing, is_there, refused}
use Rattle.brk_view_theorems.proofs.Owners.{apart_sorted, missing_sorted, owned_by_id, owned_by_tax_id}
use Rattle.brk_view_theorems.proofs.Sorting.{same_rows}
use Rattle.brk_view_theorems.proofs.Worths.{same_position}

-- `worths` are the balances and market values of the customer's accounts.
abbrev pub AreAccountWorthsOfCustomer : ℕ → List AccountWorth → Tables → Type 0
AreAccountWorthsOfCustomer customer worths t = worths ≡ map (worth_of_account t) (filter (λ a. a.customer == customer) t.accounts)

-- The view has the records of `customer_position_view`, if `worths` are the balances and market
-- values of the accounts of the selected customers.
abbrev pub IsViewOfAccountWorths : List AccountWorth → View → Type 0
IsViewOfAccountWorths worths view = (t : Tables) (test : Customer → Bool)
    → worths ≡ map (worth_of_account t) (filter (λ a. list_any (λ c. test c && (c.id == a.customer)) t.customers) t.accounts) → records_of_view view ≡ customer_position_view t test

pub no_customer : (id : ℕ) (t : Tables) → None ≡ find (λ c. c.id == id) t.customers → AnswersQueryAsModel (PositionOf id) (Err NoCustomer) t
unfolding ask checks_of_query
no_customer id t e = (
  λ base books sound s.
      refused (is_none (customer_with_id base id)) NoCustomer (view_of_base base (PositionOf id))
      (is_missing (customer_with_id base id) (e ∙ ap (λ x. find (λ c. c.id == id) x.customers) s ∙ reads_customer base id)),
  tt,
)

pub position_seen : (id : ℕ) (x : Customer) (worths : List AccountWorth) (sorted : Vec AccountWorth) (view : View) → IsViewOfAccountWorths worths view → view ≡ views.Position sorted
    → (t : Tables) → Some x ≡ find (λ c. c.id == id) t.customers → AreAccountWorthsOfCustomer x.id worths t → AnswersQueryAsModel (PositionOf id) (Ok view) t
unfolding ask checks_of_query view_of_base view_of_tables
position_seen id x worths sorted view is shown t e w =
    let test : Customer → Bool = λ c. c.id == id in (
      λ base books sound s.
          answered (is_none (customer_with_id base id)) NoCustomer (customer_position_view (tables_of_base base) test)
          (is_there x (customer_with_id base id) (e ∙ ap (λ y. find test y.customers) s ∙ reads_customer base id))
          ∙ ap Ok (sym (is t test (w ∙ ap (map (worth_of_account t)) (same_rows (λ a. a.customer == x.id) (λ a. list_any (λ c. test c && (c.id == a.customer)) t.customers) t.accounts
          (λ a. ap (λ n. a.customer == n) (eqb-true x.id id (find-at test t.customers x (sym e)).passes) ∙ owned_by_id t.customers id a.customer x e)))
          ∙ ap (λ y. customer_position_view y test) s ∙ same_position base test books)),
      λ base books sound s. carried_as (PositionOf id) view (views.Position sorted) t shown tt,
    )

pub no_tax_id : (tax_id : Text) (t : Tables) → None ≡ find (λ c. bytes_eq c.tax_id tax_id) t.customers → AnswersQueryAsModel (PositionOfTaxId tax_id) (Err NoCustomer) t
unfolding ask checks_of_query tables_sorted_by_key tables_of_base_in_schema
no_tax_id tax_id t e =
    let test : Customer → Bool = λ c. bytes_eq c.tax_id tax_id in (
      λ base books sound s.
          refused (is_none (find test base.customers)) NoCustomer (view_of_base base (PositionOfTaxId tax_id))
          (missing_sorted test base.customers ∙ is_missing (find test (sheets base).customers) (e ∙ ap (λ x. find test x.customers) s)),
      tt,
    )

pub position_seen_by_tax_id : (tax_id : Text) (x : Customer) (worths : List AccountWorth) (sorted : Vec AccountWorth) (view : View) → IsViewOfAccountWorths worths view → view ≡ views.Position sorted
    → (t : Tables) → Some x ≡ find (λ c. bytes_eq c.tax_id tax_id) t.customers → AreAccountWorthsOfCustomer x.id worths t → AnswersQueryAsModel (PositionOfTaxId tax_id) (Ok view) t
unfolding ask checks_of_query view_of_base view_of_tables tables_sorted_by_key tables_of_base_in_schema
position_seen_by_tax_id tax_id x worths sorted view is shown t e w =
    let test : Customer → Bool = λ c. bytes_eq c.tax_id tax_id in (
      λ base books sound s.
          let there : Some x ≡ find test (sheets base).customers = e ∙ ap (λ y. find test y.customers) s in
          answered (is_none (find test base.customers)) NoCustomer (customer_position_view (tables_of_base base) test)
          (missing_sorted test base.customers ∙ is_there x (find test (sheets base).customers) there)
          ∙ ap Ok (sym (is t test (w ∙ ap (map (worth_of_account t)) (same_rows (λ a. a.customer == x.id) (λ a. list_any (λ c. test c && (c.id == a.customer)) t.customers) t.accounts
          (λ a. owned_by_tax_id (sheets base).customers tax_id a.customer x (apart_sorted _ (is_row_key_less customer_key) base.customers sound.tax_ids) there
          ∙ ap (λ (y : Tables). list_any (λ c. test c && (c.id == a.customer)) y.customers) (sym s)))) ∙ ap (λ y. customer_position_view y test) s ∙ same_position base test books)),
      λ base books sound s. carried_as (PositionOfTaxId tax_id) view (views.Position sorted) t shown tt,
    )
