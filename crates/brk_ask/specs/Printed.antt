-- The text of a view as it is written.
use Rattle.std.specs.Prelude.{List, [], ◌∷◌, ◌++◌, codes, flat_map, if◌then◌else◌}
use Rattle.brk_ask.specs.declared.form.Form.{Form}
use Rattle.brk_model_http.specs.Bodies.{json_records_object}
use Rattle.brk_model.specs.Queries.{Query, View, PositionOf, PositionOfTaxId, SubmittedTrades, EstimateOf, VolumeOf}
use Rattle.brk_money.specs.Spelling.{Text}
use Rattle.csv.specs.Writing.{default_writer, row_text}

-- The field names of a query's view, in order; empty if its records have different fields.
abbrev pub field_names_of_view : Query → List Text
field_names_of_view (PositionOf customer) = codes "account" ∷ codes "balance" ∷ codes "holdings" ∷ []
field_names_of_view (PositionOfTaxId tax_id) = codes "account" ∷ codes "balance" ∷ codes "holdings" ∷ []
field_names_of_view SubmittedTrades = codes "trade" ∷ codes "type" ∷ codes "symbol" ∷ codes "quantity" ∷ codes "price" ∷ []
field_names_of_view (EstimateOf order) =
    codes "price" ∷ codes "bought" ∷ codes "sold" ∷ codes "tax" ∷ codes "commission" ∷ codes "charge" ∷ codes "assets" ∷ []
field_names_of_view (VolumeOf sector names) = codes "broker" ∷ codes "id" ∷ codes "volume" ∷ []
field_names_of_view query = []

-- A list with one record, whose fields are the names `names`, or an empty list if there is no name.
abbrev pub names_as_records : List Text → View
names_as_records [] = []
names_as_records (name ∷ names) = (name ∷ names) ∷ []

-- The field names of a query's view (`field_names_of_view`) as one record; empty if there are none.
abbrev pub field_name_records : Query → View
field_name_records query = names_as_records (field_names_of_view query)

-- The records as CSV, each row and its line end as the default writer of the `csv` crate writes it.
abbrev pub csv_text : View → Text
csv_text records = flat_map (row_text default_writer) records

-- The bytes of a JSON object whose only member, `view`, is the list of the records, and a line
-- feed. The body of an HTTP reply with a view is this object without the line feed.
abbrev pub json_line_text : View → Text
json_line_text records = json_records_object (codes "view") records ++ 10 ∷ []

-- The records that are written for a query: those of its view, and, if `form.heads` is true and all
-- records of the view have the same fields, before them a record with the names of these fields.
abbrev pub records_to_print : Form → Query → View → View
records_to_print form query records = if form.heads then field_name_records query ++ records else records

-- The bytes that are written for a query's view with the records `records` (`records_to_print`):
-- one line of JSON if `form.json` is true, otherwise rows of CSV.
abbrev pub printed_view_text : Form → Query → View → Text
printed_view_text form query records =
    if form.json then json_line_text (records_to_print form query records) else csv_text (records_to_print form query records)
