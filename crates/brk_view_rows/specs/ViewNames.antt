-- The names of the views.
use Rattle.std.specs.Prelude.{List, codes, map}
use Rattle.brk_money.specs.Spelling.{Text}
use Rattle.brk_model.specs.Ask.{view_parsers}
use Rattle.brk_view_rows.specs.declared.view_name.ViewName.{ViewName}
use Rattle.brk_view_rows.specs.declared.view_name.ViewName.TheVariants.{Submitted, Estimate, Customer, TaxId, Recent, Status}
use Rattle.brk_view_rows.specs.declared.view_name.ViewName.TheVariants.{Trades, AccountTrades, SymbolTrades, Lots, Volume}

-- The text of a view name, such as `accounttrades` for `AccountTrades`.
abbrev pub text_of_view_name : ViewName → Text
text_of_view_name Submitted = codes "submitted"
text_of_view_name Estimate = codes "estimate"
text_of_view_name Customer = codes "customer"
text_of_view_name TaxId = codes "taxid"
text_of_view_name Recent = codes "recent"
text_of_view_name Status = codes "status"
text_of_view_name Trades = codes "trades"
text_of_view_name AccountTrades = codes "accounttrades"
text_of_view_name SymbolTrades = codes "symboltrades"
text_of_view_name Lots = codes "lots"
text_of_view_name Volume = codes "volume"

-- The texts of the names of all views of the model, in the sequence of `view_parsers`.
abbrev pub texts_of_view_names : List Text
texts_of_view_names = map (λ parser. parser.0) view_parsers
