-- The names of the views of a desk.
use Rattle.std.proofs.Common.{◌≡◌, Option, Some, None, MatchOption, true, false, refl, subst}
use Rattle.std.specs.Prelude.{bytes_eq}
use Rattle.std.specs.List.{list_any}
use Rattle.brk_money.specs.Spelling.{Text}
use Rattle.brk_model_http.specs.Asked.{model_parsers}
use Rattle.brk_view_rows.specs.ViewNames.{text_of_view_name}
use Rattle.brk_view_rows.specs.declared.view_name.ViewName.{ViewName}
use Rattle.brk_view_rows.specs.declared.view_name.ViewName.TheVariants.{Submitted, Estimate, Customer, TaxId, Recent, Status, Trades, AccountTrades, SymbolTrades, Lots, Volume}

-- each name is that of a view that is known
known : (name : ViewName) → list_any (λ v. bytes_eq v (text_of_view_name name)) model_parsers.views ≡ true
known Submitted = refl
known Estimate = refl
known Customer = refl
known TaxId = refl
known Recent = refl
known Status = refl
known Trades = refl
known AccountTrades = refl
known SymbolTrades = refl
known Lots = refl
known Volume = refl

pub named : (text : Text) (found : Option ViewName) → MatchOption found (list_any (λ v. bytes_eq v text) model_parsers.views ≡ false) (λ name. text_of_view_name name ≡ text)
    → MatchOption found (list_any (λ v. bytes_eq v text) model_parsers.views ≡ false) (λ name. (text_of_view_name name ≡ text) × (list_any (λ v. bytes_eq v text) model_parsers.views ≡ true))
named text None h = h
named text (Some name) h = (h, subst (λ t. list_any (λ v. bytes_eq v t) model_parsers.views ≡ true) h (known name))
