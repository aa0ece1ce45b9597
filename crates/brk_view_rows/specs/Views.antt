-- The model's view of each typed view: its records of texts.
use Rattle.std.specs.Prelude.{Bool, List, [], ◌∷◌, flat_map, map, decimal, pos, String, string_bytes}
use Rattle.std.specs.Global.{Global, Vec}
use Rattle.brk_trade_plans.specs.declared.estimate.Estimate as estimate
use Rattle.brk_money.specs.Kinds.{trade_type_code, is_same_trade_status}
use Rattle.brk_money.specs.Spelling.{Text, cents_text}
use Rattle.brk_money.specs.declared.status.Status.TheVariants.{Submitted}
use Rattle.brk_model.specs.Queries as model
use Rattle.brk_model.specs.Rows.{nonnegative_cents_text}
use Rattle.brk_model.specs.Tables.{TradeRow}
use Rattle.brk_view_rows.specs.Lookup.{records_of_looked_up_trade}
use Rattle.brk_view_rows.specs.Lots.{touched_lot_records}
use Rattle.brk_view_rows.specs.Recent.{records_of_activity}
use Rattle.brk_view_rows.specs.Status.{records_of_account_status}
use Rattle.brk_view_rows.specs.Volume.{broker_volume_record}
use Rattle.brk_view_rows.specs.Worths.{account_worth_record}
use Rattle.brk_view_rows.specs.declared.view.SubmittedTrade.{SubmittedTrade}
use Rattle.brk_view_rows.specs.declared.view.View.{View}
use Rattle.brk_view_rows.specs.declared.view.View.TheVariants as view

-- True if the status of the trade `row` is `Submitted`.
abbrev pub has_submitted_status : TradeRow → Bool
has_submitted_status row = is_same_trade_status row.status Submitted

-- The record of the TRADE row `row`: id, type code, symbol, quantity and bid price.
abbrev pub record_of_submitted_row : TradeRow → List Text
record_of_submitted_row row = decimal row.id ∷ trade_type_code row.kind ∷ row.symbol ∷ decimal row.qty ∷ nonnegative_cents_text row.bid ∷ []

-- The record of the submitted trade `trade`: id, type code, symbol, quantity and bid price.
abbrev pub submitted_trade_record : SubmittedTrade → List Text
submitted_trade_record trade = decimal trade.id ∷ trade_type_code trade.kind ∷ trade.symbol ∷ decimal trade.qty ∷ nonnegative_cents_text trade.bid ∷ []

-- The record of the estimate `e`: price, buy and sell value, tax, commission, charge and assets.
abbrev pub estimate_record : estimate.Estimate → List Text
estimate_record e =
    nonnegative_cents_text e.price ∷ cents_text (pos e.buy_value) ∷ cents_text (pos e.sell_value) ∷ cents_text (pos e.tax) ∷ cents_text (pos e.commission)
    ∷ cents_text (pos e.charge)
    ∷ cents_text e.assets ∷ []

-- The records of a typed view, each a list of texts, in the order of the view's elements. Touched
-- lots that are `None` have no records.
abbrev pub records_of_view : View → model.View
records_of_view (view.Position accounts) = map account_worth_record accounts.items
records_of_view (view.Recent recent) = records_of_activity recent
records_of_view (view.Status account) = records_of_account_status account
records_of_view (view.Lookup trades) = flat_map records_of_looked_up_trade trades.items
records_of_view (view.Lots lots) = touched_lot_records lots
records_of_view (view.Volume brokers) = map broker_volume_record brokers.items
records_of_view (view.Submitted trades) = map submitted_trade_record trades.items
records_of_view (view.Estimate estimate) = estimate_record estimate ∷ []

-- The bytes of each of the strings `texts`, which are the fields of one record.
abbrev pub texts_of_record : Vec (String Global) → List Text
texts_of_record texts = map string_bytes texts.items

-- The list of the records `records`, in sequence, each as the list of the bytes of its strings.
abbrev pub texts_of_records : Vec (Vec (String Global)) → model.View
texts_of_records records = map texts_of_record records.items
