use Rattle.std.proofs.Common.{◌∙◌, ◌++◌, ap, map, option_map}
use Rattle.std.specs.Prelude.{option_to_list}
use Rattle.brk_ref.specs.Rows.{abstract_cash_row, abstract_settlement_row, abstract_trade_row}
use Rattle.brk_model.specs.LookupView as model
use Rattle.brk_model.specs.Queries.{View}
use Rattle.brk_view_rows.specs.Lookup.{history_status_record}
use Rattle.brk_view_rows.specs.Views.{texts_of_records}
use Rattle.brk_view.proofs.Joined.{joined_four}
use Rattle.brk_view.proofs.lookup_fields.append_looked_up_trade.Goals as goal

pub returns : goal.returns
returns c =
    let found = c.args.found.now in
    let settlement : View = map model.settlement_record (option_to_list (option_map abstract_settlement_row found.settlement)) in
    let cash : View = map model.cash_record (option_to_list (option_map abstract_cash_row found.cash)) in
    let moments : View = map history_status_record found.history.items in
    c.in_ok-append_stamped_statuses.ensures
    ∙ ap (λ rows. texts_of_records c.append_cash_row.new.records ++ map history_status_record rows) c.deref.ensures.value
    ∙ ap (λ (rs : View). rs ++ moments) (c.in_ok-append_cash_row.ensures
    ∙ ap (λ (rs : View). rs ++ cash) (c.in_ok-append_settlement.ensures ∙ ap (λ (rs : View). rs ++ settlement) c.in_ok-append_trade_record.ensures))
    ∙ joined_four (texts_of_records c.args.records.now) (model.trade_record (abstract_trade_row found.trade)) settlement cash moments
