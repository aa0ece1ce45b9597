use Rattle.std.proofs.Common.{◌≡◌, ◌==◌, ◌∙◌, ◌&&◌, ap, find, of_z, option_map, pos, rules, to_z, w64}
use Rattle.std.specs.Prelude.{bytes_eq}
use Rattle.std.specs.Option.{option_map_or}
use Rattle.brk_money.specs.declared.fault.CallFault.{CallFault}
use Rattle.brk_ref.specs.Rows.{abstract_summary_row}
use Rattle.brk_model.specs.Joins.{last_price_in_tables}
use Rattle.brk_model.specs.Tables.{SummaryRow, Tables}
use Rattle.brk_explain_reads.specs.HoldingParts.{AreQuantityAndPrice}
use Rattle.brk_explain_reads.specs.declared.holdings.QuantityAndPrice.{QuantityAndPrice}
use Rattle.brk_store_reads.proofs.Sequences.{read_with, none_read}
use Rattle.brk_explain_reads.proofs.Reading.{both_change_nothing}
use Rattle.std.proofs.lemmas.Result.{err_from_is_err_and}
use Rattle.brk_explain_reads.proofs.holdings.read_quantity_with_price.Goals as goal

pub returns : goal.returns
returns g c =
    let account = c.args.account in
    let symbol = c.args.symbol.now in
    let made = c.priced_quantity.ensures in
    let qty = c.qty_or_zero.result in
    let same : to_z w64 (of_z w64 qty) ≡ qty = search rules in
    read_with g.S.Store c.args.store.now c.read_summary.new.self c.require_last_price.new.store {H = CallFault} c.in_ok-summary.summary c.in_ok-price.price c.priced_quantity.result
    (λ o (t : Tables). option_map abstract_summary_row o ≡ find (λ (r : SummaryRow). (r.account == account) && bytes_eq r.symbol symbol) t.summaries)
    (λ price (t : Tables). price ≡ last_price_in_tables t symbol)
    (λ held (t : Tables). AreQuantityAndPrice t account symbol held)
    (λ t a b. (
      ap (λ (h : QuantityAndPrice). h.shares) made ∙ same ∙ c.qty_or_zero.ensures ∙ ap (λ o. option_map_or (λ (r : SummaryRow). r.qty) o (pos 0)) a,
      ap (λ (h : QuantityAndPrice). h.price) made ∙ b,
    ))
    c.in_ok-summary.ensures.read c.in_ok-price.ensures.read

pub returns-in_err-price : goal.returns-in_err-price
returns-in_err-price g c =
    let old = c.args.store.now in
    let mid = c.read_summary.new.self in
    let end = c.require_last_price.new.store in
    let p = err_from_is_err_and c.from_residual-in_err-price.result c.from_residual-in_err-price.ensures.1 in
    rw p.1 (none_read g.S.Store old end p.0 _ (both_change_nothing g.S.Store old mid end _ _ _ _ c.in_ok-summary.ensures.read c.in_err-price.ensures.read))
