use Rattle.std.proofs.Common.{◌∙◌, ◌++◌, ◌∷◌, [], List, ap, sym, take}
use Rattle.std.proofs.lemmas.List.{flat_map_more, take_more}
use Rattle.std.specs.List.{flat_map}
use Rattle.brk_lots.specs.declared.lot.Touch.{Touch}
use Rattle.brk_trade.specs.Results.{row_changes_of_touched_lot}
use Rattle.brk_trade_rows.specs.declared.change.Change.{Change}
use Rattle.brk_trade.proofs.completion.append_touches.Goals as goal

pub loop-touch-preserved : goal.loop-touch-preserved
loop-touch-preserved c =
    let added = row_changes_of_touched_lot c.args.trade in
    let touched : List Touch = c.args.touched.now in
    let i = c.loop-touch.touch-index in
    let touch : Touch = c.touch-item.result in
    let changes = c.args.changes.now.items in
    c.in_ok-append_touch.ensures.changes ∙ ap (λ (all : List Change). all ++ added touch) c.loop-touch.invariant
    ∙ flat_map_more added changes (take i touched) touch
    ∙ ap (λ (first : List Touch). changes ++ flat_map added first) (ap (λ (t : Touch). take i touched ++ t ∷ []) c.touch-item.is ∙ sym (take_more touched i touch c.loop-touch-test.true))
