use Rattle.std.proofs.Common.{◌∙◌, ◌++◌, ◌∷◌, [], List, ap}
use Rattle.std.proofs.lemmas.List.{append_assoc}
use Rattle.std.specs.List.{flat_map}
use Rattle.std.specs.Option.{option_to_list}
use Rattle.brk_trade.specs.Results.{row_changes_of_cash_row}
use Rattle.brk_trade_rows.specs.declared.change.Change.{Change}
use Rattle.brk_trade_rows.specs.declared.change.Change.TheVariants.{SetLastStamp}
use Rattle.brk_trade.proofs.completion.append_result.Goals as goal

pub returns : goal.returns
returns c =
    let outcome = c.args.outcome.now in
    let cash : List Change = flat_map (row_changes_of_cash_row c.args.found.now.trade.account outcome.completed.balance) (option_to_list c.args.cash) in
    record {
      changes = c.in_ok-push.ensures.items
          ∙ ap (λ (all : List Change). all ++ SetLastStamp outcome.completed.stamp ∷ [])
          (c.in_ok-append_cash.ensures.changes ∙ ap (λ (all : List Change). all ++ cash) c.in_ok-append_completion.ensures.changes)
          ∙ simp append_assoc;
    }
