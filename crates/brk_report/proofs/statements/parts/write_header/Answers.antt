use Rattle.std.proofs.Common.{[], ◌∷◌, ◌++◌, codes, decimal}
use Rattle.brk_money.specs.Spelling.{day_text}
use Rattle.brk_report.proofs.Handing.{behind, breaks_as, line_first, line_then}
use Rattle.brk_report.proofs.statements.parts.write_header.Goals as goal

pub returns-in_err-write_line : goal.returns-in_err-write_line
returns-in_err-write_line g c =
    let title = codes "Statement of account " ++ decimal c.args.account in
    let days = codes "From " ++ day_text c.args.from ++ codes " to " ++ day_text c.args.to in
    breaks_as (title ∷ c.args.head.now.name ∷ days ∷ []) _ _ _ _ c.from_residual.ensures.1
    (line_first title (c.args.head.now.name ∷ days ∷ []) _ _ _ (c.in_err-write_line.ensures.written title c.title_line.ensures))

pub returns-in_err-write_line-2 : goal.returns-in_err-write_line-2
returns-in_err-write_line-2 g c =
    let title = codes "Statement of account " ++ decimal c.args.account in
    let days = codes "From " ++ day_text c.args.from ++ codes " to " ++ day_text c.args.to in
    breaks_as (title ∷ c.args.head.now.name ∷ days ∷ []) _ _ _ _ c.from_residual-in_err-write_line-2.ensures.1
    (line_then title (c.args.head.now.name ∷ days ∷ []) _ _ _ _ (c.in_ok-write_line.ensures.written title c.title_line.ensures)
    (line_first c.args.head.now.name (days ∷ []) _ _ _ (c.in_err-write_line-2.ensures.written c.args.head.now.name c.name_line.ensures)))

pub returns : goal.returns
returns g c =
    let title = codes "Statement of account " ++ decimal c.args.account in
    let days = codes "From " ++ day_text c.args.from ++ codes " to " ++ day_text c.args.to in
    behind (title ∷ []) (c.args.head.now.name ∷ days ∷ []) _ _ _ _ (c.in_ok-write_line.ensures.written title c.title_line.ensures)
    (behind (c.args.head.now.name ∷ []) (days ∷ []) _ _ _ _ (c.in_ok-write_line-2.ensures.written c.args.head.now.name c.name_line.ensures)
    (c.write_line-3.ensures.written days c.period_line.ensures))
