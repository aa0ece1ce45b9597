use Rattle.brk_view_theorems.proofs.DetailsStay.{explanations_stay}
use Rattle.brk_view_theorems.proofs.unchanged_figures.runs_preserve_explained_figures.Goals as goal

pub returns : goal.returns
returns c = explanations_stay
