use Rattle.std.proofs.Common.{[]}
use Rattle.brk_money.specs.declared.side.Side.TheVariants.{Buy}
use Rattle.brk_lots.proofs.Books.{sides_after, quantities_add_up, costs_add_up}
use Rattle.brk_lots.proofs.theorems.replayed_lots_match_their_deals.Goals as goal

pub returns : goal.returns
returns c = record {
  one_side = λ ds. sides_after Buy ds [] tt;
  quantities = quantities_add_up;
  costs = costs_add_up;
}
