use Rattle.brk_model.specs.Tests.{stamp_of_next_command}
use Rattle.brk_trade_books.proofs.LotOrder.{older_read, position_read, shares_read}
use Rattle.brk_trade_books.proofs.ResultKeeping.{all_before, new_of_waiting}
use Rattle.brk_trade_books.proofs.reads.lots_form_a_position.Goals as goal

pub returns : goal.returns
returns c = record {
  position = position_read;
  shares = shares_read;
  later = λ base now account symbol books. older_read base account symbol (stamp_of_next_command base now) books (all_before base now books);
  fresh = new_of_waiting;
}
