use Rattle.std.proofs.Common.{◌≡◌, ◌+◌, ◌<◌, ℕ, Bool, false, filter, is_none, length, nat_le}
use Rattle.sqlite.specs.Held.{state}
use Rattle.brk_model.specs.Limits.{greatest_id}
use Rattle.brk_model.specs.Tables.{CashRow, Tables}
use Rattle.brk_trade_books.specs.TradeReads.{last_cash_row_number_or_zero}
use Rattle.brk_store.proofs.Counting.{too_few}
use Rattle.brk_store_reads.proofs.Retelling.{retold_of}
use Rattle.brk_store_reads.proofs.Sequences.{read_with}
use Rattle.brk_store.proofs.store.Store.next_movement_number.Goals as goal

abbrev IsNext : ℕ → Tables → Type 0
IsNext next t = next ≡ last_cash_row_number_or_zero t + 1

abbrev AreAll : Bool → Tables → Type 0
AreAll all t = all ≡ nat_le greatest_id (length (filter (λ (r : CashRow). is_none r.trade) t.moves))

abbrev AreNextAndAll : ℕ × Bool → Tables → Type 0
AreNextAndAll number t = IsNext number.0 t × AreAll number.1 t

pub returns-then-get-lt-GREATEST_MOVEMENT_COUNT : goal.returns-then-get-lt-GREATEST_MOVEMENT_COUNT
returns-then-get-lt-GREATEST_MOVEMENT_COUNT g c =
    let next = c.in_ok-next.next in
    let low : next < greatest_id = rw c.get.ensures.value at c.if-get-lt-GREATEST_MOVEMENT_COUNT.true in
    record {
      read = retold_of g.S.Store c.args.self.now c.next_cash_row_number.new.self next (next, false) IsNext AreNextAndAll
          (λ t has is. (is, too_few t (state g.S.Store c.args.self.now).now next has is low)) c.in_ok-next.ensures.read;
    }

pub returns : goal.returns
returns g c =
    let next = c.in_ok-next.next in
    let all = c.in_ok-has_reached_limit.has_reached_limit in
    record {
      read = read_with g.S.Store c.args.self.now c.next_cash_row_number.new.self c.has_reached_movement_limit.new.self next all (next, all) IsNext AreAll AreNextAndAll
          (λ t is are. (is, are)) c.in_ok-next.ensures.read c.in_ok-has_reached_limit.ensures.read;
    }
