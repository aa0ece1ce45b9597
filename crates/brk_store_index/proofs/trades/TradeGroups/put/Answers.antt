use Rattle.brk_store_index.proofs.trades.TradeGroups.put.Goals as goal

pub returns : goal.returns
returns c = record {
  places = rw c.get-2.ensures.value at c.in_ok-insert-3.ensures.updates.0;
  accounts = λ account. rw (c.get.ensures.value, c.age.ensures) at (c.in_ok-insert.ensures account);
  symbols = λ symbol. rw c.age-2.ensures at (c.in_ok-insert-2.ensures 0 symbol);
  submitted = rw c.of_id.ensures at c.in_ok-insert_age_if.ensures;
}
