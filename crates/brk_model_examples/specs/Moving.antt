-- Two movements after the first sale, and a purchase before the first day of one-day settlement.
use Rattle.std.specs.Prelude.{Some, [], ◌∷◌, pos, negsuc, codes}
use Rattle.brk_model.specs.Base.{Base}
use Rattle.brk_model.specs.Records.{Trade}
use Rattle.brk_money.specs.declared.status.Status.TheVariants.{Completed, Submitted}
use Rattle.brk_model_examples.specs.Setting.{setting_base}
use Rattle.brk_model_examples.specs.Trading.{first_purchase, base_after_fifo_sale}

-- The base `base_after_fifo_sale` after a deposit of 100.00 and then a withdrawal of 9000.00,
-- without stored rows and replies.
unfoldable pub base_after_sale_and_movements : Base
base_after_sale_and_movements = record base_after_fifo_sale {
  movements =
      record { account = 100; stamp = 1709251200022; amount = pos 10000; name = codes "Deposit" }
      ∷ record { account = 100; stamp = 1709251200023; amount = negsuc 899999; name = codes "Withdrawal" } ∷ [];
  last = Some 1709251200023;
}

-- The first purchase with both of its stamps one millisecond later.
abbrev pub purchase_one_millisecond_later : Trade
purchase_one_millisecond_later =
    record first_purchase { marks = record { stamp = 1709251200017; status = Submitted } ∷ record { stamp = 1709251200018; status = Completed } ∷ [] }

-- The base `setting_base` with the trade `purchase_one_millisecond_later`, and with 2024-03-02 as
-- the first day of one-day settlement, which was set before the purchase.
unfoldable pub base_after_purchase_with_one_day_settlement : Base
base_after_purchase_with_one_day_settlement = record setting_base { trades = purchase_one_millisecond_later ∷ []; rule = Some 19784; last = Some 1709251200018 }
