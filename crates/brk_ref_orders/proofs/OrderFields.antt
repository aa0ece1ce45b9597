-- The texts of an order's ten fields, and the values that are read from them.
use Rattle.std.proofs.Common.{◌≡◌, Bool, refl}
use Rattle.std.specs.Prelude.{ℕ, Ok, Err}
use Rattle.brk_money.specs.Spelling.{Text}
use Rattle.brk_money.specs.declared.order_type.OrderType.{OrderType}
use Rattle.brk_money.specs.declared.refusal.Refusal.{Refusal}
use Rattle.brk_money.specs.declared.refusal.Refusal.TheVariants.{BadText, BadQty}
use Rattle.brk_model.specs.Commands.{Order}
use Rattle.brk_model.specs.Records.{Executor}
use Rattle.brk_model.specs.Forms.{ReadResult, read_id, read_symbol, read_quantity, read_order_type, read_cash_or_margin, read_lifo_or_fifo}
use Rattle.brk_model.specs.Parse.{read_executor, read_order}
use Rattle.brk_ref_orders.specs.Records.{texts_of_order_fields}
use Rattle.brk_ref_orders.specs.declared.order.UnparsedOrder.{UnparsedOrder}
use Rattle.brk_ref_orders.proofs.Refused.{no_account, no_symbol, no_cash, no_end, no_executor, no_qty, late_order_type}

-- The order with these values.
abbrev made : ℕ → Text → ℕ → OrderType → Bool → Bool → Executor → Order
made a s q t c l e = record { account = a; order_type = t; symbol = s; qty = q; is_cash = c; is_lifo = l; executor = e }

module _ (t : UnparsedOrder) where
  -- what is read of each field
  abbrev account_read : ReadResult ℕ
  account_read = read_id t.account.now

  abbrev symbol_read : ReadResult Text
  symbol_read = read_symbol t.symbol.now

  abbrev qty_read : ReadResult ℕ
  qty_read = read_quantity t.qty.now

  abbrev type_read : ReadResult OrderType
  type_read = read_order_type t.kind.now t.price.now

  abbrev cash_read : ReadResult Bool
  cash_read = read_cash_or_margin t.cash.now

  abbrev end_read : ReadResult Bool
  end_read = read_lifo_or_fifo t.end.now

  abbrev executor_read : ReadResult Executor
  executor_read = read_executor t.first_name.now t.last_name.now t.tax_id.now

  -- an order of whose texts one is refused
  pub account_refused : account_read ≡ Err BadText → read_order (texts_of_order_fields t) ≡ Err BadText
  account_refused h = no_account made account_read symbol_read qty_read type_read cash_read end_read executor_read h

  pub symbol_refused : symbol_read ≡ Err BadText → read_order (texts_of_order_fields t) ≡ Err BadText
  symbol_refused h = no_symbol made account_read symbol_read qty_read type_read cash_read end_read executor_read h

  pub cash_refused : cash_read ≡ Err BadText → read_order (texts_of_order_fields t) ≡ Err BadText
  cash_refused h = no_cash made account_read symbol_read qty_read type_read cash_read end_read executor_read h

  pub end_refused : end_read ≡ Err BadText → read_order (texts_of_order_fields t) ≡ Err BadText
  end_refused h = no_end made account_read symbol_read qty_read type_read cash_read end_read executor_read h

  pub executor_refused : executor_read ≡ Err BadText → read_order (texts_of_order_fields t) ≡ Err BadText
  executor_refused h = no_executor made account_read symbol_read qty_read type_read cash_read end_read executor_read h

  -- an order whose texts stand
  module _ (a : ℕ) (s : Text) (c l : Bool) (e : Executor) where
    pub qty_refused : account_read ≡ Ok a → symbol_read ≡ Ok s → cash_read ≡ Ok c → end_read ≡ Ok l → executor_read ≡ Ok e
        → qty_read ≡ Err BadQty → read_order (texts_of_order_fields t) ≡ Err BadQty
    qty_refused ha hs hc hl he h = rw (ha, hs, hc, hl, he, h) (no_qty made a s type_read c l e (late_order_type t.kind.now t.price.now))

    module _ (q : ℕ) where
      pub type_refused : (refusal : Refusal) → account_read ≡ Ok a → symbol_read ≡ Ok s → cash_read ≡ Ok c → end_read ≡ Ok l → executor_read ≡ Ok e → qty_read ≡ Ok q
          → type_read ≡ Err refusal → read_order (texts_of_order_fields t) ≡ Err refusal
      type_refused refusal ha hs hc hl he hq h = rw (ha, hs, hc, hl, he, hq, h) refl

      pub all_read : (o : OrderType) → account_read ≡ Ok a → symbol_read ≡ Ok s → cash_read ≡ Ok c → end_read ≡ Ok l → executor_read ≡ Ok e → qty_read ≡ Ok q
          → type_read ≡ Ok o → read_order (texts_of_order_fields t) ≡ Ok (made a s q o c l e)
      all_read o ha hs hc hl he hq h = rw (ha, hs, hc, hl, he, hq, h) refl
