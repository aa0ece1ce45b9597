-- The fifteen columns of a trade, one by one.
use Rattle.std.proofs.Common.{◌≡◌, ℕ, List, [], ◌∷◌, Bool, Option, Some, None, length, refl, sym, ap, ap₂, ◌∙◌, arith}
use Rattle.sqlite_value.specs.declared.value.Value.TheVariants.{Text as Words}
use Rattle.sqlite_value.specs.declared.value.ValueRef.{ValueRef}
use Rattle.sqlite_value.specs.Value.{owned}
use Rattle.sqlite_value.specs.Order.{Row, column}
use Rattle.sqlite.specs.Values.{bound, bound_value}
use Rattle.brk_money.specs.Kinds.{trade_status_code, trade_type_code}
use Rattle.brk_money.specs.declared.status.Status.{Status}
use Rattle.brk_money.specs.declared.trade_type.TradeType.{TradeType}
use Rattle.brk_model.specs.Tables.{TradeRow}
use Rattle.brk_tables_schema.specs.Cells.{natural_as_value, flag_as_value, optional_natural_as_value, trade_cells}

both : {X : Type 0} {a b : X} {xs ys : List X} → a ≡ b → xs ≡ ys → a ∷ xs ≡ b ∷ ys
both e f = ap₂ (λ x xs. x ∷ xs) e f

module _ (id : ℕ) (stamp : ℕ) (status : Status) (kind : TradeType) (is_cash : Bool) (symbol : List ℕ) (qty : ℕ) (bid : ℕ) (account : ℕ) (executor : List ℕ)
    (price : Option ℕ) (charge : ℕ) (commission : ℕ) (tax : ℕ) (is_lifo : Bool) where
  abbrev pub trade : TradeRow
  trade = record {
    id = id;
    stamp = stamp;
    status = status;
    kind = kind;
    is_cash = is_cash;
    symbol = symbol;
    qty = qty;
    bid = bid;
    account = account;
    executor =
        executor;
    price = price;
    charge = charge;
    commission = commission;
    tax = tax;
    is_lifo = is_lifo;
  }

  -- a row of fifteen columns that are a trade's
  pub row_is : (row : Row) → length row ≡ 15 → column row 0 ≡ natural_as_value id → column row 1 ≡ natural_as_value stamp
      → column row 2 ≡ Words (trade_status_code status) → column row 3 ≡ Words (trade_type_code kind) → column row 4 ≡ flag_as_value is_cash
      → column row 5 ≡ Words symbol → column row 6 ≡ natural_as_value qty → column row 7 ≡ natural_as_value bid → column row 8 ≡ natural_as_value account
      → column row 9 ≡ Words executor → column row 10 ≡ optional_natural_as_value price → column row 11 ≡ natural_as_value charge
      → column row 12 ≡ natural_as_value commission → column row 13 ≡ natural_as_value tax → column row 14 ≡ flag_as_value is_lifo → trade_cells trade ≡ row
  row_is (c0 ∷ c1 ∷ c2 ∷ c3 ∷ c4 ∷ c5 ∷ c6 ∷ c7 ∷ c8 ∷ c9 ∷ c10 ∷ c11 ∷ c12 ∷ c13 ∷ c14 ∷ []) h e0 e1 e2 e3 e4 e5 e6 e7 e8 e9 e10 e11 e12 e13 e14 =
      both (sym e0) (both (sym e1)
      (both (sym e2) (both (sym e3)
      (both (sym e4) (both (sym e5)
      (both (sym e6) (both (sym e7)
      (both (sym e8) (both (sym e9) (both (sym e10) (both (sym e11) (both (sym e12) (both (sym e13) (both (sym e14) refl))))))))))))))
  row_is (c0 ∷ c1 ∷ c2 ∷ c3 ∷ c4 ∷ c5 ∷ c6 ∷ c7 ∷ c8 ∷ c9 ∷ c10 ∷ c11 ∷ c12 ∷ c13 ∷ c14 ∷ more ∷ rest) h _ _ _ _ _ _ _ _ _ _ _ _ _ _ _ = absurd (omega (arith, h))
  row_is _ h _ _ _ _ _ _ _ _ _ _ _ _ _ _ _ = absurd (omega (arith, h))

bound_maybe : (o : Option ℕ) → bound_value (optional_natural_as_value o) ≡ optional_natural_as_value o
bound_maybe None = refl
bound_maybe (Some n) = refl

-- parameters that are a trade's
pub params_are : (x : TradeRow) (v0 v1 v2 v3 v4 v5 v6 v7 v8 v9 v10 v11 v12 v13 v14 : ValueRef) → owned v0 ≡ natural_as_value x.id
    → owned v1 ≡ natural_as_value x.stamp → owned v2 ≡ Words (trade_status_code x.status) → owned v3 ≡ Words (trade_type_code x.kind)
    → owned v4 ≡ flag_as_value x.is_cash → owned v5 ≡ Words x.symbol → owned v6 ≡ natural_as_value x.qty → owned v7 ≡ natural_as_value x.bid
    → owned v8 ≡ natural_as_value x.account → owned v9 ≡ Words x.executor → owned v10 ≡ optional_natural_as_value x.price
    → owned v11 ≡ natural_as_value x.charge → owned v12 ≡ natural_as_value x.commission → owned v13 ≡ natural_as_value x.tax
    → owned v14 ≡ flag_as_value x.is_lifo → bound (v0 ∷ v1 ∷ v2 ∷ v3 ∷ v4 ∷ v5 ∷ v6 ∷ v7 ∷ v8 ∷ v9 ∷ v10 ∷ v11 ∷ v12 ∷ v13 ∷ v14 ∷ []) ≡ trade_cells x
params_are x v0 v1 v2 v3 v4 v5 v6 v7 v8 v9 v10 v11 v12 v13 v14 e0 e1 e2 e3 e4 e5 e6 e7 e8 e9 e10 e11 e12 e13 e14 =
    both (ap bound_value e0)
    (both (ap bound_value e1)
    (both (ap bound_value e2)
    (both (ap bound_value e3)
    (both (ap bound_value e4)
    (both (ap bound_value e5)
    (both (ap bound_value e6)
    (both (ap bound_value e7)
    (both (ap bound_value e8)
    (both (ap bound_value e9)
    (both (ap bound_value e10 ∙ bound_maybe x.price)
    (both (ap bound_value e11) (both (ap bound_value e12) (both (ap bound_value e13) (both (ap bound_value e14) refl))))))))))))))
