-- A comparison of a column with a parameter is that of its value.
use Rattle.std.proofs.Common.{◌≡◌, ℕ, pos, List, Option, Some, None, false, ◌==◌, is_eq, int_cmp, refl, sym, ◌∙◌, inl, inr, arith, eq-eqb, ne_eqb}
use Rattle.std.specs.Prelude.{nat_lt, bytes_eq}
use Rattle.std.specs.Option.{option_map_or}
use Rattle.std.proofs.lemmas.Bool.{cases_Bool, ltb-true, ltb-false}
use Rattle.std.proofs.lemmas.Map.Text.{is_eq-slice_cmp}
use Rattle.sqlite_value.specs.declared.value.Value.TheVariants.{Null, Int, Text as Words}
use Rattle.sqlite_value.specs.declared.keys.Collation.TheVariants.{Binary}
use Rattle.sqlite_sql.specs.declared.ops.BinaryOp.TheVariants.{Compare}
use Rattle.sqlite_sql.specs.declared.ops.CompareOp.TheVariants.{Eq}
use Rattle.sqlite_sql.specs.Ops.{binary, is_true}
use Rattle.brk_money.specs.Kinds.{trade_type_code, is_same_trade_type}
use Rattle.brk_money.specs.declared.trade_type.TradeType.{TradeType}
use Rattle.brk_money.specs.declared.trade_type.TradeType.TheVariants.{MarketBuy, MarketSell, StopLoss, LimitSell, LimitBuy}
use Rattle.brk_tables_sql.proofs.Values.{equal_ints, equal_texts}
use Rattle.brk_tables_schema.specs.Cells.{optional_natural_as_value}

numbers_tie : (m n : ℕ) → is_eq (int_cmp (pos m) (pos n)) ≡ (m == n)
numbers_tie m n = elim (cases_Bool (nat_lt m n)) [
  | inl a ↦ rw a (sym (ne_eqb m n (λ e. omega (arith, ltb-true m n a, e))))
  | inr a ↦ elim (cases_Bool (nat_lt n m)) [
    | inl b ↦ rw (a, b) (sym (ne_eqb m n (λ e. omega (arith, ltb-true n m b, e))))
    | inr b ↦ rw (a, b) (sym (eq-eqb m n (omega (arith, ltb-false m n a, ltb-false n m b))))
  ]
]

pub same_number : (m n : ℕ) → is_true (binary (Compare Eq Binary) (Int (pos m)) (Int (pos n))) ≡ (m == n)
same_number m n = equal_ints (pos m) (pos n) ∙ numbers_tie m n

pub same_text : (s t : List ℕ) → is_true (binary (Compare Eq Binary) (Words s) (Words t)) ≡ bytes_eq s t
same_text s t = equal_texts s t ∙ is_eq-slice_cmp s t

codes_tie : (j k : TradeType) → bytes_eq (trade_type_code j) (trade_type_code k) ≡ is_same_trade_type j k
codes_tie MarketBuy MarketBuy = refl
codes_tie MarketBuy MarketSell = refl
codes_tie MarketBuy StopLoss = refl
codes_tie MarketBuy LimitSell = refl
codes_tie MarketBuy LimitBuy = refl
codes_tie MarketSell MarketBuy = refl
codes_tie MarketSell MarketSell = refl
codes_tie MarketSell StopLoss = refl
codes_tie MarketSell LimitSell = refl
codes_tie MarketSell LimitBuy = refl
codes_tie StopLoss MarketBuy = refl
codes_tie StopLoss MarketSell = refl
codes_tie StopLoss StopLoss = refl
codes_tie StopLoss LimitSell = refl
codes_tie StopLoss LimitBuy = refl
codes_tie LimitSell MarketBuy = refl
codes_tie LimitSell MarketSell = refl
codes_tie LimitSell StopLoss = refl
codes_tie LimitSell LimitSell = refl
codes_tie LimitSell LimitBuy = refl
codes_tie LimitBuy MarketBuy = refl
codes_tie LimitBuy MarketSell = refl
codes_tie LimitBuy StopLoss = refl
codes_tie LimitBuy LimitSell = refl
codes_tie LimitBuy LimitBuy = refl

pub same_code : (j k : TradeType) → is_true (binary (Compare Eq Binary) (Words (trade_type_code j)) (Words (trade_type_code k))) ≡ is_same_trade_type j k
same_code j k = same_text (trade_type_code j) (trade_type_code k) ∙ codes_tie j k

-- null is no number
null_ties : (n : ℕ) → is_true (binary (Compare Eq Binary) Null (Int (pos n))) ≡ false
unfolding binary
null_ties n = refl

-- a number that may be missing: where it is, no number is the same
pub same_maybe : (o : Option ℕ) (n : ℕ) → is_true (binary (Compare Eq Binary) (optional_natural_as_value o) (Int (pos n))) ≡ option_map_or (λ m. m == n) o false
same_maybe None n = null_ties n
same_maybe (Some m) n = same_number m n
