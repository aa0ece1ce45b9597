-- The texts of cash rows, and checks of the first rows of a list.
use Rattle.std.proofs.Common.{◌≡◌, ℕ, zero, suc, ◌<◌, Bool, true, false, cond, List, [], ◌∷◌, ◌++◌, refl, sym, ◌∙◌, ap, map, length, get_or, Option, Some, None, arith}
use Rattle.std.specs.Prelude.{◌&&◌, bytes_eq, decimal, find}
use Rattle.std.specs.List.{list_all}
use Rattle.std.specs.Option.{option_map_or}
use Rattle.brk_money.specs.Spelling.{Text}
use Rattle.brk_money.specs.Kinds.{trade_type_name}
use Rattle.brk_model.specs.Tables.{Tables, TradeRow, SecurityRow, LastTradeRow}
use Rattle.brk_model.specs.Adopted.{base_of_tables, security_of_row, security_of_rows, zero_last_trade_row, trade_of_row}
use Rattle.brk_model.specs.Results.{cash_row_name, cash_row_name_from_parts}
use Rattle.brk_audit_form.specs.Names.{security_name_or_empty}

-- The cash text of the trade of the row `row`: the name of its type, a space, its quantity in
-- decimal digits, `words` (such as " shares of "), and the name of its security in the tables,
-- which is empty if the security does not exist.
abbrev pub cash_text_of_trade_in_tables : Tables → Text → TradeRow → Text
cash_text_of_trade_in_tables t words row = cash_row_name_from_parts words row.kind row.qty (security_name_or_empty t row.symbol)

symbol_same : (t : Tables) (s : SecurityRow) → (security_of_row t s).symbol ≡ s.symbol
symbol_same t s = by_last (find (λ l. bytes_eq l.symbol s.symbol) t.last_trades)
  where
    by_last : (o : Option LastTradeRow) → (option_map_or (security_of_rows s) o (security_of_rows s (zero_last_trade_row s.symbol))).symbol ≡ s.symbol
    by_last None = refl
    by_last (Some l) = refl

called_same : (t : Tables) (s : SecurityRow) → (security_of_row t s).name ≡ s.name
called_same t s = by_last (find (λ l. bytes_eq l.symbol s.symbol) t.last_trades)
  where
    by_last : (o : Option LastTradeRow) → (option_map_or (security_of_rows s) o (security_of_rows s (zero_last_trade_row s.symbol))).name ≡ s.name
    by_last None = refl
    by_last (Some l) = refl

names_same : (t : Tables) (q : Text) (rows : List SecurityRow)
    → option_map_or (λ s. s.name) (find (λ s. bytes_eq s.symbol q) (map (security_of_row t) rows)) [] ≡ option_map_or (λ s. s.name) (find (λ s. bytes_eq s.symbol q) rows) []
names_same t q [] = refl
names_same t q (s ∷ rows) =
    ap (λ x. option_map_or (λ s. s.name) (cond (bytes_eq x q) (Some (security_of_row t s)) (find (λ s. bytes_eq s.symbol q) (map (security_of_row t) rows))) []) (symbol_same t s)
    ∙ by_test (bytes_eq s.symbol q) (names_same t q rows)
  where
    by_test : (b : Bool)
        → option_map_or (λ s. s.name) (find (λ s. bytes_eq s.symbol q) (map (security_of_row t) rows)) [] ≡ option_map_or (λ s. s.name) (find (λ s. bytes_eq s.symbol q) rows) []
        → option_map_or (λ s. s.name) (cond b (Some (security_of_row t s)) (find (λ s. bytes_eq s.symbol q) (map (security_of_row t) rows))) []
        ≡ option_map_or (λ s. s.name) (cond b (Some s) (find (λ s. bytes_eq s.symbol q) rows)) []
    by_test true e = called_same t s
    by_test false e = e

-- the text of a trade is that of its row
pub text_same : (t : Tables) (words : Text) (row : TradeRow) → cash_text_of_trade_in_tables t words row ≡ cash_row_name words (base_of_tables t) (trade_of_row t row)
unfolding base_of_tables
text_same t words row = ap (λ name. trade_type_name row.kind ++ 32 ∷ decimal row.qty ++ words ++ name) (sym (names_same t row.symbol t.securities))

-- ---- a test of each row

and_false : (b : Bool) → (b && false) ≡ false
and_false true = refl
and_false false = refl

pub all_not : {X : Type 0} (p : X → Bool) (xs : List X) (i : ℕ) (x : X) → i < length xs → x ≡ get_or xs i x → p x ≡ false → list_all p xs ≡ false
all_not p [] i x h r e = absurd (omega arith)
all_not p (y ∷ xs) zero x h r e = ap (λ b. b && list_all p xs) (ap p (sym r) ∙ e)
all_not p (y ∷ xs) (suc i) x h r e = ap (λ b. p y && b) (all_not p xs i x (omega arith) r e) ∙ and_false (p y)
