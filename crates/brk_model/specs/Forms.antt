-- The formats of fields. A malformed field is refused; of several refusals the first in the
-- sequence of the format checks is returned.
use Rattle.std.specs.Prelude.{ℕ, Bool, not, ◌&&◌, ◌||◌, ◌==◌, nat_le, if◌then◌else◌, List, [], ◌∷◌, length, find, Option, Some, None, Result, Ok, Err, ℤ, pos}
use Rattle.std.specs.Prelude.{negsuc, codes, bytes_eq, chars}
use Rattle.std.specs.List.{list_all}
use Rattle.std.specs.Option.{option_and_then}
use Rattle.std.specs.Str.{is_utf8}
use Rattle.std.specs.Char.{is_control, is_ascii_digit, is_ascii_uppercase, is_ascii_alphanumeric}
use Rattle.brk_money.specs.Spelling.{Text, decimal_number_of_text, cents_of_text, day_of_text, is_within_amount_limit}
use Rattle.brk_money.specs.Moments.{greatest_day, greatest_stamp}
use Rattle.brk_money.specs.Kinds.{trade_type_code, tax_status_with_number}
use Rattle.brk_money.specs.declared.order_type.OrderType.{OrderType}
use Rattle.brk_money.specs.declared.order_type.OrderType.TheVariants as asked
use Rattle.brk_money.specs.declared.trade_type.TradeType.{TradeType}
use Rattle.brk_money.specs.declared.trade_type.TradeType.TheVariants.{MarketBuy, MarketSell, StopLoss, LimitSell, LimitBuy}
use Rattle.brk_money.specs.declared.tax_status.TaxStatus.{TaxStatus}
use Rattle.brk_money.specs.declared.refusal.Refusal.{Refusal}
use Rattle.brk_money.specs.declared.refusal.Refusal.TheVariants.{BadText, BadQty, BadPrice, BadType, TooMany}
use Rattle.brk_model.specs.Limits.{greatest_qty, greatest_price, greatest_charge, greatest_commission_rate, greatest_tax_rate, greatest_amount, greatest_id}
use Rattle.brk_model.specs.Limits.{is_in_range}
use Rattle.brk_model.specs.Lists.{all_distinct}

-- The type of the result of reading fields: a value, or the refusal of a malformed field.
abbrev pub ReadResult : Type 0 → Type 0
ReadResult A = Result A Refusal

-- The rank of a refusal in the sequence of the format checks: 0 for `BadText`, then `BadQty`,
-- `BadPrice` and `BadType`, and 4 for any other.
abbrev pub format_refusal_rank : Refusal → ℕ
format_refusal_rank BadText = 0
format_refusal_rank BadQty = 1
format_refusal_rank BadPrice = 2
format_refusal_rank BadType = 3
format_refusal_rank _ = 4

-- The function applied to the value if both were read, otherwise the refusal; of two refusals, the
-- one with the lower `format_refusal_rank`, or the first if the ranks are equal.
infixl 60 ◌⊛◌
abbrev pub ◌⊛◌ : {A B : Type 0} → ReadResult (A → B) → ReadResult A → ReadResult B
Ok f ⊛ Ok x = Ok (f x)
Ok f ⊛ Err r = Err r
Err r ⊛ Ok x = Err r
Err r ⊛ Err s = Err (if nat_le (format_refusal_rank r) (format_refusal_rank s) then r else s)

-- The value if there is one and it passes `test`, otherwise the refusal `refusal`.
abbrev pub value_if_valid : {A : Type 0} → (A → Bool) → Refusal → Option A → ReadResult A
value_if_valid test refusal None = Err refusal
value_if_valid test refusal (Some x) = if test x then Ok x else Err refusal

-- The text if it passes `test`, otherwise the refusal `BadText`.
abbrev pub read_valid_text : (Text → Bool) → Text → ReadResult Text
read_valid_text test text = value_if_valid test BadText (Some text)

-- The number that the text parses as, from `low` to `high`, both included; otherwise `refusal`.
abbrev pub read_number_in_range : ℕ → ℕ → Refusal → Text → ReadResult ℕ
read_number_in_range low high refusal text = value_if_valid (λ n. is_in_range low high n) refusal (decimal_number_of_text text)

-- The id that a text parses as, from 1 to `greatest_id`; otherwise the refusal `BadText`.
abbrev pub read_id : Text → ReadResult ℕ
read_id = read_number_in_range 1 greatest_id BadText

-- The stamp of a text, 0 to `greatest_stamp`, in milliseconds since 1970-01-01 UTC, or `BadText`.
abbrev pub read_stamp : Text → ReadResult ℕ
read_stamp = read_number_in_range 0 greatest_stamp BadText

-- The quantity that a text parses as, from 1 to `greatest_qty` shares; otherwise `BadQty`.
abbrev pub read_quantity : Text → ReadResult ℕ
read_quantity = read_number_in_range 1 greatest_qty BadQty

-- The customer tier that a text parses as, from 1 to 3; otherwise the refusal `BadText`.
abbrev pub read_tier : Text → ReadResult ℕ
read_tier = read_number_in_range 1 3 BadText

-- The commission rate, 0 to `greatest_commission_rate` hundredths of a percent, or `BadText`.
abbrev pub read_commission_rate : Text → ReadResult ℕ
read_commission_rate = read_number_in_range 0 greatest_commission_rate BadText

-- The tax rate that a text parses as, 0 to `greatest_tax_rate` hundred-thousandths, or `BadText`.
abbrev pub read_tax_rate_number : Text → ReadResult ℕ
read_tax_rate_number = read_number_in_range 0 greatest_tax_rate BadText

-- The amount as a natural number if there is one and it is not negative, otherwise none.
abbrev pub nonnegative_amount : Option ℤ → Option ℕ
nonnegative_amount (Some (pos n)) = Some n
nonnegative_amount (Some (negsuc n)) = None
nonnegative_amount None = None

-- The price of a share that a text parses as, 1 to `greatest_price` cents; otherwise `BadPrice`.
abbrev pub read_price : Text → ReadResult ℕ
read_price text = value_if_valid (λ n. is_in_range 1 greatest_price n) BadPrice (nonnegative_amount (cents_of_text text))

-- The charge that a text parses as, from 0 to `greatest_charge` cents; otherwise `BadText`.
abbrev pub read_charge_amount : Text → ReadResult ℕ
read_charge_amount text = value_if_valid (λ n. nat_le n greatest_charge) BadText (nonnegative_amount (cents_of_text text))

-- The amount of a movement that a text parses as, 1 to `greatest_amount` cents, or `BadText`.
abbrev pub read_movement_amount : Text → ReadResult ℕ
read_movement_amount text = value_if_valid (λ n. is_in_range 1 greatest_amount n) BadText (nonnegative_amount (cents_of_text text))

-- The day that a text parses as, at most `greatest_day` days since 1970-01-01, or `BadText`.
abbrev pub read_day : Text → ReadResult ℕ
read_day text = value_if_valid (λ day. nat_le day greatest_day) BadText (day_of_text text)

-- The opening balance that a text parses as, in cents, with an absolute value of at most
-- `greatest_amount`; otherwise the refusal `BadText`.
abbrev pub read_opening_balance : Text → ReadResult ℤ
read_opening_balance text = value_if_valid (λ z. is_within_amount_limit z) BadText (cents_of_text text)

-- True if the text has 1 to `most` bytes, and each of them passes `test`.
abbrev pub is_word_up_to_length : ℕ → (ℕ → Bool) → Text → Bool
is_word_up_to_length most test text = is_in_range 1 most (length text) && list_all test text

-- True if the text is a name or a sector: 1 to 60 bytes of UTF-8 without control characters.
abbrev pub is_name : Text → Bool
is_name text = is_in_range 1 60 (length text) && is_utf8 text && list_all (λ c. not (is_control c)) (chars text)

-- The text if it is a name, otherwise the refusal `BadText`.
abbrev pub read_name : Text → ReadResult Text
read_name = read_valid_text is_name

-- True if the text is a tax id: 1 to 20 ASCII letters, digits and hyphens.
abbrev pub is_tax_id : Text → Bool
is_tax_id = is_word_up_to_length 20 (λ c. is_ascii_alphanumeric c || (c == 45))

-- The text if it is a tax id, otherwise the refusal `BadText`.
abbrev pub read_tax_id : Text → ReadResult Text
read_tax_id = read_valid_text is_tax_id

-- True if the text is a symbol: 1 to 15 ASCII capital letters, digits, points and hyphens.
abbrev pub is_symbol : Text → Bool
is_symbol = is_word_up_to_length 15 (λ c. is_ascii_uppercase c || is_ascii_digit c || (c == 46) || (c == 45))

-- The text if it is a symbol, otherwise the refusal `BadText`.
abbrev pub read_symbol : Text → ReadResult Text
read_symbol = read_valid_text is_symbol

-- True if the text is an exchange: 1 to 6 ASCII capital letters.
abbrev pub is_exchange : Text → Bool
is_exchange = is_word_up_to_length 6 is_ascii_uppercase

-- The text if it is an exchange, otherwise the refusal `BadText`.
abbrev pub read_exchange : Text → ReadResult Text
read_exchange = read_valid_text is_exchange

-- True if the text is a batch name: 1 to 40 ASCII letters, digits, points, hyphens and underscores.
abbrev pub is_batch_name : Text → Bool
is_batch_name = is_word_up_to_length 40 (λ c. is_ascii_alphanumeric c || (c == 46) || (c == 45) || (c == 95))

-- True if the text is the ACL of a permission: four characters, each the digit 0 or the digit 1.
abbrev pub is_acl : Text → Bool
is_acl text = (length text == 4) && list_all (λ c. (c == 48) || (c == 49)) text

-- The text if it is the ACL of a permission, otherwise the refusal `BadText`.
abbrev pub read_acl : Text → ReadResult Text
read_acl = read_valid_text is_acl

-- The tax status whose number the text parses as, otherwise the refusal `BadText`.
abbrev pub read_tax_status : Text → ReadResult TaxStatus
read_tax_status text = value_if_valid (λ status. Bool.true) BadText (option_and_then tax_status_with_number (decimal_number_of_text text))

-- The list of the five trade types: market buy, market sell, stop loss, limit sell, limit buy.
abbrev pub all_trade_types : List TradeType
all_trade_types = MarketBuy ∷ MarketSell ∷ StopLoss ∷ LimitSell ∷ LimitBuy ∷ []

-- The trade type whose code is the text, or none.
abbrev pub trade_type_with_code : Text → Option TradeType
trade_type_with_code text = find (λ kind. bytes_eq (trade_type_code kind) text) all_trade_types

-- The trade type whose code is the text, otherwise the refusal `BadType`.
abbrev pub read_trade_type : Text → ReadResult TradeType
read_trade_type text = value_if_valid (λ kind. Bool.true) BadType (trade_type_with_code text)

-- True if the text is `yes_word`; if not, false if it is `no_word`, otherwise `BadText`.
abbrev pub read_word_as_boolean : Text → Text → Text → ReadResult Bool
read_word_as_boolean yes_word no_word text =
    if bytes_eq text yes_word then Ok Bool.true else if bytes_eq text no_word then Ok Bool.false else Err BadText

-- True if the text is `cash`, false if it is `margin`, otherwise the refusal `BadText`.
abbrev pub read_cash_or_margin : Text → ReadResult Bool
read_cash_or_margin = read_word_as_boolean (codes "cash") (codes "margin")

-- True if the text is `lifo` (the last shares are closed first), false if `fifo`, or `BadText`.
abbrev pub read_lifo_or_fifo : Text → ReadResult Bool
read_lifo_or_fifo = read_word_as_boolean (codes "lifo") (codes "fifo")

-- The market type `order_type` if the text of the price is empty, otherwise the refusal `BadPrice`.
abbrev pub market_type_if_price_is_empty : OrderType → Text → ReadResult OrderType
market_type_if_price_is_empty order_type [] = Ok order_type
market_type_if_price_is_empty order_type _ = Err BadPrice

-- The order type `order_type` with the price that the text parses as, otherwise `BadPrice`.
abbrev pub read_priced_order_type : (ℕ → OrderType) → Text → ReadResult OrderType
read_priced_order_type order_type text = Ok order_type ⊛ read_price text

-- The refusal of an order whose type is unknown, by the text of its price: `BadPrice` if this text
-- is malformed and not empty, otherwise `BadType`.
abbrev pub refusal_of_unknown_type_by_price_text : Text → ReadResult OrderType
refusal_of_unknown_type_by_price_text [] = Err BadType
refusal_of_unknown_type_by_price_text (c ∷ text) = Err BadType ⊛ read_price (c ∷ text)

-- The order type of a trade type, with the price that a text parses as: empty for a market type,
-- well-formed for any other, otherwise the refusal `BadPrice`. Without a trade type the refusal is
-- `BadType` if the text is empty or a well-formed price, otherwise `BadPrice`.
abbrev pub order_type_with_price : Option TradeType → Text → ReadResult OrderType
order_type_with_price None = refusal_of_unknown_type_by_price_text
order_type_with_price (Some MarketBuy) = market_type_if_price_is_empty asked.MarketBuy
order_type_with_price (Some MarketSell) = market_type_if_price_is_empty asked.MarketSell
order_type_with_price (Some StopLoss) = read_priced_order_type (λ price. asked.StopLoss price)
order_type_with_price (Some LimitSell) = read_priced_order_type (λ price. asked.LimitSell price)
order_type_with_price (Some LimitBuy) = read_priced_order_type (λ price. asked.LimitBuy price)

-- The order type that the code of a trade type and the text of its price parse as, or a refusal
-- (`order_type_with_price`).
abbrev pub read_order_type : Text → Text → ReadResult OrderType
read_order_type type_text price_text = order_type_with_price (trade_type_with_code type_text) price_text

-- The values that the texts parse as by `read`, one each, in their sequence, or, if any text is
-- malformed, the refusal with the lowest `format_refusal_rank`, the first of these in the list.
abbrev pub read_each_text : {A : Type 0} → (Text → ReadResult A) → List Text → ReadResult (List A)
read_each_text read [] = Ok []
read_each_text read (text ∷ texts) = Ok (λ x xs. x ∷ xs) ⊛ read text ⊛ read_each_text read texts

-- The list if it has 1 to 20 elements; `BadText` if it is empty, `TooMany` if it is longer.
abbrev pub one_to_twenty_elements : {A : Type 0} → List A → ReadResult (List A)
one_to_twenty_elements [] = Err BadText
one_to_twenty_elements (x ∷ xs) = if nat_le (length (x ∷ xs)) 20 then Ok (x ∷ xs) else Err TooMany

-- The result of `check` on the value that was read, or the refusal if none was read.
abbrev pub check_read_value : {A B : Type 0} → (A → ReadResult B) → ReadResult A → ReadResult B
check_read_value check (Ok x) = check x
check_read_value check (Err refusal) = Err refusal

-- The 1 to 20 distinct ids; `BadText` if one occurs twice or there is none, otherwise `TooMany`.
abbrev pub one_to_twenty_distinct_ids : List ℕ → ReadResult (List ℕ)
one_to_twenty_distinct_ids ids = if all_distinct ids then one_to_twenty_elements ids else Err BadText

-- The 1 to 20 distinct ids that the texts parse as, one each; otherwise `BadText` if a text is
-- malformed, an id occurs twice or there is none, else `TooMany`.
abbrev pub read_distinct_ids : List Text → ReadResult (List ℕ)
read_distinct_ids texts = check_read_value one_to_twenty_distinct_ids (read_each_text read_id texts)
