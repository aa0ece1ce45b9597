-- The balance and the market value of an account, and their record.
use Rattle.std.specs.Prelude.{Bool, not, ◌&&◌, ◌||◌, nat_lt, int_lt, List, [], ◌∷◌, decimal}
use Rattle.brk_money.specs.Spelling.{Text, cents_text}
use Rattle.brk_model.specs.PositionView.{market_value_of_account_row}
use Rattle.brk_model.specs.Tables.{Tables, AccountRow}
use Rattle.brk_view_rows.specs.declared.worths.AccountWorth.{AccountWorth}

-- The id and balance of the account `a`, and the market value of its holdings, both in cents.
abbrev pub worth_of_account : Tables → AccountRow → AccountWorth
worth_of_account t a = record { account = a.id; balance = a.balance; assets = market_value_of_account_row t a }

-- True if the account `a` is before `b` by market value, then by id.
abbrev pub is_worth_before_by_market_value : AccountWorth → AccountWorth → Bool
is_worth_before_by_market_value a b = int_lt a.assets b.assets || (not (int_lt b.assets a.assets) && nat_lt a.account b.account)

-- The record of the account `a`: its id, its balance and the market value of its holdings.
abbrev pub account_worth_record : AccountWorth → List Text
account_worth_record a = decimal a.account ∷ cents_text a.balance ∷ cents_text a.assets ∷ []
