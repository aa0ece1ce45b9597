-- References between records: the named records exist, and trades are numbered in sequence.
use Rattle.std.specs.Prelude.{◌≡◌, ⊤, ℕ, ◌+◌, true, List, [], ◌∷◌, is_some}
use Rattle.brk_model.specs.Records.{Account, Trade, Movement}
use Rattle.brk_model.specs.Base.{Base, broker_with_id, customer_with_id, account_with_id, security_with_symbol}

-- The broker of the account `a` exists in `base`.
abbrev pub BrokerOfAccountExists : Base → Account → Type 0
BrokerOfAccountExists base a = is_some (broker_with_id base a.broker) ≡ true

-- The customer of the account `a` exists in `base`.
abbrev pub CustomerOfAccountExists : Base → Account → Type 0
CustomerOfAccountExists base a = is_some (customer_with_id base a.customer) ≡ true

-- The account of the trade `t` exists in `base`.
abbrev pub AccountOfTradeExists : Base → Trade → Type 0
AccountOfTradeExists base t = is_some (account_with_id base t.account) ≡ true

-- The security of the trade `t` exists in `base`.
abbrev pub SecurityOfTradeExists : Base → Trade → Type 0
SecurityOfTradeExists base t = is_some (security_with_symbol base t.symbol) ≡ true

-- The account of the movement `m` exists in `base`.
abbrev pub AccountOfMovementExists : Base → Movement → Type 0
AccountOfMovementExists base m = is_some (account_with_id base m.account) ≡ true

-- The ids of the trades are `n`, `n + 1` and so on, in sequence. The empty list satisfies this.
abbrev pub TradesAreNumberedFrom : ℕ → List Trade → Type 0
TradesAreNumberedFrom n [] = ⊤
TradesAreNumberedFrom n (t ∷ ts) = (t.id ≡ n) × TradesAreNumberedFrom (n + 1) ts
