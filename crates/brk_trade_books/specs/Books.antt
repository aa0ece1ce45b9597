-- The books invariant: what holds of every base that accepted commands reach from the empty base,
-- and of every base that is read from rows that pass an audit.
use Rattle.std.specs.Prelude.{◌≡◌, ◌≤◌, ⊤, ℕ, ◌==◌, ◌&&◌, Bool, true, false, List, [], ◌∷◌, Option, Some, None, nat_le, IfSome, bytes_eq, is_some}
use Rattle.std.specs.List.{AllByRecursion}
use Rattle.brk_money.specs.Moments.{greatest_stamp}
use Rattle.brk_money.specs.Kinds.{is_same_trade_status}
use Rattle.brk_money.specs.declared.status.Status.TheVariants.{Completed, Pending, Submitted}
use Rattle.brk_model.specs.Limits.{greatest_amount}
use Rattle.brk_model.specs.Records.{Account, Band, Broker, Customer, StatusChange, Movement, Permission, Security, Trade}
use Rattle.brk_model.specs.Base.{Base, completed_trades, account_with_id_in_list, has_last_status, last_status_stamp_of_trade}
use Rattle.brk_model.specs.Base.{broker_with_id_in_list, customer_with_id_in_list, security_with_symbol_in_list}
use Rattle.brk_model.specs.Names.{TradesAreNumberedFrom}
use Rattle.brk_model.specs.Tests.{bands_overlap}

-- No two elements of the list are the same by the test `same`.
abbrev pub HasDistinctElements : {X : Type 0} → (X → X → Bool) → List X → Type 0
HasDistinctElements same [] = ⊤
HasDistinctElements same (x ∷ xs) = AllByRecursion (λ y. same y x ≡ false) xs × HasDistinctElements same xs

-- No two accounts of the list have the same id.
abbrev pub HasDistinctAccountIds : List Account → Type 0
HasDistinctAccountIds accounts = HasDistinctElements (λ b a. b.id == a.id) accounts

-- No two permissions of the list have both the same account and the same tax id.
abbrev pub HasDistinctPermissions : List Permission → Type 0
HasDistinctPermissions permissions = HasDistinctElements (λ q p. (q.account == p.account) && bytes_eq q.tax_id p.tax_id) permissions

-- No two securities of the list have the same symbol.
abbrev pub HasDistinctSymbols : List Security → Type 0
HasDistinctSymbols securities = HasDistinctElements (λ u s. bytes_eq u.symbol s.symbol) securities

-- The volume of the security, in shares, is at most 10^17 (`greatest_amount`).
abbrev pub HasVolumeWithinLimit : Security → Type 0
HasVolumeWithinLimit s = s.volume ≤ greatest_amount

-- The list has exactly one status change.
abbrev pub HasOneStatusChange : List StatusChange → Type 0
HasOneStatusChange [] = ⊥
HasOneStatusChange (m ∷ []) = ⊤
HasOneStatusChange (m ∷ n ∷ marks) = ⊥

-- If the trade is pending, its history has exactly one status change. Vacuous for other trades.
abbrev pub HasOneStatusChangeIfPending : Trade → Type 0
HasOneStatusChangeIfPending t = has_last_status Pending t ≡ true → HasOneStatusChange t.marks

-- The status of the status change is not `Completed`.
abbrev pub IsNotCompletion : StatusChange → Type 0
IsNotCompletion m = is_same_trade_status m.status Completed ≡ false

-- If the trade is submitted, its history has no completion. Vacuous for other trades.
abbrev pub HasNoCompletionIfSubmitted : Trade → Type 0
HasNoCompletionIfSubmitted t = has_last_status Submitted t ≡ true → AllByRecursion IsNotCompletion t.marks

-- The last status stamp of the trade `t`, or 0, is at most `last`. False if `last` is `None`.
abbrev pub TradeStampIsAtMostLastStamp : Option ℕ → Trade → Type 0
TradeStampIsAtMostLastStamp None t = ⊥
TradeStampIsAtMostLastStamp (Some last) t = last_status_stamp_of_trade t ≤ last

-- No two trades of the list have the same last status stamp, which is 0 without a status change.
abbrev pub HasDistinctLastStatusStamps : List Trade → Type 0
HasDistinctLastStatusStamps trades = HasDistinctElements (λ u t. last_status_stamp_of_trade u == last_status_stamp_of_trade t) trades

-- The account of the movement `m` is one of `accounts`.
abbrev pub MovementAccountExists : List Account → Movement → Type 0
MovementAccountExists accounts m = is_some (account_with_id_in_list accounts m.account) ≡ true

-- The stamp of the movement is at most the last stamp `last`. False if `last` is `None`.
abbrev pub MovementStampIsAtMostLastStamp : Option ℕ → Movement → Type 0
MovementStampIsAtMostLastStamp None m = ⊥
MovementStampIsAtMostLastStamp (Some last) m = m.stamp ≤ last

-- The stamp of the last status change of the trade `t`, 0 if it has none, is not `stamp`.
abbrev pub HasLastStatusAtOtherStamp : ℕ → Trade → Type 0
HasLastStatusAtOtherStamp stamp t = (last_status_stamp_of_trade t == stamp) ≡ false

-- The stamps of the movements differ from one another and from the last status stamps of `done`.
abbrev pub HasDistinctMovementStamps : List Trade → List Movement → Type 0
HasDistinctMovementStamps done [] = ⊤
HasDistinctMovementStamps done (m ∷ ms) =
    AllByRecursion (HasLastStatusAtOtherStamp m.stamp) done × AllByRecursion (λ n. (n.stamp == m.stamp) ≡ false) ms × HasDistinctMovementStamps done ms

-- The part of the books invariant on movements: accounts exist; stamps are at most `last`,
-- distinct, and other than the last stamps of the trades `done`. Without `last` there are none.
pub record MovementBooksInvariant (all_accounts : List Account) (last : Option ℕ) (done : List Trade) (all_movements : List Movement) : Type 0 where
  -- The account of each movement exists.
  pub holders : AllByRecursion (MovementAccountExists all_accounts) all_movements
  -- No movement has a stamp after the last stamp, so the cash row of the next command is the last.
  pub early : AllByRecursion (MovementStampIsAtMostLastStamp last) all_movements
  -- No movement shares its stamp with another one or a completion: cash rows have one order.
  pub apart : HasDistinctMovementStamps done all_movements

-- The lower bound of the band is at most its upper bound.
abbrev pub HasOrderedBounds : Band → Type 0
HasOrderedBounds b = nat_le b.from_qty b.to_qty ≡ true

-- No two bands of the list overlap (`bands_overlap`).
abbrev pub HasDisjointBands : List Band → Type 0
HasDisjointBands [] = ⊤
HasDisjointBands (b ∷ bs) = AllByRecursion (λ c. bands_overlap b c ≡ false) bs × HasDisjointBands bs

-- The broker of the account `a` is one of `brokers`.
abbrev pub AccountBrokerExists : List Broker → Account → Type 0
AccountBrokerExists brokers a = is_some (broker_with_id_in_list brokers a.broker) ≡ true

-- The customer of the account `a` is one of `customers`.
abbrev pub AccountCustomerExists : List Customer → Account → Type 0
AccountCustomerExists customers a = is_some (customer_with_id_in_list customers a.customer) ≡ true

-- The account of the trade `t` is one of `accounts`.
abbrev pub TradeAccountExists : List Account → Trade → Type 0
TradeAccountExists accounts t = is_some (account_with_id_in_list accounts t.account) ≡ true

-- One of `securities` has the symbol of the trade `t`.
abbrev pub TradeSecurityExists : List Security → Trade → Type 0
TradeSecurityExists securities t = is_some (security_with_symbol_in_list securities t.symbol) ≡ true

-- The part of the books invariant that concerns accounts and permissions.
pub record AccountBooksInvariant (all_brokers : List Broker) (all_customers : List Customer) (all_accounts : List Account)
    (all_permissions : List Permission) : Type 0 where
  -- The broker and the customer of each account exist.
  pub brokers : AllByRecursion (AccountBrokerExists all_brokers) all_accounts
  pub customers : AllByRecursion (AccountCustomerExists all_customers) all_accounts
  -- No two accounts have the same id, so each summary belongs to one account.
  pub owners : HasDistinctAccountIds all_accounts
  -- An account has at most one permission for a tax id, which alone decides on its executor.
  pub permissions : HasDistinctPermissions all_permissions

-- The part of the books invariant that concerns securities and bands.
pub record SecurityBooksInvariant (all_securities : List Security) (all_bands : List Band) : Type 0 where
  -- No two securities have the same symbol, so a tick changes at most one row of LAST_TRADE.
  pub symbols : HasDistinctSymbols all_securities
  -- The volume of each security is within the limit: a feed can exceed it only for its symbols.
  pub volumes : AllByRecursion HasVolumeWithinLimit all_securities
  -- The lower bound of each band is at most its upper bound.
  pub bands : AllByRecursion HasOrderedBounds all_bands
  -- A quantity is in at most one band of a tier, a type and an exchange.
  pub apart : HasDisjointBands all_bands

-- The part of the books invariant that concerns trades.
pub record TradeBooksInvariant (all_accounts : List Account) (all_securities : List Security) (all_trades : List Trade) : Type 0 where
  -- The account and the security of each trade exist.
  pub accounts : AllByRecursion (TradeAccountExists all_accounts) all_trades
  pub securities : AllByRecursion (TradeSecurityExists all_securities) all_trades
  -- Trades are numbered from 1, in the sequence of the list, so the next number is new.
  pub numbered : TradesAreNumberedFrom 1 all_trades
  -- A pending trade has one status change in its history, so its next status is new there.
  pub ways : AllByRecursion HasOneStatusChangeIfPending all_trades
  -- A submitted trade was never completed, so its completion is new in its history.
  pub completions : AllByRecursion HasNoCompletionIfSubmitted all_trades

-- The part of the books invariant on stamps. If `last` is `None`, no trade is completed (`done`).
pub record CompletionBooksInvariant (last : Option ℕ) (done : List Trade) : Type 0 where
  -- No trade was completed after the last stamp: the next completion is the last of its position.
  pub early : AllByRecursion (TradeStampIsAtMostLastStamp last) done
  -- No two trades were completed at the same stamp, so the order of a position's lots is unique.
  pub moments : HasDistinctLastStatusStamps done
  -- The last stamp, if there is one, is within the range of stamps.
  pub clock : IfSome last (λ last. last ≤ greatest_stamp)

-- The base satisfies the books invariant: the records that accounts, trades and movements refer to
-- exist; account ids, permissions, symbols, and the stamps of completions and movements are unique;
-- volumes are within their limit; bands have ordered bounds and do not overlap; trades are numbered
-- from 1; a pending trade has exactly one status change, a submitted trade no completion; no
-- completion and no movement is after the last stamp, and without one there are none; the last
-- stamp is at most the greatest stamp. Each part names the fields of the base that it concerns.
pub record BooksInvariant (base : Base) : Type 0 where
  pub parties : AccountBooksInvariant base.brokers base.customers base.accounts base.permissions
  pub open parties use *
  pub market : SecurityBooksInvariant base.securities base.bands
  pub open market use *
  pub trades : TradeBooksInvariant base.accounts base.securities base.trades
  pub open trades use *
  pub times : CompletionBooksInvariant base.last (completed_trades base)
  pub open times use *
  pub movements : MovementBooksInvariant base.accounts base.last (completed_trades base) base.movements
