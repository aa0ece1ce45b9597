-- An index after a row change.
use Rattle.std.proofs.Common.{◌≡◌, ◌∙◌, ◌+◌, ◌<◌, ◌==◌, ℕ, ℤ, Bool, true, false, not, cond, List, ◌∷◌, Some, map, filter, take, length, get_or, Result, Ok, Err, OnOk, refl, sym, ap, subst}
use Rattle.std.specs.Prelude.{bytes_eq, string_bytes}
use Rattle.std.proofs.lemmas.List.Sums.{fold_more}
use Rattle.brk_money.specs.Kinds.{is_same_trade_status}
use Rattle.brk_money.specs.Spelling.{Text}
use Rattle.brk_money.specs.declared.status.Status.{Status}
use Rattle.brk_money.specs.declared.status.Status.TheVariants.{Completed, Submitted}
use Rattle.brk_model.specs.Keys.{KeyPart, is_row_key_less, account_key, holding_key, holding_history_key, last_trade_key, trade_key, cash_move_key}
use Rattle.brk_model.specs.Lists.{insert_by, update_where}
use Rattle.brk_model.specs.LookupView.{is_cash_row_of_trade}
use Rattle.brk_model.specs.Tables.{AccountRow, CashRow, HoldingHistoryRow, HoldingRow, LastTradeRow, Tables, TradeRow}
use Rattle.brk_trade_rows.specs.Changes.{tables_after_change, tables_after_changes}
use Rattle.brk_ref.specs.Records.{abstract_account, abstract_last_trade_row}
use Rattle.brk_ref.specs.Rows.{abstract_cash_row, abstract_holding_row, abstract_lot_change_row, abstract_trade_row}
use Rattle.brk_trade_rows.specs.declared.change.Change.{Change}
use Rattle.brk_trade_rows.specs.declared.change.Change.TheVariants.{AddBroker, AddCustomer, AddAccount, AddPermission, AddSecurity, AddLastTrade}
use Rattle.brk_trade_rows.specs.declared.change.Change.TheVariants.{AddCharge, AddBand, AddTaxRate, AddCustomerTax, AddTrade, SetStatus, AddHistory}
use Rattle.brk_trade_rows.specs.declared.change.Change.TheVariants.{AddRequest, RemoveRequest, SetLastTrade, CompleteTrade, AddLot, SetLot, RemoveLot}
use Rattle.brk_trade_rows.specs.declared.change.Change.TheVariants.{AddLotChange, AddSummary, SetSummary, RemoveSummary, AddSettlement, AddMove}
use Rattle.brk_trade_rows.specs.declared.change.Change.TheVariants.{SetBalance, SetBrokerTotals, SetExecutor, SetCashType, SetCashName, SetOneDaySettlementStart}
use Rattle.brk_trade_rows.specs.declared.change.Change.TheVariants.{AddStoredReply, SetLastStamp}
use Rattle.brk_ref.specs.declared.account.Account as typed_account
use Rattle.brk_ref.specs.declared.band.Band as typed_band
use Rattle.brk_ref.specs.declared.cash_row.CashRow as typed_cash
use Rattle.brk_ref.specs.declared.charge.Charge as typed_charge
use Rattle.brk_ref.specs.declared.customer.Customer as typed_customer
use Rattle.brk_ref.specs.declared.customer_tax.CustomerTax as typed_customer_tax
use Rattle.brk_ref.specs.declared.holding_row.HoldingRow as typed_lot
use Rattle.brk_ref.specs.declared.last_trade.LastTrade as typed_last
use Rattle.brk_ref.specs.declared.lot_change.LotChange as typed_change
use Rattle.brk_ref.specs.declared.security.Security as typed_security
use Rattle.brk_ref.specs.declared.tax.Tax as typed_tax
use Rattle.brk_ref.specs.declared.trade_row.TradeRow as typed_trade
use Rattle.brk_store_index.specs.declared.by_number.AgesByNumber.{AgesByNumber}
use Rattle.brk_store_index.specs.declared.index.RowIndex.{RowIndex}
use Rattle.brk_store_index.specs.declared.lots.LotGroups.{LotGroups}
use Rattle.brk_store_index.specs.declared.lots.LotPlace.{LotPlace}
use Rattle.brk_store_index.specs.declared.prices.LastPrices.{LastPrices}
use Rattle.brk_store_index.specs.declared.terms.Terms.{Terms}
use Rattle.brk_store_index.specs.declared.trades.TradeGroups.{TradeGroups}
use Rattle.brk_store_index.specs.declared.trades.TradePlace.{TradePlace}
use Rattle.brk_store_index.specs.Ages.{AreAgesOf, Has, InsertsAgeIf}
use Rattle.brk_store_index.specs.Groups.{ages_of_number, ages_of_position, is_same_position}
use Rattle.brk_store_index.specs.Index.{Group, HasRowsOf, IsIndexOf, ages_at, members}
use Rattle.brk_store_index.specs.Parts.{AreAccountsOf, AreCashRowsOf, AreLotChangesOf, IsIndexOfLots, IsIndexOfTrades, SetsStatus, age_of_cash_row, age_of_id, lot_places, place_of_lot, place_of_trade, trade_places}
use Rattle.brk_store_index.specs.Prices.{AddsPrice, AreLastPricesOf, SetsPrice}
use Rattle.brk_store_index.specs.Terms.{AreTermsOf}
use Rattle.brk_store_index.proofs.Aged.{ages_mapped, ages_same, ages_with}
use Rattle.brk_store_index.proofs.Elements.{behind, front, has_inserted, inserted_has}
use Rattle.brk_store_index.proofs.Places.{ages_of_rows, follows_rows, places_mapped, places_same}
use Rattle.brk_store_index.proofs.Pricing.{price_inserted, price_set}
use Rattle.brk_store_index.proofs.Trading.{trades_same}

-- ---- the parts of an index

-- each part has the rows of its table
pub record PartsOf (index : RowIndex) (t : Tables) : Type 0 where
  pub lots : IsIndexOfLots index.lots t.holdings
  pub trades : IsIndexOfTrades index.trades t.trades
  pub accounts : AreAccountsOf index.accounts t.accounts
  pub changes : AreLotChangesOf index.changes t.holding_history
  pub cash : AreCashRowsOf index.cash t.moves
  pub prices : AreLastPricesOf index.prices t.last_trades
  pub terms : AreTermsOf index.terms t

pub whole : (index : RowIndex) (t : Tables) → PartsOf index t → IsIndexOf index t
whole index t parts = record { groups = groups; lot_places = parts.lots.places; trade_places = parts.trades.places; last_prices = parts.prices; terms = parts.terms }
  where
    groups : (g : Group) → AreAgesOf (ages_at index g) (members g t)
    groups (Group.Position account symbol) =
        ages_of_rows (λ (r : HoldingRow). r.trade) place_of_lot (lot_places index.lots) t.holdings parts.lots.places (λ (p : LotPlace). is_same_position p.account p.symbol account symbol) (λ (p : LotPlace). p.stamp)
        (ages_of_position index.lots.positions account symbol) (parts.lots.positions account symbol)
    groups (Group.LotsOfAccount account) =
        ages_of_rows (λ (r : HoldingRow). r.trade) place_of_lot (lot_places index.lots) t.holdings parts.lots.places (λ (p : LotPlace). p.account == account) (λ p. 0)
        (ages_of_number index.lots.accounts account) (parts.lots.accounts account)
    groups (Group.TradesOfAccount account) =
        ages_of_rows (λ (r : TradeRow). r.id) place_of_trade (trade_places index.trades) t.trades parts.trades.places (λ (p : TradePlace). p.account == account) (λ (p : TradePlace). p.stamp)
        (ages_of_number index.trades.accounts account) (parts.trades.accounts account)
    groups (Group.TradesOfSymbol symbol) =
        ages_of_rows (λ (r : TradeRow). r.id) place_of_trade (trade_places index.trades) t.trades parts.trades.places (λ (p : TradePlace). bytes_eq p.symbol symbol) (λ (p : TradePlace). p.stamp)
        (ages_of_position index.trades.symbols 0 symbol) (parts.trades.symbols symbol)
    groups Group.SubmittedTrades =
        ages_of_rows (λ (r : TradeRow). r.id) place_of_trade (trade_places index.trades) t.trades parts.trades.places (λ (p : TradePlace). p.is_submitted) (λ p. 0)
        index.trades.submitted.items parts.trades.submitted
    groups (Group.AccountsOfCustomer customer) = parts.accounts customer
    groups (Group.CashRowsOfAccount account) = parts.cash account
    groups (Group.LotChangesOfTrade trade) = parts.changes trade

pub parts_of : (index : RowIndex) (t : Tables) → IsIndexOf index t → PartsOf index t
parts_of index t is = record {
  lots = record {
    places = is.lot_places;
    accounts = λ account.
        follows_rows (λ (r : HoldingRow). r.trade) place_of_lot (lot_places index.lots) t.holdings is.lot_places (λ (p : LotPlace). p.account == account) (λ p. 0)
        (ages_of_number index.lots.accounts account) (is.groups (Group.LotsOfAccount account));
    positions = λ account symbol.
        follows_rows (λ (r : HoldingRow). r.trade) place_of_lot (lot_places index.lots) t.holdings is.lot_places (λ (p : LotPlace). is_same_position p.account p.symbol account symbol) (λ (p : LotPlace). p.stamp)
        (ages_of_position index.lots.positions account symbol) (is.groups (Group.Position account symbol));
  };
  trades = record {
    places = is.trade_places;
    accounts = λ account.
        follows_rows (λ (r : TradeRow). r.id) place_of_trade (trade_places index.trades) t.trades is.trade_places (λ (p : TradePlace). p.account == account) (λ (p : TradePlace). p.stamp)
        (ages_of_number index.trades.accounts account) (is.groups (Group.TradesOfAccount account));
    symbols = λ symbol.
        follows_rows (λ (r : TradeRow). r.id) place_of_trade (trade_places index.trades) t.trades is.trade_places (λ (p : TradePlace). bytes_eq p.symbol symbol) (λ (p : TradePlace). p.stamp)
        (ages_of_position index.trades.symbols 0 symbol) (is.groups (Group.TradesOfSymbol symbol));
    submitted =
        follows_rows (λ (r : TradeRow). r.id) place_of_trade (trade_places index.trades) t.trades is.trade_places (λ (p : TradePlace). p.is_submitted) (λ p. 0)
        index.trades.submitted.items (is.groups Group.SubmittedTrades);
  };
  accounts = λ customer. is.groups (Group.AccountsOfCustomer customer);
  changes = λ trade. is.groups (Group.LotChangesOfTrade trade);
  cash = λ account. is.groups (Group.CashRowsOfAccount account);
  prices = is.last_prices;
  terms = is.terms;
}

pub index_of_rows : (index : RowIndex) (lots : List HoldingRow) (trades : List TradeRow) (accounts : List AccountRow) (changes : List HoldingHistoryRow) (cash : List CashRow) (last_trades : List LastTradeRow)
    → IsIndexOfLots index.lots lots → IsIndexOfTrades index.trades trades → AreAccountsOf index.accounts accounts → AreLotChangesOf index.changes changes
    → AreCashRowsOf index.cash cash → AreLastPricesOf index.prices last_trades → (t : Tables) → HasRowsOf t lots trades accounts changes cash last_trades → AreTermsOf index.terms t → IsIndexOf index t
index_of_rows index lots trades accounts changes cash last_trades l r a c m p t has terms =
    whole index t (record {
      lots = subst (IsIndexOfLots index.lots) (sym has.lot_rows) l;
      trades = subst (IsIndexOfTrades index.trades) (sym has.trade_rows) r;
      accounts = subst (AreAccountsOf index.accounts) (sym has.account_rows) a;
      changes = subst (AreLotChangesOf index.changes) (sym has.lot_changes) c;
      cash = subst (AreCashRowsOf index.cash) (sym has.cash_rows) m;
      prices = subst (AreLastPricesOf index.prices) (sym has.last_trade_rows) p;
      terms = terms;
    })

-- ---- lists with the same elements

pub lots_same : (lots : LotGroups) (xs ys : List HoldingRow) → ((y : HoldingRow) → Has ys y → Has xs y) → ((x : HoldingRow) → Has xs x → Has ys x) → IsIndexOfLots lots xs → IsIndexOfLots lots ys
lots_same lots xs ys from onto is = record { places = places_same (λ (r : HoldingRow). r.trade) place_of_lot (lot_places lots) xs ys from onto is.places; accounts = is.accounts; positions = is.positions }

pub accounts_same : (groups : AgesByNumber) (xs ys : List AccountRow) → ((y : AccountRow) → Has ys y → Has xs y) → ((x : AccountRow) → Has xs x → Has ys x) → AreAccountsOf groups xs → AreAccountsOf groups ys
accounts_same groups xs ys from onto is customer = ages_same (λ (r : AccountRow). r.customer == customer) (λ (r : AccountRow). age_of_id r.id) (ages_of_number groups customer) xs ys from onto (is customer)

pub lot_changes_same : (groups : AgesByNumber) (xs ys : List HoldingHistoryRow) → ((y : HoldingHistoryRow) → Has ys y → Has xs y) → ((x : HoldingHistoryRow) → Has xs x → Has ys x)
    → AreLotChangesOf groups xs → AreLotChangesOf groups ys
lot_changes_same groups xs ys from onto is trade = ages_same (λ (r : HoldingHistoryRow). r.trade == trade) (λ (r : HoldingHistoryRow). age_of_id r.lot) (ages_of_number groups trade) xs ys from onto (is trade)

pub cash_rows_same : (groups : AgesByNumber) (xs ys : List CashRow) → ((y : CashRow) → Has ys y → Has xs y) → ((x : CashRow) → Has xs x → Has ys x) → AreCashRowsOf groups xs → AreCashRowsOf groups ys
cash_rows_same groups xs ys from onto is account = ages_same (λ (r : CashRow). r.account == account) age_of_cash_row (ages_of_number groups account) xs ys from onto (is account)

-- ---- one row more

pub accounts_with : (old new : AgesByNumber) (r : AccountRow) (rows : List AccountRow) → ((q : ℕ) → InsertsAgeIf (r.customer == q) (ages_of_number old q) (age_of_id r.id) (ages_of_number new q))
    → AreAccountsOf old rows → AreAccountsOf new (r ∷ rows)
accounts_with old new r rows inserts is customer =
    ages_with (λ (x : AccountRow). x.customer == customer) (λ (x : AccountRow). age_of_id x.id) r rows (ages_of_number old customer) (ages_of_number new customer) (inserts customer) (is customer)

pub lot_changes_with : (old new : AgesByNumber) (r : HoldingHistoryRow) (rows : List HoldingHistoryRow)
    → ((q : ℕ) → InsertsAgeIf (r.trade == q) (ages_of_number old q) (age_of_id r.lot) (ages_of_number new q)) → AreLotChangesOf old rows → AreLotChangesOf new (r ∷ rows)
lot_changes_with old new r rows inserts is trade =
    ages_with (λ (x : HoldingHistoryRow). x.trade == trade) (λ (x : HoldingHistoryRow). age_of_id x.lot) r rows (ages_of_number old trade) (ages_of_number new trade) (inserts trade) (is trade)

pub cash_rows_with : (old new : AgesByNumber) (r : CashRow) (rows : List CashRow) → ((q : ℕ) → InsertsAgeIf (r.account == q) (ages_of_number old q) (age_of_cash_row r) (ages_of_number new q))
    → AreCashRowsOf old rows → AreCashRowsOf new (r ∷ rows)
cash_rows_with old new r rows inserts is account =
    ages_with (λ (x : CashRow). x.account == account) age_of_cash_row r rows (ages_of_number old account) (ages_of_number new account) (inserts account) (is account)

-- a row in front is as good as a row that is inserted
in_table : {Row : Type 0} (key : Row → List KeyPart) (P : List Row → Type 0)
    → ((xs ys : List Row) → ((y : Row) → Has ys y → Has xs y) → ((x : Row) → Has xs x → Has ys x) → P xs → P ys) → (r : Row) (rows : List Row) → P (r ∷ rows) → P (insert_by (is_row_key_less key) r rows)
in_table key P same r rows =
    let less = is_row_key_less key in
    same (r ∷ rows) (insert_by less r rows) (λ y h. front r rows y (has_inserted less r rows y h)) (λ x h. inserted_has less r rows x (behind r rows x h))

-- ---- row changes

module _ (old : RowIndex) (t : Tables) (is : IsIndexOf old t) where
  parts : PartsOf old t
  parts = parts_of old t is

  with_lots : (lots : LotGroups) (rows : List HoldingRow) → IsIndexOfLots lots rows → IsIndexOf (record old { lots = lots }) (record t { holdings = rows })
  with_lots lots rows l =
      whole (record old { lots = lots }) (record t { holdings = rows }) (record { lots = l; trades = parts.trades; accounts = parts.accounts; changes = parts.changes; cash = parts.cash; prices = parts.prices; terms = parts.terms })

  with_trades : (trades : TradeGroups) (rows : List TradeRow) → IsIndexOfTrades trades rows → IsIndexOf (record old { trades = trades }) (record t { trades = rows })
  with_trades trades rows r =
      whole (record old { trades = trades }) (record t { trades = rows }) (record { lots = parts.lots; trades = r; accounts = parts.accounts; changes = parts.changes; cash = parts.cash; prices = parts.prices; terms = parts.terms })

  with_accounts : (accounts : AgesByNumber) (rows : List AccountRow) → AreAccountsOf accounts rows → IsIndexOf (record old { accounts = accounts }) (record t { accounts = rows })
  with_accounts accounts rows a =
      whole (record old { accounts = accounts }) (record t { accounts = rows }) (record { lots = parts.lots; trades = parts.trades; accounts = a; changes = parts.changes; cash = parts.cash; prices = parts.prices; terms = parts.terms })

  with_changes : (changes : AgesByNumber) (rows : List HoldingHistoryRow) → AreLotChangesOf changes rows → IsIndexOf (record old { changes = changes }) (record t { holding_history = rows })
  with_changes changes rows c =
      whole (record old { changes = changes }) (record t { holding_history = rows }) (record { lots = parts.lots; trades = parts.trades; accounts = parts.accounts; changes = c; cash = parts.cash; prices = parts.prices; terms = parts.terms })

  with_prices : (prices : LastPrices) (rows : List LastTradeRow) → AreLastPricesOf prices rows → IsIndexOf (record old { prices = prices }) (record t { last_trades = rows })
  with_prices prices rows p =
      whole (record old { prices = prices }) (record t { last_trades = rows }) (record { lots = parts.lots; trades = parts.trades; accounts = parts.accounts; changes = parts.changes; cash = parts.cash; prices = p; terms = parts.terms })

  with_cash : (cash : AgesByNumber) (rows : List CashRow) → AreCashRowsOf cash rows → IsIndexOf (record old { cash = cash }) (record t { moves = rows })
  with_cash cash rows m =
      whole (record old { cash = cash }) (record t { moves = rows }) (record { lots = parts.lots; trades = parts.trades; accounts = parts.accounts; changes = parts.changes; cash = m; prices = parts.prices; terms = parts.terms })

  with_terms : (terms : Terms) (u : Tables) → HasRowsOf u t.holdings t.trades t.accounts t.holding_history t.moves t.last_trades → AreTermsOf terms u → IsIndexOf (record old { terms = terms }) u
  with_terms terms u same new =
      index_of_rows (record old { terms = terms }) t.holdings t.trades t.accounts t.holding_history t.moves t.last_trades parts.lots parts.trades parts.accounts parts.changes parts.cash parts.prices u same new

  pub lot_added : (lots : LotGroups) (row : typed_lot.HoldingRow) → ((rows : List HoldingRow) → IsIndexOfLots old.lots rows → IsIndexOfLots lots (abstract_holding_row row ∷ rows))
      → IsIndexOf (record old { lots = lots }) (tables_after_change (AddLot row) t)
  lot_added lots row adds =
      let r = abstract_holding_row row in
      with_lots lots (insert_by (is_row_key_less holding_key) r t.holdings) (in_table holding_key (IsIndexOfLots lots) (lots_same lots) r t.holdings (adds t.holdings parts.lots))

  pub lot_removed : (lots : LotGroups) (trade : ℕ) → ((rows : List HoldingRow) → IsIndexOfLots old.lots rows → IsIndexOfLots lots (filter (λ r. not (r.trade == trade)) rows))
      → IsIndexOf (record old { lots = lots }) (tables_after_change (RemoveLot trade) t)
  lot_removed lots trade removes = with_lots lots (filter (λ r. not (r.trade == trade)) t.holdings) (removes t.holdings parts.lots)

  pub trade_is_added : (trades : TradeGroups) (row : typed_trade.TradeRow) → ((rows : List TradeRow) → IsIndexOfTrades old.trades rows → IsIndexOfTrades trades (abstract_trade_row row ∷ rows))
      → IsIndexOf (record old { trades = trades }) (tables_after_change (AddTrade row) t)
  trade_is_added trades row adds =
      let r = abstract_trade_row row in
      with_trades trades (insert_by (is_row_key_less trade_key) r t.trades) (in_table trade_key (IsIndexOfTrades trades) (trades_same trades) r t.trades (adds t.trades parts.trades))

  abbrev Sets : TradeGroups → ℕ → Bool → ℕ → Type 0
  Sets trades id is_submitted stamp = (set : TradeRow → TradeRow) → SetsStatus is_submitted stamp set → (rows : List TradeRow) → IsIndexOfTrades old.trades rows
      → IsIndexOfTrades trades (map (λ r. cond (r.id == id) (set r) r) rows)

  pub status_is_set : (trades : TradeGroups) (id : ℕ) (status : Status) (stamp : ℕ) (is_submitted : Bool) → is_submitted ≡ is_same_trade_status status Submitted → Sets trades id is_submitted stamp
      → IsIndexOf (record old { trades = trades }) (tables_after_change (SetStatus id status stamp) t)
  status_is_set trades id status stamp is_submitted so sets =
      let set = λ (r : TradeRow). record r { status = status; stamp = stamp } in
      with_trades trades (map (λ r. cond (r.id == id) (set r) r) t.trades)
      (sets set (record { id = λ r. refl; place = λ r. ap (λ b. record { account = r.account; symbol = r.symbol; stamp = stamp; is_submitted = b }) (sym so) }) t.trades parts.trades)

  pub trade_is_completed : (trades : TradeGroups) (id stamp price commission tax : ℕ) → Sets trades id false stamp
      → IsIndexOf (record old { trades = trades }) (tables_after_change (CompleteTrade id stamp price commission tax) t)
  trade_is_completed trades id stamp price commission tax sets =
      let set = λ (r : TradeRow). record r { status = Completed; stamp = stamp; price = Some price; commission = commission; tax = tax } in
      with_trades trades (map (λ r. cond (r.id == id) (set r) r) t.trades) (sets set (record { id = λ r. refl; place = λ r. refl }) t.trades parts.trades)

  pub account_added : (accounts : AgesByNumber) (a : typed_account.Account)
      → ((q : ℕ) → InsertsAgeIf ((abstract_account a).customer == q) (ages_of_number old.accounts q) (age_of_id (abstract_account a).id) (ages_of_number accounts q))
      → IsIndexOf (record old { accounts = accounts }) (tables_after_change (AddAccount a) t)
  account_added accounts a inserts =
      let b = abstract_account a in
      let r : AccountRow = record { id = b.id; customer = b.customer; broker = b.broker; name = b.name; tax_status = b.tax_status; opening = b.opening; balance = b.opening } in
      with_accounts accounts (insert_by (is_row_key_less account_key) r t.accounts)
      (in_table account_key (AreAccountsOf accounts) (accounts_same accounts) r t.accounts (accounts_with old.accounts accounts r t.accounts inserts parts.accounts))

  pub lot_change_added : (changes : AgesByNumber) (c : typed_change.LotChange)
      → ((q : ℕ) → InsertsAgeIf ((abstract_lot_change_row c).trade == q) (ages_of_number old.changes q) (age_of_id (abstract_lot_change_row c).lot) (ages_of_number changes q))
      → IsIndexOf (record old { changes = changes }) (tables_after_change (AddLotChange c) t)
  lot_change_added changes c inserts =
      let r = abstract_lot_change_row c in
      with_changes changes (insert_by (is_row_key_less holding_history_key) r t.holding_history)
      (in_table holding_history_key (AreLotChangesOf changes) (lot_changes_same changes) r t.holding_history (lot_changes_with old.changes changes r t.holding_history inserts parts.changes))

  pub cash_row_added : (cash : AgesByNumber) (row : typed_cash.CashRow)
      → ((q : ℕ) → InsertsAgeIf ((abstract_cash_row row).account == q) (ages_of_number old.cash q) (age_of_cash_row (abstract_cash_row row)) (ages_of_number cash q))
      → IsIndexOf (record old { cash = cash }) (tables_after_change (AddMove row) t)
  cash_row_added cash row inserts =
      let r = abstract_cash_row row in
      with_cash cash (insert_by (is_row_key_less cash_move_key) r t.moves)
      (in_table cash_move_key (AreCashRowsOf cash) (cash_rows_same cash) r t.moves (cash_rows_with old.cash cash r t.moves inserts parts.cash))

  pub last_trade_added : (prices : LastPrices) (l : typed_last.LastTrade) → AddsPrice old.prices l.symbol l.price prices
      → IsIndexOf (record old { prices = prices }) (tables_after_change (AddLastTrade l) t)
  last_trade_added prices l adds =
      let r = abstract_last_trade_row l in
      with_prices prices (insert_by (is_row_key_less last_trade_key) r t.last_trades) (price_inserted (is_row_key_less last_trade_key) old.prices prices r t.last_trades adds parts.prices)

  pub last_trade_set : (prices : LastPrices) (l : typed_last.LastTrade) → SetsPrice old.prices l.symbol l.price prices
      → IsIndexOf (record old { prices = prices }) (tables_after_change (SetLastTrade l) t)
  last_trade_set prices l sets =
      with_prices prices (update_where (λ r. bytes_eq r.symbol l.symbol) (λ r. record r { stamp = l.stamp; price = l.price; volume = l.volume }) t.last_trades)
      (price_set old.prices prices (abstract_last_trade_row l) t.last_trades sets parts.prices)

  -- changes of columns that the index does not read
  abbrev with_quantity : ℕ → ℤ → HoldingRow → HoldingRow
  with_quantity trade qty r = cond (r.trade == trade) (record r { qty = qty }) r

  quantity_set : (trade : ℕ) (qty : ℤ) → IsIndexOf old (record t { holdings = map (λ r. cond (r.trade == trade) (record r { qty = qty }) r) t.holdings })
  quantity_set trade qty =
      with_lots old.lots (map (with_quantity trade qty) t.holdings)
      (record {
        places = places_mapped (λ (r : HoldingRow). r.trade) place_of_lot (with_quantity trade qty) (λ r. go r (r.trade == trade)) (lot_places old.lots) t.holdings parts.lots.places;
        accounts = parts.lots.accounts;
        positions = parts.lots.positions;
      })
    where
      go : (r : HoldingRow) (b : Bool) → ((cond b (record r { qty = qty }) r).trade ≡ r.trade) × (place_of_lot (cond b (record r { qty = qty }) r) ≡ place_of_lot r)
      go r true = (refl, refl)
      go r false = (refl, refl)

  abbrev with_executor : ℕ → Text → TradeRow → TradeRow
  with_executor id name r = cond (r.id == id) (record r { executor = name }) r

  executor_set : (id : ℕ) (name : Text) → IsIndexOf old (record t { trades = map (λ r. cond (r.id == id) (record r { executor = name }) r) t.trades })
  executor_set id name =
      with_trades old.trades (map (with_executor id name) t.trades)
      (record {
        places = places_mapped (λ (r : TradeRow). r.id) place_of_trade (with_executor id name) (λ r. go r (r.id == id)) (trade_places old.trades) t.trades parts.trades.places;
        accounts = parts.trades.accounts;
        symbols = parts.trades.symbols;
        submitted = parts.trades.submitted;
      })
    where
      go : (r : TradeRow) (b : Bool) → ((cond b (record r { executor = name }) r).id ≡ r.id) × (place_of_trade (cond b (record r { executor = name }) r) ≡ place_of_trade r)
      go r true = (refl, refl)
      go r false = (refl, refl)

  abbrev with_balance : ℕ → ℤ → AccountRow → AccountRow
  with_balance id balance r = cond (r.id == id) (record r { balance = balance }) r

  balance_set : (id : ℕ) (balance : ℤ) → IsIndexOf old (record t { accounts = map (λ r. cond (r.id == id) (record r { balance = balance }) r) t.accounts })
  balance_set id balance =
      with_accounts old.accounts (map (with_balance id balance) t.accounts)
      (λ customer. ages_mapped (λ (r : AccountRow). r.customer == customer) (λ (r : AccountRow). age_of_id r.id) (with_balance id balance) (λ r. go customer r (r.id == id)) (ages_of_number old.accounts customer) t.accounts
      (parts.accounts customer))
    where
      go : (customer : ℕ) (r : AccountRow) (b : Bool)
          → (((cond b (record r { balance = balance }) r).customer == customer) ≡ (r.customer == customer)) × (age_of_id (cond b (record r { balance = balance }) r).id ≡ age_of_id r.id)
      go customer r true = (refl, refl)
      go customer r false = (refl, refl)

  abbrev with_cash_name : ℕ → Text → CashRow → CashRow
  with_cash_name trade name r = cond (is_cash_row_of_trade trade r) (record r { name = name }) r

  cash_name_set : (trade : ℕ) (name : Text) → IsIndexOf old (record t { moves = map (λ r. cond (is_cash_row_of_trade trade r) (record r { name = name }) r) t.moves })
  cash_name_set trade name =
      with_cash old.cash (map (with_cash_name trade name) t.moves)
      (λ account. ages_mapped (λ (r : CashRow). r.account == account) age_of_cash_row (with_cash_name trade name) (λ r. go account r (is_cash_row_of_trade trade r)) (ages_of_number old.cash account) t.moves
      (parts.cash account))
    where
      go : (account : ℕ) (r : CashRow) (b : Bool)
          → (((cond b (record r { name = name }) r).account == account) ≡ (r.account == account)) × (age_of_cash_row (cond b (record r { name = name }) r) ≡ age_of_cash_row r)
      go account r true = (refl, refl)
      go account r false = (refl, refl)

-- ---- the same of a call that may fail

pub lot_added_if : {E : Type 0} (old : RowIndex) (lots : LotGroups) (row : typed_lot.HoldingRow) (r : Result (Unit {0}) E)
    → OnOk r ((rows : List HoldingRow) → IsIndexOfLots old.lots rows → IsIndexOfLots lots (abstract_holding_row row ∷ rows))
    → OnOk r ((t : Tables) → IsIndexOf old t → IsIndexOf (record old { lots = lots }) (tables_after_change (AddLot row) t))
lot_added_if old lots row (Ok v) h = λ t is. lot_added old t is lots row h
lot_added_if old lots row (Err e) h = tt

pub lot_removed_if : {E : Type 0} (old : RowIndex) (lots : LotGroups) (trade : ℕ) (r : Result (Unit {0}) E)
    → OnOk r ((rows : List HoldingRow) → IsIndexOfLots old.lots rows → IsIndexOfLots lots (filter (λ (x : HoldingRow). not (x.trade == trade)) rows))
    → OnOk r ((t : Tables) → IsIndexOf old t → IsIndexOf (record old { lots = lots }) (tables_after_change (RemoveLot trade) t))
lot_removed_if old lots trade (Ok v) h = λ t is. lot_removed old t is lots trade h
lot_removed_if old lots trade (Err e) h = tt

pub trade_added_if : {E : Type 0} (old : RowIndex) (trades : TradeGroups) (row : typed_trade.TradeRow) (r : Result (Unit {0}) E)
    → OnOk r ((rows : List TradeRow) → IsIndexOfTrades old.trades rows → IsIndexOfTrades trades (abstract_trade_row row ∷ rows))
    → OnOk r ((t : Tables) → IsIndexOf old t → IsIndexOf (record old { trades = trades }) (tables_after_change (AddTrade row) t))
trade_added_if old trades row (Ok v) h = λ t is. trade_is_added old t is trades row h
trade_added_if old trades row (Err e) h = tt

pub status_set_if : {E : Type 0} (old : RowIndex) (trades : TradeGroups) (id : ℕ) (status : Status) (stamp : ℕ) (is_submitted : Bool) → is_submitted ≡ is_same_trade_status status Submitted
    → (r : Result (Unit {0}) E)
    → OnOk r ((set : TradeRow → TradeRow) → SetsStatus is_submitted stamp set → (rows : List TradeRow) → IsIndexOfTrades old.trades rows
    → IsIndexOfTrades trades (update_where (λ (x : TradeRow). x.id == id) set rows))
    → OnOk r ((t : Tables) → IsIndexOf old t → IsIndexOf (record old { trades = trades }) (tables_after_change (SetStatus id status stamp) t))
status_set_if old trades id status stamp is_submitted so (Ok v) h = λ t is. status_is_set old t is trades id status stamp is_submitted so h
status_set_if old trades id status stamp is_submitted so (Err e) h = tt

pub trade_completed_if : {E : Type 0} (old : RowIndex) (trades : TradeGroups) (id stamp price commission tax : ℕ) (r : Result (Unit {0}) E)
    → OnOk r ((set : TradeRow → TradeRow) → SetsStatus false stamp set → (rows : List TradeRow) → IsIndexOfTrades old.trades rows
    → IsIndexOfTrades trades (update_where (λ (x : TradeRow). x.id == id) set rows))
    → OnOk r ((t : Tables) → IsIndexOf old t → IsIndexOf (record old { trades = trades }) (tables_after_change (CompleteTrade id stamp price commission tax) t))
trade_completed_if old trades id stamp price commission tax (Ok v) h = λ t is. trade_is_completed old t is trades id stamp price commission tax h
trade_completed_if old trades id stamp price commission tax (Err e) h = tt

pub account_added_if : {E : Type 0} (old : RowIndex) (accounts : AgesByNumber) (a : typed_account.Account) (r : Result (Unit {0}) E)
    → OnOk r ((q : ℕ) → InsertsAgeIf ((abstract_account a).customer == q) (ages_of_number old.accounts q) (age_of_id (abstract_account a).id) (ages_of_number accounts q))
    → OnOk r ((t : Tables) → IsIndexOf old t → IsIndexOf (record old { accounts = accounts }) (tables_after_change (AddAccount a) t))
account_added_if old accounts a (Ok v) h = λ t is. account_added old t is accounts a h
account_added_if old accounts a (Err e) h = tt

pub lot_change_added_if : {E : Type 0} (old : RowIndex) (changes : AgesByNumber) (c : typed_change.LotChange) (r : Result (Unit {0}) E)
    → OnOk r ((q : ℕ) → InsertsAgeIf ((abstract_lot_change_row c).trade == q) (ages_of_number old.changes q) (age_of_id (abstract_lot_change_row c).lot) (ages_of_number changes q))
    → OnOk r ((t : Tables) → IsIndexOf old t → IsIndexOf (record old { changes = changes }) (tables_after_change (AddLotChange c) t))
lot_change_added_if old changes c (Ok v) h = λ t is. lot_change_added old t is changes c h
lot_change_added_if old changes c (Err e) h = tt

pub last_trade_added_if : {E : Type 0} (old : RowIndex) (prices : LastPrices) (l : typed_last.LastTrade) (r : Result (Unit {0}) E)
    → OnOk r (AddsPrice old.prices l.symbol l.price prices)
    → OnOk r ((t : Tables) → IsIndexOf old t → IsIndexOf (record old { prices = prices }) (tables_after_change (AddLastTrade l) t))
last_trade_added_if old prices l (Ok v) h = λ t is. last_trade_added old t is prices l h
last_trade_added_if old prices l (Err e) h = tt

pub cash_row_added_if : {E : Type 0} (old : RowIndex) (cash : AgesByNumber) (row : typed_cash.CashRow) (r : Result (Unit {0}) E)
    → OnOk r ((q : ℕ) → InsertsAgeIf ((abstract_cash_row row).account == q) (ages_of_number old.cash q) (age_of_cash_row (abstract_cash_row row)) (ages_of_number cash q))
    → OnOk r ((t : Tables) → IsIndexOf old t → IsIndexOf (record old { cash = cash }) (tables_after_change (AddMove row) t))
cash_row_added_if old cash row (Ok v) h = λ t is. cash_row_added old t is cash row h
cash_row_added_if old cash row (Err e) h = tt

pub of_change : {E : Type 0} (r : Result (Unit {0}) E) (old new : RowIndex) (change k : Change) → change ≡ k → OnOk r ((t : Tables) → IsIndexOf old t → IsIndexOf new (tables_after_change k t))
    → OnOk r ((t : Tables) → IsIndexOf old t → IsIndexOf new (tables_after_change change t))
of_change r old new change k e h = subst (λ (c : Change). OnOk r ((t : Tables) → IsIndexOf old t → IsIndexOf new (tables_after_change c t))) (sym e) h

-- a change of the tables of terms, and of no other
pub terms_changed : {E : Type 0} (r : Result (Unit {0}) E) (old : RowIndex) (terms : Terms) (change k : Change) → change ≡ k
    → ((t : Tables) → HasRowsOf (tables_after_change k t) t.holdings t.trades t.accounts t.holding_history t.moves t.last_trades)
    → OnOk r ((t : Tables) → AreTermsOf old.terms t → AreTermsOf terms (tables_after_change k t))
    → OnOk r ((t : Tables) → IsIndexOf old t → IsIndexOf (record old { terms = terms }) (tables_after_change change t))
terms_changed (Ok v) old terms change k e same h = λ t is. rw e (with_terms old t is terms (tables_after_change k t) (same t) (h t is.terms))
terms_changed (Err i) old terms change k e same h = tt

-- ---- changes that the index does not follow

-- the change is none of those that the index follows
pub record IsOther (change : Change) : Type 0 where
  pub lot_added : (row : typed_lot.HoldingRow) → change ≡ AddLot row → ⊥
  pub lot_removed : (trade : ℕ) → change ≡ RemoveLot trade → ⊥
  pub trade_added : (row : typed_trade.TradeRow) → change ≡ AddTrade row → ⊥
  pub status_set : (id : ℕ) (status : Status) (stamp : ℕ) → change ≡ SetStatus id status stamp → ⊥
  pub completed : (id stamp price commission tax : ℕ) → change ≡ CompleteTrade id stamp price commission tax → ⊥
  pub account_added : (a : typed_account.Account) → change ≡ AddAccount a → ⊥
  pub lot_change_added : (c : typed_change.LotChange) → change ≡ AddLotChange c → ⊥
  pub cash_row_added : (row : typed_cash.CashRow) → change ≡ AddMove row → ⊥
  pub last_trade_added : (l : typed_last.LastTrade) → change ≡ AddLastTrade l → ⊥
  pub last_trade_set : (l : typed_last.LastTrade) → change ≡ SetLastTrade l → ⊥
  pub charge_added : (c : typed_charge.Charge) → change ≡ AddCharge c → ⊥
  pub band_added : (b : typed_band.Band) → change ≡ AddBand b → ⊥
  pub tax_added : (x : typed_tax.Tax) → change ≡ AddTaxRate x → ⊥
  pub customer_tax_added : (x : typed_customer_tax.CustomerTax) → change ≡ AddCustomerTax x → ⊥
  pub customer_added : (x : typed_customer.Customer) → change ≡ AddCustomer x → ⊥
  pub security_added : (x : typed_security.Security) → change ≡ AddSecurity x → ⊥

-- tables of which the tables of the index are equal
unread : (index : RowIndex) (t u : Tables) → u.holdings ≡ t.holdings → u.trades ≡ t.trades → u.accounts ≡ t.accounts → u.holding_history ≡ t.holding_history
    → u.moves ≡ t.moves → u.last_trades ≡ t.last_trades → AreTermsOf index.terms u → IsIndexOf index t → IsIndexOf index u
unread index t u h r a c m l terms is =
    let p = parts_of index t is in
    index_of_rows index t.holdings t.trades t.accounts t.holding_history t.moves t.last_trades p.lots p.trades p.accounts p.changes p.cash p.prices u
    (record { lot_rows = h; trade_rows = r; account_rows = a; lot_changes = c; cash_rows = m; last_trade_rows = l }) terms

pub kept : (index : RowIndex) (change : Change) (t : Tables) → IsOther change → IsIndexOf index t → IsIndexOf index (tables_after_change change t)
kept index (AddLot row) t other is = absurd (other.lot_added row refl)
kept index (RemoveLot trade) t other is = absurd (other.lot_removed trade refl)
kept index (AddTrade row) t other is = absurd (other.trade_added row refl)
kept index (SetStatus id status stamp) t other is = absurd (other.status_set id status stamp refl)
kept index (CompleteTrade id stamp price commission tax) t other is = absurd (other.completed id stamp price commission tax refl)
kept index (AddAccount a) t other is = absurd (other.account_added a refl)
kept index (AddLotChange c) t other is = absurd (other.lot_change_added c refl)
kept index (AddMove row) t other is = absurd (other.cash_row_added row refl)
kept index (AddLastTrade l) t other is = absurd (other.last_trade_added l refl)
kept index (SetLastTrade l) t other is = absurd (other.last_trade_set l refl)
kept index (AddCharge x) t other is = absurd (other.charge_added x refl)
kept index (AddBand x) t other is = absurd (other.band_added x refl)
kept index (AddTaxRate x) t other is = absurd (other.tax_added x refl)
kept index (AddCustomerTax x) t other is = absurd (other.customer_tax_added x refl)
kept index (AddCustomer x) t other is = absurd (other.customer_added x refl)
kept index (AddSecurity x) t other is = absurd (other.security_added x refl)
kept index (SetLot trade qty) t other is = quantity_set index t is trade qty
kept index (SetExecutor trade name) t other is = executor_set index t is trade (string_bytes name)
kept index (SetBalance account balance) t other is = balance_set index t is account balance
kept index (SetCashName trade name) t other is = cash_name_set index t is trade (string_bytes name)
kept index (AddBroker x) t other is = unread index t (tables_after_change (AddBroker x) t) refl refl refl refl refl refl is.terms is
kept index (AddPermission x) t other is = unread index t (tables_after_change (AddPermission x) t) refl refl refl refl refl refl is.terms is
kept index (AddHistory x) t other is = unread index t (tables_after_change (AddHistory x) t) refl refl refl refl refl refl is.terms is
kept index (AddRequest x) t other is = unread index t (tables_after_change (AddRequest x) t) refl refl refl refl refl refl is.terms is
kept index (RemoveRequest x) t other is = unread index t (tables_after_change (RemoveRequest x) t) refl refl refl refl refl refl is.terms is
kept index (AddSummary x) t other is = unread index t (tables_after_change (AddSummary x) t) refl refl refl refl refl refl is.terms is
kept index (SetSummary x) t other is = unread index t (tables_after_change (SetSummary x) t) refl refl refl refl refl refl is.terms is
kept index (RemoveSummary x y) t other is = unread index t (tables_after_change (RemoveSummary x y) t) refl refl refl refl refl refl is.terms is
kept index (AddSettlement x) t other is = unread index t (tables_after_change (AddSettlement x) t) refl refl refl refl refl refl is.terms is
kept index (SetBrokerTotals x y z) t other is = unread index t (tables_after_change (SetBrokerTotals x y z) t) refl refl refl refl refl refl is.terms is
kept index (SetCashType x y) t other is = unread index t (tables_after_change (SetCashType x y) t) refl refl refl refl refl refl is.terms is
kept index (SetOneDaySettlementStart x) t other is = unread index t (tables_after_change (SetOneDaySettlementStart x) t) refl refl refl refl refl refl is.terms is
kept index (AddStoredReply x) t other is = unread index t (tables_after_change (AddStoredReply x) t) refl refl refl refl refl refl is.terms is
kept index (SetLastStamp x) t other is = unread index t (tables_after_change (SetLastStamp x) t) refl refl refl refl refl refl is.terms is

-- ---- one change after another

pub one_more : (t : Tables) (changes : List Change) (i : ℕ) (change : Change) → i < length changes → change ≡ get_or changes i change
    → tables_after_changes (take (i + 1) changes) t ≡ tables_after_change change (tables_after_changes (take i changes) t)
one_more t changes i change inside is =
    fold_more (λ (u : Tables) (c : Change). tables_after_change c u) t changes i change inside
    ∙ ap (λ (c : Change). tables_after_change c (tables_after_changes (take i changes) t)) (sym is)
