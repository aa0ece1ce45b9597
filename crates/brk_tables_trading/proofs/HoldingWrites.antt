-- The effect of the writes of lots, summaries, settlements, balances and broker totals.
use Rattle.std.proofs.Common.{◌≡◌, ℕ, ℤ, pos, List, [], ◌∷◌, drop, ◌==◌, ◌&&◌, refl, ap}
use Rattle.std.specs.Prelude.{bytes_eq}
use Rattle.sqlite_value.specs.declared.value.Value.TheVariants.{Null, Int, Text as Words}
use Rattle.sqlite_value.specs.Order.{column}
use Rattle.sqlite_tied.proofs.RuleLemmas.{and_true}
use Rattle.sqlite.specs.State.{State}
use Rattle.brk_money.specs.Kinds.{tax_status_number}
use Rattle.brk_model.specs.Tables.{BrokerRow, AccountRow, HoldingRow, SummaryRow, HoldingHistoryRow, SettlementRow}
use Rattle.brk_tables_sql.specs.Desk.{ChangesTablesBy}
use Rattle.brk_tables_sql.specs.Model.{ExecutesStatement}
use Rattle.brk_tables_sql.proofs.Texts.{read}
use Rattle.brk_tables_sql.proofs.Values.{cast_int, cast_null, cast_whole}
use Rattle.brk_tables_sql.proofs.Writes.{inserts_as, updates_as, deletes_as}
use Rattle.brk_tables_schema.specs.Cells.{natural_as_value, broker_cells, account_cells, holding_cells, summary_cells, holding_history_cells, settlement_cells}
use Rattle.brk_tables_schema.specs.Desk.{Brokers, Accounts, Holdings, Summaries, HoldingHistory, Settlements, desk_tables}
use Rattle.brk_tables_schema.proofs.Places.{brokers, accounts}
use Rattle.brk_tables_schema.proofs.Steps.{added}
use Rattle.brk_tables_schema.proofs.Tests.{same_number, same_text}
use Rattle.brk_trade_rows.specs.Changes.{tables_with_lot, tables_with_lot_quantity, tables_without_lot, tables_with_lot_change, tables_with_summary}
use Rattle.brk_trade_rows.specs.Changes.{tables_with_summary_quantity, tables_without_summary, tables_with_settlement, tables_with_balance}
use Rattle.brk_trade_rows.specs.Changes.{tables_with_broker_totals}
use Rattle.brk_tables_trading.proofs.Places.{lots, summaries, lot_changes, settlements}
use Rattle.brk_tables_trading.proofs.AddLot
use Rattle.brk_tables_trading.proofs.SetLot
use Rattle.brk_tables_trading.proofs.RemoveLot
use Rattle.brk_tables_trading.proofs.AddLotChange
use Rattle.brk_tables_trading.proofs.AddSummary
use Rattle.brk_tables_trading.proofs.SetSummary
use Rattle.brk_tables_trading.proofs.RemoveSummary
use Rattle.brk_tables_trading.proofs.AddSettlement
use Rattle.brk_tables_trading.proofs.SetBalance
use Rattle.brk_tables_trading.proofs.SetBrokerNumbers

-- ---- rows that come

pub adds_lot : (old new : State) (x : HoldingRow) → ExecutesStatement AddLot.statement (holding_cells x) old new → ChangesTablesBy desk_tables (tables_with_lot x) old.now new.now
adds_lot old new x ran =
    added Holdings lots x old.now new.now
    (inserts_as desk_tables Holdings lots AddLot.statement (holding_cells x) (read AddLot.statement) AddLot.terms 7
    (natural_as_value x.trade ∷ Null ∷ drop 1 (holding_cells x)) x AddLot.understood_as (λ tree. refl)
    (λ tree rows. rw (cast_int (pos x.trade), cast_int (pos x.account), cast_int (pos x.stamp), cast_int (pos x.price), cast_int x.qty) refl) old new ran.0 ran.1)

pub adds_lot_change : (old new : State) (x : HoldingHistoryRow) → ExecutesStatement AddLotChange.statement (holding_history_cells x) old new
    → ChangesTablesBy desk_tables (tables_with_lot_change x) old.now new.now
adds_lot_change old new x ran =
    added HoldingHistory lot_changes x old.now new.now
    (inserts_as desk_tables HoldingHistory lot_changes AddLotChange.statement (holding_history_cells x) (read AddLotChange.statement) AddLotChange.terms 5
    (Null ∷ holding_history_cells x) x AddLotChange.understood_as (λ tree. refl)
    (λ tree rows. rw (cast_null, cast_int (pos x.lot), cast_int (pos x.trade), cast_int x.before, cast_int x.after) refl) old new ran.0 ran.1)

pub adds_summary : (old new : State) (x : SummaryRow) → ExecutesStatement AddSummary.statement (summary_cells x) old new → ChangesTablesBy desk_tables (tables_with_summary x) old.now new.now
adds_summary old new x ran =
    added Summaries summaries x old.now new.now
    (inserts_as desk_tables Summaries summaries AddSummary.statement (summary_cells x) (read AddSummary.statement) AddSummary.terms 4
    (Null ∷ summary_cells x) x AddSummary.understood_as (λ tree. refl) (λ tree rows. rw (cast_null, cast_int (pos x.account), cast_int x.qty) refl) old new ran.0 ran.1)

pub adds_settlement : (old new : State) (x : SettlementRow) → ExecutesStatement AddSettlement.statement (settlement_cells x) old new
    → ChangesTablesBy desk_tables (tables_with_settlement x) old.now new.now
adds_settlement old new x ran =
    added Settlements settlements x old.now new.now
    (inserts_as desk_tables Settlements settlements AddSettlement.statement (settlement_cells x) (read AddSettlement.statement) AddSettlement.terms 5
    (natural_as_value x.trade ∷ Null ∷ drop 1 (settlement_cells x)) x AddSettlement.understood_as (λ tree. refl)
    (λ tree rows. rw (cast_int (pos x.trade), cast_int (pos x.due_day), cast_int x.amount) refl) old new ran.0 ran.1)

-- ---- rows that go

pub removes_lot : (old new : State) (trade : ℕ) → ExecutesStatement RemoveLot.statement (natural_as_value trade ∷ []) old new → ChangesTablesBy desk_tables (tables_without_lot trade) old.now new.now
removes_lot old new trade ran =
    deletes_as desk_tables Holdings lots RemoveLot.statement (natural_as_value trade ∷ []) (read RemoveLot.statement) RemoveLot.terms RemoveLot.project (λ (r : HoldingRow). r.trade == trade)
    (λ tree r x e. let a : column r 0 ≡ natural_as_value x.trade = cc in rw (a, same_number x.trade trade) (and_true _)) (λ r. refl) RemoveLot.understood_as old new ran.0 ran.1

pub removes_summary : (old new : State) (account : ℕ) (symbol : List ℕ)
    → ExecutesStatement RemoveSummary.statement (natural_as_value account ∷ Words symbol ∷ []) old new
    → ChangesTablesBy desk_tables (tables_without_summary account symbol) old.now new.now
removes_summary old new account symbol ran =
    deletes_as desk_tables Summaries summaries RemoveSummary.statement (natural_as_value account ∷ Words symbol ∷ []) (read RemoveSummary.statement)
    RemoveSummary.terms RemoveSummary.project (λ (r : SummaryRow). (r.account == account) && bytes_eq r.symbol symbol)
    (λ tree r x e.
    let a1 : column r 1 ≡ natural_as_value x.account = cc in
    let a2 : column r 2 ≡ Words x.symbol = cc in
    rw (a1, a2, same_number x.account account, same_text x.symbol symbol) (ap (λ c. (x.account == account) && c) (and_true _))) (λ r. refl) RemoveSummary.understood_as old new ran.0 ran.1

-- ---- rows that change

pub sets_lot : (old new : State) (trade : ℕ) (qty : ℤ) → ExecutesStatement SetLot.statement (Int qty ∷ natural_as_value trade ∷ []) old new
    → ChangesTablesBy desk_tables (tables_with_lot_quantity trade qty) old.now new.now
sets_lot old new trade qty ran =
    updates_as desk_tables Holdings lots SetLot.statement (Int qty ∷ natural_as_value trade ∷ []) (read SetLot.statement) SetLot.terms SetLot.project (λ (r : HoldingRow). r.trade == trade)
    (λ tree r x e. let a : column r 0 ≡ natural_as_value x.trade = cc in rw (a, same_number x.trade trade) (and_true _)) (λ r. refl) SetLot.understood_as
    (λ r. column r 0 ∷ Null ∷ column r 2 ∷ column r 3 ∷ column r 4 ∷ column r 5 ∷ Int qty ∷ [])
    (λ (r : HoldingRow). record r { qty = qty }) (λ x y. refl) (λ x y. refl) (λ r. refl)
    (λ tree r x whole e.
    let a2 : column r 2 ≡ natural_as_value x.account = cc in
    let a3 : column r 3 ≡ Words x.symbol = cc in
    let a4 : column r 4 ≡ natural_as_value x.stamp = cc in
    let a5 : column r 5 ≡ natural_as_value x.price = cc in
    rw (a2, a3, a4, a5, cast_null, cast_int (pos x.account), cast_int (pos x.stamp), cast_int (pos x.price), cast_int qty)
    (ap (λ v. v ∷ Null ∷ drop 1 (holding_cells (record x { qty = qty }))) (cast_whole (column r 0) whole)))
    (λ tree r x e.
    let a0 : column r 0 ≡ natural_as_value x.trade = cc in
    let a2 : column r 2 ≡ natural_as_value x.account = cc in
    let a3 : column r 3 ≡ Words x.symbol = cc in
    let a4 : column r 4 ≡ natural_as_value x.stamp = cc in
    let a5 : column r 5 ≡ natural_as_value x.price = cc in
    rw (a0, a2, a3, a4, a5) refl) old new ran.0 ran.1

pub sets_summary : (old new : State) (s : SummaryRow)
    → ExecutesStatement SetSummary.statement (Int s.qty ∷ natural_as_value s.account ∷ Words s.symbol ∷ []) old new
    → ChangesTablesBy desk_tables (tables_with_summary_quantity s) old.now new.now
sets_summary old new s ran =
    updates_as desk_tables Summaries summaries SetSummary.statement (Int s.qty ∷ natural_as_value s.account ∷ Words s.symbol ∷ []) (read SetSummary.statement)
    SetSummary.terms SetSummary.project (λ (r : SummaryRow). (r.account == s.account) && bytes_eq r.symbol s.symbol)
    (λ tree r x e.
    let a1 : column r 1 ≡ natural_as_value x.account = cc in
    let a2 : column r 2 ≡ Words x.symbol = cc in
    rw (a1, a2, same_number x.account s.account, same_text x.symbol s.symbol) (ap (λ c. (x.account == s.account) && c) (and_true _))) (λ r. refl) SetSummary.understood_as
    (λ r. column r 0 ∷ column r 1 ∷ column r 2 ∷ Int s.qty ∷ []) (λ (r : SummaryRow). record r { qty = s.qty }) (λ x y. refl) (λ x y. refl) (λ r. refl)
    (λ tree r x whole e.
    let a1 : column r 1 ≡ natural_as_value x.account = cc in
    let a2 : column r 2 ≡ Words x.symbol = cc in
    rw (a1, a2, cast_int (pos x.account), cast_int s.qty) (ap (λ v. v ∷ natural_as_value x.account ∷ Words x.symbol ∷ Int s.qty ∷ []) (cast_whole (column r 0) whole)))
    (λ tree r x e. let a1 : column r 1 ≡ natural_as_value x.account = cc in let a2 : column r 2 ≡ Words x.symbol = cc in rw (a1, a2) refl) old new ran.0 ran.1

pub sets_balance : (old new : State) (account : ℕ) (balance : ℤ) → ExecutesStatement SetBalance.statement (Int balance ∷ natural_as_value account ∷ []) old new
    → ChangesTablesBy desk_tables (tables_with_balance account balance) old.now new.now
sets_balance old new account balance ran =
    updates_as desk_tables Accounts accounts SetBalance.statement (Int balance ∷ natural_as_value account ∷ []) (read SetBalance.statement) SetBalance.terms
    SetBalance.project (λ (r : AccountRow). r.id == account)
    (λ tree r x e. let a : column r 0 ≡ natural_as_value x.id = cc in rw (a, same_number x.id account) (and_true _)) (λ r. refl) SetBalance.understood_as
    (λ r. column r 0 ∷ Null ∷ column r 2 ∷ column r 3 ∷ column r 4 ∷ column r 5 ∷ column r 6 ∷ Int balance ∷ [])
    (λ (r : AccountRow). record r { balance = balance }) (λ x y. refl) (λ x y. refl) (λ r. refl)
    (λ tree r x whole e.
    let a2 : column r 2 ≡ natural_as_value x.customer = cc in
    let a3 : column r 3 ≡ natural_as_value x.broker = cc in
    let a4 : column r 4 ≡ Words x.name = cc in
    let a5 : column r 5 ≡ natural_as_value (tax_status_number x.tax_status) = cc in
    let a6 : column r 6 ≡ Int x.opening = cc in
    rw (
      a2,
      a3,
      a4,
      a5,
      a6,
      cast_null,
      cast_int (pos x.customer),
      cast_int (pos x.broker),
      cast_int (pos (tax_status_number x.tax_status)),
      cast_int x.opening,
      cast_int balance,
    ) (ap (λ v. v ∷ Null ∷ drop 1 (account_cells (record x { balance = balance }))) (cast_whole (column r 0) whole)))
    (λ tree r x e.
    let a0 : column r 0 ≡ natural_as_value x.id = cc in
    let a2 : column r 2 ≡ natural_as_value x.customer = cc in
    let a3 : column r 3 ≡ natural_as_value x.broker = cc in
    let a4 : column r 4 ≡ Words x.name = cc in
    let a5 : column r 5 ≡ natural_as_value (tax_status_number x.tax_status) = cc in
    let a6 : column r 6 ≡ Int x.opening = cc in
    rw (a0, a2, a3, a4, a5, a6) refl) old new ran.0 ran.1

pub sets_broker_numbers : (old new : State) (broker : ℕ) (trades : ℤ) (commissions : ℕ)
    → ExecutesStatement SetBrokerNumbers.statement (Int trades ∷ natural_as_value commissions ∷ natural_as_value broker ∷ []) old new
    → ChangesTablesBy desk_tables (tables_with_broker_totals broker trades commissions) old.now new.now
sets_broker_numbers old new broker trades commissions ran =
    updates_as desk_tables Brokers brokers SetBrokerNumbers.statement (Int trades ∷ natural_as_value commissions ∷ natural_as_value broker ∷ [])
    (read SetBrokerNumbers.statement) SetBrokerNumbers.terms SetBrokerNumbers.project (λ (r : BrokerRow). r.id == broker)
    (λ tree r x e. let a : column r 0 ≡ natural_as_value x.id = cc in rw (a, same_number x.id broker) (and_true _)) (λ r. refl) SetBrokerNumbers.understood_as
    (λ r. column r 0 ∷ Null ∷ column r 2 ∷ Int trades ∷ natural_as_value commissions ∷ [])
    (λ (r : BrokerRow). record r { trades = trades; commissions = commissions }) (λ x y. refl) (λ x y. refl) (λ r. refl)
    (λ tree r x whole e. let a : column r 2 ≡ Words x.name = cc in
    rw (a, cast_null, cast_int trades, cast_int (pos commissions))
    (ap (λ v. v ∷ Null ∷ drop 1 (broker_cells (record x { trades = trades; commissions = commissions }))) (cast_whole (column r 0) whole)))
    (λ tree r x e. let a : column r 0 ≡ natural_as_value x.id = cc in let b : column r 2 ≡ Words x.name = cc in rw (a, b) refl) old new ran.0 ran.1
