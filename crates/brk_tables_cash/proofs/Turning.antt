-- The reads and writes of the upgrade, one after the other.
use Rattle.std.proofs.Common.{◌≡◌, ℕ, List, [], take, get_or, length, ◌+◌, ◌<◌, Option, Some, None, option_map, Ok, inl, refl, sym, ap, subst}
use Rattle.std.proofs.Math.Nat.{le_refl}
use Rattle.std.specs.Option.{option_map_or}
use Rattle.sqlite.specs.Effect.{Database}
use Rattle.sqlite.specs.State.{State}
use Rattle.brk_money.specs.declared.fault.CallFault.{CallFault}
use Rattle.brk_tables_sql.specs.Model.{IsTransactionStep}
use Rattle.brk_model.specs.Joins.{trade_row_with_id}
use Rattle.brk_model.specs.Tables.{Tables, OldCashRow, CashRow, TradeRow}
use Rattle.brk_trade_rows.specs.Changes.{tables_with_cash_row}
use Rattle.brk_tables_sql.specs.Desk.{HasTables, TablesSatisfy, ChangesTablesBy}
use Rattle.brk_tables_sql.proofs.Strangers.{spares_then}
use Rattle.brk_tables_schema.specs.Desk.{desk_tables}
use Rattle.brk_tables_cash.specs.UpgradeStatements.{tables_without_cash_transactions}
use Rattle.brk_tables_cash.specs.Upgrade.{cash_transactions_by_stamp, tables_with_cash_rows_numbered_from, tables_with_cash_transactions_moved, tables_with_numbered_cash_row}
use Rattle.brk_tables_cash.proofs.Numbered.{one_more}

pub turns_none : (a : Database) → ChangesTablesBy desk_tables (λ t. t) a a
turns_none a = λ t tree h. (h, record { schema = refl; rows = Rattle.sqlite_rules.proofs.ListLemmas.all_from _ a.schema.tables (λ k there apart keys_write_nothing. refl) })

pub turns_then : (f g : Tables → Tables) (a b c : Database) → ChangesTablesBy desk_tables f a b → ChangesTablesBy desk_tables g b c → ChangesTablesBy desk_tables (λ t. g (f t)) a c
turns_then f g a b c p q = λ t tree h.
    let first = p t tree h in
    let next = q (f t) tree first.0 in
    (next.0, spares_then tree a b c first.1 next.1)

-- no row was moved
pub nothing_moved : (s : State) → IsTransactionStep {V = Unit {0}} {E = CallFault} s s (Ok tt) (λ _ a b. ChangesTablesBy desk_tables (tables_with_cash_rows_numbered_from 1 []) a.now b.now)
nothing_moved s = record {
  commits_nothing = λ clean. record { was_open = λ o. o; committed = λ _. refl };
  relates_states = λ clean on. (on, turns_none s.now);
  survives = record { clean = le_refl _; shield = λ h. h; counts = le_refl _; limit = refl; closes = λ clean o. inl o; crash = λ clean db h. inl h };
}

-- ---- one row

found : (account : ℕ) (o : Option TradeRow) → Some account ≡ option_map (λ r. r.account) o → account ≡ option_map_or (λ r. r.account) o 0
found account None e = absurd (let f = e in cc)
found account (Some r) e = cc

abbrev pub numbered_row : (id account : ℕ) → OldCashRow → CashRow
numbered_row id account c = record { id = id; account = account; trade = Some c.trade; stamp = c.stamp; amount = c.amount; name = c.name }

pub adds_numbered : (id account : ℕ) (c : OldCashRow) (a b d : Database) → b ≡ a
    → TablesSatisfy desk_tables (λ t. Some account ≡ option_map (λ r. r.account) (trade_row_with_id t c.trade)) a
    → ChangesTablesBy desk_tables (tables_with_cash_row (numbered_row id account c)) b d → ChangesTablesBy desk_tables (tables_with_numbered_cash_row id c) a d
adds_numbered id account c a b d still told turns = λ t tree h.
    let turned = subst (λ x. ChangesTablesBy desk_tables (tables_with_cash_row (numbered_row id account c)) x d) still turns t tree h in
    let same : tables_with_cash_row (numbered_row id account c) t ≡ tables_with_numbered_cash_row id c t =
    ap (λ n. tables_with_cash_row (numbered_row id n c) t) (found account (trade_row_with_id t c.trade) (told t tree h)) in
    (subst (λ u. HasTables desk_tables u tree d) same turned.0, turned.1)

-- ---- all of them

pub one_added : (d : OldCashRow) (cs : List OldCashRow) (i : ℕ) → i < length cs → (a b c : Database)
    → ChangesTablesBy desk_tables (tables_with_cash_rows_numbered_from 1 (take i cs)) a b
    → ChangesTablesBy desk_tables (tables_with_numbered_cash_row (1 + i) (get_or cs i d)) b c
    → ChangesTablesBy desk_tables (tables_with_cash_rows_numbered_from 1 (take (i + 1) cs)) a c
one_added d cs i lt a b c p q = λ t tree h.
    let both = turns_then (tables_with_cash_rows_numbered_from 1 (take i cs)) (tables_with_numbered_cash_row (1 + i) (get_or cs i d)) a b c p q t tree h in
    (subst (λ u. HasTables desk_tables u tree c) (sym (one_more d cs i lt t)) both.0, both.1)

pub all_added : (rows : List OldCashRow) (a b c : Database) → b ≡ a → TablesSatisfy desk_tables (λ t. rows ≡ cash_transactions_by_stamp t) a
    → ChangesTablesBy desk_tables (tables_with_cash_rows_numbered_from 1 rows) b c
    → ChangesTablesBy desk_tables (λ t. tables_with_cash_rows_numbered_from 1 (cash_transactions_by_stamp t) t) a c
all_added rows a b c still told turns = λ t tree h.
    let turned = subst (λ x. ChangesTablesBy desk_tables (tables_with_cash_rows_numbered_from 1 rows) x c) still turns t tree h in
    (subst (λ rs. HasTables desk_tables (tables_with_cash_rows_numbered_from 1 rs t) tree c) (told t tree h) turned.0, turned.1)

pub all_moved : (a b c : Database) → ChangesTablesBy desk_tables (λ t. tables_with_cash_rows_numbered_from 1 (cash_transactions_by_stamp t) t) a b
    → ChangesTablesBy desk_tables tables_without_cash_transactions b c → ChangesTablesBy desk_tables tables_with_cash_transactions_moved a c
all_moved a b c p q = turns_then (λ t. tables_with_cash_rows_numbered_from 1 (cash_transactions_by_stamp t) t) tables_without_cash_transactions a b c p q
