-- The trades of a base are in the order of the sorted tables, and the statuses of each have
-- ascending stamps.
use Rattle.std.proofs.Common.{◌≡◌, ℕ, ◌==◌, List, [], ◌∷◌, Bool, true, false, cond, refl, sym, subst, map, filter, arith, take, zero, suc}
use Rattle.std.specs.Prelude.{◌&&◌, nat_lt}
use Rattle.std.specs.List.{AllByRecursion}
use Rattle.std.proofs.lemmas.Bool.Decides.{nat_tests}
use Rattle.brk_model.specs.Base.{Base}
use Rattle.brk_model.specs.Joins.{history_rows_with_trade_id}
use Rattle.brk_model.specs.Keys.{rows_sorted_by_key, history_key}
use Rattle.brk_model.specs.Records.{StatusChange, Trade}
use Rattle.brk_model.specs.Sheets.{sheets, tables_sorted_by_key}
use Rattle.brk_model.specs.Tables.{HistoryRow, TradeRow, tables_of_base, trade_row, tables_of_base_in_schema}
use Rattle.brk_model.specs.Ways.{is_strictly_ascending}
use Rattle.brk_audit_theorems.proofs.Again.{IsRead, reads}
use Rattle.brk_audit_theorems.specs.Sound.{AuditInvariant, BaseTradeAuditInvariant}
use Rattle.brk_trade_books.specs.Books.{BooksInvariant}
use Rattle.brk_trade_books.proofs.Order.{by_key-filter}
use Rattle.brk_trade_books.proofs.TradeReading.{trades_in_order}

pub same_trades : (base : Base) → BooksInvariant base → (sheets base).trades ≡ (tables_of_base base).trades
unfolding tables_of_base_in_schema
same_trades base books = trades_in_order base books.numbered

-- ---- the statuses of a trade

-- a row came before others
abbrev pub Earlier : HistoryRow → List HistoryRow → Type 0
Earlier h others = AllByRecursion (λ k. nat_lt h.stamp k.stamp ≡ true) others

-- each row came before those after it
abbrev pub AllRise : List HistoryRow → Type 0
AllRise [] = Unit {0}
AllRise (h ∷ others) = Earlier h others × AllRise others

through : (a b c : ℕ) → nat_lt a b ≡ true → nat_lt b c ≡ true → nat_lt a c ≡ true
through a b c f g = grind (arith, nat_tests)

and_both : (a b : Bool) → a && b ≡ true → (a ≡ true) × (b ≡ true)
and_both true true e = (refl, refl)
and_both true false e = cc
and_both false b e = cc

earlier_through : (a b : ℕ) (others : List HistoryRow) → nat_lt a b ≡ true → AllByRecursion (λ k. nat_lt b k.stamp ≡ true) others → AllByRecursion (λ k. nat_lt a k.stamp ≡ true) others
earlier_through a b [] f h = tt
earlier_through a b (k ∷ others) f h = (through a b k.stamp f h.0, earlier_through a b others f h.1)

rows_rise : (id : ℕ) (marks : List StatusChange) → is_strictly_ascending (map (λ m. m.stamp) marks) ≡ true → AllRise (map (λ m. record { trade = id; status = m.status; stamp = m.stamp }) marks)
rows_rise id [] e = tt
rows_rise id (m ∷ []) e = (tt, tt)
rows_rise id (m ∷ n ∷ marks) e =
    let both = and_both (nat_lt m.stamp n.stamp) (is_strictly_ascending (map (λ m. m.stamp) (n ∷ marks))) e in
    let after : AllRise (map (λ m. record { trade = id; status = m.status; stamp = m.stamp }) (n ∷ marks)) = rows_rise id (n ∷ marks) both.1 in
    ((both.0, earlier_through m.stamp n.stamp (map (λ m. record { trade = id; status = m.status; stamp = m.stamp }) marks) both.0 after.0), after)

own_rows : (base : Base) (ts : List Trade) → AllByRecursion (IsRead base) ts → AllByRecursion (BaseTradeAuditInvariant base) ts
    → AllByRecursion (λ (r : TradeRow). AllRise (history_rows_with_trade_id (tables_of_base base) r.id)) (map trade_row ts)
unfolding tables_of_base_in_schema
own_rows base [] h k = tt
own_rows base (t ∷ ts) h k = (subst AllRise (sym h.0.history) (rows_rise t.id t.marks k.0.stamps), own_rows base ts h.1 k.1)

-- the statuses of each trade rise
pub statuses_rise : (base : Base) → BooksInvariant base → AuditInvariant base
    → AllByRecursion (λ (r : TradeRow). AllRise (history_rows_with_trade_id (tables_of_base base) r.id)) (tables_of_base base).trades
unfolding tables_of_base_in_schema
statuses_rise base books sound = own_rows base base.trades (reads base books.numbered) sound.trades

-- a store reads them by the codes of the statuses
pub history_by_code : (base : Base) (id : ℕ) → history_rows_with_trade_id (sheets base) id ≡ rows_sorted_by_key history_key (history_rows_with_trade_id (tables_of_base base) id)
unfolding tables_sorted_by_key
history_by_code base id = sym (by_key-filter history_key (λ h. h.trade == id) (tables_of_base base).history)

-- ---- of some rows

pub All-take : {X : Type 0} (P : X → Type 0) (n : ℕ) (xs : List X) → AllByRecursion P xs → AllByRecursion P (take n xs)
All-take P zero xs h = tt
All-take P (suc n) [] h = tt
All-take P (suc n) (x ∷ xs) h = (h.0, All-take P n xs h.1)

pub All-filter : {X : Type 0} (P : X → Type 0) (p : X → Bool) (xs : List X) → AllByRecursion P xs → AllByRecursion P (filter p xs)
All-filter P p [] h = tt
All-filter P p (x ∷ xs) h =
    elim (p x) as (λ b. AllByRecursion P (cond b (x ∷ filter p xs) (filter p xs))) [ true ↦ (h.0, All-filter P p xs h.1) | false ↦ All-filter P p xs h.1 ]

pub All-each : {X : Type 0} (P Q : X → Type 0) (xs : List X) → ((x : X) → P x → Q x) → AllByRecursion P xs → AllByRecursion Q xs
All-each P Q [] f h = tt
All-each P Q (x ∷ xs) f h = (f x h.0, All-each P Q xs f h.1)
