-- A text update planned from facts of the tables is refused as in the model, and its plan
-- implements the command.
use Rattle.std.proofs.Common.{◌≡◌, ℕ, ◌==◌, ◌&&◌, ◌||◌, Bool, true, false, cond, List, [], ◌∷◌, ◌++◌, refl, sym, ap, ◌∙◌, map, fold, length, Option, Some, None, Ok, Err}
use Rattle.std.specs.Prelude.{bytes_eq, find, is_none, nat_lt, option_map, string_bytes}
use Rattle.std.specs.Option.{option_map_or}
use Rattle.std.specs.List.{AllByRecursion, list_any}
use Rattle.std.proofs.lemmas.Bool.{eqb-true}
use Rattle.std.proofs.lemmas.List.{length-map}
use Rattle.brk_money.specs.Moments.{greatest_stamp, stamp_after}
use Rattle.brk_money.specs.Spelling.{Text}
use Rattle.brk_money.specs.declared.refusal.Refusal.{Refusal}
use Rattle.brk_money.specs.declared.refusal.Refusal.TheVariants.{ClockEnd, NoAccount, NoSecurity, NoTrade}
use Rattle.brk_model.specs.Base.{Base, account_with_id, completed_trades, is_completed, security_name, security_with_symbol, trade_with_id}
use Rattle.brk_model.specs.Commands.{Changed, Command}
use Rattle.brk_model.specs.Derived.{Posting, cash_trades, postings_sorted_by_stamp, posting_of_movement, posting_of_trade, postings_of_base}
use Rattle.brk_model.specs.Joins.{account_row_with_id, security_row_with_symbol, trade_row_with_id}
use Rattle.brk_model.specs.Keys.{rows_sorted_by_key, cash_move_key, settlement_key, trade_key}
use Rattle.brk_model.specs.Lists.{contains_number, update_where}
use Rattle.brk_model.specs.LookupView.{is_cash_row_of_trade}
use Rattle.brk_model.specs.Records.{Security, Trade}
use Rattle.brk_model.specs.Sheets.{sheets, tables_sorted_by_key}
use Rattle.brk_model.specs.Step.{base_after_command_unstamped, reply_to_command, step, value_unless_refused}
use Rattle.brk_model.specs.Tables.{CashRow, SecurityRow, SettlementRow, Tables, TradeRow, numbered_cash_move_rows, security_row, settlement_row, tables_of_base_in_schema, trade_row}
use Rattle.brk_model.specs.Tests.{first_refusal, stamp_of_next_command, refusal_of_command, checks_of_command}
use Rattle.brk_model.specs.Updates.{updated_cash_row_name, updated_cash_type, updated_executor_name, selected_trade_ids_of_account}
use Rattle.brk_model.specs.Updates.{selected_trade_ids_of_symbol, trade_stamp_is_between, base_with_updated_cash_names, base_with_updated_cash_types}
use Rattle.brk_model.specs.Updates.{base_with_updated_executors}
use Rattle.brk_ref_orders.specs.Records.{text_update_command}
use Rattle.brk_ref_orders.specs.declared.update.Update as told
use Rattle.brk_ref_orders.specs.declared.update.Update.TheVariants as update
use Rattle.brk_trade_rows.specs.Changes.{tables_after_change, tables_after_changes, tables_with_last_stamp}
use Rattle.brk_trade_rows.specs.Chosen.{first_twenty_completed_cash_trade_rows_of_symbol, first_twenty_completed_trade_rows_of_account}
use Rattle.brk_ref.specs.Rows.{cash_type_text, abstract_trade_row}
use Rattle.brk_trade_rows.specs.declared.change.Change.{Change}
use Rattle.brk_ref.specs.declared.trade_row.TradeRow as row
use Rattle.brk_trade_plans.specs.Reference.{later_stamp_check}
use Rattle.brk_trade_plans.specs.Replies.{abstract_reply}
use Rattle.brk_trade_plans.specs.Update as planner
use Rattle.brk_trade_plans.specs.Update.{IsUpdatePlan, tables_with_toggled_cash_text, tables_with_toggled_cash_type, count_of_updated_trades}
use Rattle.brk_trade_plans.specs.Update.{tables_with_updated_executor_name, missing_target_refusal, update_checks, table_updates_of_text_update}
use Rattle.brk_trade_plans.specs.declared.corrected.TextUpdate.{TextUpdate}
use Rattle.brk_trade_plans.specs.declared.corrected.TextUpdate.TheVariants as corrected
use Rattle.brk_trade_plans.specs.declared.corrected.CashText.{CashText}
use Rattle.brk_trade_plans.specs.declared.corrected.SettlementText.{SettlementText}
use Rattle.brk_trade_plans.specs.declared.plan.Plan.{Plan}
use Rattle.brk_trade_books.specs.Books.{BooksInvariant}
use Rattle.brk_trade_theorems.specs.Plans.{PlanImplementsCommand}
use Rattle.brk_trade_books.specs.Steps.{base_after_command}
use Rattle.brk_trade_books.proofs.Bools.{same_text}
use Rattle.brk_trade_theorems.proofs.Planning.{clock_read}
use Rattle.brk_trade_books.proofs.Reading.{is_none-map, reads_account}
use Rattle.brk_trade_books.proofs.RunKeeping.{books_command}
use Rattle.brk_trade_books.proofs.Same.{All-filter, All-map, All-of, map-same}
use Rattle.brk_trade_books.proofs.TermReading.{reads_security}
use Rattle.brk_trade_theorems.proofs.TradePlanning.{refused_step, stamp_read}
use Rattle.brk_trade_books.proofs.TradeReading.{reads_trade}
use Rattle.brk_trade_books.proofs.Trades.{whole}
use Rattle.brk_trade_books.proofs.Volumes.{any-same}
use Rattle.brk_trade_books.specs.TradeReads.{AreTradesWithIds}
use Rattle.brk_trade_theorems.specs.Corrections.{CashTextsMatchTables, SettlementTextsMatchTables, SelectedTradesMatchTables}
use Rattle.brk_trade_theorems.specs.Corrections.{UpdateFactsMatchTables, SecurityHasName, PlanUpdatePrecondition, CashTextRow, SettlementTextRow}
use Rattle.brk_trade_theorems.specs.Corrections.{cash_row_of_trade, cash_text_row_in_tables, cash_text_row_of_typed_row, settlement_text_row_in_tables}
use Rattle.brk_trade_theorems.specs.Corrections.{settlement_text_row_of_typed_row, settlement_row_of_trade}
use Rattle.brk_trade_theorems.proofs.Choosing.{account_rows, chosen_trades, of_chosen, symbol_rows}
use Rattle.brk_trade_theorems.proofs.Owning.{own_cash, own_rows, own_settlements}
use Rattle.brk_trade_theorems.proofs.Rewording.{reworded, tables_reworded}
use Rattle.brk_trade_theorems.proofs.Setting.{all_set, fold-last, fold-map}
use Rattle.brk_trade_theorems.proofs.Texting.{all_named, each_text, rows_through, texts_named}
use Rattle.brk_trade_theorems.proofs.Through.{All-both}

some_is : {X : Type 0} (x y : X) → Some x ≡ Some y → x ≡ y
some_is x y e = cc

-- ---- executors

-- a name that is changed or not
abbrev pub name_then : (Trade → Bool) → Trade → Text
name_then p t = cond (p t) (updated_executor_name t.executor) t.executor

renamed : (p : Trade → Bool) (t : Trade) → cond (p t) (record t { executor = updated_executor_name t.executor }) t ≡ reworded (name_then p) (λ t. t.cash_type) (λ t. t.cash_name) t
renamed p t = by_test (p t)
  where
    by_test : (b : Bool) → cond b (record t { executor = updated_executor_name t.executor }) t
        ≡ record t { executor = cond b (updated_executor_name t.executor) t.executor; cash_type = t.cash_type; cash_name = t.cash_name }
    by_test true = refl
    by_test false = refl

pub executors_rows : (base : Base) (ids : List ℕ) → sheets (base_with_updated_executors ids base)
    ≡ record (sheets base) { trades = rows_sorted_by_key trade_key (map (λ t. record (trade_row t) { executor = name_then (λ t. contains_number t.id ids) t }) base.trades) }
unfolding tables_of_base_in_schema tables_sorted_by_key
executors_rows base ids =
    let p : Trade → Bool = λ t. contains_number t.id ids in
    ap (λ ts. sheets (record base { trades = ts })) (map-same _ (reworded (name_then p) (λ t. t.cash_type) (λ t. t.cash_name)) base.trades (All-of base.trades (renamed p)))
    ∙ tables_reworded (name_then p) (λ t. t.cash_type) (λ t. t.cash_name) base

executors_along : (t : Tables) (cs : List row.TradeRow) → fold (λ t c. tables_with_updated_executor_name c t) t cs
    ≡ record t { trades = fold (λ rows c. update_where (λ r. r.id == c.id) (λ r. record r { executor = updated_executor_name (string_bytes c.executor) }) rows) t.trades cs }
executors_along t [] = refl
executors_along t (c ∷ cs) = executors_along (tables_with_updated_executor_name c t) cs

-- the rows that were found, one for each id
found_each : (t : Tables) (rows : List row.TradeRow) (ids : List ℕ) → AreTradesWithIds t ids rows
    → AllByRecursion (λ c. trade_row_with_id t c.id ≡ Some (abstract_trade_row c)) rows × (map (λ c. c.id) rows ≡ ids)
found_each t [] [] e = (tt, refl)
found_each t [] (id ∷ ids) e = absurd (cc)
found_each t (c ∷ rows) [] e = absurd (cc)
found_each t (c ∷ rows) (id ∷ ids) e =
    let first : Some (abstract_trade_row c) ≡ trade_row_with_id t id = cc in
    let more : map (λ r. Some (abstract_trade_row r)) rows ≡ map (trade_row_with_id t) ids = cc in
    let rest = found_each t rows ids more in
    let same : c.id ≡ id = id_of t.trades id (abstract_trade_row c) (sym first) in
    ((ap (trade_row_with_id t) same ∙ sym first, rest.0), λ i. same i ∷ rest.1 i)
  where
    id_of : (rs : List TradeRow) (id : ℕ) (r : TradeRow) → find (λ x. x.id == id) rs ≡ Some r → r.id ≡ id
    id_of [] id r e = absurd (cc)
    id_of (x ∷ rs) id r e = by_test (id_of rs id r) (x.id == id) refl
      where
        by_test : (find (λ y. y.id == id) rs ≡ Some r → r.id ≡ id) → (b : Bool) → (x.id == id) ≡ b → r.id ≡ id
        by_test more true i = let k : Some x ≡ Some r = rw i at e in let j : x ≡ r = cc in ap (λ (y : TradeRow). y.id) (sym j) ∙ eqb-true x.id id i
        by_test more false i = more (rw i at e)

pub executors_set : (base : Base) (ids : List ℕ) (rows : List row.TradeRow) → BooksInvariant base → AreTradesWithIds (sheets base) ids rows
    → sheets (base_with_updated_executors ids base) ≡ fold (λ t c. tables_with_updated_executor_name c t) (sheets base) rows
unfolding tables_of_base_in_schema tables_sorted_by_key
executors_set base ids rows books read =
    let found = found_each (sheets base) rows ids read in
    executors_rows base ids
    ∙ sym (executors_along (sheets base) rows
    ∙ ap (λ trades. record (sheets base) { trades = trades })
    (all_set (λ (r : TradeRow). r.id) (λ w (r : TradeRow). record r { executor = w }) (λ (c : row.TradeRow). c.id)
    (λ (c : row.TradeRow). updated_executor_name (string_bytes c.executor)) trade_row (λ t. updated_executor_name t.executor)
    (λ w r. refl) (λ v w r. refl) (λ t. refl) trade_key (λ w r. refl) rows base.trades
    (All-map base.trades (λ t own. All-map rows (λ c f same.
    let at : t.id ≡ c.id = eqb-true t.id c.id same in
    let one : abstract_trade_row c ≡ trade_row t = some_is _ _ (sym f ∙ ap (trade_row_with_id (sheets base)) (sym at) ∙ own) in
    ap (λ (r : TradeRow). updated_executor_name r.executor) one) found.0) (own_rows base books.numbered))
    ∙ ap (rows_sorted_by_key trade_key)
    (ap (λ is. map (λ t. cond (contains_number t.id is) (record (trade_row t) { executor = updated_executor_name t.executor }) (trade_row t)) base.trades) found.1
    ∙ map-same _ (λ t. record (trade_row t) { executor = name_then (λ t. contains_number t.id ids) t }) base.trades (All-of base.trades (λ t. by_test t (contains_number t.id ids))))))
  where
    by_test : (t : Trade) (b : Bool) → (let r : TradeRow = cond b (record (trade_row t) { executor = updated_executor_name t.executor }) (trade_row t) in r)
        ≡ record (trade_row t) { executor = cond b (updated_executor_name t.executor) t.executor }
    by_test t true = refl
    by_test t false = refl

-- ---- words of settlements

abbrev pub word_then : (Trade → Bool) → Trade → Text
word_then p t = cond (p t) (updated_cash_type t) t.cash_type

resettled : (p : Trade → Bool) (t : Trade) → cond (p t) (record t { cash_type = updated_cash_type t }) t ≡ reworded (λ t. t.executor) (word_then p) (λ t. t.cash_name) t
resettled p t = by_test (p t)
  where
    by_test : (b : Bool) → cond b (record t { cash_type = updated_cash_type t }) t
        ≡ record t { executor = t.executor; cash_type = cond b (updated_cash_type t) t.cash_type; cash_name = t.cash_name }
    by_test true = refl
    by_test false = refl

pub cash_types_rows : (base : Base) (ids : List ℕ) → sheets (base_with_updated_cash_types ids base)
    ≡ record (sheets base) {
      settlements = rows_sorted_by_key settlement_key
          (map (λ t. record (settlement_row base.accounts base.rule t) { cash_type = word_then (λ t. contains_number t.id ids) t }) (completed_trades base));
    }
unfolding tables_of_base_in_schema tables_sorted_by_key
cash_types_rows base ids =
    let p : Trade → Bool = λ t. contains_number t.id ids in
    ap (λ ts. sheets (record base { trades = ts })) (map-same _ (reworded (λ t. t.executor) (word_then p) (λ t. t.cash_name)) base.trades (All-of base.trades (resettled p)))
    ∙ tables_reworded (λ t. t.executor) (word_then p) (λ t. t.cash_name) base

cash_types_along : (t : Tables) (cs : List SettlementText) → fold (λ t c. tables_with_toggled_cash_type c t) t cs
    ≡ record t {
      settlements =
          fold (λ rows c. update_where (λ r. r.trade == c.trade)
          (λ r. record r { cash_type = planner.toggled_cash_type_text c.is_cash (cash_type_text c.cash_type) }) rows) t.settlements cs;
    }
cash_types_along t [] = refl
cash_types_along t (c ∷ cs) = cash_types_along (tables_with_toggled_cash_type c t) cs

-- what was found of each trade that is chosen
found_of : {C R : Type 0} (view : C → R) (told : TradeRow → R) (id : R → ℕ) (cs : List C) (us : List Trade) (P : Trade → Type 0)
    → ((u : Trade) → id (told (trade_row u)) ≡ u.id) → map view cs ≡ map told (map trade_row us) → AllByRecursion P us
    → AllByRecursion (λ c. (u : Trade) × (view c ≡ told (trade_row u)) × P u) cs × (map (λ c. id (view c)) cs ≡ map (λ u. u.id) us)
found_of view told id [] [] P own e h = (tt, refl)
found_of view told id [] (u ∷ us) P own e h = absurd (cc)
found_of view told id (c ∷ cs) [] P own e h = absurd (cc)
found_of view told id (c ∷ cs) (u ∷ us) P own e h =
    let first : view c ≡ told (trade_row u) = cc in
    let more : map view cs ≡ map told (map trade_row us) = cc in
    let rest = found_of view told id cs us P own more h.1 in
    (((u, first, h.0), rest.0), λ i. (ap id first ∙ own u) i ∷ rest.1 i)

-- the row of a trade that has the id of one that is chosen
same_row : (base : Base) (t u : Trade) → t.id ≡ u.id → trade_row_with_id (sheets base) t.id ≡ Some (trade_row t) → trade_row_with_id (sheets base) u.id ≡ Some (trade_row u) → trade_row u ≡ trade_row t
same_row base t u same own other = some_is _ _ (sym other ∙ ap (trade_row_with_id (sheets base)) (sym same) ∙ own)

pub cash_types_set : (base : Base) (account first last : ℕ) (cs : List SettlementText) → BooksInvariant base
    → SettlementTextsMatchTables (sheets base) (first_twenty_completed_trade_rows_of_account account first last (sheets base)) cs
    → sheets (base_with_updated_cash_types (selected_trade_ids_of_account base account first last) base) ≡ fold (λ t c. tables_with_toggled_cash_type c t) (sheets base) cs
unfolding tables_of_base_in_schema tables_sorted_by_key
cash_types_set base account first last cs books read =
    let us : List Trade = chosen_trades base (λ t. t.account == account) first last in
    let ids : List ℕ = selected_trade_ids_of_account base account first last in
    let rows = own_rows base books.numbered in
    let found = found_of settlement_text_row_of_typed_row (settlement_text_row_in_tables (sheets base)) (λ r. r.0) cs us _ (λ u. refl)
    (read ∙ ap (map (settlement_text_row_in_tables (sheets base))) (account_rows base account first last books.numbered))
    (of_chosen _ base (λ t. t.account == account) first last rows) in
    cash_types_rows base ids
    ∙ sym (cash_types_along (sheets base) cs
    ∙ ap (λ settlements. record (sheets base) { settlements = settlements })
    (all_set (λ (r : SettlementRow). r.trade) (λ w (r : SettlementRow). record r { cash_type = w }) (λ (c : SettlementText). c.trade)
    (λ (c : SettlementText). planner.toggled_cash_type_text c.is_cash (cash_type_text c.cash_type))
    (settlement_row base.accounts base.rule) updated_cash_type (λ w r. refl) (λ v w r. refl) (λ t. refl) settlement_key (λ w r. refl) cs (completed_trades base)
    (All-map (completed_trades base) (λ t own. All-map cs (λ c f same.
    let at : t.id ≡ f.0.id = eqb-true t.id c.trade same ∙ ap (λ (r : SettlementTextRow). r.0) f.1 in
    let one : trade_row f.0 ≡ trade_row t = same_row base t f.0 at own.0 f.2.0 in
    let word : cash_type_text c.cash_type ≡ t.cash_type =
    some_is _ _ (ap (λ (r : SettlementTextRow). r.2) f.1
    ∙ ap (λ (n : ℕ). option_map (λ (s : SettlementRow). s.cash_type) (settlement_row_of_trade (sheets base) n)) (sym at)
    ∙ ap (option_map (λ (s : SettlementRow). s.cash_type)) own.1) in
    λ i. planner.toggled_cash_type_text ((ap (λ (r : SettlementTextRow). r.1) f.1 ∙ ap (λ (r : TradeRow). r.is_cash) one) i) (word i)) found.0)
    (All-both _ _ (completed_trades base) (All-filter _ is_completed base.trades rows) (own_settlements base books.numbered)))
    ∙ ap (rows_sorted_by_key settlement_key)
    (ap (λ is. map (λ t. cond (contains_number t.id is) (record (settlement_row base.accounts base.rule t) { cash_type = updated_cash_type t })
    (settlement_row base.accounts base.rule t)) (completed_trades base)) found.1
    ∙ map-same _ (λ t. record (settlement_row base.accounts base.rule t) { cash_type = word_then (λ t. contains_number t.id ids) t }) (completed_trades base)
    (All-of (completed_trades base) (λ t. by_test t (contains_number t.id ids))))))
  where
    by_test : (t : Trade) (b : Bool)
        → (let r : SettlementRow =
        cond b (record (settlement_row base.accounts base.rule t) { cash_type = updated_cash_type t }) (settlement_row base.accounts base.rule t) in r)
        ≡ record (settlement_row base.accounts base.rule t) { cash_type = cond b (updated_cash_type t) t.cash_type }
    by_test t true = refl
    by_test t false = refl

-- ---- texts of what trades moved

abbrev pub text_then : Base → (Trade → Bool) → Trade → Text
text_then base p t = cond (p t) (updated_cash_row_name base t) t.cash_name

repaid : (base : Base) (p : Trade → Bool) (t : Trade) → cond (p t) (record t { cash_name = updated_cash_row_name base t }) t ≡ reworded (λ t. t.executor) (λ t. t.cash_type) (text_then base p) t
repaid base p t = by_test (p t)
  where
    by_test : (b : Bool) → cond b (record t { cash_name = updated_cash_row_name base t }) t
        ≡ record t { executor = t.executor; cash_type = t.cash_type; cash_name = cond b (updated_cash_row_name base t) t.cash_name }
    by_test true = refl
    by_test false = refl

-- the postings of a base with other texts of trades that pass
abbrev pub texts_with : Base → (Trade → Bool) → List Posting
texts_with base p = map (λ t. record (posting_of_trade base.accounts t) { name = text_then base p t }) (cash_trades (completed_trades base)) ++ map posting_of_movement base.movements

pub cash_names_rows : (base : Base) (ids : List ℕ) → sheets (base_with_updated_cash_names ids base)
    ≡ record (sheets base) { moves = rows_sorted_by_key cash_move_key (numbered_cash_move_rows 1 (postings_sorted_by_stamp (texts_with base (λ t. contains_number t.id ids)))) }
unfolding tables_of_base_in_schema tables_sorted_by_key
cash_names_rows base ids =
    let p : Trade → Bool = λ t. contains_number t.id ids in
    ap (λ ts. sheets (record base { trades = ts })) (map-same _ (reworded (λ t. t.executor) (λ t. t.cash_type) (text_then base p)) base.trades (All-of base.trades (repaid base p)))
    ∙ tables_reworded (λ t. t.executor) (λ t. t.cash_type) (text_then base p) base

cash_names_along : (security : Text) (t : Tables) (cs : List CashText) → fold (λ t c. tables_with_toggled_cash_text security c t) t cs
    ≡ record t { moves = fold (λ rows c. update_where (is_cash_row_of_trade c.trade) (λ r. record r { name = planner.toggled_cash_text_of_trade security c }) rows) t.moves cs }
cash_names_along security t [] = refl
cash_names_along security t (c ∷ cs) = cash_names_along security (tables_with_toggled_cash_text security c t) cs

named : (o : Option Security) (name : Text) → option_map (λ s. s.name) (option_map security_row o) ≡ Some name → option_map_or (λ s. s.name) o [] ≡ name
named None name e = absurd (cc)
named (Some s) name e = cc

name_is : (base : Base) (symbol name : Text) → SecurityHasName (sheets base) symbol name → security_name base symbol ≡ name
name_is base symbol name e = named (security_with_symbol base symbol) name (sym (ap (option_map (λ s. s.name)) (reads_security base symbol)) ∙ e)

and_last : (a b c : Bool) → ((a && b) && c) ≡ true → b ≡ true
and_last true true c e = refl
and_last true false c e = absurd (cc)
and_last false b c e = absurd (cc)

pub cash_names_set : (base : Base) (symbol : Text) (first last : ℕ) (name : Text) (cs : List CashText) → BooksInvariant base → SecurityHasName (sheets base) symbol name
    → CashTextsMatchTables (sheets base) (first_twenty_completed_cash_trade_rows_of_symbol symbol first last (sheets base)) cs
    → sheets (base_with_updated_cash_names (selected_trade_ids_of_symbol base symbol first last) base) ≡ fold (λ t c. tables_with_toggled_cash_text name c t) (sheets base) cs
unfolding tables_of_base_in_schema tables_sorted_by_key
cash_names_set base symbol first last name cs books is_named read =
    let test : Trade → Bool = λ t. t.is_cash && bytes_eq t.symbol symbol in
    let us : List Trade = chosen_trades base test first last in
    let ids : List ℕ = selected_trade_ids_of_symbol base symbol first last in
    let rows = own_rows base books.numbered in
    let found = found_of cash_text_row_of_typed_row (cash_text_row_in_tables (sheets base)) (λ r. r.0) cs us _ (λ u. refl)
    (read ∙ ap (map (cash_text_row_in_tables (sheets base))) (symbol_rows base symbol first last books.numbered))
    (of_chosen _ base test first last rows) in
    cash_names_rows base ids
    ∙ sym (cash_names_along name (sheets base) cs
    ∙ ap (λ moves. record (sheets base) { moves = moves })
    (each_text (λ (c : CashText). c.trade) (λ (c : CashText). planner.toggled_cash_text_of_trade name c) (sheets base).moves cs
    ∙ rows_through (all_named (λ (c : CashText). c.trade) (λ (c : CashText). planner.toggled_cash_text_of_trade name c) cs) (postings_of_base base)
    ∙ ap (λ ps. rows_sorted_by_key cash_move_key (numbered_cash_move_rows 1 (postings_sorted_by_stamp ps)))
    (texts_named (λ (c : CashText). c.trade) (λ (c : CashText). planner.toggled_cash_text_of_trade name c) (updated_cash_row_name base) base.accounts (completed_trades base) base.movements cs
    (All-map (cash_trades (completed_trades base)) (λ t own. All-map cs (λ c f same.
    let at : t.id ≡ f.0.id = eqb-true t.id c.trade same ∙ ap (λ (r : CashTextRow). r.0) f.1 in
    let one : trade_row f.0 ≡ trade_row t = same_row base t f.0 at own.0 f.2.0 in
    let text : string_bytes c.name ≡ t.cash_name =
    some_is _ _ (ap (λ (r : CashTextRow). r.3) f.1 ∙ ap (λ (n : ℕ). option_map (λ (r : CashRow). r.name) (cash_row_of_trade (sheets base) n)) (sym at) ∙ own.1) in
    let its_symbol : t.symbol ≡ symbol = ap (λ (r : TradeRow). r.symbol) (sym one)
    ∙ same_text f.0.symbol symbol (and_last f.0.is_cash (bytes_eq f.0.symbol symbol) (trade_stamp_is_between first last f.0) f.2.1) in
    let its_name : name ≡ security_name base t.symbol = sym (ap (security_name base) its_symbol ∙ name_is base symbol name is_named) in
    λ i. planner.toggled_cash_text ((ap (λ (r : CashTextRow). r.1) f.1 ∙ ap (λ (r : TradeRow). r.kind) one) i)
    ((ap (λ (r : CashTextRow). r.2) f.1 ∙ ap (λ (r : TradeRow). r.qty) one) i) (its_name i) (text i)) found.0)
    (All-both _ _ (cash_trades (completed_trades base)) (All-filter _ (λ t. t.is_cash) (completed_trades base) (All-filter _ is_completed base.trades rows)) (own_cash base books.numbered)))
    ∙ ap (λ is. map (λ t. record (posting_of_trade base.accounts t) { name = cond (contains_number t.id is) (updated_cash_row_name base t) t.cash_name })
    (cash_trades (completed_trades base)) ++ map posting_of_movement base.movements) found.1)))

-- ---- whether it is refused

all_there : (t : Tables) (rows : List row.TradeRow) (ids : List ℕ) → AreTradesWithIds t ids rows → list_any (λ id. is_none (trade_row_with_id t id)) ids ≡ false
all_there t [] [] e = refl
all_there t [] (id ∷ ids) e = absurd (cc)
all_there t (c ∷ rows) [] e = absurd (cc)
all_there t (c ∷ rows) (id ∷ ids) e =
    let first : Some (abstract_trade_row c) ≡ trade_row_with_id t id = cc in
    let more : map (λ r. Some (abstract_trade_row r)) rows ≡ map (trade_row_with_id t) ids = cc in
    ap (λ b. b || list_any (λ id. is_none (trade_row_with_id t id)) ids) (ap is_none (sym first)) ∙ all_there t rows ids more

has_name : (o : Option SecurityRow) (name : Text) → option_map (λ s. s.name) o ≡ Some name → is_none o ≡ false
has_name None name e = absurd (cc)
has_name (Some s) name e = refl

-- what was found tells whether what is named is in the tables
is_lacking : told.Update → Tables → Bool
is_lacking (update.Executors ids) t = list_any (λ id. is_none (trade_row_with_id t id)) ids
is_lacking (update.CashTypes account span) t = is_none (account_row_with_id t account)
is_lacking (update.CashNames symbol span) t = is_none (security_row_with_symbol t symbol)

lacking_is : (t : Tables) (u : told.Update) (found : Option TextUpdate) → UpdateFactsMatchTables t u found → is_none found ≡ is_lacking u t
unfolding is_lacking
lacking_is t (update.Executors ids) None k = sym k
lacking_is t (update.CashTypes account span) None k = sym k
lacking_is t (update.CashNames symbol span) None k = sym k
lacking_is t (update.Executors ids) (Some (corrected.Executors trades)) k = sym (all_there t trades.items ids k)
lacking_is t (update.Executors ids) (Some (corrected.CashTypes settled)) k = absurd k
lacking_is t (update.Executors ids) (Some (corrected.CashNames name paid)) k = absurd k
lacking_is t (update.CashTypes account span) (Some (corrected.Executors trades)) k = absurd k
lacking_is t (update.CashTypes account span) (Some (corrected.CashTypes settled)) k = sym k.0
lacking_is t (update.CashTypes account span) (Some (corrected.CashNames name paid)) k = absurd k
lacking_is t (update.CashNames symbol span) (Some (corrected.Executors trades)) k = absurd k
lacking_is t (update.CashNames symbol span) (Some (corrected.CashTypes settled)) k = absurd k
lacking_is t (update.CashNames symbol span) (Some (corrected.CashNames name paid)) k = sym (has_name (security_row_with_symbol t symbol) name k.0)

tested : (base : Base) (u : told.Update) (now : ℕ)
    → first_refusal ((is_lacking u (sheets base), missing_target_refusal u) ∷ (nat_lt greatest_stamp (stamp_of_next_command base now), ClockEnd) ∷ [])
    ≡ refusal_of_command base now (text_update_command u)
unfolding is_lacking refusal_of_command checks_of_command
tested base (update.Executors ids) now =
    ap (λ b. first_refusal ((b, NoTrade) ∷ (nat_lt greatest_stamp (stamp_of_next_command base now), ClockEnd) ∷ []))
    (any-same (λ id. is_none (trade_row_with_id (sheets base) id)) (λ id. is_none (trade_with_id base id)) ids (λ id. ap is_none (reads_trade base id) ∙ is_none-map trade_row (trade_with_id base id)))
tested base (update.CashTypes account span) now =
    ap (λ b. first_refusal ((b, NoAccount) ∷ (nat_lt greatest_stamp (stamp_of_next_command base now), ClockEnd) ∷ []))
    (ap is_none (reads_account base account) ∙ is_none-map _ (account_with_id base account))
tested base (update.CashNames symbol span) now =
    ap (λ b. first_refusal ((b, NoSecurity) ∷ (nat_lt greatest_stamp (stamp_of_next_command base now), ClockEnd) ∷ []))
    (ap is_none (reads_security base symbol) ∙ is_none-map security_row (security_with_symbol base symbol))

pub update_read : (base : Base) (u : told.Update) (found : Option TextUpdate) (last : Option ℕ) (now : ℕ) → PlanUpdatePrecondition base u found last now
    → first_refusal (update_checks u found ++ later_stamp_check last now ∷ []) ≡ refusal_of_command base now (text_update_command u)
update_read base u found last now k =
    (λ i. first_refusal ((lacking_is (sheets base) u found k.found_read i, missing_target_refusal u) ∷ (clock_read base last now k.books k.last_read k.moment i, ClockEnd) ∷ [])) ∙ tested base u now

pub update_refused : (base : Base) (u : told.Update) (found : Option TextUpdate) (last : Option ℕ) (now : ℕ) (refusal : Refusal) → PlanUpdatePrecondition base u found last now
    → first_refusal (update_checks u found ++ later_stamp_check last now ∷ []) ≡ Some refusal → step base now (text_update_command u) ≡ Err refusal
update_refused base u found last now refusal k e = refused_step base now (text_update_command u) refusal (sym (update_read base u found last now k) ∙ e)

-- ---- what it does

words_changed : (base : Base) (stamp : ℕ) (u : told.Update) (found : TextUpdate) → BooksInvariant base → SelectedTradesMatchTables (sheets base) u found
    → sheets (base_after_command_unstamped base stamp (text_update_command u)) ≡ fold (λ t f. f t) (sheets base) (table_updates_of_text_update found)
unfolding base_after_command_unstamped
words_changed base stamp (update.Executors ids) (corrected.Executors trades) books k =
    executors_set base ids trades.items books k ∙ sym (fold-map tables_with_updated_executor_name trades.items (sheets base))
words_changed base stamp (update.Executors ids) (corrected.CashTypes settled) books k = absurd k
words_changed base stamp (update.Executors ids) (corrected.CashNames name paid) books k = absurd k
words_changed base stamp (update.CashTypes account span) (corrected.Executors trades) books k = absurd k
words_changed base stamp (update.CashTypes account span) (corrected.CashTypes settled) books k =
    cash_types_set base account span.first span.last settled.items books k.1 ∙ sym (fold-map tables_with_toggled_cash_type settled.items (sheets base))
words_changed base stamp (update.CashTypes account span) (corrected.CashNames name paid) books k = absurd k
words_changed base stamp (update.CashNames symbol span) (corrected.Executors trades) books k = absurd k
words_changed base stamp (update.CashNames symbol span) (corrected.CashTypes settled) books k = absurd k
words_changed base stamp (update.CashNames symbol span) (corrected.CashNames name paid) books k =
    cash_names_set base symbol span.first span.last name paid.items books k.0 k.1 ∙ sym (fold-map (tables_with_toggled_cash_text name) paid.items (sheets base))

counted : {X R : Type 0} (row : X → R) (told : TradeRow → R) (xs : List X) (us : List Trade) → map row xs ≡ map told (map trade_row us) → length xs ≡ length (map (λ t. t.id) us)
counted row told xs us e =
    sym (length-map xs row) ∙ ap length e ∙ length-map (map trade_row us) told ∙ length-map us trade_row ∙ sym (length-map us (λ (t : Trade). t.id))

count_is : (base : Base) (stamp : ℕ) (u : told.Update) (found : TextUpdate) → BooksInvariant base → SelectedTradesMatchTables (sheets base) u found
    → reply_to_command base stamp (text_update_command u) ≡ Changed stamp (count_of_updated_trades found)
unfolding reply_to_command
count_is base stamp (update.Executors ids) (corrected.Executors trades) books k =
    ap (Changed stamp) (ap length (sym (found_each (sheets base) trades.items ids k).1) ∙ length-map trades.items (λ (c : row.TradeRow). c.id))
count_is base stamp (update.Executors ids) (corrected.CashTypes settled) books k = absurd k
count_is base stamp (update.Executors ids) (corrected.CashNames name paid) books k = absurd k
count_is base stamp (update.CashTypes account span) (corrected.Executors trades) books k = absurd k
count_is base stamp (update.CashTypes account span) (corrected.CashTypes settled) books k =
    ap (Changed stamp) (sym (counted settlement_text_row_of_typed_row (settlement_text_row_in_tables (sheets base)) settled.items (chosen_trades base (λ t. t.account == account) span.first span.last)
    (k.1 ∙ ap (map (settlement_text_row_in_tables (sheets base))) (account_rows base account span.first span.last books.numbered))))
count_is base stamp (update.CashTypes account span) (corrected.CashNames name paid) books k = absurd k
count_is base stamp (update.CashNames symbol span) (corrected.Executors trades) books k = absurd k
count_is base stamp (update.CashNames symbol span) (corrected.CashTypes settled) books k = absurd k
count_is base stamp (update.CashNames symbol span) (corrected.CashNames name paid) books k =
    ap (Changed stamp) (sym
    (counted cash_text_row_of_typed_row (cash_text_row_in_tables (sheets base)) paid.items
    (chosen_trades base (λ t. t.is_cash && bytes_eq t.symbol symbol) span.first span.last)
    (k.1 ∙ ap (map (cash_text_row_in_tables (sheets base))) (symbol_rows base symbol span.first span.last books.numbered))))

changes_are : (changes : List Change) (t : Tables) → tables_after_changes changes t ≡ fold (λ t f. f t) t (map tables_after_change changes)
changes_are changes t = sym (fold-map tables_after_change changes t)

some_left : (o : Option ℕ) (stamp : ℕ) → o ≡ Some stamp → is_none o ≡ false
some_left None stamp e = absurd (cc)
some_left (Some s) stamp e = refl

pub update_does : (base : Base) (u : told.Update) (found : TextUpdate) (last : Option ℕ) (now : ℕ) (plan : Plan) → PlanUpdatePrecondition base u (Some found) last now
    → IsUpdatePlan found last now plan → PlanImplementsCommand base now (text_update_command u) plan
unfolding step
update_does base u found last now plan k p =
    let command : Command = text_update_command u in
    let stamp : ℕ = stamp_of_next_command base now in
    let accepted : refusal_of_command base now command ≡ None =
    sym (update_read base u (Some found) last now k) ∙ ap (λ b. first_refusal ((false, missing_target_refusal u) ∷ (b, ClockEnd) ∷ [])) (some_left (stamp_after last now) p.stamp p.stamped) in
    let at : p.stamp ≡ stamp = stamp_read base last now p.stamp k.last_read p.stamped in
    let told : reply_to_command base stamp command ≡ abstract_reply plan.reply =
    count_is base stamp u found k.books k.found_read ∙ ap (λ (s : ℕ). Changed s (count_of_updated_trades found)) (sym at) ∙ sym (ap abstract_reply p.replied) in
    record {
      steps = ap (λ o. value_unless_refused o (reply_to_command base stamp command, base_after_command base now command)) accepted ∙ ap (λ reply. Ok (reply, base_after_command base now command)) told;
      rows = whole (base_after_command_unstamped base stamp command) stamp _ (words_changed base stamp u found k.books k.found_read)
          ∙ ap (λ (s : ℕ). tables_with_last_stamp s (fold (λ t f. f t) (sheets base) (table_updates_of_text_update found))) (sym at)
          ∙ sym (changes_are plan.changes.items (sheets base) ∙ ap (fold (λ t f. f t) (sheets base)) p.changes
          ∙ fold-last (table_updates_of_text_update found) (tables_with_last_stamp p.stamp) (sheets base));
      books_after = books_command base now command k.books accepted;
    }
