-- The view of an account's parties and last trades, from the rows read, is the model's.
use Rattle.std.proofs.Common.{◌≡◌, ◌==◌, ℕ, Bool, true, false, cond, List, [], ◌∷◌, ◌++◌, Some, None, Ok, Err, refl, sym, ap, subst, ◌∙◌, find, filter, map, option_map, reverse, take}
use Rattle.std.proofs.lemmas.List.{map-append}
use Rattle.std.specs.Global.{Vec}
use Rattle.std.specs.Prelude.{bytes_eq, flat_map, is_none, option_to_list}
use Rattle.brk_money.specs.Spelling.{Text}
use Rattle.brk_money.specs.declared.refusal.Refusal.TheVariants.{NoAccount}
use Rattle.brk_ref.specs.Rows.{abstract_trade_row}
use Rattle.brk_ref.specs.declared.trade_row.TradeRow.{TradeRow}
use Rattle.brk_model.specs.Ask.{view_of_base, ask, checks_of_query}
use Rattle.brk_model.specs.Base.{account_with_id}
use Rattle.brk_model.specs.Joins.{trade_rows_recent_first, trade_rows_of_account}
use Rattle.brk_model.specs.Queries.{StatusOf}
use Rattle.brk_model.specs.Records.{Customer}
use Rattle.brk_model.specs.StatusView.{broker_name_with_id, customer_and_broker_names, record_of_trade_status, trade_status_view}
use Rattle.brk_model.specs.Tables as tables
use Rattle.brk_model.specs.Tables.{AccountRow, SecurityRow, Tables, tables_of_base}
use Rattle.brk_model.specs.Views.{view_of_tables}
use Rattle.brk_ref.specs.Records.{abstract_security_row}
use Rattle.brk_ref.specs.declared.security.Security.{Security}
use Rattle.brk_trade_books.proofs.Bools.{same_text}
use Rattle.brk_view_rows.specs.Status.{trade_status_record, party_names_record, rows_of_trade_status, trade_row_with_security}
use Rattle.brk_view_rows.specs.Views.{records_of_view}
use Rattle.brk_view_rows.specs.declared.statuses.AccountStatus.{AccountStatus}
use Rattle.brk_view_rows.specs.declared.statuses.TradeStatus.{TradeStatus}
use Rattle.brk_view_rows.specs.declared.view.View.{View}
use Rattle.brk_view_rows.specs.declared.view.View.TheVariants as views
use Rattle.brk_view_rows.proofs.Shown.{statuses_shown}
use Rattle.brk_view_theorems.proofs.FoundRows.{account_alone, customer_alone}
use Rattle.brk_view_theorems.proofs.StatusRows.{same_status_view}
use Rattle.brk_desk_queries.specs.Parties.{IsAccountStatusWithTrades}
use Rattle.brk_desk_queries.specs.QueryResults.{AnswersQueryAsModel}
use Rattle.brk_desk_queries.proofs.Each.{popped}
use Rattle.brk_desk_queries.proofs.Tested.{answered, carried_as, refused}
use Rattle.brk_desk_queries.proofs.RecentViews.{account_missing, account_there}

-- the rows of a trade with its security
pub carried_in : (trade : TradeRow) (security : Security) (t : Tables) → Some (abstract_security_row security) ≡ find (λ (r : SecurityRow). bytes_eq r.symbol trade.symbol) t.securities
    → rows_of_trade_status (record { trade = trade; security = security }) ≡ trade_row_with_security t (abstract_trade_row trade)
carried_in trade security t e = λ i. (abstract_trade_row trade, e i)

-- `statuses` are the last 50 trades of the account, the most recent first, each with its security.
abbrev pub AreRecentTradesWithSecurities : ℕ → List TradeStatus → Tables → Type 0
AreRecentTradesWithSecurities account statuses t = map rows_of_trade_status statuses ≡ map (trade_row_with_security t) (take 50 (trade_rows_recent_first (trade_rows_of_account t account)))

-- ---- the security of an earlier trade of the same symbol

-- Each of `statuses` has the security of its trade.
abbrev pub HaveOwnSecurities : List TradeStatus → Tables → Type 0
HaveOwnSecurities statuses t = map rows_of_trade_status statuses ≡ map (λ s. trade_row_with_security t (abstract_trade_row s.trade)) statuses

-- The trades in `rest`, followed by the trades of `statuses` in reverse order, are the last 50
-- trades of the account, and each of `statuses` has the security of its trade.
abbrev pub AreStatusesReadSoFar : ℕ → List TradeRow → List TradeStatus → Tables → Type 0
AreStatusesReadSoFar account rest statuses t =
    (map (λ r. trade_row_with_security t (abstract_trade_row r)) rest ++ map rows_of_trade_status (reverse statuses)
    ≡ map (trade_row_with_security t) (take 50 (trade_rows_recent_first (trade_rows_of_account t account))))
    × HaveOwnSecurities statuses t

pub empty_have_own_securities : (statuses : List TradeStatus) (t : Tables) → statuses ≡ [] → HaveOwnSecurities statuses t
empty_have_own_securities statuses t e = subst (λ ss. HaveOwnSecurities ss t) (sym e) refl

one_more_has_own_security : (statuses : List TradeStatus) (status : TradeStatus) (t : Tables) (row : tables.TradeRow) → HaveOwnSecurities statuses t
    → rows_of_trade_status status ≡ trade_row_with_security t row → HaveOwnSecurities (statuses ++ status ∷ []) t
one_more_has_own_security statuses status t row h e =
    let own : rows_of_trade_status status ≡ trade_row_with_security t (abstract_trade_row status.trade) = e ∙ ap (trade_row_with_security t) (sym (ap (λ p. p.0) e)) in
    map-append rows_of_trade_status statuses (status ∷ []) ∙ (λ j. h j ++ own j ∷ [])
    ∙ sym (map-append (λ (s : TradeStatus). trade_row_with_security t (abstract_trade_row s.trade)) statuses (status ∷ []))

pub status_more : (account : ℕ) (before rest : List TradeRow) (trade : TradeRow) (statuses : List TradeStatus) (status : TradeStatus) (t : Tables) → before ≡ rest ++ trade ∷ []
    → AreStatusesReadSoFar account before statuses t → rows_of_trade_status status ≡ trade_row_with_security t (abstract_trade_row trade)
    → AreStatusesReadSoFar account rest (statuses ++ status ∷ []) t
status_more account before rest trade statuses status t is p e = (
  popped (λ r. trade_row_with_security t (abstract_trade_row r)) rows_of_trade_status before rest trade statuses status _ is p.0 e,
  one_more_has_own_security statuses status t (abstract_trade_row trade) p.1 e,
)

-- the security of the first of `statuses` of a symbol is that of the symbol
pub same_security : (symbol : Text) (security : Security) (statuses : List TradeStatus) (t : Tables) → HaveOwnSecurities statuses t
    → Some security ≡ option_map (λ s. s.security) (find (λ s. bytes_eq s.trade.symbol symbol) statuses)
    → Some (abstract_security_row security) ≡ find (λ (r : SecurityRow). bytes_eq r.symbol symbol) t.securities
same_security symbol security [] t h e = absurd (cc)
same_security symbol security (s ∷ ss) t h e = by_test (bytes_eq s.trade.symbol symbol) refl (same_security symbol security ss t others) e
  where
    first : rows_of_trade_status s ≡ trade_row_with_security t (abstract_trade_row s.trade)
    first = cc

    others : HaveOwnSecurities ss t
    others = cc

    by_test : (b : Bool) → bytes_eq s.trade.symbol symbol ≡ b
        → (Some security ≡ option_map (λ (s : TradeStatus). s.security) (find (λ (s : TradeStatus). bytes_eq s.trade.symbol symbol) ss)
        → Some (abstract_security_row security) ≡ find (λ (r : SecurityRow). bytes_eq r.symbol symbol) t.securities)
        → Some security ≡ option_map (λ (s : TradeStatus). s.security) (cond b (Some s) (find (λ (s : TradeStatus). bytes_eq s.trade.symbol symbol) ss))
        → Some (abstract_security_row security) ≡ find (λ (r : SecurityRow). bytes_eq r.symbol symbol) t.securities
    by_test true is later f =
        ap (option_map abstract_security_row) f ∙ ap (λ p. p.1) first
        ∙ ap (λ x. find (λ (r : SecurityRow). bytes_eq r.symbol x) t.securities) (same_text s.trade.symbol symbol is)
    by_test false is later f = later f

pub no_status : (id : ℕ) (t : Tables) → None ≡ find (λ r. r.id == id) t.accounts → AnswersQueryAsModel (StatusOf id) (Err NoAccount) t
unfolding ask checks_of_query
no_status id t e = (λ base books sound s. refused (is_none (account_with_id base id)) NoAccount (view_of_base base (StatusOf id)) (account_missing base id t s e), tt)

-- one account of one customer has one head
one_head : (t : Tables) (a : AccountRow) (c : Customer) (accounts : List AccountRow) (rest : List (List Text)) → accounts ≡ a ∷ []
    → filter (λ c. c.id == a.customer) t.customers ≡ c ∷ [] → flat_map (customer_and_broker_names t) accounts ++ rest ≡ (c.last_name ∷ c.first_name ∷ broker_name_with_id t a.broker ∷ []) ∷ rest
one_head t a c accounts rest e f =
    ap (λ as'. flat_map (customer_and_broker_names t) as' ++ rest) e
    ∙ ap (λ (cs : List Customer). (map (λ c. c.last_name ∷ c.first_name ∷ broker_name_with_id t a.broker ∷ []) cs ++ []) ++ rest) f

pub status_seen : (id : ℕ) (a : AccountRow) (statuses : Vec TradeStatus) (found : AccountStatus) (view : View) → view ≡ views.Status found
    → (t : Tables) → Some a ≡ find (λ r. r.id == id) t.accounts → AreRecentTradesWithSecurities id statuses.items t
    → IsAccountStatusWithTrades a statuses found t → AnswersQueryAsModel (StatusOf id) (Ok view) t
unfolding ask checks_of_query view_of_base view_of_tables trade_status_view
status_seen id a statuses found view is t e w p = (
  λ base books sound s.
      let c : Customer = p.0 in
      let accounts : filter (λ (r : AccountRow). r.id == id) t.accounts ≡ a ∷ [] =
      ap (λ (x : Tables). filter (λ r. r.id == id) x.accounts) s ∙ sym (ap option_to_list (e ∙ ap (λ (x : Tables). find (λ r. r.id == id) x.accounts) s) ∙ account_alone base id books sound) in
      let customers : filter (λ (c : Customer). c.id == a.customer) t.customers ≡ c ∷ [] =
      ap (λ (x : Tables). filter (λ c. c.id == a.customer) x.customers) s
      ∙ sym (ap option_to_list (p.1 ∙ ap (λ (x : Tables). find (λ c. c.id == a.customer) x.customers) s) ∙ customer_alone base a.customer books sound) in
      let trades : map trade_status_record statuses.items ≡ map (record_of_trade_status t) (take 50 (trade_rows_recent_first (trade_rows_of_account t id))) =
      statuses_shown t statuses.items (take 50 (trade_rows_recent_first (trade_rows_of_account t id))) w in
      let shown : party_names_record found ∷ map trade_status_record found.trades.items ≡ trade_status_view t id =
      (λ i. (p.2 i ∷ p.3 i ∷ p.4 i ∷ []) ∷ (ap (λ (v : Vec TradeStatus). map trade_status_record v.items) p.5 ∙ trades) i)
      ∙ sym (one_head t a c (filter (λ r. r.id == id) t.accounts) (map (record_of_trade_status t) (take 50 (trade_rows_recent_first (trade_rows_of_account t id)))) accounts customers) in
      answered (is_none (account_with_id base id)) NoAccount (trade_status_view (tables_of_base base) id) (account_there base id a t s e)
      ∙ ap Ok (sym (ap records_of_view is ∙ shown ∙ ap (λ x. trade_status_view x id) s ∙ same_status_view base id books)),
  λ base books sound s. carried_as (StatusOf id) view (views.Status found) t is (ap (λ (v : Vec TradeStatus). map rows_of_trade_status v.items) p.5 ∙ w),
)
