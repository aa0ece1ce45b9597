-- Any calls preserve that the records that another record refers to exist.
use Rattle.std.proofs.Common.{◌≡◌, ℕ, ◌+◌, ◌==◌, Bool, true, false, cond, List, [], ◌∷◌, ◌++◌, length, find, refl, ◌∙◌, ap, Option, Some, None, arith}
use Rattle.std.specs.Prelude.{is_some, is_none, bytes_eq, fold}
use Rattle.std.specs.Option.{option_map_or}
use Rattle.std.specs.List.{AllByRecursion}
use Rattle.brk_money.specs.Spelling.{Text}
use Rattle.brk_model.specs.Lists.{update_where}
use Rattle.brk_model.specs.Records.{Account, Permission, CustomerTax, Trade, Movement, Key}
use Rattle.brk_model.specs.Base.{Base, empty_base, broker_with_id, customer_with_id, account_with_id, security_with_symbol, tax_rate_record_with_id, trade_with_id}
use Rattle.brk_model.specs.Keyed.{base_with_stored_reply}
use Rattle.brk_model.specs.Commands.{Command, Reply, Tick, AddBroker, AddCustomer, AddAccount, AddPermission, AddSecurity, AddCharge, AddBand, AddTaxRate}
use Rattle.brk_model.specs.Commands.{AddCustomerTax, PlaceOrder, FeedTicks, CancelTrade, CompleteTrade, ChangeExecutors, ChangeCashTypes, ChangeCashNames}
use Rattle.brk_model.specs.Commands.{DepositCash, WithdrawCash, SetOneDay}
use Rattle.brk_model.specs.Feed.{security_after_tick, base_after_tick, base_after_ticks}
use Rattle.brk_model.specs.Results.{base_after_result, trade_after_completion}
use Rattle.brk_model.specs.Movements.{base_after_movement}
use Rattle.brk_model.specs.Tests.{stamp_of_next_command, checks_of_command, refusal_of_command}
use Rattle.brk_model.specs.Step.{base_after_command_unstamped, base_after_accepted_command}
use Rattle.brk_model.specs.Run.{Call, Outcome, Run}
use Rattle.brk_model_theorems.specs.Laws.{IsReachableFromEmptyBase}
use Rattle.brk_model.specs.Names.{AccountOfMovementExists, TradesAreNumberedFrom}
use Rattle.brk_model_theorems.specs.Names.{AccountReferencesResolve, AccountOfPermissionExists, CustomerTaxReferencesResolve, TradeReferencesResolve, ReferencesResolve, BaseReferencesResolve}
use Rattle.brk_model_theorems.proofs.Reached.{IsKept, passed, reached, run-kept}

-- ---- lists

pub All-map : {X : Type 0} {P Q : X → Type 0} → ((x : X) → P x → Q x) → (xs : List X) → AllByRecursion P xs → AllByRecursion Q xs
All-map f [] h = tt
All-map f (x ∷ xs) h = (f x h.0, All-map f xs h.1)

pub All-last : {X : Type 0} (P : X → Type 0) (xs : List X) (x : X) → AllByRecursion P xs → P x → AllByRecursion P (xs ++ x ∷ [])
All-last P [] x h p = (p, tt)
All-last P (y ∷ ys) x h p = (h.0, All-last P ys x h.1 p)

-- what was found is found where one is added
some-one : {X : Type 0} (b : Bool) (x : X) (o p : Option X) → (is_some o ≡ true → is_some p ≡ true) → is_some (cond b (Some x) o) ≡ true → is_some (cond b (Some x) p) ≡ true
some-one true x o p f h = refl
some-one false x o p f h = f h

pub some-last : {X : Type 0} (test : X → Bool) (xs : List X) (y : X) → is_some (find test xs) ≡ true → is_some (find test (xs ++ y ∷ [])) ≡ true
some-last test [] y h = absurd (cc)
some-last test (x ∷ xs) y h = some-one (test x) x (find test xs) (find test (xs ++ y ∷ [])) (some-last test xs y) h

-- and where some are changed in what they are not found by
some-update : {X : Type 0} (test : X → Bool) (p : X → Bool) (change : X → X) → ((x : X) → test (change x) ≡ test x) → (xs : List X) → is_some (find test xs) ≡ true
    → is_some (find test (update_where p change xs)) ≡ true
some-update test p change same [] h = absurd (cc)
some-update {X = X} test p change same (x ∷ xs) h = at (p x) (some-update test p change same xs)
  where
    step : (y : X) → test y ≡ test x → (is_some (find test xs) ≡ true → is_some (find test (update_where p change xs)) ≡ true)
        → is_some (cond (test y) (Some y) (find test (update_where p change xs))) ≡ true
    step y e rest = both (test x) (test y) e h rest
      where
        both : (b c : Bool) → c ≡ b → is_some (cond b (Some x) (find test xs)) ≡ true → (is_some (find test xs) ≡ true → is_some (find test (update_where p change xs)) ≡ true)
            → is_some (cond c (Some y) (find test (update_where p change xs))) ≡ true
        both true true e k rest = refl
        both false false e k rest = rest k
        both true false e k rest = absurd (cc)
        both false true e k rest = absurd (cc)

    at : (b : Bool) → (is_some (find test xs) ≡ true → is_some (find test (update_where p change xs)) ≡ true)
        → is_some (cond (test (cond b (change x) x)) (Some (cond b (change x) x)) (find test (update_where p change xs))) ≡ true
    at true rest = step (change x) (same x) rest
    at false rest = step x refl rest

pub there : {X : Type 0} (o : Option X) → is_none o ≡ false → is_some o ≡ true
there None h = absurd (cc)
there (Some x) h = refl

-- ---- a base that has the names of another

-- Every broker, customer, account, tax rate and security of `base` exists in `after`.
pub record Grows (base after : Base) : Type 0 where
  pub brokers : (id : ℕ) → is_some (broker_with_id base id) ≡ true → is_some (broker_with_id after id) ≡ true
  pub customers : (id : ℕ) → is_some (customer_with_id base id) ≡ true → is_some (customer_with_id after id) ≡ true
  pub accounts : (id : ℕ) → is_some (account_with_id base id) ≡ true → is_some (account_with_id after id) ≡ true
  pub rates : (id : ℕ) → is_some (tax_rate_record_with_id base id) ≡ true → is_some (tax_rate_record_with_id after id) ≡ true
  pub securities : (symbol : Text) → is_some (security_with_symbol base symbol) ≡ true → is_some (security_with_symbol after symbol) ≡ true

pub grown : (base after : Base) (accounts : List Account) (permissions : List Permission) (taxes : List CustomerTax) (trades : List Trade) (movements : List Movement) → Grows base after
    → ReferencesResolve base accounts permissions taxes trades movements → ReferencesResolve after accounts permissions taxes trades movements
grown base after accounts permissions taxes trades movements g n = record {
  parties = All-map (λ a h. (g.customers a.customer h.0, g.brokers a.broker h.1)) accounts n.parties;
  permitted = All-map (λ p h. g.accounts p.account h) permissions n.permitted;
  taxed = All-map (λ x h. (g.customers x.customer h.0, g.rates x.tax h.1)) taxes n.taxed;
  traded = All-map (λ t h. (g.accounts t.account h.0, g.securities t.symbol h.1)) trades n.traded;
  numbered = n.numbered;
  held = All-map (λ m h. g.accounts m.account h) movements n.held;
}

-- ---- trades

pub numbered-last : (n : ℕ) (ts : List Trade) (t : Trade) → TradesAreNumberedFrom n ts → t.id ≡ n + length ts → TradesAreNumberedFrom n (ts ++ t ∷ [])
numbered-last n [] t h e = (omega (e, arith), tt)
numbered-last n (u ∷ us) t h e = (h.0, numbered-last (n + 1) us t h.1 (omega (e, arith)))

-- The function leaves the id, the account and the symbol of every trade unchanged.
pub record Leaves (change : Trade → Trade) : Type 0 where
  pub id : (t : Trade) → (change t).id ≡ t.id
  pub account : (t : Trade) → (change t).account ≡ t.account
  pub symbol : (t : Trade) → (change t).symbol ≡ t.symbol

numbered-update : (test : Trade → Bool) (change : Trade → Trade) → Leaves change → (n : ℕ) (ts : List Trade) → TradesAreNumberedFrom n ts → TradesAreNumberedFrom n (update_where test change ts)
numbered-update test change l n [] h = tt
numbered-update test change l n (t ∷ ts) h = (at (test t), numbered-update test change l (n + 1) ts h.1)
  where
    at : (b : Bool) → (cond b (change t) t).id ≡ n
    at true = l.id t ∙ h.0
    at false = h.0

traded-update : (base : Base) (test : Trade → Bool) (change : Trade → Trade) → Leaves change → (ts : List Trade)
    → AllByRecursion (TradeReferencesResolve base) ts → AllByRecursion (TradeReferencesResolve base) (update_where test change ts)
traded-update base test change l [] h = tt
traded-update base test change l (t ∷ ts) h = (at (test t), traded-update base test change l ts h.1)
  where
    at : (b : Bool) → TradeReferencesResolve base (cond b (change t) t)
    at true = (ap (λ a. is_some (account_with_id base a)) (l.account t) ∙ h.0.0, ap (λ s. is_some (security_with_symbol base s)) (l.symbol t) ∙ h.0.1)
    at false = h.0

pub updated : (base : Base) (accounts : List Account) (permissions : List Permission) (taxes : List CustomerTax) (trades : List Trade)
    (movements : List Movement) (test : Trade → Bool) (change : Trade → Trade) → Leaves change
    → ReferencesResolve base accounts permissions taxes trades movements → ReferencesResolve base accounts permissions taxes (update_where test change trades) movements
updated base accounts permissions taxes trades movements test change l n = record {
  parties = n.parties;
  permitted = n.permitted;
  taxed = n.taxed;
  traded = traded-update base test change l trades n.traded;
  numbered = numbered-update test change l 1 trades n.numbered;
  held = n.held;
}

-- ---- a tick and a result

tick-named : (stamp : ℕ) (base : Base) (tick : Tick) → BaseReferencesResolve base → BaseReferencesResolve (base_after_tick stamp base tick)
tick-named stamp base tick n =
    grown base (base_after_tick stamp base tick) base.accounts base.permissions base.customer_taxes (base_after_tick stamp base tick).trades base.movements
    (record {
      brokers = λ id h. h;
      customers = λ id h. h;
      accounts = λ id h. h;
      rates = λ id h. h;
      securities = λ symbol h. some-update (λ s. bytes_eq s.symbol symbol) (λ s. bytes_eq s.symbol tick.symbol) (security_after_tick stamp tick) (λ s. refl) base.securities h;
    })
    (updated base base.accounts base.permissions base.customer_taxes base.trades base.movements _ _ (record { id = λ t. refl; account = λ t. refl; symbol = λ t. refl }) n)

pub ticks-named : (stamp : ℕ) (base : Base) (ticks : List Tick) → BaseReferencesResolve base → BaseReferencesResolve (fold (base_after_tick stamp) base ticks)
ticks-named stamp base [] n = n
ticks-named stamp base (tick ∷ ticks) n = ticks-named stamp (base_after_tick stamp base tick) ticks (tick-named stamp base tick n)

completed-leaves : (base : Base) (stamp price : ℕ) → Leaves (trade_after_completion base stamp price)
unfolding trade_after_completion
completed-leaves base stamp price = record { id = λ t. refl; account = λ t. refl; symbol = λ t. refl }

-- a base with the same lists but for the trades
with-last : (base : Base) (stamp : ℕ) → BaseReferencesResolve base → BaseReferencesResolve (record base { last = Some stamp })
with-last base stamp n = grown base (record base { last = Some stamp }) base.accounts base.permissions base.customer_taxes base.trades base.movements (record {
  brokers = λ id h. h;
  customers = λ id h. h;
  accounts = λ id h. h;
  rates = λ id h. h;
  securities = λ symbol h. h;
}) n

trades-named : (base : Base) (test : Trade → Bool) (change : Trade → Trade) → Leaves change → BaseReferencesResolve base
    → BaseReferencesResolve (record base { trades = update_where test change base.trades })
trades-named base test change l n =
    grown base (record base { trades = update_where test change base.trades }) base.accounts base.permissions base.customer_taxes (update_where test change base.trades) base.movements
    (record { brokers = λ id h. h; customers = λ id h. h; accounts = λ id h. h; rates = λ id h. h; securities = λ symbol h. h })
    (updated base base.accounts base.permissions base.customer_taxes base.trades base.movements test change l n)

result-named : (base : Base) (stamp price : ℕ) (found : Option Trade) → BaseReferencesResolve base → BaseReferencesResolve (option_map_or (base_after_result base stamp price) found base)
result-named base stamp price None n = n
result-named base stamp price (Some t) n = trades-named base (λ u. u.id == t.id) (trade_after_completion base stamp price) (completed-leaves base stamp price) n

-- a movement of an account that is there
movement-named : (base : Base) (m : Movement) → is_none (account_with_id base m.account) ≡ false → BaseReferencesResolve base → BaseReferencesResolve (base_after_movement base m)
movement-named base m k n =
    let g = grown base (base_after_movement base m) base.accounts base.permissions base.customer_taxes base.trades base.movements
    (record { brokers = λ id h. h; customers = λ id h. h; accounts = λ id h. h; rates = λ id h. h; securities = λ symbol h. h }) n in
    record {
      held = All-last (AccountOfMovementExists (base_after_movement base m)) base.movements m g.held (there (account_with_id base m.account) k);
      parties = g.parties;
      permitted = g.permitted;
      taxed = g.taxed;
      traded = g.traded;
      numbered = g.numbered;
    }

-- ---- the commands

names-kept : (base : Base) (stamp : ℕ) (command : Command) → AllByRecursion (λ t. t.0 ≡ false) (checks_of_command base stamp command)
    → BaseReferencesResolve base → BaseReferencesResolve (base_after_command_unstamped base stamp command)
unfolding base_after_command_unstamped checks_of_command base_after_ticks
names-kept base stamp (AddBroker b) k n =
    grown base (base_after_command_unstamped base stamp (AddBroker b)) base.accounts base.permissions base.customer_taxes base.trades base.movements
    (record { brokers = λ id h. some-last (λ c. c.id == id) base.brokers b h; customers = λ id h. h; accounts = λ id h. h; rates = λ id h. h; securities = λ symbol h. h }) n
names-kept base stamp (AddCustomer c) k n =
    grown base (base_after_command_unstamped base stamp (AddCustomer c)) base.accounts base.permissions base.customer_taxes base.trades base.movements
    (record { brokers = λ id h. h; customers = λ id h. some-last (λ d. d.id == id) base.customers c h; accounts = λ id h. h; rates = λ id h. h; securities = λ symbol h. h }) n
names-kept base stamp (AddAccount a) k n =
    let g : Grows base (base_after_command_unstamped base stamp (AddAccount a)) =
    record {
      brokers = λ id h. h;
      customers = λ id h. h;
      accounts = λ id h. some-last (λ b. b.id == id) base.accounts a h;
      rates = λ id h. h;
      securities =
          λ symbol h. h;
    } in
    let m = grown base (base_after_command_unstamped base stamp (AddAccount a)) base.accounts base.permissions base.customer_taxes base.trades base.movements g n in
    record {
      parties = All-last (AccountReferencesResolve (base_after_command_unstamped base stamp (AddAccount a))) base.accounts a m.parties
          (there (customer_with_id base a.customer) k.0, there (broker_with_id base a.broker) k.1.0);
      permitted = m.permitted;
      taxed = m.taxed;
      traded = m.traded;
      numbered = m.numbered;
      held = m.held;
    }
names-kept base stamp (AddPermission p) k n =
    let m = grown base (base_after_command_unstamped base stamp (AddPermission p)) base.accounts base.permissions base.customer_taxes base.trades base.movements
    (record { brokers = λ id h. h; customers = λ id h. h; accounts = λ id h. h; rates = λ id h. h; securities = λ symbol h. h }) n in
    record {
      permitted = All-last (AccountOfPermissionExists (base_after_command_unstamped base stamp (AddPermission p))) base.permissions p m.permitted
          (there (account_with_id base p.account) k.0);
      parties = m.parties;
      taxed = m.taxed;
      traded = m.traded;
      numbered = m.numbered;
      held = m.held;
    }
names-kept base stamp (AddSecurity l) k n =
    grown base (base_after_command_unstamped base stamp (AddSecurity l)) base.accounts base.permissions base.customer_taxes base.trades base.movements
    (record { brokers = λ id h. h; customers = λ id h. h; accounts = λ id h. h; rates = λ id h. h; securities = λ symbol h. some-last (λ s. bytes_eq s.symbol symbol) base.securities _ h }) n
names-kept base stamp (AddCharge c) k n =
    grown base (base_after_command_unstamped base stamp (AddCharge c)) base.accounts base.permissions base.customer_taxes base.trades base.movements
    (record { brokers = λ id h. h; customers = λ id h. h; accounts = λ id h. h; rates = λ id h. h; securities = λ symbol h. h }) n
names-kept base stamp (AddBand b) k n =
    grown base (base_after_command_unstamped base stamp (AddBand b)) base.accounts base.permissions base.customer_taxes base.trades base.movements
    (record { brokers = λ id h. h; customers = λ id h. h; accounts = λ id h. h; rates = λ id h. h; securities = λ symbol h. h }) n
names-kept base stamp (AddTaxRate r) k n =
    grown base (base_after_command_unstamped base stamp (AddTaxRate r)) base.accounts base.permissions base.customer_taxes base.trades base.movements
    (record { brokers = λ id h. h; customers = λ id h. h; accounts = λ id h. h; rates = λ id h. some-last (λ s. s.id == id) base.tax_rates r h; securities = λ symbol h. h }) n
names-kept base stamp (AddCustomerTax x) k n =
    let m = grown base (base_after_command_unstamped base stamp (AddCustomerTax x)) base.accounts base.permissions base.customer_taxes base.trades
    base.movements (record { brokers = λ id h. h; customers = λ id h. h; accounts = λ id h. h; rates = λ id h. h; securities = λ symbol h. h }) n in
    record {
      taxed = All-last (CustomerTaxReferencesResolve (base_after_command_unstamped base stamp (AddCustomerTax x))) base.customer_taxes x m.taxed
          (there (customer_with_id base x.customer) k.0, there (tax_rate_record_with_id base x.tax) k.1.0);
      parties = m.parties;
      permitted = m.permitted;
      traded = m.traded;
      numbered = m.numbered;
      held = m.held;
    }
names-kept base stamp (PlaceOrder o) k n =
    let m = grown base (base_after_command_unstamped base stamp (PlaceOrder o)) base.accounts base.permissions base.customer_taxes base.trades base.movements
    (record { brokers = λ id h. h; customers = λ id h. h; accounts = λ id h. h; rates = λ id h. h; securities = λ symbol h. h }) n in
    record {
      traded = All-last (TradeReferencesResolve (base_after_command_unstamped base stamp (PlaceOrder o))) base.trades _ m.traded
          (there (account_with_id base o.account) k.0, there (security_with_symbol base o.symbol) k.1.0);
      numbered = numbered-last 1 base.trades _ m.numbered (omega arith);
      parties = m.parties;
      permitted = m.permitted;
      taxed = m.taxed;
      held = m.held;
    }
names-kept base stamp (FeedTicks ticks) k n = ticks-named stamp base ticks n
names-kept base stamp (CancelTrade id) k n = trades-named base _ _ (record { id = λ t. refl; account = λ t. refl; symbol = λ t. refl }) n
names-kept base stamp (CompleteTrade id price) k n = result-named base stamp price (trade_with_id base id) n
names-kept base stamp (ChangeExecutors ids) k n = trades-named base _ _ (record { id = λ t. refl; account = λ t. refl; symbol = λ t. refl }) n
names-kept base stamp (ChangeCashTypes account first last) k n = trades-named base _ _ (record { id = λ t. refl; account = λ t. refl; symbol = λ t. refl }) n
names-kept base stamp (ChangeCashNames symbol first last) k n = trades-named base _ _ (record { id = λ t. refl; account = λ t. refl; symbol = λ t. refl }) n
names-kept base stamp (DepositCash account amount) k n = movement-named base _ k.0 n
names-kept base stamp (WithdrawCash account amount) k n = movement-named base _ k.0 n
names-kept base stamp (SetOneDay day) k n =
    grown base (base_after_command_unstamped base stamp (SetOneDay day)) base.accounts base.permissions base.customer_taxes base.trades base.movements
    (record { brokers = λ id h. h; customers = λ id h. h; accounts = λ id h. h; rates = λ id h. h; securities = λ symbol h. h }) n

names-step : (base : Base) (now : ℕ) (command : Command) → refusal_of_command base now command ≡ None → BaseReferencesResolve base
    → BaseReferencesResolve (base_after_accepted_command base (stamp_of_next_command base now) command)
names-step base now command h n =
    with-last (base_after_command_unstamped base (stamp_of_next_command base now) command) (stamp_of_next_command base now)
    (names-kept base (stamp_of_next_command base now) command (passed base now command h) n)

names-rows : (key : Option Key) (command : Command) (reply : Reply) (base : Base) → BaseReferencesResolve base → BaseReferencesResolve (base_with_stored_reply key command reply base)
names-rows None command reply base n = n
names-rows (Some key) command reply base n =
    grown base (base_with_stored_reply (Some key) command reply base) base.accounts base.permissions base.customer_taxes base.trades base.movements
    (record { brokers = λ id h. h; customers = λ id h. h; accounts = λ id h. h; rates = λ id h. h; securities = λ symbol h. h }) n

names-stay : IsKept BaseReferencesResolve
names-stay = record { steps = names-step; rows = names-rows }

-- after any calls from a base where it is so
pub still-named : (base after : Base) (calls : List (ℕ × Call)) (outcomes : List Outcome) → BaseReferencesResolve base → Run base calls outcomes after → BaseReferencesResolve after
still-named base after calls outcomes n r = run-kept BaseReferencesResolve names-stay calls outcomes base after r n

-- of each base that is reached
pub is_named : (base : Base) → IsReachableFromEmptyBase base → BaseReferencesResolve base
unfolding empty_base
is_named base r = reached BaseReferencesResolve names-stay (record { parties = tt; permitted = tt; taxed = tt; traded = tt; numbered = tt; held = tt }) base r
