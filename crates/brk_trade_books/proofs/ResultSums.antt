-- The sums that the completion of a trade raises, and by how much.
use Rattle.std.proofs.Common.{◌≡◌, ℕ, ◌==◌, ◌+◌, true, false, List, ◌∷◌, ◌++◌, refl, sym, ◌∙◌, ap, filter, length, map, arith, ℤ, ◌+ℤ◌}
use Rattle.std.specs.Prelude.{sum_by}
use Rattle.std.proofs.lemmas.Bool.{eq-eqb}
use Rattle.std.proofs.lemmas.List.Sums.{sum_by-append, sum_by-cons}
use lib.IntN.{+ℤ_assoc, +ℤ_comm}
use Rattle.brk_money.specs.Kinds.{side_of_trade_type}
use Rattle.brk_model.specs.Lists.{total_by}
use Rattle.brk_model.specs.Records.{Account, Movement, Trade}
use Rattle.brk_model.specs.Base.{Base, broker_id_in_accounts, broker_id_of_account, completed_trades, is_completed, opening_balance_in_accounts}
use Rattle.brk_model.specs.Derived.{Posting, settlement_amount, balance_of_account, cash_trades, commission_total_of_broker, trades_of_broker}
use Rattle.brk_model.specs.Derived.{posting_of_movement, posting_of_trade, postings, postings_of_base, holding_summary_quantity, trade_count_of_broker}
use Rattle.brk_model.specs.Results.{trade_after_completion, base_after_result}
use Rattle.brk_model.specs.Shares.{signed_by_side}
use Rattle.brk_trade_books.proofs.Places.{filter-append, filter-one}
use Rattle.brk_trade_books.proofs.Positions.{summary_own}
use Rattle.brk_trade_books.proofs.Postings.{length_one, postings_both, postings_one, total_one}
use Rattle.brk_trade_books.proofs.ResultRows.{IsResult, done_now, done_then}
use Rattle.brk_trade_books.proofs.Sums.{margin_balance}

-- ---- one more among others

sum_one : {X : Type 0} (f : X → ℕ) (xs : List X) (x : X) (ys : List X) → sum_by f (xs ++ x ∷ ys) ≡ sum_by f (xs ++ ys) + f x
sum_one f xs x ys =
    let a = sum_by-append f xs (x ∷ ys) in
    let b = sum_by-cons f x ys in
    let c = sum_by-append f xs ys in
    omega (arith, a, b, c)

-- ---- brokers

own_broker : (accounts : List Account) (xs : List Trade) (t : Trade) (ys : List Trade)
    → trades_of_broker accounts (xs ++ t ∷ ys) (broker_id_in_accounts accounts t.account)
    ≡ trades_of_broker accounts xs (broker_id_in_accounts accounts t.account) ++ t ∷ trades_of_broker accounts ys (broker_id_in_accounts accounts t.account)
own_broker accounts xs t ys =
    filter-one (λ u. broker_id_in_accounts accounts u.account == broker_id_in_accounts accounts t.account) xs t ys
    (eq-eqb (broker_id_in_accounts accounts t.account) (broker_id_in_accounts accounts t.account) refl)

both_brokers : (accounts : List Account) (xs ys : List Trade) (id : ℕ) → trades_of_broker accounts (xs ++ ys) id ≡ trades_of_broker accounts xs id ++ trades_of_broker accounts ys id
both_brokers accounts xs ys id = filter-append (λ u. broker_id_in_accounts accounts u.account == id) xs ys

count_one : (accounts : List Account) (xs : List Trade) (t : Trade) (ys : List Trade)
    → trade_count_of_broker accounts (xs ++ t ∷ ys) (broker_id_in_accounts accounts t.account) ≡ trade_count_of_broker accounts (xs ++ ys) (broker_id_in_accounts accounts t.account) + 1
unfolding trade_count_of_broker
count_one accounts xs t ys =
    let b : ℕ = broker_id_in_accounts accounts t.account in
    ap length (own_broker accounts xs t ys) ∙ length_one (trades_of_broker accounts xs b) t (trades_of_broker accounts ys b)
    ∙ ap (λ ts. length ts + 1) (sym (both_brokers accounts xs ys b))

commissions_one : (accounts : List Account) (xs : List Trade) (t : Trade) (ys : List Trade)
    → commission_total_of_broker accounts (xs ++ t ∷ ys) (broker_id_in_accounts accounts t.account)
    ≡ commission_total_of_broker accounts (xs ++ ys) (broker_id_in_accounts accounts t.account) + t.commission
unfolding commission_total_of_broker
commissions_one accounts xs t ys =
    let b : ℕ = broker_id_in_accounts accounts t.account in
    ap (sum_by (λ u. u.commission)) (own_broker accounts xs t ys) ∙ sum_one (λ u. u.commission) (trades_of_broker accounts xs b) t (trades_of_broker accounts ys b)
    ∙ ap (λ ts. sum_by (λ u. u.commission) ts + t.commission) (sym (both_brokers accounts xs ys b))

-- ---- balances

cash_one : (accounts : List Account) (xs : List Trade) (t : Trade) (ys : List Trade) (ms : List Movement) → t.is_cash ≡ true
    → balance_of_account accounts (postings accounts (xs ++ t ∷ ys) ms) t.account ≡ balance_of_account accounts (postings accounts (xs ++ ys) ms) t.account +ℤ settlement_amount accounts t
unfolding balance_of_account
cash_one accounts xs t ys ms e =
    ap (λ n. opening_balance_in_accounts accounts t.account +ℤ n)
    (ap (λ ps. total_by (λ p. p.amount) (A ps)) (postings_one accounts xs t ys ms e)
    ∙ ap (total_by (λ p. p.amount)) (filter-one (λ p. p.account == t.account) X (posting_of_trade accounts t) Y (eq-eqb t.account t.account refl))
    ∙ total_one (λ p. p.amount) (A X) (posting_of_trade accounts t) (A Y)
    ∙ ap (λ ps. total_by (λ p. p.amount) ps +ℤ settlement_amount accounts t) (sym (filter-append (λ p. p.account == t.account) X Y) ∙ ap A (sym (postings_both accounts xs ys ms))))
    ∙ sym (+ℤ_assoc (opening_balance_in_accounts accounts t.account) (total_by (λ p. p.amount) (A (postings accounts (xs ++ ys) ms))) (settlement_amount accounts t))
  where
    A : List Posting → List Posting
    A = filter (λ p. p.account == t.account)

    X : List Posting
    X = map (posting_of_trade accounts) (cash_trades xs)

    Y : List Posting
    Y = map (posting_of_trade accounts) (cash_trades ys) ++ map posting_of_movement ms

-- ---- of a result

pub summary_grows : (base : Base) (stamp price : ℕ) (t : Trade) (xs ys : List Trade) → IsResult base stamp price t xs ys
    → holding_summary_quantity (completed_trades (base_after_result base stamp price t)) t.account t.symbol
    ≡ holding_summary_quantity (completed_trades base) t.account t.symbol +ℤ signed_by_side (side_of_trade_type t.kind) t.qty
unfolding trade_after_completion
summary_grows base stamp price t xs ys k =
    ap (λ ts. holding_summary_quantity ts t.account t.symbol) (done_then base stamp price t xs ys k)
    ∙ summary_own (filter is_completed xs) (trade_after_completion base stamp price t) (filter is_completed ys)
    ∙ ap (λ ts. holding_summary_quantity ts t.account t.symbol +ℤ signed_by_side (side_of_trade_type t.kind) t.qty) (sym (done_now base stamp price t xs ys k))

pub count_grows : (base : Base) (stamp price : ℕ) (t : Trade) (xs ys : List Trade) → IsResult base stamp price t xs ys
    → trade_count_of_broker base.accounts (completed_trades (base_after_result base stamp price t)) (broker_id_of_account base t.account)
    ≡ trade_count_of_broker base.accounts (completed_trades base) (broker_id_of_account base t.account) + 1
unfolding trade_after_completion
count_grows base stamp price t xs ys k =
    ap (λ ts. trade_count_of_broker base.accounts ts (broker_id_of_account base t.account)) (done_then base stamp price t xs ys k)
    ∙ count_one base.accounts (filter is_completed xs) (trade_after_completion base stamp price t) (filter is_completed ys)
    ∙ ap (λ ts. trade_count_of_broker base.accounts ts (broker_id_of_account base t.account) + 1) (sym (done_now base stamp price t xs ys k))

pub commissions_grow : (base : Base) (stamp price : ℕ) (t : Trade) (xs ys : List Trade) → IsResult base stamp price t xs ys
    → commission_total_of_broker base.accounts (completed_trades (base_after_result base stamp price t)) (broker_id_of_account base t.account)
    ≡ commission_total_of_broker base.accounts (completed_trades base) (broker_id_of_account base t.account) + (trade_after_completion base stamp price t).commission
unfolding trade_after_completion
commissions_grow base stamp price t xs ys k =
    ap (λ ts. commission_total_of_broker base.accounts ts (broker_id_of_account base t.account)) (done_then base stamp price t xs ys k)
    ∙ commissions_one base.accounts (filter is_completed xs) (trade_after_completion base stamp price t) (filter is_completed ys)
    ∙ ap (λ ts. commission_total_of_broker base.accounts ts (broker_id_of_account base t.account) + (trade_after_completion base stamp price t).commission) (sym (done_now base stamp price t xs ys k))

pub balance_grows : (base : Base) (stamp price : ℕ) (t : Trade) (xs ys : List Trade) → IsResult base stamp price t xs ys → t.is_cash ≡ true
    → balance_of_account base.accounts (postings_of_base (base_after_result base stamp price t)) t.account
    ≡ balance_of_account base.accounts (postings_of_base base) t.account +ℤ settlement_amount base.accounts (trade_after_completion base stamp price t)
unfolding trade_after_completion
balance_grows base stamp price t xs ys k e =
    ap (λ ts. balance_of_account base.accounts (postings base.accounts ts base.movements) t.account) (done_then base stamp price t xs ys k)
    ∙ cash_one base.accounts (filter is_completed xs) (trade_after_completion base stamp price t) (filter is_completed ys) base.movements e
    ∙ ap (λ ts. balance_of_account base.accounts (postings base.accounts ts base.movements) t.account +ℤ settlement_amount base.accounts
    (trade_after_completion base stamp price t)) (sym (done_now base stamp price t xs ys k))

-- a trade on margin leaves the balance
pub balance_stays : (base : Base) (stamp price : ℕ) (t : Trade) (xs ys : List Trade) → IsResult base stamp price t xs ys → t.is_cash ≡ false
    → balance_of_account base.accounts (postings_of_base (base_after_result base stamp price t)) t.account ≡ balance_of_account base.accounts (postings_of_base base) t.account
unfolding trade_after_completion
balance_stays base stamp price t xs ys k e =
    ap (λ ts. balance_of_account base.accounts (postings base.accounts ts base.movements) t.account) (done_then base stamp price t xs ys k)
    ∙ margin_balance base.accounts (filter is_completed xs) (trade_after_completion base stamp price t) (filter is_completed ys) base.movements t.account e
    ∙ ap (λ ts. balance_of_account base.accounts (postings base.accounts ts base.movements) t.account) (sym (done_now base stamp price t xs ys k))
