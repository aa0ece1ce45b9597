-- An accepted result in the audit's formats preserves the audit invariant.
use Rattle.std.proofs.Common.{◌≡◌, ◌≤◌, ℕ, ◌==◌, ◌+◌, ◌^◌, Bool, true, false, cond, List, [], ◌∷◌, ◌++◌, refl, sym, ◌∙◌, ap, subst, filter, arith, Option, Some, None}
use Rattle.std.specs.Prelude.{◌&&◌, bytes_eq, codes, nat_abs, nat_le, nat_lt, option_map, sum_by, unwrap_or}
use Rattle.std.specs.List.{AllByRecursion}
use Rattle.std.proofs.lemmas.Bool.{and_parts, eqb-true, leb-true, le-leb, ltb-false, or_left}
use Rattle.brk_money.specs.Amounts.{commission}
use Rattle.brk_money.specs.Spelling.{Text}
use Rattle.brk_money.specs.Moments.{greatest_day}
use Rattle.brk_money.specs.Kinds.{side_of_trade_type}
use Rattle.brk_money.specs.declared.trade_type.TradeType.{TradeType}
use Rattle.brk_money.specs.declared.status.Status.TheVariants.{Completed, Submitted}
use Rattle.brk_model.specs.Schemas.{third_schema}
use Rattle.brk_model.specs.Limits.{greatest_amount, greatest_charge, greatest_commission_rate, greatest_summary_quantity}
use Rattle.brk_model.specs.Records.{Account, Band, Trade, Movement}
use Rattle.brk_model.specs.Base.{Base, commission_band_for_quantity, broker_id_in_accounts, completed_trades, customer_id_of_account, exchange_of_security}
use Rattle.brk_model.specs.Base.{has_last_status, is_completed, is_withholding_status, tax_status_in_accounts, tier_of_account, trade_with_id}
use Rattle.brk_model.specs.Derived.{balance_of_account, commission_total_of_broker, shares_of_position, holding_summary_quantity, postings, due_day_of_completion_stamp}
use Rattle.brk_model.specs.Commands.{CompleteTrade}
use Rattle.brk_model.specs.Orders.{commission_by_band}
use Rattle.brk_model.specs.Results.{cash_row_name, trade_after_completion, deal_of_result, base_after_result}
use Rattle.brk_model.specs.Form.{is_well_formed_band_row, is_cash_type_of_trade, is_price, is_quantity_in_schema, is_tier, is_id}
use Rattle.brk_model.specs.Forms.{is_exchange}
use Rattle.brk_model.specs.Tests.{stamp_of_next_command, refusal_of_command}
use Rattle.brk_model_theorems.proofs.Conjunctions.{and6, parts6}
use Rattle.brk_trade_books.specs.Books.{BooksInvariant}
use Rattle.brk_trade_books.proofs.NewKeys.{same_bytes}
use Rattle.brk_trade_books.proofs.Bools.{same_text}
use Rattle.brk_trade_books.proofs.Same.{All-append, All-map, find-All}
use Rattle.brk_trade_books.proofs.Tested.{All-back, All-front}
use Rattle.brk_trade_books.proofs.Positions.{summary_other}
use Rattle.brk_trade_books.proofs.Sums.{margin_balance, other_account, other_broker}
use Rattle.brk_trade_books.proofs.ResultRows.{done_now, done_then, status_then, trades_then}
use Rattle.brk_trade_books.proofs.ResultKeeping.{Found, found_at, result_passed, submitted}
use Rattle.brk_audit_theorems.specs.Sound.{HasDueDayInCalendar, StatusStampIsAtMostLastStamp, AuditInvariant, BaseTradeAuditInvariant}
use Rattle.brk_audit_theorems.proofs.Bounds.{amount_within, commission_low, tax_within}
use Rattle.brk_audit_theorems.proofs.OneTrade.{cheap_shares, completes_way, false_true, past_itself, past_then, price_low, qty_low, sound_last, stamps_more, trade_last}

-- ---- sums with one trade more

summary_then : (xs : List Trade) (u : Trade) (ys : List Trade) → ((account : ℕ) → (symbol : Text) → nat_abs (holding_summary_quantity (xs ++ ys) account symbol) ≤ greatest_summary_quantity)
    → nat_abs (holding_summary_quantity (xs ++ u ∷ ys) u.account u.symbol) ≤ greatest_summary_quantity → (account : ℕ) → (symbol : Text)
    → nat_abs (holding_summary_quantity (xs ++ u ∷ ys) account symbol) ≤ greatest_summary_quantity
summary_then xs u ys h new account symbol = by_test ((u.account == account) && bytes_eq u.symbol symbol) refl
  where
    by_test : (b : Bool) → ((u.account == account) && bytes_eq u.symbol symbol) ≡ b → nat_abs (holding_summary_quantity (xs ++ u ∷ ys) account symbol) ≤ greatest_summary_quantity
    by_test true e =
        let p = and_parts (u.account == account) (bytes_eq u.symbol symbol) e in
        subst (λ a. nat_abs (holding_summary_quantity (xs ++ u ∷ ys) a symbol) ≤ greatest_summary_quantity) (eqb-true u.account account p.0)
        (subst (λ s. nat_abs (holding_summary_quantity (xs ++ u ∷ ys) u.account s) ≤ greatest_summary_quantity) (same_text u.symbol symbol p.1) new)
    by_test false e = subst (λ z. nat_abs z ≤ greatest_summary_quantity) (sym (summary_other xs u ys account symbol e)) (h account symbol)

balance_then : (accounts : List Account) (xs : List Trade) (u : Trade) (ys : List Trade) (ms : List Movement)
    → ((account : ℕ) → nat_abs (balance_of_account accounts (postings accounts (xs ++ ys) ms) account) ≤ greatest_amount)
    → (u.is_cash && nat_lt greatest_amount (nat_abs (balance_of_account accounts (postings accounts (xs ++ u ∷ ys) ms) u.account))) ≡ false
    → (account : ℕ) → nat_abs (balance_of_account accounts (postings accounts (xs ++ u ∷ ys) ms) account) ≤ greatest_amount
balance_then accounts xs u ys ms h tested account = by_test (account == u.account) refl
  where
    Low : ℕ → Type 0
    Low id = nat_abs (balance_of_account accounts (postings accounts (xs ++ u ∷ ys) ms) id) ≤ greatest_amount

    own : (b : Bool) → u.is_cash ≡ b → Low u.account
    own true e = ltb-false greatest_amount (nat_abs (balance_of_account accounts (postings accounts (xs ++ u ∷ ys) ms) u.account))
        (sym (ap (λ b. b && nat_lt greatest_amount (nat_abs (balance_of_account accounts (postings accounts (xs ++ u ∷ ys) ms) u.account))) e) ∙ tested)
    own false e = subst (λ z. nat_abs z ≤ greatest_amount) (sym (margin_balance accounts xs u ys ms u.account e)) (h u.account)

    by_test : (b : Bool) → (account == u.account) ≡ b → Low account
    by_test true e = subst Low (sym (eqb-true account u.account e)) (own u.is_cash refl)
    by_test false e = subst (λ z. nat_abs z ≤ greatest_amount) (sym (other_account accounts xs u ys ms account e)) (h account)

commissions_then : (accounts : List Account) (xs : List Trade) (u : Trade) (ys : List Trade) → ((broker : ℕ) → commission_total_of_broker accounts (xs ++ ys) broker ≤ greatest_amount)
    → commission_total_of_broker accounts (xs ++ u ∷ ys) (broker_id_in_accounts accounts u.account) ≤ greatest_amount → (broker : ℕ)
    → commission_total_of_broker accounts (xs ++ u ∷ ys) broker ≤ greatest_amount
unfolding commission_total_of_broker
commissions_then accounts xs u ys h new broker = by_test (broker == broker_id_in_accounts accounts u.account) refl
  where
    Low : ℕ → Type 0
    Low id = commission_total_of_broker accounts (xs ++ u ∷ ys) id ≤ greatest_amount

    by_test : (b : Bool) → (broker == broker_id_in_accounts accounts u.account) ≡ b → Low broker
    by_test true e = subst Low (sym (eqb-true broker (broker_id_in_accounts accounts u.account) e)) new
    by_test false e = subst (λ ts. sum_by (λ t. t.commission) ts ≤ greatest_amount) (sym (other_broker accounts xs u ys broker e)) (h broker)

-- ---- the commission

pub rate_low : (b : Band) → is_well_formed_band_row third_schema b ≡ true → b.rate ≤ 10000
rate_low b e =
    leb-true b.rate greatest_commission_rate
    (parts6 (is_tier b.tier) (is_exchange b.exchange) (is_quantity_in_schema third_schema b.from_qty) (is_quantity_in_schema third_schema b.to_qty)
    (nat_le b.from_qty b.to_qty) (nat_le b.rate greatest_commission_rate) e).5

pub commission_within : (base : Base) (account : ℕ) (kind : TradeType) (symbol : Text) (qty price : ℕ)
    → AllByRecursion (λ b. is_well_formed_band_row third_schema b ≡ true) base.bands → qty ≤ 9999999 → price ≤ 9999999
    → unwrap_or (commission_by_band base account kind symbol qty price) 0 ≤ 10 ^ 14
commission_within base account kind symbol qty price h q p = by_band (commission_band_for_quantity base (tier_of_account base account) kind (exchange_of_security base symbol) qty) refl
  where
    by_band : (o : Option Band) → commission_band_for_quantity base (tier_of_account base account) kind (exchange_of_security base symbol) qty ≡ o
        → unwrap_or (option_map (λ b. commission b.rate qty price) o) 0 ≤ 10 ^ 14
    by_band None e = omega arith
    by_band (Some b) e = commission_low b.rate qty price (rate_low b (find-All (λ b. is_well_formed_band_row third_schema b ≡ true) _ base.bands b h e)) q p

-- ---- the completed trade

pub high : (n : ℕ) → n ≤ 10 ^ 14 → nat_le n greatest_amount ≡ true
high n h = le-leb n greatest_amount (omega (arith, h))

first_type : (b : Bool) → is_cash_type_of_trade b (cond b (codes "Cash Account") (codes "Margin")) ≡ true
first_type true = refl
first_type false = refl

no_words : (b : Bool) (text : Text) → b ≡ false → cond b text [] ≡ []
no_words b text e = ap (λ b. cond b text []) e

completed_sound : (base : Base) (now id price : ℕ) (t : Trade) → AuditInvariant base → BooksInvariant base → is_price price ≡ true → trade_with_id base id ≡ Some t
    → refusal_of_command base now (CompleteTrade id price) ≡ None → BaseTradeAuditInvariant base t
    → BaseTradeAuditInvariant (record (base_after_result base (stamp_of_next_command base now) price t) { last = Some (stamp_of_next_command base now) })
    (trade_after_completion base (stamp_of_next_command base now) price t)
unfolding trade_after_completion
completed_sound base now id price t k books form e accepted h =
    let stamp : ℕ = stamp_of_next_command base now in
    let u : Trade = trade_after_completion base stamp price t in
    let s : has_last_status Submitted t ≡ true = submitted base now id price t e accepted in
    let p = result_passed base now id price t e accepted in
    let done : is_completed u ≡ true = status_then base stamp price t Completed in
    let f = parts6 (is_id t.id) (is_quantity_in_schema third_schema t.qty) (is_price t.bid) (nat_le t.charge greatest_charge)
    (nat_le t.commission greatest_amount) (nat_le t.tax greatest_amount) h.fields in
    let q : t.qty ≤ 9999999 = qty_low t.qty f.1 in
    let r : price ≤ 9999999 = price_low price form in
    let c : u.commission ≤ 10 ^ 14 = commission_within base t.account t.kind t.symbol t.qty price k.bands q r in
    let x : u.tax ≤ 10 ^ 14 =
    tax_within base t.account (deal_of_result stamp price t) (shares_of_position (completed_trades base) t.account t.symbol) q r
    (cheap_shares base t.account t.symbol k.trades) (k.rates (customer_id_of_account base t.account)) in
    let due = ltb-false greatest_day (due_day_of_completion_stamp base.rule stamp) p.1.1.1.1.1.0 in
    record {
      alone = record {
        fields = and6 (is_id t.id) (is_quantity_in_schema third_schema t.qty) (is_price t.bid) (nat_le t.charge greatest_charge)
            (nat_le u.commission greatest_amount) (nat_le u.tax greatest_amount) f.0 f.1 f.2 f.3
            (high u.commission c) (high u.tax x);
        stamps = stamps_more base now Completed t h.stamps h.past;
        way = completes_way stamp t h.way s;
        priced = ap (λ b. cond b (is_price price) false) done ∙ form;
        words = record {
          settled = λ waits. false_true (sym waits ∙ done);
          moved = λ margin. no_words t.is_cash (cash_row_name (codes " shares of ") base t) (sym (ap (λ b. b && t.is_cash) done) ∙ margin);
        };
        cash_type = λ d. first_type t.is_cash;
      };
      past = All-append (StatusStampIsAtMostLastStamp (Some stamp)) t.marks (record { stamp = stamp; status = Completed } ∷ [])
          (All-map t.marks (λ m e. past_then base.last now m.stamp e) h.past) (past_itself stamp, tt);
      due = All-append (HasDueDayInCalendar base.rule) t.marks (record { stamp = stamp; status = Completed } ∷ []) h.due (le-leb (due_day_of_completion_stamp base.rule stamp) greatest_day due, tt);
      cash_name = λ d.
          let cash : t.is_cash ≡ true = (and_parts (is_completed u) t.is_cash d).1 in
          let text : Text = cash_row_name (codes " shares of ") base t in
          or_left (bytes_eq u.cash_name text) (bytes_eq u.cash_name (cash_row_name (codes " Shares of ") base t)) (same_bytes u.cash_name text (ap (λ b. cond b text []) cash));
      amount = λ d. le-leb _ greatest_amount
          (amount_within (side_of_trade_type t.kind) t.qty price t.charge u.commission u.tax
          (is_withholding_status (tax_status_in_accounts base.accounts t.account)) q r (leb-true t.charge greatest_charge f.3) c x);
    }

-- ---- the base after it

pub sound_then : (base : Base) (now id price : ℕ) (t : Trade) → AuditInvariant base → BooksInvariant base → is_price price ≡ true → trade_with_id base id ≡ Some t
    → refusal_of_command base now (CompleteTrade id price) ≡ None
    → AuditInvariant (record (base_after_result base (stamp_of_next_command base now) price t) { last = Some (stamp_of_next_command base now) })
unfolding trade_after_completion
sound_then base now id price t k books form e accepted =
    let stamp : ℕ = stamp_of_next_command base now in
    let l : AuditInvariant (record base { last = Some stamp }) = sound_last base now k in
    let u : Trade = trade_after_completion base stamp price t in
    let after : Base = record (base_after_result base stamp price t) { last = Some stamp } in
    let f : Found base now price t = found_at base now id price t books e (submitted base now id price t e accepted) in
    let A : List Trade = filter is_completed f.front in
    let Z : List Trade = filter is_completed f.back in
    let was : completed_trades base ≡ A ++ Z = done_now base stamp price t f.front f.back f.result in
    let is : completed_trades after ≡ A ++ u ∷ Z = done_then base stamp price t f.front f.back f.result in
    let p = result_passed base now id price t e accepted in
    let old : AllByRecursion (BaseTradeAuditInvariant base) (f.front ++ t ∷ f.back) = subst (AllByRecursion (BaseTradeAuditInvariant base)) f.result.stands k.trades in
    let back = All-back (BaseTradeAuditInvariant base) f.front (t ∷ f.back) old in
    let stays : (v : Trade) → BaseTradeAuditInvariant base v → BaseTradeAuditInvariant after v = λ v h. trade_last base now v h in
    record {
      keyed = l.keyed;
      parties = l.parties;
      terms = l.terms;
      listed = l.listed;
      trades = subst (AllByRecursion (BaseTradeAuditInvariant after)) (sym (trades_then base stamp price t f.front f.back f.result))
          (All-append (BaseTradeAuditInvariant after) f.front (u ∷ f.back) (All-map f.front stays (All-front (BaseTradeAuditInvariant base) f.front (t ∷ f.back) old))
          (completed_sound base now id price t k books form e accepted back.0, All-map f.back stays back.1));
      cash = l.cash;
      sums = record {
        summaries = subst (λ ts. (account : ℕ) → (symbol : Text) → nat_abs (holding_summary_quantity ts account symbol) ≤ greatest_summary_quantity) (sym is)
            (summary_then A u Z (subst (λ ts. (account : ℕ) → (symbol : Text) → nat_abs (holding_summary_quantity ts account symbol) ≤ greatest_summary_quantity) was k.summaries)
            (subst (λ ts. nat_abs (holding_summary_quantity ts t.account t.symbol) ≤ greatest_summary_quantity) is (ltb-false greatest_summary_quantity _ p.1.1.0)));
        balances = subst (λ ts. (account : ℕ) → nat_abs (balance_of_account base.accounts (postings base.accounts ts base.movements) account) ≤ greatest_amount) (sym is)
            (balance_then base.accounts A u Z base.movements
            (subst (λ ts. (account : ℕ) → nat_abs (balance_of_account base.accounts (postings base.accounts ts base.movements) account) ≤ greatest_amount)
            was k.balances)
            (subst (λ ts. (t.is_cash && nat_lt greatest_amount (nat_abs (balance_of_account base.accounts (postings base.accounts ts base.movements) t.account))) ≡ false) is p.1.1.1.0));
        commissions = subst (λ ts. (broker : ℕ) → commission_total_of_broker base.accounts ts broker ≤ greatest_amount) (sym is)
            (commissions_then base.accounts A u Z (subst (λ ts. (broker : ℕ) → commission_total_of_broker base.accounts ts broker ≤ greatest_amount) was k.commissions)
            (subst (λ ts. commission_total_of_broker base.accounts ts (broker_id_in_accounts base.accounts t.account) ≤ greatest_amount) is (ltb-false greatest_amount _ p.1.1.1.1.0)));
      };
    }
