-- A reference record is refused as in the model, and its plan implements the command.
use Rattle.std.proofs.Common.{◌≡◌, ◌≤◌, ℕ, ◌+◌, true, not, [], ◌∷◌, ◌++◌, refl, sym, ◌∙◌, ap, arith, Option, Some, None}
use Rattle.std.specs.Prelude.{nat_le, nat_lt, is_none, unwrap_or, SomeIff, Ok, Err}
use Rattle.std.proofs.lemmas.Bool.Decides.{nat_tests}
use Rattle.brk_money.specs.Moments.{greatest_stamp, stamp_after, unlimited_stamp_after}
use Rattle.brk_money.specs.declared.refusal.Refusal.{Refusal}
use Rattle.brk_money.specs.declared.refusal.Refusal.TheVariants.{BadQty, NoAccount, NoCustomer, NoBroker, NoTax, Overlap, TaxSum, Range, ClockEnd}
use Rattle.brk_money.specs.declared.refusal.Limit.TheVariants as limit
use Rattle.brk_model.specs.Limits.{most_accounts_per_customer, greatest_tax_rate}
use Rattle.brk_model.specs.Base as base_spec
use Rattle.brk_model.specs.Base.{Base, tax_rate_record_with_id}
use Rattle.brk_model.specs.Sheets.{sheets}
use Rattle.brk_model.specs.Commands.{Booked}
use Rattle.brk_model.specs.Tests.{checks_of_command, refusal_of_command, first_refusal, duplicate_check, stamp_of_next_command}
use Rattle.brk_model.specs.Step.{reply_to_command, step, value_unless_refused}
use Rattle.brk_trade_rows.specs.Changes.{tables_after_changes}
use Rattle.brk_trade_plans.specs.Reference.{IsReferencePlan, later_stamp_check, exceeds_tax_limit, row_changes_adding_record, reference_checks}
use Rattle.brk_trade_rows.specs.declared.change.Change.TheVariants as change
use Rattle.brk_trade_plans.specs.declared.plan.Plan.{Plan}
use Rattle.brk_trade_plans.specs.declared.reference.ReferenceFacts.{ReferenceFacts}
use Rattle.brk_trade_plans.specs.declared.reference.Reference.{Reference}
use Rattle.brk_trade_plans.specs.declared.reference.Reference.TheVariants as reference
use Rattle.brk_ref.specs.Records.{abstract_broker, abstract_customer, abstract_account, abstract_permission, abstract_listing, abstract_charge, abstract_band, abstract_tax_rate, abstract_customer_tax}
use Rattle.brk_trade_books.specs.Books.{BooksInvariant}
use Rattle.brk_trade_books.specs.Reads.{customer_tax_rate_sum}
use Rattle.brk_trade_plans.specs.Replies.{abstract_reply}
use Rattle.brk_trade_plans.specs.Commands.{command_adding_record}
use Rattle.brk_trade_books.specs.Steps.{base_after_command, PreservesBooksInvariant}
use Rattle.brk_trade_theorems.specs.Plans.{PlanReferencePrecondition, PlanImplementsCommand}
use Rattle.brk_trade_books.proofs.Reading.{is_none-map, reads_has_broker, reads_has_customer, reads_same_customer, reads_tax_id, reads_has_account, reads_count, reads_last}
use Rattle.brk_trade_books.proofs.TermReading.{reads_has_permission, reads_has_security, reads_has_charge, reads_overlap, reads_has_tax_rate, reads_pays_tax, reads_rate, reads_rates, map-or}
use Rattle.brk_trade_books.proofs.Stamps.{stamp_left, stamp_is}
use Rattle.brk_trade_books.proofs.Steps.{step_broker, step_customer, step_account, step_permission, step_security, step_charge, step_band, step_tax_rate, step_customer_tax}
use Rattle.brk_trade_books.proofs.Keepers.{books_broker, books_customer, books_account, books_permission, books_security, books_charge, books_band, books_tax_rate, books_customer_tax}

pub clock_read : (base : Base) (last : Option ℕ) (now : ℕ) → BooksInvariant base → last ≡ (sheets base).last → now ≤ greatest_stamp
    → is_none (stamp_after last now) ≡ nat_lt greatest_stamp (stamp_of_next_command base now)
clock_read base last now books l h = ap (λ o. is_none (stamp_after o now)) (l ∙ reads_last base) ∙ stamp_left base.last now books.clock h

-- a customer's rates with another one, by their sum where it is no more than the whole
exceeds_read : (rates : Option ℕ) (sum : ℕ) (rate : Option ℕ) → SomeIff rates (sum ≤ greatest_tax_rate) sum
    → exceeds_tax_limit rates rate ≡ nat_lt greatest_tax_rate (sum + unwrap_or rate 0)
exceeds_read None sum rate h = above sum (unwrap_or rate 0) h
  where
    above : (m n : ℕ) → (m ≤ greatest_tax_rate → ⊥) → true ≡ nat_lt greatest_tax_rate (m + n)
    above m n h = grind (arith, nat_tests)
exceeds_read (Some r) sum rate h = ap (λ n. nat_lt greatest_tax_rate (n + unwrap_or rate 0)) h.1

pub refusal_read : (base : Base) (r : Reference) (found : ReferenceFacts) (last : Option ℕ) (now : ℕ) → PlanReferencePrecondition base r found last now
    → first_refusal (reference_checks r found ++ later_stamp_check last now ∷ []) ≡ refusal_of_command base now (command_adding_record r)
unfolding refusal_of_command checks_of_command
refusal_read base (reference.Broker b) found last now k =
    let same = k.looked_up ∙ reads_has_broker base b.id in
    let clock = clock_read base last now k.books k.last_read k.moment in
    λ i. first_refusal (duplicate_check (same i) ∷ (clock i, ClockEnd) ∷ [])
refusal_read base (reference.Customer c) found last now k =
    let same = k.looked_up.0 ∙ reads_same_customer base c.id in
    let tax = k.looked_up.1 ∙ reads_tax_id base c.tax_id in
    let clock = clock_read base last now k.books k.last_read k.moment in
    λ i. first_refusal (duplicate_check (same i) ∷ duplicate_check (tax i) ∷ (clock i, ClockEnd) ∷ [])
refusal_read base (reference.Account a) found last now k =
    let customer = k.looked_up.customer_there ∙ reads_has_customer base a.customer in
    let broker = k.looked_up.broker_there ∙ reads_has_broker base a.broker in
    let same = k.looked_up.same_id ∙ reads_has_account base a.id in
    let count = k.looked_up.count ∙ reads_count base a.customer in
    let clock = clock_read base last now k.books k.last_read k.moment in
    λ i. first_refusal ((not (customer i), NoCustomer) ∷ (not (broker i), NoBroker) ∷ duplicate_check (same i)
    ∷ (nat_le most_accounts_per_customer (count i), Range limit.Accounts) ∷ (clock i, ClockEnd) ∷ [])
refusal_read base (reference.Permission p) found last now k =
    let account = k.looked_up.0 ∙ reads_has_account base p.account in
    let same = k.looked_up.1 ∙ reads_has_permission base p.account p.tax_id in
    let clock = clock_read base last now k.books k.last_read k.moment in
    λ i. first_refusal ((not (account i), NoAccount) ∷ duplicate_check (same i) ∷ (clock i, ClockEnd) ∷ [])
refusal_read base (reference.Security l) found last now k =
    let same = k.looked_up ∙ reads_has_security base l.security.symbol in
    let clock = clock_read base last now k.books k.last_read k.moment in
    λ i. first_refusal (duplicate_check (same i) ∷ (clock i, ClockEnd) ∷ [])
refusal_read base (reference.Charge c) found last now k =
    let same = k.looked_up ∙ reads_has_charge base c.kind c.tier in
    let clock = clock_read base last now k.books k.last_read k.moment in
    λ i. first_refusal (duplicate_check (same i) ∷ (clock i, ClockEnd) ∷ [])
refusal_read base (reference.Band b) found last now k =
    let overlaps = k.looked_up ∙ reads_overlap base (abstract_band b) in
    let clock = clock_read base last now k.books k.last_read k.moment in
    λ i. first_refusal ((nat_lt b.to_qty b.from_qty, BadQty) ∷ (overlaps i, Overlap) ∷ (clock i, ClockEnd) ∷ [])
refusal_read base (reference.TaxRate r) found last now k =
    let same = k.looked_up ∙ reads_has_tax_rate base r.id in
    let clock = clock_read base last now k.books k.last_read k.moment in
    λ i. first_refusal (duplicate_check (same i) ∷ (clock i, ClockEnd) ∷ [])
refusal_read base (reference.CustomerTax x) found last now k =
    let customer = k.looked_up.customer_there ∙ reads_has_customer base x.customer in
    let rate = k.looked_up.rate_there ∙ reads_rate base x.tax in
    let none = ap is_none rate ∙ is_none-map (λ r. r.rate) (tax_rate_record_with_id base x.tax) in
    let same = k.looked_up.same_id ∙ reads_pays_tax base x.customer x.tax in
    let sum = exceeds_read found.rates (customer_tax_rate_sum (sheets base) x.customer) found.rate k.looked_up.sum
    ∙ (λ i. nat_lt greatest_tax_rate (reads_rates base x.customer i + unwrap_or (rate i) 0))
    ∙ ap (λ n. nat_lt greatest_tax_rate (base_spec.tax_rate_sum_of_customer base x.customer + n)) (map-or (tax_rate_record_with_id base x.tax)) in
    let clock = clock_read base last now k.books k.last_read k.moment in
    λ i. first_refusal ((not (customer i), NoCustomer) ∷ (none i, NoTax) ∷ duplicate_check (same i) ∷ (sum i, TaxSum) ∷ (clock i, ClockEnd) ∷ [])

-- the rows and the books after the command of a record
reference_rows : (base : Base) (now : ℕ) (r : Reference) → BooksInvariant base → refusal_of_command base now (command_adding_record r) ≡ None
    → sheets (base_after_command base now (command_adding_record r))
    ≡ tables_after_changes (row_changes_adding_record (stamp_of_next_command base now) r ++ change.SetLastStamp (stamp_of_next_command base now) ∷ [])
    (sheets base)
reference_rows base now (reference.Broker b) books e = step_broker base now (abstract_broker b) books e
reference_rows base now (reference.Customer c) books e = step_customer base now (abstract_customer c) books e
reference_rows base now (reference.Account a) books e = step_account base now (abstract_account a) books e
reference_rows base now (reference.Permission p) books e = step_permission base now (abstract_permission p) books e
reference_rows base now (reference.Security l) books e = step_security base now (abstract_listing l) books e
reference_rows base now (reference.Charge c) books e = step_charge base now (abstract_charge c) books e
reference_rows base now (reference.Band b) books e = step_band base now (abstract_band b) books e
reference_rows base now (reference.TaxRate r) books e = step_tax_rate base now (abstract_tax_rate r) books e
reference_rows base now (reference.CustomerTax x) books e = step_customer_tax base now (abstract_customer_tax x) books e

reference_books : (base : Base) (now : ℕ) (r : Reference) → PreservesBooksInvariant base now (command_adding_record r)
reference_books base now (reference.Broker b) = books_broker base now (abstract_broker b)
reference_books base now (reference.Customer c) = books_customer base now (abstract_customer c)
reference_books base now (reference.Account a) = books_account base now (abstract_account a)
reference_books base now (reference.Permission p) = books_permission base now (abstract_permission p)
reference_books base now (reference.Security l) = books_security base now (abstract_listing l)
reference_books base now (reference.Charge c) = books_charge base now (abstract_charge c)
reference_books base now (reference.Band b) = books_band base now (abstract_band b)
reference_books base now (reference.TaxRate r) = books_tax_rate base now (abstract_tax_rate r)
reference_books base now (reference.CustomerTax x) = books_customer_tax base now (abstract_customer_tax x)

reference_reply : (base : Base) (stamp : ℕ) (r : Reference) → reply_to_command base stamp (command_adding_record r) ≡ Booked stamp
unfolding reply_to_command
reference_reply base stamp (reference.Broker b) = refl
reference_reply base stamp (reference.Customer c) = refl
reference_reply base stamp (reference.Account a) = refl
reference_reply base stamp (reference.Permission p) = refl
reference_reply base stamp (reference.Security l) = refl
reference_reply base stamp (reference.Charge c) = refl
reference_reply base stamp (reference.Band b) = refl
reference_reply base stamp (reference.TaxRate r) = refl
reference_reply base stamp (reference.CustomerTax x) = refl

pub plan_does : (base : Base) (r : Reference) (found : ReferenceFacts) (last : Option ℕ) (now : ℕ) (plan : Plan)
    → PlanReferencePrecondition base r found last now → IsReferencePlan r found last now plan
    → PlanImplementsCommand base now (command_adding_record r) plan
unfolding step
plan_does base r found last now plan k p =
    let e : refusal_of_command base now (command_adding_record r) ≡ None = sym (refusal_read base r found last now k) ∙ p.accepted in
    let s : p.stamp ≡ stamp_of_next_command base now = stamp_is last now p.stamp p.stamped ∙ ap (λ o. unlimited_stamp_after o now) (k.last_read ∙ reads_last base) in
    record {
      steps = ap (λ o. value_unless_refused o (reply_to_command base (stamp_of_next_command base now) (command_adding_record r), base_after_command base now (command_adding_record r))) e
          ∙ ap (λ reply. Ok (reply, base_after_command base now (command_adding_record r)))
          (reference_reply base (stamp_of_next_command base now) r ∙ sym (ap Booked s) ∙ sym (ap abstract_reply p.replied));
      rows = reference_rows base now r k.books e
          ∙ ap (λ stamp. tables_after_changes (row_changes_adding_record stamp r ++ change.SetLastStamp stamp ∷ []) (sheets base)) (sym s)
          ∙ ap (λ changes. tables_after_changes changes (sheets base)) (sym p.changes);
      books_after = reference_books base now r k.books e;
    }

pub refusal_does : (base : Base) (r : Reference) (found : ReferenceFacts) (last : Option ℕ) (now : ℕ) (refusal : Refusal) → PlanReferencePrecondition base r found last now
    → first_refusal (reference_checks r found ++ later_stamp_check last now ∷ []) ≡ Some refusal → step base now (command_adding_record r) ≡ Err refusal
unfolding step
refusal_does base r found last now refusal k e =
    ap (λ o. value_unless_refused o
    (reply_to_command base (stamp_of_next_command base now) (command_adding_record r), base_after_command base now (command_adding_record r)))
    (sym (refusal_read base r found last now k) ∙ e)
