use Rattle.std.proofs.Common.{◌≡◌, ◌==◌, ◌∙◌, ℕ, List, Some, None, Ok, Err, Option, ap, filter, find, map, option_map, refl, sym}
use Rattle.std.specs.Prelude.{Result}
use Rattle.std.specs.Global.{Vec}
use Rattle.std.proofs.lemmas.Bool.{eqb-true}
use Rattle.brk_money.specs.declared.fault.CallFault.{CallFault}
use Rattle.brk_money.specs.declared.refusal.Refusal.{Refusal}
use Rattle.brk_money.specs.declared.refusal.Refusal.TheVariants.{NoCustomer}
use Rattle.brk_model.specs.Records as model
use Rattle.brk_model.specs.Statements.{accounts_or_refusal}
use Rattle.brk_model.specs.Tables.{AccountRow, Tables}
use Rattle.brk_ref.specs.Records.{abstract_account_row, abstract_customer}
use Rattle.brk_ref.specs.declared.account.AccountRow as account
use Rattle.brk_ref.specs.declared.customer.Customer.{Customer}
use Rattle.brk_trade_books.proofs.Places.{find-at}
use Rattle.brk_store_reads.proofs.Retelling.{retold}
use Rattle.brk_store_reads.proofs.Sequences.{read_with}
use Rattle.brk_desk_queries.specs.Heads.{AreAccountsOfStatements}
use Rattle.brk_desk_queries.proofs.chosen_accounts.customer_accounts.Goals as goal

no_customer : (t : Tables) (id : ℕ) → None ≡ find (λ (c : model.Customer). c.id == id) t.customers → accounts_or_refusal t (Some id) ≡ Err NoCustomer
no_customer t id e = rw (sym e) refl

its_accounts : (t : Tables) (id : ℕ) (x : model.Customer) (rows : List account.AccountRow) (ids : List ℕ) → Some x ≡ find (λ (c : model.Customer). c.id == id) t.customers
    → map abstract_account_row rows ≡ filter (λ (a : AccountRow). a.customer == x.id) t.accounts → ids ≡ map (λ row. row.id) (map abstract_account_row rows)
    → accounts_or_refusal t (Some id) ≡ Ok ids
its_accounts t id x rows ids found read are =
    let same : x.id ≡ id = eqb-true x.id id (find-at (λ (c : model.Customer). c.id == id) t.customers x (sym found)).passes in
    let all : ids ≡ map (λ (a : AccountRow). a.id) (filter (λ (a : AccountRow). a.customer == id) t.accounts) =
    are ∙ ap (map (λ (a : AccountRow). a.id)) (read ∙ ap (λ (n : ℕ). filter (λ (a : AccountRow). a.customer == n) t.accounts) same) in
    rw (sym found) (ap Ok (sym all))

pub returns-in_default : goal.returns-in_default
returns-in_default g c =
    let id = c.args.customer in
    retold g.S.Store c.args.store.now c.customer.new.self {V = Option Customer} {X = Result (Vec ℕ) Refusal} None (Err NoCustomer)
    (λ o (t : Tables). option_map abstract_customer o ≡ find (λ r. r.id == id) t.customers) (AreAccountsOfStatements (Some id)) (λ t e. no_customer t id e)
    (rw c.in_default.is at c.in_ok-found.ensures.read)

pub returns : goal.returns
returns g c =
    let id = c.args.customer in
    let x = c.in-Some.found in
    read_with g.S.Store c.args.store.now c.customer.new.self c.accounts_of_customer.new.self {X = Result (Vec ℕ) Refusal} {H = CallFault} (Some x) c.in_ok-rows.rows (Ok c.in_ok-ids.ids)
    (λ o (t : Tables). option_map abstract_customer o ≡ find (λ r. r.id == id) t.customers)
    (λ all (t : Tables). map abstract_account_row all.items ≡ filter (λ (a : AccountRow). a.customer == x.id) t.accounts)
    (AreAccountsOfStatements (Some id))
    (λ t e read. its_accounts t id (abstract_customer x) c.in_ok-rows.rows.items _ e read (rw c.as_slice.ensures.value at c.in_ok-ids.ensures))
    (rw c.in-Some.is at c.in_ok-found.ensures.read) c.in_ok-rows.ensures.read
