-- Results of opening, creating and closing a desk at a place of files.
use Rattle.std.proofs.Common.{◌≡◌, ◌⊎◌, ℕ, List, Result, Ok, Err, inl, inr, subst}
use Rattle.sqlite_trees.specs.declared.store.Store.{Ghosts}
use Rattle.sqlite.specs.Held.{Held}
use Rattle.brk_money.specs.declared.fault.Condition.{Condition}
use Rattle.brk_money.specs.declared.fault.Condition.TheVariants as condition
use Rattle.brk_money.specs.declared.fault.Fault.{Fault}
use Rattle.brk_money.specs.declared.fault.Fault.TheVariants as fault
use Rattle.brk_money.specs.declared.fault.StoreFailed.{StoreFailed}
use Rattle.brk_store_transactions.specs.Holds.{CreatePost}
use Rattle.brk_cli_jobs.specs.Files.{ConnectRelation, DisconnectRelation}
use Rattle.brk_cli_jobs.specs.Opening.{AdoptsAfterClose, AdoptsConnection, ClosePost, IsClosed, OpenOrCreatePost, result_of_close}

pub closed_desk : {S : Type 0} (disconnects : DisconnectRelation S) (conn store : Held S) (closed : Result (Unit {0}) StoreFailed) (result : Result (Unit {0}) Fault)
    → conn ≡ store → disconnects conn closed → result ≡ result_of_close closed → ClosePost disconnects store result
closed_desk disconnects conn store closed result same shut is = (closed, subst (λ (c : Held _). disconnects c closed) same shut, is)

module _ {S : Type 0} (g : Ghosts S) (connects : ConnectRelation S) (disconnects : DisconnectRelation S) (path : List ℕ) (first : Held S) where
  pub created_desk : (desk : Held S) (closed : Result (Unit {0}) Fault) (result : Result (Held S) Fault) → connects path (Ok first)
      → CreatePost g first desk (Ok tt) → ClosePost disconnects desk closed → AdoptsAfterClose g connects disconnects path closed result
      → OpenOrCreatePost g connects disconnects path result
  created_desk desk closed result began created shut adopted =
      inr (first, began, inl (record { desk = desk; created = created; closed = closed; shut = shut; adopted = adopted }))

  -- a creation that fails with `Damaged` fails with `NotEmpty`
  pub found_desk : (conn : Held S) (found : Fault) (c : Condition) (result : Result (Held S) Fault) → found ≡ fault.Damaged c
      → (found ≡ fault.Store) ⊎ (found ≡ fault.Damaged condition.NotEmpty) → connects path (Ok first) → CreatePost g first conn (Err found)
      → AdoptsConnection g disconnects conn result → OpenOrCreatePost g connects disconnects path result
  found_desk conn found c result is (inl store) began refused adopted = absurd (cc)
  found_desk conn found c result is (inr taken) began refused adopted =
      inr (first, began, inr (inl (conn, subst (λ (f : Fault). CreatePost g first conn (Err f)) taken refused, adopted)))

  pub failed_to_create : (left : Held S) (found cause : Fault) (result : Result (Held S) Fault) → found ≡ fault.Store → cause ≡ fault.Store
      → connects path (Ok first) → CreatePost g first left (Err found) → IsClosed disconnects left → result ≡ Err cause
      → OpenOrCreatePost g connects disconnects path result
  failed_to_create left found cause result failed stays began unmade closed is =
      inr (
        first,
        began,
        inr (inr (left, subst (λ (f : Fault). CreatePost g first left (Err f)) failed unmade, closed, subst (λ (f : Fault). result ≡ Err f) stays is)),
      )
