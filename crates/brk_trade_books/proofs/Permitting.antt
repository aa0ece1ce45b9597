-- The permission of an account for the executor's tax id decides whether the account's permissions
-- name the executor.
use Rattle.std.proofs.Common.{◌≡◌, ℕ, ◌==◌, ◌&&◌, Bool, true, false, cond, List, [], ◌∷◌, refl, sym, ◌∙◌, ap, filter, Some}
use Rattle.std.specs.Prelude.{◌||◌, find, bytes_eq, option_to_list}
use Rattle.std.specs.List.{AllByRecursion, list_any}
use Rattle.std.proofs.lemmas.Bool.{eqb-true, eq-eqb}
use Rattle.brk_money.specs.Spelling.{Text}
use Rattle.brk_model.specs.Base.{Base}
use Rattle.brk_model.specs.Orders.{executor_has_identity, is_customer_or_has_permission}
use Rattle.brk_model.specs.Records.{Customer, Executor, Permission}
use Rattle.brk_model.specs.Sheets.{sheets}
use Rattle.brk_trade_books.specs.Books.{BooksInvariant, HasDistinctPermissions}
use Rattle.brk_trade_books.specs.TradeReads.{permission_list_for_tax_id}
use Rattle.brk_trade_books.proofs.Bools.{same_text, texts_back}
use Rattle.brk_trade_books.proofs.NewKeys.{and_both, both, not_both, same_bytes}
use Rattle.brk_trade_books.proofs.Same.{NonePass, All-map}
use Rattle.brk_trade_books.proofs.TermReading.{reads_permission}

-- a permission of an account for a tax id
abbrev is_for : ℕ → Text → Permission → Bool
is_for account tax_id p = (p.account == account) && bytes_eq p.tax_id tax_id

-- a permission names an executor
abbrev names : Executor → Permission → Bool
names e p = executor_has_identity e p.first_name p.last_name p.tax_id

-- ---- there is one of them

both_alike : (account : ℕ) (tax_id : Text) (p q : Permission) → is_for account tax_id p ≡ true → is_for account tax_id q ≡ true → (q.account == p.account) && bytes_eq q.tax_id p.tax_id ≡ true
both_alike account tax_id p q e f =
    let a = both (p.account == account) (bytes_eq p.tax_id tax_id) e in
    let b = both (q.account == account) (bytes_eq q.tax_id tax_id) f in
    and_both _ _ (eq-eqb q.account p.account (eqb-true q.account account b.0 ∙ sym (eqb-true p.account account a.0)))
    (same_bytes q.tax_id p.tax_id (same_text q.tax_id tax_id b.1 ∙ sym (same_text p.tax_id tax_id a.1)))

-- the others of an account are for other tax ids
others : (account : ℕ) (tax_id : Text) (p : Permission) (ps : List Permission) → is_for account tax_id p ≡ true
    → AllByRecursion (λ q. ((q.account == p.account) && bytes_eq q.tax_id p.tax_id) ≡ false) ps → NonePass (is_for account tax_id) ps
others account tax_id p ps e h = All-map ps (λ q apart. other q apart (is_for account tax_id q) refl) h
  where
    other : (q : Permission) → (q.account == p.account) && bytes_eq q.tax_id p.tax_id ≡ false → (f : Bool) → is_for account tax_id q ≡ f → is_for account tax_id q ≡ false
    other q apart false g = g
    other q apart true g = absurd (not_both _ (both_alike account tax_id p q e g) apart)

-- ---- it decides

not_named : (e : Executor) (p : Permission) (b : Bool) → names e p ≡ b → bytes_eq p.tax_id e.tax_id ≡ false → names e p ≡ false
not_named e p false h f = h
not_named e p true h f =
    absurd (not_both _ (texts_back p.tax_id e.tax_id ∙ (both (bytes_eq e.first_name p.first_name && bytes_eq e.last_name p.last_name) (bytes_eq e.tax_id p.tax_id) h).1) f)

-- a permission of the account for another tax id names somebody else
other_tax : (account : ℕ) (e : Executor) (p : Permission) → (p.account == account) ≡ true → is_for account e.tax_id p ≡ false → names e p ≡ false
other_tax account e p g h = not_named e p (names e p) refl (sym (ap (λ b. b && bytes_eq p.tax_id e.tax_id) g) ∙ h)

none_named : (account : ℕ) (e : Executor) (ps : List Permission) → NonePass (is_for account e.tax_id) ps → list_any (names e) (filter (λ p. p.account == account) ps) ≡ false
none_named account e [] h = refl
none_named account e (p ∷ ps) h = by_account (none_named account e ps h.1) (p.account == account) refl
  where
    rest : List Permission
    rest = filter (λ p. p.account == account) ps

    by_account : list_any (names e) rest ≡ false → (b : Bool) → (p.account == account) ≡ b → list_any (names e) (cond b (p ∷ rest) rest) ≡ false
    by_account ih true g = ap (λ b. b || list_any (names e) rest) (other_tax account e p g h.0) ∙ ih
    by_account ih false g = ih

named_by_one : (account : ℕ) (e : Executor) (ps : List Permission) → HasDistinctPermissions ps
    → list_any (names e) (option_to_list (find (is_for account e.tax_id) ps)) ≡ list_any (names e) (filter (λ p. p.account == account) ps)
named_by_one account e [] h = refl
named_by_one account e (p ∷ ps) h = by_test (named_by_one account e ps h.1) (is_for account e.tax_id p) refl
  where
    found : List Permission
    found = option_to_list (find (is_for account e.tax_id) ps)

    rest : List Permission
    rest = filter (λ p. p.account == account) ps

    past : list_any (names e) found ≡ list_any (names e) rest → (b : Bool) → (p.account == account) ≡ b → is_for account e.tax_id p ≡ false
        → list_any (names e) found ≡ list_any (names e) (cond b (p ∷ rest) rest)
    past ih true g k = ih ∙ sym (ap (λ b. b || list_any (names e) rest) (other_tax account e p g k))
    past ih false g k = ih

    by_test : list_any (names e) found ≡ list_any (names e) rest → (b : Bool) → is_for account e.tax_id p ≡ b
        → list_any (names e) (option_to_list (cond b (Some p) (find (is_for account e.tax_id) ps))) ≡ list_any (names e) (cond (p.account == account) (p ∷ rest) rest)
    by_test ih true k =
        ap (λ b. names e p || b) (sym (none_named account e ps (others account e.tax_id p ps k h.0)))
        ∙ sym (ap (λ b. list_any (names e) (cond b (p ∷ rest) rest)) (both (p.account == account) (bytes_eq p.tax_id e.tax_id) k).0)
    by_test ih false k = past ih (p.account == account) refl k

pub reads_named : (base : Base) (account : ℕ) (c : Customer) (e : Executor) → BooksInvariant base
    → is_customer_or_has_permission c (permission_list_for_tax_id (sheets base) account e.tax_id) e ≡ is_customer_or_has_permission c (filter (λ p. p.account == account) base.permissions) e
reads_named base account c e books =
    ap (λ b. executor_has_identity e c.first_name c.last_name c.tax_id || b)
    (ap (λ o. list_any (names e) (option_to_list o)) (reads_permission base account e.tax_id)
    ∙ named_by_one account e base.permissions books.permissions)
