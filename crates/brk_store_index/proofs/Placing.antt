-- The ages of a position after those of one position were changed.
use Rattle.std.proofs.Common.{◌≡◌, ◌∙◌, ◌==◌, ℕ, ◌&&◌, Bool, true, false, cond, List, [], Option, Some, None, refl, sym, ap, subst, nat_eq, eq-eqb}
use Rattle.std.specs.Prelude.{bytes_eq}
use Rattle.std.specs.declared.alloc.Global.{Global}
use Rattle.std.specs.declared.collections.VecDeque.{VecDeque}
use Rattle.std.specs.declared.string.String.{String}
use Rattle.std.specs.HashMap.{HashMap, get, get_by_text}
use Rattle.std.proofs.lemmas.Bool.{eqb-true}
use Rattle.std.proofs.lemmas.Slice.Eq.{bytes_eq-Decides}
use Rattle.brk_money.specs.Spelling.{Text}
use Rattle.brk_store_index.specs.declared.age.RowAge.{RowAge}
use Rattle.brk_store_index.specs.Ages.{InsertsAge, InsertsAgeIf, RemovesAge, RemovesAgeIf, ages_in}
use Rattle.brk_store_index.specs.Groups.{ages_of_position, ages_of_symbol, is_same_position}
use Rattle.brk_store_index.specs.declared.by_position.AgesByPosition.{AgesByPosition}

-- the symbols of one account were changed, and of these one symbol
pub other_ages : {S T : Type 0} (old new : HashMap ℕ (HashMap (String Global) (VecDeque RowAge Global) S) T) (account : ℕ) (symbol : Text)
    (symbols : HashMap (String Global) (VecDeque RowAge Global) S)
    → ((q : ℕ) → get nat_eq new q ≡ cond (account == q) (Some symbols) (get nat_eq old q))
    → ((name : Text) → bytes_eq symbol name ≡ false → ages_in (get_by_text symbols name) ≡ ages_of_symbol (get nat_eq old account) name)
    → (other : ℕ) (name : Text) → is_same_position account symbol other name ≡ false → ages_of_symbol (get nat_eq new other) name ≡ ages_of_symbol (get nat_eq old other) name
other_ages old new account symbol symbols outer inner other name apart = go (account == other) refl
  where
    go : (b : Bool) → (account == other) ≡ b → ages_of_symbol (get nat_eq new other) name ≡ ages_of_symbol (get nat_eq old other) name
    go true e =
        let same : account ≡ other = eqb-true account other e in
        let off : bytes_eq symbol name ≡ false = rw e at apart in
        ap (λ o. ages_of_symbol o name) (outer other ∙ ap (λ b. cond b (Some symbols) (get nat_eq old other)) e) ∙ inner name off ∙ ap (λ q. ages_of_symbol (get nat_eq old q) name) same
    go false e = ap (λ o. ages_of_symbol o name) (outer other ∙ ap (λ b. cond b (Some symbols) (get nat_eq old other)) e)

-- the ages of one symbol were put in
module _ {S T : Type 0} (old mid new : HashMap ℕ (HashMap (String Global) (VecDeque RowAge Global) S) T) (account : ℕ) (symbol : Text)
    (before after : HashMap (String Global) (VecDeque RowAge Global) S) (ages : VecDeque RowAge Global)
    (taken : (q : ℕ) → get nat_eq mid q ≡ cond (account == q) None (get nat_eq old q))
    (put : (q : ℕ) → get nat_eq new q ≡ cond (account == q) (Some after) (get nat_eq mid q))
    (was : (name : Text) → ages_in (get_by_text before name) ≡ ages_of_symbol (get nat_eq old account) name)
    (inner : (name : Text) → get_by_text after name ≡ cond (bytes_eq symbol name) (Some ages) (get_by_text before name)) where
  pub ages_put : ages_of_symbol (get nat_eq new account) symbol ≡ ages.items
  ages_put =
      ap (λ o. ages_of_symbol o symbol) (put account ∙ ap (λ b. cond b (Some after) (get nat_eq mid account)) (eq-eqb account account refl))
      ∙ ap ages_in (inner symbol ∙ ap (λ b. cond b (Some ages) (get_by_text before symbol)) ((bytes_eq-Decides symbol symbol).1 refl))

  whole : (q : ℕ) → get nat_eq new q ≡ cond (account == q) (Some after) (get nat_eq old q)
  whole q = put q ∙ ap (cond (account == q) (Some after)) (taken q) ∙ go (account == q)
    where
      go : (b : Bool) → cond b (Some after) (cond b None (get nat_eq old q)) ≡ cond b (Some after) (get nat_eq old q)
      go true = refl
      go false = refl

  pub ages_of_others : (other : ℕ) (name : Text) → is_same_position account symbol other name ≡ false → ages_of_symbol (get nat_eq new other) name ≡ ages_of_symbol (get nat_eq old other) name
  ages_of_others = other_ages old new account symbol after whole (λ name off. ap ages_in (inner name ∙ ap (λ b. cond b (Some ages) (get_by_text before name)) off) ∙ was name)

-- ---- groups of a number, and of a number and a symbol

pub put_over : {X : Type 0} (old mid new : ℕ → Option X) (k : ℕ) (x : X) → ((q : ℕ) → mid q ≡ cond (k == q) None (old q)) → ((q : ℕ) → new q ≡ cond (k == q) (Some x) (mid q))
    → (q : ℕ) → new q ≡ cond (k == q) (Some x) (old q)
put_over old mid new k x taken put q = put q ∙ ap (cond (k == q) (Some x)) (taken q) ∙ go (k == q)
  where
    go : (b : Bool) → cond b (Some x) (cond b None (old q)) ≡ cond b (Some x) (old q)
    go true = refl
    go false = refl

-- the number `k` has the ages `ages` now, and nothing else has changed
module _ (old new : ℕ → Option (VecDeque RowAge Global)) (k : ℕ) (ages : VecDeque RowAge Global) (x : RowAge) (put : (q : ℕ) → new q ≡ cond (k == q) (Some ages) (old q)) where
  here : (P : List RowAge → List RowAge → Type 0) (q : ℕ) → (k == q) ≡ true → P (ages_in (old k)) ages.items → P (ages_in (old q)) (ages_in (new q))
  here P q e p =
      subst (P (ages_in (old q))) (sym (ap ages_in (put q ∙ ap (λ b. cond b (Some ages) (old q)) e)))
      (subst (λ j. P (ages_in (old j)) ages.items) (eqb-true k q e) p)

  elsewhere : (q : ℕ) → (k == q) ≡ false → ages_in (new q) ≡ ages_in (old q)
  elsewhere q e = ap ages_in (put q ∙ ap (λ b. cond b (Some ages) (old q)) e)

  pub number_inserted : InsertsAge (ages_in (old k)) x ages.items → (q : ℕ) → InsertsAgeIf (k == q) (ages_in (old q)) x (ages_in (new q))
  number_inserted ins q = go (k == q) refl
    where
      go : (b : Bool) → (k == q) ≡ b → InsertsAgeIf b (ages_in (old q)) x (ages_in (new q))
      go true e = here (λ o n. InsertsAge o x n) q e ins
      go false e = elsewhere q e

  pub number_removed : RemovesAge (ages_in (old k)) x ages.items → (q : ℕ) → RemovesAgeIf (k == q) (ages_in (old q)) x (ages_in (new q))
  number_removed rem q = go (k == q) refl
    where
      go : (b : Bool) → (k == q) ≡ b → RemovesAgeIf b (ages_in (old q)) x (ages_in (new q))
      go true e = here (λ o n. RemovesAge o x n) q e rem
      go false e = elsewhere q e

pub nothing_removed : (x : RowAge) → RemovesAge [] x []
nothing_removed x = record { rising = λ up had. up; keeps = λ up had y h. absurd h; only = λ up had y h. absurd h }

-- nothing is removed from a group that is not there
pub number_none : (old new : ℕ → Option (VecDeque RowAge Global)) (k : ℕ) (x : RowAge) → old k ≡ None → ((q : ℕ) → new q ≡ cond (k == q) None (old q))
    → (q : ℕ) → RemovesAgeIf (k == q) (ages_in (old q)) x (ages_in (new q))
number_none old new k x none taken q = go (k == q) refl
  where
    go : (b : Bool) → (k == q) ≡ b → RemovesAgeIf b (ages_in (old q)) x (ages_in (new q))
    go true e =
        let was : old q ≡ None = ap old (sym (eqb-true k q e)) ∙ none in
        let is : new q ≡ None = taken q ∙ ap (λ b. cond b None (old q)) e in
        rw (was, is) (nothing_removed x)
    go false e = ap ages_in (taken q ∙ ap (λ b. cond b None (old q)) e)

-- the position has the ages `ages` now, and nothing else has changed
module _ (old new : AgesByPosition) (number : ℕ) (symbol : Text) (ages : List RowAge) (x : RowAge) (put : ages_of_position new number symbol ≡ ages)
    (others : (other : ℕ) (name : Text) → is_same_position number symbol other name ≡ false → ages_of_position new other name ≡ ages_of_position old other name) where
  position_is : (other : ℕ) (name : Text) → is_same_position number symbol other name ≡ true → (number ≡ other) × (symbol ≡ name)
  position_is other name h = go (number == other) refl (bytes_eq symbol name) refl h
    where
      go : (a : Bool) → (number == other) ≡ a → (b : Bool) → bytes_eq symbol name ≡ b → (a && b) ≡ true → (number ≡ other) × (symbol ≡ name)
      go true p true q e = (eqb-true number other p, (bytes_eq-Decides symbol name).0 q)
      go true p false q e = absurd (let f = e in cc)
      go false p b q e = absurd (let f = e in cc)

  at : (P : List RowAge → List RowAge → Type 0) (other : ℕ) (name : Text) → is_same_position number symbol other name ≡ true → P (ages_of_position old number symbol) ages
      → P (ages_of_position old other name) (ages_of_position new other name)
  at P other name e p =
      let k = position_is other name e in
      subst (λ s. P (ages_of_position old other s) (ages_of_position new other s)) k.1
      (subst (λ n. P (ages_of_position old n symbol) (ages_of_position new n symbol)) k.0 (subst (P (ages_of_position old number symbol)) (sym put) p))

  pub position_inserted : InsertsAge (ages_of_position old number symbol) x ages
      → (other : ℕ) (name : Text) → InsertsAgeIf (is_same_position number symbol other name) (ages_of_position old other name) x (ages_of_position new other name)
  position_inserted ins other name = go (is_same_position number symbol other name) refl
    where
      go : (b : Bool) → is_same_position number symbol other name ≡ b → InsertsAgeIf b (ages_of_position old other name) x (ages_of_position new other name)
      go true e = at (λ o n. InsertsAge o x n) other name e ins
      go false e = others other name e

  pub position_removed : RemovesAge (ages_of_position old number symbol) x ages
      → (other : ℕ) (name : Text) → RemovesAgeIf (is_same_position number symbol other name) (ages_of_position old other name) x (ages_of_position new other name)
  position_removed rem other name = go (is_same_position number symbol other name) refl
    where
      go : (b : Bool) → is_same_position number symbol other name ≡ b → RemovesAgeIf b (ages_of_position old other name) x (ages_of_position new other name)
      go true e = at (λ o n. RemovesAge o x n) other name e rem
      go false e = others other name e
