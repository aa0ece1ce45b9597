-- A read followed by its decoding is one step, whose result is records of the tables.
use Rattle.std.proofs.Common.{◌≡◌, ℕ, zero, suc, List, [], ◌∷◌, map, take, slice_get, Some, None, Option, option_map, Ok, Err, Result, IfOk, refl, ap, ◌∙◌, subst}
use Rattle.sqlite_value.specs.Order.{Row}
use Rattle.sqlite_sql.specs.Query.{limited}
use Rattle.sqlite.specs.State.{State, Shown}
use Rattle.brk_tables_sql.specs.Desk.{ProgramTables, TablesSatisfy}
use Rattle.brk_tables_sql.specs.Model.{IsTransactionStep, IsUnchangedAndSatisfies, SelectsRows}
use Rattle.brk_tables_sql.proofs.Inside.{step_read}
use Rattle.brk_tables_sql.proofs.Decode.{all_are, first_is}

module _ {W T X Y V E : Type 0} (desk : ProgramTables W T) (encode : X → Row) (decode : Row → X) (back : (x : X) → decode (encode x) ≡ x) (model : Y → X)
    (sql : List ℕ) (params : Row) (old new : State) (v : V) (rows_of : V → List Row) (given : List Row) (same : given ≡ rows_of v)
    (step : IsTransactionStep {V = V} {E = E} old new (Ok v) (λ v. SelectsRows sql params (rows_of v))) where
  -- all that is shown
  pub look_all : {G F : Type 0} (items : G → List Y) (out : Result G F) → IfOk out (λ all. map (λ y. encode (model y)) (items all) ≡ given)
      → (f : T → List X) → (Shown sql params old new (rows_of v) → TablesSatisfy desk (λ t. rows_of v ≡ map encode (f t)) old.now)
      → IsTransactionStep old new out (λ all. IsUnchangedAndSatisfies desk (λ t. map model (items all) ≡ f t))
  look_all {G} {F} items out told f tells =
      step_read old new v out _ _ (λ w e s. (s.2, s.1, λ t tree h. all_are encode decode back model (items w) given (rows_of v) (f t) (when out told w e) same (tells s.0 t tree h))) step
    where
      when : (r : Result G F) → IfOk r (λ all. map (λ y. encode (model y)) (items all) ≡ given) → (w : G) → r ≡ Ok w → map (λ y. encode (model y)) (items w) ≡ given
      when (Ok u) h w e = let f : u ≡ w = cc in subst (λ z. map (λ y. encode (model y)) (items z) ≡ given) f h
      when (Err u) h w e = absurd (let f = e in cc)

  -- the first
  pub look_first : {F : Type 0} (out : Result (Option Y) F) → IfOk out (λ o. option_map (λ y. encode (model y)) o ≡ slice_get given 0)
      → (f : T → List X) (g : T → Option X) → ((t : T) → slice_get (f t) 0 ≡ g t)
      → (Shown sql params old new (rows_of v) → TablesSatisfy desk (λ t. rows_of v ≡ map encode (f t)) old.now)
      → IsTransactionStep old new out (λ o. IsUnchangedAndSatisfies desk (λ t. option_map model o ≡ g t))
  look_first {F} out told f g is tells =
      step_read old new v out _ _ (λ w e s. (s.2, s.1, λ t tree h. first_is encode decode back model w given (rows_of v) (f t) (when out told w e) same (tells s.0 t tree h) ∙ is t)) step
    where
      when : (r : Result (Option Y) F) → IfOk r (λ o. option_map (λ y. encode (model y)) o ≡ slice_get given 0) → (w : Option Y) → r ≡ Ok w → option_map (λ y. encode (model y)) w ≡ slice_get given 0
      when (Ok u) h w e = let f : u ≡ w = cc in subst (λ z. option_map (λ y. encode (model y)) z ≡ slice_get given 0) f h
      when (Err u) h w e = absurd (let f = e in cc)

take_map : {A B : Type 0} (f : A → B) (n : ℕ) (xs : List A) → take n (map f xs) ≡ map f (take n xs)
take_map f zero xs = refl
take_map f (suc n) [] = refl
take_map f (suc n) (x ∷ xs) = ap (λ l. f x ∷ l) (take_map f n xs)

pub limited_map : {A B : Type 0} (f : A → B) (n : Option ℕ) (xs : List A) → limited n (map f xs) ≡ map f (limited n xs)
limited_map f None xs = refl
limited_map f (Some n) xs = take_map f n xs
