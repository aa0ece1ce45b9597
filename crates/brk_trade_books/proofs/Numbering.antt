-- Each id belongs to one trade, and a trade whose status changes from `Pending` is pending no more.
use Rattle.std.proofs.Common.{◌≡◌, ℕ, ◌+◌, ◌==◌, Bool, true, false, cond, List, [], ◌∷◌, ◌++◌, refl, sym, subst, ◌∙◌, ap, length, arith, Option, Some, None}
use Rattle.std.specs.Prelude.{◌<◌}
use Rattle.std.specs.Option.{option_map_or}
use Rattle.std.specs.List.{last_or}
use Rattle.std.proofs.lemmas.Bool.Decides.{nat_tests}
use Rattle.brk_money.specs.Kinds.{is_same_trade_status}
use Rattle.brk_money.specs.declared.status.Status.{Status}
use Rattle.brk_money.specs.declared.status.Status.TheVariants.{Completed, Active, Submitted, Pending, Canceled}
use Rattle.brk_model.specs.Lists.{update_where}
use Rattle.brk_model.specs.Records.{StatusChange, Trade}
use Rattle.brk_model.specs.Base.{has_last_status, is_completed, trade_with_status_change, last_status_change}
use Rattle.brk_model.specs.Names.{TradesAreNumberedFrom}
use Rattle.brk_trade_books.specs.Books.{HasOneStatusChangeIfPending}
use Rattle.brk_trade_books.proofs.Same.{NonePass}

-- ---- the last mark

last_or-append : {X : Type 0} (o : Option X) (xs : List X) (x : X) → last_or o (xs ++ x ∷ []) ≡ Some x
last_or-append o [] x = refl
last_or-append o (y ∷ xs) x = last_or-append (Some y) xs x

pub last_of_marked : (stamp : ℕ) (status : Status) (t : Trade) → last_status_change (trade_with_status_change stamp status t) ≡ Some (record { stamp = stamp; status = status })
last_of_marked stamp status t = last_or-append None t.marks (record { stamp = stamp; status = status })

pub status_of_marked : (stamp : ℕ) (status wanted : Status) (t : Trade) → has_last_status wanted (trade_with_status_change stamp status t) ≡ is_same_trade_status status wanted
status_of_marked stamp status wanted t = ap (λ o. option_map_or (λ m. is_same_trade_status m.status wanted) o false) (last_of_marked stamp status t)

-- a trade that waits is not completed
waits_not_done : (o : Option StatusChange) → option_map_or (λ m. is_same_trade_status m.status Pending) o false ≡ true → option_map_or (λ m. is_same_trade_status m.status Completed) o false ≡ false
waits_not_done None h = refl
waits_not_done (Some m) h = by_status m.status h
  where
    by_status : (s : Status) → is_same_trade_status s Pending ≡ true → is_same_trade_status s Completed ≡ false
    by_status Completed h = cc
    by_status Active h = refl
    by_status Submitted h = refl
    by_status Pending h = refl
    by_status Canceled h = refl

pub pending_not_completed : (t : Trade) → has_last_status Pending t ≡ true → is_completed t ≡ false
pending_not_completed t h = waits_not_done (last_status_change t) h

-- a trade that got another status does not wait
pub moved_way : (stamp : ℕ) (status : Status) (t : Trade) → is_same_trade_status status Pending ≡ false → HasOneStatusChangeIfPending (trade_with_status_change stamp status t)
moved_way stamp status t s p = let k : has_last_status Pending (trade_with_status_change stamp status t) ≡ false = status_of_marked stamp status Pending t ∙ s in absurd (cc)

-- ---- ids

-- trades with other ids
abbrev pub ids_other : ℕ → List Trade → Type 0
ids_other id ts = NonePass (λ t. t.id == id) ts

numbered_above : (n id : ℕ) (ts : List Trade) → id < n → TradesAreNumberedFrom n ts → ids_other id ts
numbered_above n id [] h k = tt
numbered_above n id (t ∷ ts) h k = (let e : t.id ≡ n = k.0 in grind (arith, nat_tests), numbered_above (n + 1) id ts (omega arith) k.1)

pub numbered_below : (n : ℕ) (ts : List Trade) → TradesAreNumberedFrom n ts → ids_other (n + length ts) ts
numbered_below n [] k = tt
numbered_below n (t ∷ ts) k = (
  let e : t.id ≡ n = k.0 in grind (arith, nat_tests),
  let j : n + 1 + length ts ≡ n + length (t ∷ ts) = omega arith in subst (λ m. ids_other m ts) j (numbered_below (n + 1) ts k.1),
)

-- the ids of those around one
pub numbered_after : (n : ℕ) (xs : List Trade) (t : Trade) (ys : List Trade) → TradesAreNumberedFrom n (xs ++ t ∷ ys) → ids_other t.id ys
numbered_after n [] t ys k = let e : t.id ≡ n = k.0 in numbered_above (n + 1) t.id ys (omega arith) k.1
numbered_after n (x ∷ xs) t ys k = numbered_after (n + 1) xs t ys k.1

numbered_at : (n : ℕ) (xs : List Trade) (t : Trade) (ys : List Trade) → TradesAreNumberedFrom n (xs ++ t ∷ ys) → t.id ≡ n + length xs
numbered_at n [] t ys k = let e : t.id ≡ n = k.0 in omega arith
numbered_at n (x ∷ xs) t ys k = let e = numbered_at (n + 1) xs t ys k.1 in omega arith

numbered_front : (n : ℕ) (xs ys : List Trade) → TradesAreNumberedFrom n (xs ++ ys) → TradesAreNumberedFrom n xs
numbered_front n [] ys k = tt
numbered_front n (x ∷ xs) ys k = (k.0, numbered_front (n + 1) xs ys k.1)

pub numbered_before : (n : ℕ) (xs : List Trade) (t : Trade) (ys : List Trade) → TradesAreNumberedFrom n (xs ++ t ∷ ys) → ids_other t.id xs
numbered_before n xs t ys k = subst (λ m. ids_other m xs) (sym (numbered_at n xs t ys k)) (numbered_below n xs (numbered_front n xs (t ∷ ys) k))

-- one trade more, and trades changed that keep their ids
pub numbered_more : (n : ℕ) (ts : List Trade) (t : Trade) → t.id ≡ n + length ts → TradesAreNumberedFrom n ts → TradesAreNumberedFrom n (ts ++ t ∷ [])
numbered_more n [] t e k = (omega arith, tt)
numbered_more n (u ∷ ts) t e k = (k.0, numbered_more (n + 1) ts t (omega arith) k.1)

pub numbered_moved : (n : ℕ) (xs : List Trade) (t u : Trade) (ys : List Trade) → u.id ≡ t.id → TradesAreNumberedFrom n (xs ++ t ∷ ys) → TradesAreNumberedFrom n ((xs ++ u ∷ []) ++ ys)
numbered_moved n [] t u ys e k = (e ∙ k.0, k.1)
numbered_moved n (x ∷ xs) t u ys e k = (k.0, numbered_moved (n + 1) xs t u ys e k.1)

pub numbered_updated : (n : ℕ) (p : Trade → Bool) (f : Trade → Trade) (ts : List Trade) → ((t : Trade) → (f t).id ≡ t.id) → TradesAreNumberedFrom n ts → TradesAreNumberedFrom n (update_where p f ts)
numbered_updated n p f [] e k = tt
numbered_updated n p f (t ∷ ts) e k = (same (p t) ∙ k.0, numbered_updated (n + 1) p f ts e k.1)
  where
    same : (b : Bool) → (cond b (f t) t).id ≡ t.id
    same true = e t
    same false = refl
