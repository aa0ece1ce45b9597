-- Commands preserve the part of the books invariant that concerns movements.
use Rattle.std.proofs.Common.{◌≡◌, ◌<◌, ◌≤◌, ℕ, ◌+◌, ◌==◌, false, max, List, [], ◌∷◌, ◌++◌, ◌∙◌, ap, subst, arith, Option, Some, None}
use Rattle.std.specs.Prelude.{is_some, find}
use Rattle.std.specs.Option.{option_map_or}
use Rattle.std.specs.List.{AllByRecursion}
use Rattle.std.proofs.lemmas.Bool.Decides.{nat_tests}
use Rattle.brk_model.specs.Records.{Account, Movement, Trade}
use Rattle.brk_model.specs.Base.{Base, last_status_stamp_of_trade}
use Rattle.brk_model.specs.Tests.{stamp_of_next_command}
use Rattle.brk_trade_books.specs.Books.{MovementBooksInvariant, MovementAccountExists, MovementStampIsAtMostLastStamp, HasLastStatusAtOtherStamp, HasDistinctMovementStamps}
use Rattle.brk_trade_books.proofs.Same.{All-append, All-map, find-more}
use Rattle.brk_trade_books.proofs.Tested.{All-back, All-front}

-- ---- the last stamp moves on

made_then : (last : Option ℕ) (now : ℕ) (m : Movement) → MovementStampIsAtMostLastStamp last m → MovementStampIsAtMostLastStamp (Some (option_map_or (λ l. max now (l + 1)) last now)) m
made_then None now m e = absurd e
made_then (Some l) now m e = omega arith

pub movements_later : {accounts : List Account} {done : List Trade} {ms : List Movement} (base : Base) (now : ℕ) → MovementBooksInvariant accounts base.last done ms
    → MovementBooksInvariant accounts (Some (stamp_of_next_command base now)) done ms
movements_later {ms = ms} base now k = record { holders = k.holders; early = All-map ms (λ m e. made_then base.last now m e) k.early; apart = k.apart }

made_before : (last : Option ℕ) (now : ℕ) (m : Movement) → MovementStampIsAtMostLastStamp last m → m.stamp < option_map_or (λ l. max now (l + 1)) last now
made_before None now m e = absurd e
made_before (Some l) now m e = omega arith

-- the next stamp is after all movements
pub movements_before : {accounts : List Account} {done : List Trade} {ms : List Movement} (base : Base) (now : ℕ) → MovementBooksInvariant accounts base.last done ms
    → AllByRecursion (λ m. m.stamp < stamp_of_next_command base now) ms
movements_before {ms = ms} base now k = All-map ms (λ m e. made_before base.last now m e) k.early

-- ---- beside the same completions, and with an account more

pub movements_beside : {accounts : List Account} {last : Option ℕ} {done then : List Trade} {ms : List Movement} → done ≡ then → MovementBooksInvariant accounts last done ms
    → MovementBooksInvariant accounts last then ms
movements_beside {accounts = accounts} {last = last} {ms = ms} e k = subst (λ ts. MovementBooksInvariant accounts last ts ms) e k

pub holders_more : {last : Option ℕ} {done : List Trade} {ms : List Movement} (accounts : List Account) (a : Account) → MovementBooksInvariant accounts last done ms
    → MovementBooksInvariant (accounts ++ a ∷ []) last done ms
holders_more {ms = ms} accounts a k = record {
  holders = All-map ms (λ m h. ap is_some (find-more (λ b. b.id == m.account) accounts (a ∷ []) h) ∙ h) k.holders;
  early = k.early;
  apart = k.apart;
}

-- ---- beside a completion more, after all movements

otherwhen : (m n : ℕ) → m < n → (n == m) ≡ false
otherwhen m n h = grind (arith, nat_tests)

before_it : (m n : ℕ) → m < n → (m == n) ≡ false
before_it m n h = grind (arith, nat_tests)

apart_completion : (xs : List Trade) (t : Trade) (ys : List Trade) (ms : List Movement) → AllByRecursion (λ m. m.stamp < last_status_stamp_of_trade t) ms → HasDistinctMovementStamps (xs ++ ys) ms
    → HasDistinctMovementStamps (xs ++ t ∷ ys) ms
apart_completion xs t ys [] h k = tt
apart_completion xs t ys (m ∷ ms) h k = (
  All-append (HasLastStatusAtOtherStamp m.stamp) xs (t ∷ ys) (All-front (HasLastStatusAtOtherStamp m.stamp) xs ys k.0)
      (otherwhen m.stamp (last_status_stamp_of_trade t) h.0, All-back (HasLastStatusAtOtherStamp m.stamp) xs ys k.0),
  k.1,
  apart_completion xs t ys ms h.1 k.2,
)

pub movements_completion : {accounts : List Account} {last : Option ℕ} (xs : List Trade) (t : Trade) (ys : List Trade) (ms : List Movement)
    → AllByRecursion (λ m. m.stamp < last_status_stamp_of_trade t) ms
    → MovementBooksInvariant accounts last (xs ++ ys) ms → MovementBooksInvariant accounts last (xs ++ t ∷ ys) ms
movements_completion xs t ys ms h k = record { holders = k.holders; early = k.early; apart = apart_completion xs t ys ms h k.apart }

-- ---- with a movement more, after all others and all completions

apart_movement : (done : List Trade) (ms : List Movement) (m : Movement) → AllByRecursion (λ t. last_status_stamp_of_trade t < m.stamp) done
    → AllByRecursion (λ n. n.stamp < m.stamp) ms → HasDistinctMovementStamps done ms
    → HasDistinctMovementStamps done (ms ++ m ∷ [])
apart_movement done [] m g h k = (All-map done (λ t e. before_it (last_status_stamp_of_trade t) m.stamp e) g, tt, tt)
apart_movement done (n ∷ ms) m g h k = (
  k.0,
  All-append (λ x. (x.stamp == n.stamp) ≡ false) ms (m ∷ []) k.1 (otherwhen n.stamp m.stamp h.0, tt),
  apart_movement done ms m g h.1 k.2,
)

no_later : (n : ℕ) → n ≤ n
no_later n = omega arith

pub movements_more : {accounts : List Account} {done : List Trade} {ms : List Movement} (m : Movement) → MovementAccountExists accounts m
    → AllByRecursion (λ t. last_status_stamp_of_trade t < m.stamp) done → AllByRecursion (λ n. n.stamp < m.stamp) ms → MovementBooksInvariant accounts (Some m.stamp) done ms
    → MovementBooksInvariant accounts (Some m.stamp) done (ms ++ m ∷ [])
movements_more {accounts = accounts} {done = done} {ms = ms} m there g h k = record {
  holders = All-append (MovementAccountExists accounts) ms (m ∷ []) k.holders (there, tt);
  early = All-append (MovementStampIsAtMostLastStamp (Some m.stamp)) ms (m ∷ []) k.early (no_later m.stamp, tt);
  apart = apart_movement done ms m g h k.apart;
}
