-- Results that follow from the rows of a read.
use Rattle.std.proofs.Common.{◌≡◌, Result, Ok, Err, IfOk, subst}
use Rattle.std.specs.Prelude.{OnOk}
use Rattle.sqlite_trees.specs.declared.store.Store.{Ghosts}
use Rattle.sqlite.specs.Held.{Held, state}
use Rattle.sqlite.specs.State.{HasCleanDisk}
use Rattle.brk_model.specs.Tables.{Tables}
use Rattle.brk_store_transactions.specs.Holds.{HoldsRows, ReadPost}
use Rattle.brk_store_reads.specs.ReadSequences.{IsUnchangedByReads, disk_was_clean_before_reads, joined_reads_change_nothing, single_read_changes_nothing}
use Rattle.brk_store_reads.proofs.Retelling.{retold}
use Rattle.brk_store_reads.proofs.Sequences.{none_read, none_then, read_with, same_then}

module _ {S : Type 0} (g : Ghosts S) (old mid : Held S) where
  -- an answer that follows from what was read; or no memory for it
  pub decided : {V X E F : Type 0} (v : V) (P : V → Tables → Type 0) (R : X → Tables → Type 0) (result : Result X F) → ReadPost {E = E} g old mid (Ok v) P
      → IfOk result (λ x. (t : Tables) → P v t → R x t) → ReadPost g old mid result R
  decided v P R (Ok x) read tell = retold g old mid v x P R tell read
  decided v P R (Err fault) read none =
      record { answered = λ clean. tt; was_open = λ clean. tt; same_rows = read.same_rows; unchanged_if_open = read.unchanged_if_open; survives = read.survives }

-- an answer that follows from what six reads returned
pub decided_by_six : {S V W X Y U L Z E F G H J K N : Type 0} (g : Ghosts S) (a b c d e f h : Held S) (v : V) (w : W) (x : X) (y : Y) (u : U) (l : L) (P : V → Tables → Type 0) (Q : W → Tables → Type 0) (R : X → Tables → Type 0)
    (T : Y → Tables → Type 0) (C : U → Tables → Type 0) (D : L → Tables → Type 0) (M : Z → Tables → Type 0) (result : Result Z N) → ReadPost {E = E} g a b (Ok v) P → ReadPost {E = F} g b c (Ok w) Q → ReadPost {E = G} g c d (Ok x) R
    → ReadPost {E = H} g d e (Ok y) T → ReadPost {E = J} g e f (Ok u) C → ReadPost {E = K} g f h (Ok l) D → IfOk result (λ z. (t : Tables) → P v t → Q w t → R x t → T y t → C u t → D l t → M z t) → ReadPost g a h result M
decided_by_six {S} {V} {W} {X} {Y} {U} {L} {Z} {E} {F} {G} {H} {J} {K} {N} g a b c d e f h v w x y u l P Q R T C D M result one two three four five six tell =
    let PQ = λ (vw : V × W) (t : Tables). P vw.0 t × Q vw.1 t in
    let PQR = λ (vwx : (V × W) × X) (t : Tables). PQ vwx.0 t × R vwx.1 t in
    let PQRT = λ (vwxy : ((V × W) × X) × Y) (t : Tables). PQR vwxy.0 t × T vwxy.1 t in
    let PQRTC = λ (vwxyu : (((V × W) × X) × Y) × U) (t : Tables). PQRT vwxyu.0 t × C vwxyu.1 t in
    let All = λ (all : ((((V × W) × X) × Y) × U) × L) (t : Tables). PQRTC all.0 t × D all.1 t in
    let second = read_with g a b c {H = F} v w (v, w) P Q PQ (λ t p q. (p, q)) one two in
    let third = read_with g a c d {H = G} (v, w) x ((v, w), x) PQ R PQR (λ t p q. (p, q)) second three in
    let fourth = read_with g a d e {H = H} ((v, w), x) y (((v, w), x), y) PQR T PQRT (λ t p q. (p, q)) third four in
    let fifth = read_with g a e f {H = J} (((v, w), x), y) u ((((v, w), x), y), u) PQRT C PQRTC (λ t p q. (p, q)) fourth five in
    let sixth = read_with g a f h {H = K} ((((v, w), x), y), u) l (((((v, w), x), y), u), l) PQRTC D All (λ t p q. (p, q)) fifth six in
    decided g a h (((((v, w), x), y), u), l) All M result sixth (told result tell)
  where
    told : (r : Result Z N) → IfOk r (λ z. (t : Tables) → P v t → Q w t → R x t → T y t → C u t → D l t → M z t)
        → IfOk r (λ z. (t : Tables) → ((((P v t × Q w t) × R x t) × T y t) × C u t) × D l t → M z t)
    told (Ok z) h = λ t all. h t all.0.0.0.0.0 all.0.0.0.0.1 all.0.0.0.1 all.0.0.1 all.0.1 all.1
    told (Err i) h = tt

module _ {S : Type 0} (g : Ghosts S) (old mid end : Held S) where
  -- an answer that follows from what was read, and from what was read on in a store that is kept
  pub decided_on : {V X E F : Type 0} (v : V) (P : V → Tables → Type 0) (R : X → Tables → Type 0) (result : Result X F) → ReadPost {E = E} g old mid (Ok v) P → IsUnchangedByReads g mid end
      → (HasCleanDisk (state g end) → IfOk result (λ x. (t : Tables) → HoldsRows g mid t → P v t → R x t)) → ReadPost g old end result R
  decided_on {V} {X} {E} {F} v P R result read on tell = record {
    answered = λ clean. answered (disk_was_clean_before_reads mid end on clean) result (tell clean);
    was_open = λ clean. was_open (read.was_open (disk_was_clean_before_reads mid end on clean)) result;
    same_rows = λ t h. on.same_rows t (read.same_rows t h);
    unchanged_if_open = λ clean o. let s = on.unchanged_if_open clean o in
        same_then (state g old) (state g mid) (state g end) (read.unchanged_if_open (disk_was_clean_before_reads mid end on clean) s.was_open) s;
    survives = none_then (state g old) (state g mid) (state g end) (λ _. ⊥) read.survives on.survives;
  } where
    answered : HasCleanDisk (state g mid) → (r : Result X F) → IfOk r (λ x. (t : Tables) → HoldsRows g mid t → P v t → R x t) → IfOk r (λ x. (t : Tables) → HoldsRows g old t → R x t)
    answered clean (Ok x) tell = λ t h. tell t (read.same_rows t h) (read.answered clean t h)
    answered clean (Err fault) tell = tt

    was_open : {Q : Type 0} → Q → (r : Result X F) → OnOk r Q
    was_open q (Ok x) = q
    was_open q (Err fault) = tt

  -- an answer that follows from a read and from one after it
  pub both_told : {V W E F : Type 0} (v : V) (result : Result W F) (P : V → Tables → Type 0) (Q : W → Tables → Type 0) (R : W → Tables → Type 0) → ((w : W) (t : Tables) → P v t → Q w t → R w t)
      → ReadPost {E = E} g old mid (Ok v) P → ReadPost g mid end result Q → ReadPost g old end result R
  both_told v (Ok w) P Q R tell first next = read_with g old mid end v w w P Q R (tell w) first next
  both_told v (Err e) P Q R tell first next = none_read g old end e R (joined_reads_change_nothing old mid end (single_read_changes_nothing old mid (Ok v) P first) (single_read_changes_nothing mid end (Err e) Q next))

-- a read before others that change nothing
pub then_unchanged : {S V E : Type 0} {g : Ghosts S} {old mid end : Held S} {result : Result V E} {P : V → Tables → Type 0} → ReadPost g old mid result P → IsUnchangedByReads g mid end → IsUnchangedByReads g old end
then_unchanged {old = old} {mid = mid} {end = end} {result = result} {P = P} read on = joined_reads_change_nothing old mid end (single_read_changes_nothing old mid result P read) on

-- ---- what is known of a store by another name

module _ {S : Type 0} (g : Ghosts S) (old mid end : Held S) (same : mid ≡ end) where
  pub kept_at : IsUnchangedByReads g old mid → IsUnchangedByReads g old end
  kept_at k = subst (λ (h : Held S). IsUnchangedByReads g old h) same k

  pub read_at : {V E : Type 0} (result : Result V E) (Told : V → Tables → Type 0) → ReadPost g old mid result Told → ReadPost g old end result Told
  read_at result Told read = subst (λ (h : Held S). ReadPost g old h result Told) same read
