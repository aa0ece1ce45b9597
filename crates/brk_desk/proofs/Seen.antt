-- Reads of a store in sequence: the store is unchanged, and a fact holds of its rows.
use Rattle.std.proofs.Common.{◌≡◌, Option, Some, None, Ok, IsTrue, arith, inl, refl, sym, subst}
use Rattle.std.specs.Prelude.{option_map}
use Rattle.sqlite_trees.specs.declared.store.Store.{Ghosts}
use Rattle.sqlite.specs.Held.{Held, state}
use Rattle.sqlite.specs.State.{HasCleanDisk, State, Survives}
use Rattle.brk_model.specs.Base.{Base}
use Rattle.brk_model.specs.Records.{Key}
use Rattle.brk_model.specs.Sheets.{sheets}
use Rattle.brk_model.specs.Tables.{Tables}
use Rattle.brk_ref.specs.Records.{abstract_kept_row}
use Rattle.brk_ref.specs.declared.key.Kept as row
use Rattle.brk_store_transactions.specs.Holds.{HoldsRows, ReadPost, WasOpenAndIsUnchanged}
use Rattle.brk_store_transactions.proofs.States.{clean_before}
use Rattle.brk_store_reads.proofs.Sequences.{none_then, same_then}
use Rattle.brk_store_transactions.specs.Audited.{Represents}
use Rattle.brk_desk.specs.Keys.{ReadStoredReplyPost, kept_row_under_key}

-- a call that does nothing
pub still : (s : State) → Survives s s (λ _. ⊥)
still s = record { clean = omega arith; shield = λ x. x; counts = omega arith; limit = refl; closes = λ _ o. inl o; crash = λ _ db may. inl may }

module _ {S : Type 0} (g : Ghosts S) where
  -- books are kept where the rows are
  pub still_kept : (old new : Held S) (base : Base) → (HoldsRows g old (sheets base) → HoldsRows g new (sheets base)) → Represents g old base → Represents g new base
  still_kept old new base rows keeps = record { rows = rows keeps.rows; consistent = keeps.consistent }

  -- The store is unchanged between the states `old` and `new`, and the rows that it held satisfy
  -- `P`. The latter is vacuous if the disk assumption fails.
  pub record HoldsWithoutChange (old new : Held S) (P : Tables → Type 0) : Type 0 where
    pub told : HasCleanDisk (state g new) → (t : Tables) → HoldsRows g old t → P t
    pub kept : (t : Tables) → HoldsRows g old t → HoldsRows g new t
    pub unchanged_if_open : HasCleanDisk (state g new) → IsTrue (state g new).is_open → WasOpenAndIsUnchanged (state g old) (state g new)
    pub clean : HasCleanDisk (state g new) → HasCleanDisk (state g old)
    pub survives : Survives (state g old) (state g new) (λ _. ⊥)

  pub seen : {V E : Type 0} (old new : Held S) (v : V) (P : V → Tables → Type 0) → ReadPost {E = E} g old new (Ok v) P → HoldsWithoutChange old new (P v)
  seen old new v P read =
      record {
        told = read.answered;
        kept = read.same_rows;
        unchanged_if_open = read.unchanged_if_open;
        clean =
            clean_before (state g old) (state g new) (λ _. ⊥) read.survives;
        survives = read.survives;
      }

  pub seen_both : (old mid new : Held S) (P Q : Tables → Type 0) → HoldsWithoutChange old mid P → HoldsWithoutChange mid new Q → HoldsWithoutChange old new (λ t. P t × Q t)
  seen_both old mid new P Q first second = record {
    told = λ clean t holds. (first.told (second.clean clean) t holds, second.told clean t (first.kept t holds));
    kept = λ t holds. second.kept t (first.kept t holds);
    unchanged_if_open = λ clean o. let s = second.unchanged_if_open clean o in same_then (state g old) (state g mid) (state g new) (first.unchanged_if_open (second.clean clean) s.was_open) s;
    clean = λ clean. first.clean (second.clean clean);
    survives = none_then (state g old) (state g mid) (state g new) (λ _. ⊥) first.survives second.survives;
  }

  seen_still : (store : Held S) (P : Tables → Type 0) → ((t : Tables) → P t) → HoldsWithoutChange store store P
  seen_still store P all =
      record {
        told = λ clean t holds. all t;
        kept = λ t holds. holds;
        unchanged_if_open =
            λ clean o. record { was_open = o; now = refl; committed = refl };
        clean = λ clean. clean;
        survives = still (state g store);
      }

  -- nothing is kept under the key
  pub sought_none : (old new : Held S) (key : Option Key) → ReadStoredReplyPost g old new key (Ok None) → HoldsWithoutChange old new (λ t. None ≡ kept_row_under_key t key)
  sought_none old new None s = subst (λ n. HoldsWithoutChange old n (λ t. None ≡ kept_row_under_key t None)) (sym s.0) (seen_still old (λ t. None ≡ kept_row_under_key t None) (λ t. refl))
  sought_none old new (Some key) s = seen old new None (λ kept t. option_map abstract_kept_row kept ≡ kept_row_under_key t (Some key)) s

  -- this row is
  pub sought_some : (old new : Held S) (key : Option Key) (k : row.Kept) → ReadStoredReplyPost g old new key (Ok (Some k))
      → HoldsWithoutChange old new (λ t. Some (abstract_kept_row k) ≡ kept_row_under_key t key)
  sought_some old new None k s = let other = s.1 in absurd (cc)
  sought_some old new (Some key) k s = seen old new (Some k) (λ kept t. option_map abstract_kept_row kept ≡ kept_row_under_key t (Some key)) s
