-- Fields joined by a separator, and added one after another.
use Rattle.std.proofs.Common.{◌≡◌, ℕ, List, [], ◌∷◌, ◌++◌, refl, sym, ap, ◌∙◌, append_assoc, codes, take, length, get_or, ◌+◌, ◌<◌}
use Rattle.std.proofs.lemmas.List.{append-nil, flat_map_more, take_more}
use Rattle.std.specs.Prelude.{map, flat_map, decimal}
use Rattle.std.specs.List.{join_with_byte}
use Rattle.brk_money.specs.Spelling.{Text}
use Rattle.brk_model.specs.Commands.{ChangeExecutors, FeedTicks, Ticked}
use Rattle.brk_model.specs.Rows.{tick_fields, row_fields, reply_fields, row_text, line_text}
use Rattle.brk_ref_orders.specs.Records.{abstract_tick, abstract_ticks}
use Rattle.brk_ref_orders.specs.declared.tick.Tick as tick
use Rattle.brk_desk_commands.specs.Fields.{fields_after_separators}

-- joined fields are the first, and the others each with the separator before it
pub joined : (separator : ℕ) (first : Text) (fields : List Text) → join_with_byte separator (first ∷ fields) ≡ first ++ fields_after_separators separator fields
joined separator first [] = sym (append-nil first)
joined separator first (field ∷ fields) = ap (λ (text : Text). first ++ separator ∷ text) (joined separator field fields)

-- fields after fields
pub more_append : (separator : ℕ) (xs ys : List Text) → fields_after_separators separator (xs ++ ys) ≡ fields_after_separators separator xs ++ fields_after_separators separator ys
more_append separator [] ys = refl
more_append separator (x ∷ xs) ys = ap (λ (text : Text). separator ∷ x ++ text) (more_append separator xs ys)
    ∙ sym (append_assoc (separator ∷ x) (fields_after_separators separator xs) (fields_after_separators separator ys))

-- the fields of ticks, tick by tick
pub tick_row : (ticks : List tick.Tick) → codes "feed" ++ flat_map (λ tick. fields_after_separators 31 (tick_fields (abstract_tick tick))) ticks ≡ row_text (FeedTicks (abstract_ticks ticks))
unfolding row_fields
tick_row ticks = ap (λ (text : Text). codes "feed" ++ text) (sym (each ticks)) ∙ sym (joined 31 (codes "feed") (flat_map tick_fields (abstract_ticks ticks)))
  where
    each : (ticks : List tick.Tick) → fields_after_separators 31 (flat_map tick_fields (abstract_ticks ticks)) ≡ flat_map (λ tick. fields_after_separators 31 (tick_fields (abstract_tick tick))) ticks
    each [] = refl
    each (tick ∷ ticks) =
        more_append 31 (tick_fields (abstract_tick tick)) (flat_map tick_fields (abstract_ticks ticks))
        ∙ ap (λ (text : Text). fields_after_separators 31 (tick_fields (abstract_tick tick)) ++ text) (each ticks)

-- a stamp and trades
pub trades_line : (stamp : ℕ) (trades : List ℕ) → decimal stamp ++ flat_map (λ trade. 44 ∷ decimal trade) trades ≡ line_text (Ticked stamp trades)
unfolding reply_fields
trades_line stamp trades = ap (λ (text : Text). decimal stamp ++ text) (sym (each trades)) ∙ sym (joined 44 (decimal stamp) (map decimal trades))
  where
    each : (trades : List ℕ) → fields_after_separators 44 (map decimal trades) ≡ flat_map (λ trade. 44 ∷ decimal trade) trades
    each [] = refl
    each (trade ∷ trades) = ap (λ (text : Text). (44 ∷ decimal trade) ++ text) (each trades)

-- trades whose executors' names are corrected
pub trades_row : (trades : List ℕ) → codes "upname" ++ flat_map (λ trade. 31 ∷ decimal trade) trades ≡ row_text (ChangeExecutors trades)
unfolding row_fields
trades_row trades = ap (λ (text : Text). codes "upname" ++ text) (sym (each trades)) ∙ sym (joined 31 (codes "upname") (map decimal trades))
  where
    each : (trades : List ℕ) → fields_after_separators 31 (map decimal trades) ≡ flat_map (λ trade. 31 ∷ decimal trade) trades
    each [] = refl
    each (trade ∷ trades) = ap (λ (text : Text). (31 ∷ decimal trade) ++ text) (each trades)

-- fields that were added after others
pub added : (separator : ℕ) (first : Text) (xs ys : List Text) (was now : Text) → was ≡ join_with_byte separator (first ∷ xs) → now ≡ was ++ fields_after_separators separator ys
    → now ≡ join_with_byte separator (first ∷ xs ++ ys)
added separator first xs ys was now w n =
    n ∙ ap (λ (text : Text). text ++ fields_after_separators separator ys) (w ∙ joined separator first xs)
    ∙ append_assoc first (fields_after_separators separator xs) (fields_after_separators separator ys)
    ∙ ap (λ (text : Text). first ++ text) (sym (more_append separator xs ys)) ∙ sym (joined separator first (xs ++ ys))

-- one text more
pub next_text : {X : Type 0} (text : X → Text) (first was now : Text) (xs : List X) (i : ℕ) (x : X) → i < length xs → x ≡ get_or xs i x
    → was ≡ first ++ flat_map text (take i xs) → now ≡ was ++ text x → now ≡ first ++ flat_map text (take (i + 1) xs)
next_text text first was now xs i x h e w n =
    n ∙ ap (λ (t : Text). t ++ text x) w ∙ flat_map_more text first (take i xs) x
    ∙ ap (λ ys. first ++ flat_map text ys) (ap (λ y. take i xs ++ y ∷ []) e ∙ sym (take_more xs i x h))
