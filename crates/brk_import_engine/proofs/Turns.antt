-- A reader returns the records of the text in sequence.
use Rattle.std.proofs.Common.{◌≡◌, ◌≤◌, ◌+◌, ◌-◌, ◌⊎◌, ◌++◌, ◌∷◌, [], ℕ, List, Bool, true, false, cond, sym, ap, ◌∙◌, refl, length, arith, inl, inr, ◌==◌}
use Rattle.std.specs.Prelude.{None, Some, zero, suc}
use Rattle.std.proofs.lemmas.List.{append-nil}
use Rattle.csv.specs.Machine.{Read, after_end, ends_at_end, fields_after, field_after, in_field, is_end, next_record, start_field, start_record, step}
use Rattle.csv.specs.Reading.{Reached, records, records_from}
use Rattle.csv.specs.declared.parser.Config.{Config}
use Rattle.csv.specs.declared.parser.Terminator.{Terminator}
use Rattle.csv.specs.declared.parser.Terminator.TheVariants as term
use Rattle.csv.specs.declared.parser.State.{State}
use Rattle.csv.specs.declared.parser.State.TheVariants as st
use Rattle.csv.specs.declared.parser.Action.{Action}
use Rattle.csv.specs.declared.parser.Action.TheVariants as act
use Rattle.brk_model.specs.Answers.{Fields}

-- The state of the CSV reader is one between two records.
abbrev IsBetweenRecords : State → Type 0
IsBetweenRecords s = (s ≡ st.StartRecord) ⊎ (s ≡ st.AfterCr)

-- If the step ends a record, the state after it is one between two records.
abbrev EndsBetweenRecords : State × Action → Type 0
EndsBetweenRecords r = is_end r.1 ≡ true → IsBetweenRecords r.0

choose : (b : Bool) (x y : State × Action) → EndsBetweenRecords x → EndsBetweenRecords y → EndsBetweenRecords (cond b x y)
choose true x y p q = p
choose false x y p q = q

after_between : (t : Terminator) (c : ℕ) → IsBetweenRecords (after_end t c)
after_between term.CRLF c = elim (c == 13) as (λ b. IsBetweenRecords (cond b st.AfterCr st.StartRecord)) [ true ↦ inr refl | false ↦ inl refl ]
after_between (term.Any t) c = inl refl

quiet : (s : State) (a : Action) → is_end a ≡ false → EndsBetweenRecords (s, a)
quiet s a n e = let no : true ≡ false = sym e ∙ n in cc

between : (s : State) (a : Action) → IsBetweenRecords s → EndsBetweenRecords (s, a)
between s a h e = h

in_field_ends : (cfg : Config) (c : ℕ) → EndsBetweenRecords (in_field cfg c)
in_field_ends cfg c =
    choose _ _ _ (quiet st.StartField act.EndField refl)
    (choose _ _ _ (between (after_end cfg.terminator c) act.EndRecord (after_between cfg.terminator c)) (quiet st.InField act.Copy refl))

start_field_ends : (cfg : Config) (c : ℕ) → EndsBetweenRecords (start_field cfg c)
start_field_ends cfg c = choose _ _ _ (quiet st.InQuoted act.Skip refl) (in_field_ends cfg c)

start_record_ends : (cfg : Config) (c : ℕ) → EndsBetweenRecords (start_record cfg c)
start_record_ends cfg c = choose _ _ _ (quiet st.StartRecord act.Skip refl) (choose _ _ _ (quiet st.InComment act.Skip refl) (start_field_ends cfg c))

step_ends : (cfg : Config) (s : State) (c : ℕ) → EndsBetweenRecords (step cfg s c)
step_ends cfg st.StartRecord c = start_record_ends cfg c
step_ends cfg st.StartField c = start_field_ends cfg c
step_ends cfg st.InField c = in_field_ends cfg c
step_ends cfg st.InQuoted c = choose _ _ _ (quiet st.AfterQuote act.Skip refl) (choose _ _ _ (quiet st.InEscape act.Skip refl) (quiet st.InQuoted act.Copy refl))
step_ends cfg st.InEscape c = quiet st.InQuoted act.Copy refl
step_ends cfg st.AfterQuote c = choose _ _ _ (quiet st.InQuoted act.Copy refl) (in_field_ends cfg c)
step_ends cfg st.InComment c = choose _ _ _ (quiet st.StartRecord act.Skip refl) (quiet st.InComment act.Skip refl)
step_ends cfg st.AfterCr c = choose _ _ _ (quiet st.StartRecord act.Skip refl) (start_record_ends cfg c)

-- After a record the reader is between two records, and no more bytes are left than before.
record LeavesReaderBetweenRecords (xs : List ℕ) (q : Read) : Type 0 where
  between : IsBetweenRecords q.1
  shorter : length q.2 ≤ length xs

some_is : {X : Type 0} (x y : X) → Some x ≡ Some y → x ≡ y
some_is x y e = cc

at_end : (b : Bool) (x q : Read) → cond b (Some x) None ≡ Some q → x ≡ q
at_end true x q e = some_is x q e
at_end false x q e = cc

next_leaves : (cfg : Config) (s : State) (fields : List (List ℕ)) (field xs : List ℕ) (q : Read) → next_record cfg s fields field xs ≡ Some q → LeavesReaderBetweenRecords xs q
unfolding next_record
next_leaves cfg s fields field [] q e =
    let same = at_end (ends_at_end s) (fields ++ (field ∷ []), st.StartRecord, []) q e in
    rw (← same) (record { between = inl refl; shorter = omega arith })
next_leaves cfg s fields field (c ∷ rest) q e =
    go (is_end (step cfg s c).1) refl e (next_leaves cfg (step cfg s c).0 (fields_after (step cfg s c).1 fields field) (field_after (step cfg s c).1 c field) rest q)
  where
    go : (b : Bool) → is_end (step cfg s c).1 ≡ b
        → cond b (Some (fields_after (step cfg s c).1 fields field, (step cfg s c).0, rest))
        (next_record cfg (step cfg s c).0 (fields_after (step cfg s c).1 fields field) (field_after (step cfg s c).1 c field) rest) ≡ Some q
        → (next_record cfg (step cfg s c).0 (fields_after (step cfg s c).1 fields field) (field_after (step cfg s c).1 c field) rest ≡ Some q → LeavesReaderBetweenRecords rest q)
        → LeavesReaderBetweenRecords (c ∷ rest) q
    go true t e more =
        let same = some_is (fields_after (step cfg s c).1 fields field, (step cfg s c).0, rest) q e in
        rw (← same) (record { between = step_ends cfg s c t; shorter = omega arith })
    go false t e more =
        let left = more e in
        record { between = left.between; shorter = let h = left.shorter in omega arith }

-- from between two records, a record takes a byte at least
takes_one : (cfg : Config) (s : State) (xs : List ℕ) (q : Read) → IsBetweenRecords s → next_record cfg s [] [] xs ≡ Some q → IsBetweenRecords q.1 × (length q.2 + 1 ≤ length xs)
unfolding next_record
takes_one cfg s [] q (inl h) e = let no : None ≡ Some q = rw h at e in cc
takes_one cfg s [] q (inr h) e = let no : None ≡ Some q = rw h at e in cc
takes_one cfg s (c ∷ rest) q h e =
    go (is_end (step cfg s c).1) refl e (next_leaves cfg (step cfg s c).0 (fields_after (step cfg s c).1 [] []) (field_after (step cfg s c).1 c []) rest q)
  where
    go : (b : Bool) → is_end (step cfg s c).1 ≡ b
        → cond b (Some (fields_after (step cfg s c).1 [] [], (step cfg s c).0, rest))
        (next_record cfg (step cfg s c).0 (fields_after (step cfg s c).1 [] []) (field_after (step cfg s c).1 c []) rest) ≡ Some q
        → (next_record cfg (step cfg s c).0 (fields_after (step cfg s c).1 [] []) (field_after (step cfg s c).1 c []) rest ≡ Some q → LeavesReaderBetweenRecords rest q)
        → IsBetweenRecords q.1 × (length q.2 + 1 ≤ length (c ∷ rest))
    go true t e more =
        let same = some_is (fields_after (step cfg s c).1 [] [], (step cfg s c).0, rest) q e in
        rw (← same) (step_ends cfg s c t, omega arith)
    go false t e more =
        let left = more e in
        (left.between, let h = left.shorter in omega arith)

-- there are at most as many records as bytes
reached_few : (cfg : Config) (s : State) (xs : List ℕ) (rows : List Fields) (s2 : State) (ys : List ℕ) → IsBetweenRecords s → Reached cfg s xs rows s2 ys → length rows + length ys ≤ length xs
unfolding Reached
reached_few cfg s xs [] s2 ys b h = let e = ap length h.1 in omega arith
reached_few cfg s xs (r ∷ rs) s2 ys b h =
    let one = takes_one cfg s xs h.0 b h.1 in
    let more = reached_few cfg h.0.1 h.0.2 rs s2 ys one.0 h.3 in
    let size = one.1 in
    omega arith

-- with turns enough, the records are those that were reached and those of what is left
from_reached : (cfg : Config) (n : ℕ) (s : State) (xs : List ℕ) (rows : List Fields) (s2 : State) (ys : List ℕ) → Reached cfg s xs rows s2 ys
    → records_from cfg (length rows + n) s xs ≡ rows ++ records_from cfg n s2 ys
unfolding Reached records_from
from_reached cfg n s xs [] s2 ys h =
    let turns : 0 + n ≡ n = omega arith in
    rw (turns, h.0, h.1) refl
from_reached cfg n s xs (r ∷ rs) s2 ys h =
    let turns : length (r ∷ rs) + n ≡ suc (length rs + n) = omega arith in
    rw (turns, h.1, h.2) (ap (λ (l : List Fields). h.0.0 ∷ l) (from_reached cfg n h.0.1 h.0.2 rs s2 ys h.3))

none_left : (cfg : Config) (n : ℕ) (s : State) (ys : List ℕ) → next_record cfg s [] [] ys ≡ None → records_from cfg n s ys ≡ []
unfolding records_from
none_left cfg zero s ys e = refl
none_left cfg (suc n) s ys e = rw e refl

-- records that were reached begin those of the text
pub reached_begin : (cfg : Config) (xs : List ℕ) (rows : List Fields) (s2 : State) (ys : List ℕ) → Reached cfg st.StartRecord xs rows s2 ys
    → (rest : List Fields) × (records cfg xs ≡ rows ++ rest)
reached_begin cfg xs rows s2 ys h =
    let few = reached_few cfg st.StartRecord xs rows s2 ys (inl refl) h in
    let turns : length xs + 1 ≡ length rows + (length xs + 1 - length rows) = omega arith in
    (records_from cfg (length xs + 1 - length rows) s2 ys, ap (λ (n : ℕ). records_from cfg n st.StartRecord xs) turns ∙ from_reached cfg (length xs + 1 - length rows) st.StartRecord xs rows s2 ys h)

-- records that were reached, with none after them, are all
pub reached_all : (cfg : Config) (xs : List ℕ) (rows : List Fields) (s2 : State) (ys : List ℕ) → Reached cfg st.StartRecord xs rows s2 ys → next_record cfg s2 [] [] ys ≡ None
    → records cfg xs ≡ rows
reached_all cfg xs rows s2 ys h e =
    let few = reached_few cfg st.StartRecord xs rows s2 ys (inl refl) h in
    let turns : length xs + 1 ≡ length rows + (length xs + 1 - length rows) = omega arith in
    ap (λ (n : ℕ). records_from cfg n st.StartRecord xs) turns ∙ from_reached cfg (length xs + 1 - length rows) st.StartRecord xs rows s2 ys h
    ∙ ap (λ (l : List Fields). rows ++ l) (none_left cfg (length xs + 1 - length rows) s2 ys e) ∙ append-nil rows
