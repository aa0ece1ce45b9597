-- The records of an input, read in order.
use Rattle.std.proofs.Common.{◌≡◌, ◌++◌, ◌∷◌, ◌∙◌, [], ℕ, List, Bool, true, false, take, refl, length, arith, append_assoc, subst, sym}
use Rattle.std.specs.Prelude.{Option, None, Some, MatchBool, option_map}
use Rattle.csv.specs.Reading.{ReadRecord, Reached, default_config, source_of, strip_bom}
use Rattle.csv.specs.Records.{field_at}
use Rattle.csv.specs.declared.reader.Reader.{Reader}
use Rattle.csv.specs.declared.parser.State.{State}
use Rattle.csv.specs.declared.parser.State.TheVariants as st
use Rattle.csv.proofs.ReadFacts.{rows-end, rows-more}
use Rattle.brk_model.specs.Answers.{Fields}
use Rattle.brk_import_engine.proofs.Turns.{reached_all, reached_begin}
use Rattle.brk_model.specs.Input.{HasExactlyRecords, BeginsWithRecords, batch_header, most_input_bytes, input_text}
use Rattle.brk_import_engine.specs.Reading.{ReaderIsAfterRecords}

-- a reader that has read nothing stands at the start
pub stands_start : (known src : Option (List ℕ)) (n : ℕ) (s : State) → n ≡ most_input_bytes → s ≡ st.StartRecord
    → src ≡ option_map strip_bom (option_map (take n) known) → ReaderIsAfterRecords (option_map input_text known) [] s src
unfolding Reached
stands_start None src n s en es e = tt
stands_start (Some xs) src n s en es e = rw (e, en, es) (refl, refl)

-- a record that was read stands after those before it
pub stands_more : {R : Type 0} (rem : R → Option (List ℕ)) (a b : Reader R) (f : Fields) (text : Option (List ℕ)) (before : List Fields)
    → a.config ≡ default_config → ReadRecord rem a b true f
    → (src : Option (List ℕ)) → source_of rem a ≡ src → ReaderIsAfterRecords text before a.state src → ReaderIsAfterRecords text (before ++ (f ∷ [])) b.state (source_of rem b)
stands_more rem a b f None before ec r src e h = tt
stands_more rem a b f (Some t) before ec r None e h = absurd h
stands_more rem a b f (Some t) before ec r (Some y) e h =
    let m = rows-more rem a b f default_config st.StartRecord t y before ec e h r in
    rw m.1 m.2

-- where no record was found, those before are all
pub stands_end : {R : Type 0} (rem : R → Option (List ℕ)) (a b : Reader R) (f : Fields) (text : Option (List ℕ)) (before : List Fields)
    → a.config ≡ default_config → ReadRecord rem a b false f
    → (src : Option (List ℕ)) → source_of rem a ≡ src → ReaderIsAfterRecords text before a.state src → HasExactlyRecords text before
stands_end rem a b f None before ec r src e h = tt
stands_end rem a b f (Some t) before ec r None e h = absurd h
stands_end rem a b f (Some t) before ec r (Some y) e h = reached_all default_config t before a.state y h (rows-end rem a b f default_config y ec e r)

pub stands_read : {R : Type 0} (rem : R → Option (List ℕ)) (a b : Reader R) (found : Bool) (f : Fields) (text : Option (List ℕ)) (before : List Fields)
    → a.config ≡ default_config → ReadRecord rem a b found f → ReaderIsAfterRecords text before a.state (source_of rem a)
    → MatchBool found (ReaderIsAfterRecords text (before ++ (f ∷ [])) b.state (source_of rem b)) (HasExactlyRecords text before)
stands_read rem a b true f text before ec r h = stands_more rem a b f text before ec r (source_of rem a) refl h
stands_read rem a b false f text before ec r h = stands_end rem a b f text before ec r (source_of rem a) refl h

-- a record of two fields
pub pair_found : (fs : Fields) (a b : List ℕ) → length fs ≡ 2 → field_at fs 0 ≡ Some a → field_at fs 1 ≡ Some b → fs ≡ a ∷ b ∷ []
unfolding field_at
pair_found [] a b e f g = cc
pair_found (x ∷ []) a b e f g = cc
pair_found (x ∷ y ∷ []) a b e f g = cc
pair_found (x ∷ y ∷ z ∷ zs) a b e f g = absurd (omega arith)

pub pair_fields : (fs : Fields) (a b : List ℕ) → fs ≡ a ∷ b ∷ [] → (length fs ≡ 2) × (field_at fs 0 ≡ Some a) × (field_at fs 1 ≡ Some b)
unfolding field_at
pair_fields fs a b e = rw e (refl, refl, refl)

-- the name of a header is its second field
pub header_name_is : (fs : Fields) (name : List ℕ) → fs ≡ batch_header name → field_at fs 1 ≡ Some name
unfolding field_at
header_name_is fs name e = rw e refl

-- records that stand at the front begin the text
pub begins_of : (text : Option (List ℕ)) (records : List Fields) (s : State) (src : Option (List ℕ)) → ReaderIsAfterRecords text records s src → BeginsWithRecords text records
begins_of None records s src h = tt
begins_of (Some t) records s None h = absurd h
begins_of (Some t) records s (Some y) h = reached_begin default_config t records s y h

-- a text begins with the front of what it begins with
pub begins_front : (text : Option (List ℕ)) (front back : List Fields) → BeginsWithRecords text (front ++ back) → BeginsWithRecords text front
begins_front None front back h = tt
begins_front (Some t) front back h = (back ++ h.0, h.1 ∙ append_assoc front back h.0)

-- one record more behind the last row
pub begins_more : (text : Option (List ℕ)) (name : List ℕ) (rows : List Fields) (row next : Fields) → BeginsWithRecords text ((batch_header name ∷ (rows ++ (row ∷ []))) ++ (next ∷ []))
    → BeginsWithRecords text (batch_header name ∷ (rows ++ (row ∷ next ∷ [])))
begins_more text name rows row next h = subst (λ (l : List Fields). BeginsWithRecords text (batch_header name ∷ l)) (append_assoc rows (row ∷ []) (next ∷ [])) h

-- and one less
pub begins_less : (text : Option (List ℕ)) (name : List ℕ) (rows : List Fields) (row next : Fields) → BeginsWithRecords text (batch_header name ∷ (rows ++ (row ∷ next ∷ [])))
    → BeginsWithRecords text (batch_header name ∷ (rows ++ (row ∷ [])))
begins_less text name rows row next h =
    begins_front text (batch_header name ∷ (rows ++ (row ∷ []))) (next ∷ [])
    (subst (λ (l : List Fields). BeginsWithRecords text (batch_header name ∷ l)) (sym (append_assoc rows (row ∷ []) (next ∷ []))) h)
