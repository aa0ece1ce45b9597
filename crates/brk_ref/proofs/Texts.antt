-- Texts of a format, and records with a wrong number of fields.
use Rattle.std.proofs.Common.{◌≡◌, ℕ, Bool, true, false, refl, sym, arith, ◌&&◌, ◌≤◌, ◌<◌, length, List, [], ◌∷◌}
use Rattle.std.specs.Prelude.{nat_le, not, chars}
use Rattle.std.specs.List.{list_all}
use Rattle.std.specs.Str.{IsUtf8}
use Rattle.std.specs.Char.{is_control}
use Rattle.std.proofs.lemmas.Str.{is_utf8-from_IsUtf8}
use Rattle.std.proofs.lemmas.Bool.{le-leb, lt-leb}
use Rattle.std.specs.Borrow.{Bor}
use Rattle.std.specs.Prelude.{Err}
use Rattle.brk_money.specs.declared.refusal.Refusal.TheVariants.{BadText}
use Rattle.brk_model.specs.Parse.{read_broker, read_customer, read_account, read_permission, read_listing, read_charge, read_commission_band, read_tax_rate}
use Rattle.brk_ref.specs.Fields.{texts_of_fields}
use Rattle.brk_model.specs.Forms.{is_name, is_word_up_to_length}

-- text of a fitting length without control characters is a name
pub name_is : (text : List ℕ) (rest : Bool) → IsUtf8 text → 1 ≤ length text → length text ≤ 60 → rest ≡ list_all (λ c. not (is_control c)) (chars text) → rest ≡ is_name text
name_is text rest utf8 low high e = sym (rw (le-leb 1 (length text) low, le-leb (length text) 60 high, is_utf8-from_IsUtf8 text utf8) (sym e))

-- a text of no bytes or of too many is no word
pub too_short : (most : ℕ) (test : ℕ → Bool) (text : List ℕ) → length text ≡ 0 → false ≡ is_word_up_to_length most test text
too_short most test text e = sym (rw (lt-leb 1 (length text) (omega arith)) refl)

pub too_long : (most : ℕ) (test : ℕ → Bool) (text : List ℕ) → most < length text → false ≡ is_word_up_to_length most test text
too_long most test text h = by_low (nat_le 1 (length text))
  where
    by_low : (b : Bool) → false ≡ b && nat_le (length text) most && list_all test text
    by_low true = sym (rw (lt-leb (length text) most h) refl)
    by_low false = refl

-- another is one where each byte passes
pub word_is : (most : ℕ) (test : ℕ → Bool) (text : List ℕ) (all : Bool) → 1 ≤ length text → length text ≤ most → all ≡ list_all test text → all ≡ is_word_up_to_length most test text
word_is most test text all low high e = sym (rw (le-leb 1 (length text) low, le-leb (length text) most high) (sym e))

-- a broker has two fields
pub not_broker : (fields : List (Bor (List ℕ))) → (length fields ≡ 2 → ⊥) → read_broker (texts_of_fields fields) ≡ Err BadText
not_broker [] h = refl
not_broker (a ∷ []) h = refl
not_broker (a ∷ b ∷ []) h = absurd (h refl)
not_broker (a ∷ b ∷ c ∷ rest) h = refl

-- a tax has three fields, a charge too
pub not_tax : (fields : List (Bor (List ℕ))) → (length fields ≡ 3 → ⊥) → read_tax_rate (texts_of_fields fields) ≡ Err BadText
not_tax [] h = refl
not_tax (a ∷ []) h = refl
not_tax (a ∷ b ∷ []) h = refl
not_tax (a ∷ b ∷ c ∷ []) h = absurd (h refl)
not_tax (a ∷ b ∷ c ∷ d ∷ rest) h = refl

pub not_charge : (fields : List (Bor (List ℕ))) → (length fields ≡ 3 → ⊥) → read_charge (texts_of_fields fields) ≡ Err BadText
not_charge [] h = refl
not_charge (a ∷ []) h = refl
not_charge (a ∷ b ∷ []) h = refl
not_charge (a ∷ b ∷ c ∷ []) h = absurd (h refl)
not_charge (a ∷ b ∷ c ∷ g ∷ rest) h = refl

-- a customer has five fields, a permission and a security too
pub not_customer : (fields : List (Bor (List ℕ))) → (length fields ≡ 5 → ⊥) → read_customer (texts_of_fields fields) ≡ Err BadText
not_customer [] h = refl
not_customer (a ∷ []) h = refl
not_customer (a ∷ b ∷ []) h = refl
not_customer (a ∷ b ∷ c ∷ []) h = refl
not_customer (a ∷ b ∷ c ∷ d ∷ []) h = refl
not_customer (a ∷ b ∷ c ∷ d ∷ e ∷ []) h = absurd (h refl)
not_customer (a ∷ b ∷ c ∷ d ∷ e ∷ f ∷ rest) h = refl

pub not_permission : (fields : List (Bor (List ℕ))) → (length fields ≡ 5 → ⊥) → read_permission (texts_of_fields fields) ≡ Err BadText
not_permission [] h = refl
not_permission (a ∷ []) h = refl
not_permission (a ∷ b ∷ []) h = refl
not_permission (a ∷ b ∷ c ∷ []) h = refl
not_permission (a ∷ b ∷ c ∷ d ∷ []) h = refl
not_permission (a ∷ b ∷ c ∷ d ∷ e ∷ []) h = absurd (h refl)
not_permission (a ∷ b ∷ c ∷ d ∷ e ∷ g ∷ rest) h = refl

pub not_security : (fields : List (Bor (List ℕ))) → (length fields ≡ 5 → ⊥) → read_listing (texts_of_fields fields) ≡ Err BadText
not_security [] h = refl
not_security (a ∷ []) h = refl
not_security (a ∷ b ∷ []) h = refl
not_security (a ∷ b ∷ c ∷ []) h = refl
not_security (a ∷ b ∷ c ∷ d ∷ []) h = refl
not_security (a ∷ b ∷ c ∷ d ∷ e ∷ []) h = absurd (h refl)
not_security (a ∷ b ∷ c ∷ d ∷ e ∷ g ∷ rest) h = refl

-- an account has six fields, a band too
pub not_account : (fields : List (Bor (List ℕ))) → (length fields ≡ 6 → ⊥) → read_account (texts_of_fields fields) ≡ Err BadText
not_account [] h = refl
not_account (a ∷ []) h = refl
not_account (a ∷ b ∷ []) h = refl
not_account (a ∷ b ∷ c ∷ []) h = refl
not_account (a ∷ b ∷ c ∷ d ∷ []) h = refl
not_account (a ∷ b ∷ c ∷ d ∷ e ∷ []) h = refl
not_account (a ∷ b ∷ c ∷ d ∷ e ∷ f ∷ []) h = absurd (h refl)
not_account (a ∷ b ∷ c ∷ d ∷ e ∷ f ∷ g ∷ rest) h = refl

pub not_band : (fields : List (Bor (List ℕ))) → (length fields ≡ 6 → ⊥) → read_commission_band (texts_of_fields fields) ≡ Err BadText
not_band [] h = refl
not_band (a ∷ []) h = refl
not_band (a ∷ b ∷ []) h = refl
not_band (a ∷ b ∷ c ∷ []) h = refl
not_band (a ∷ b ∷ c ∷ d ∷ []) h = refl
not_band (a ∷ b ∷ c ∷ d ∷ e ∷ []) h = refl
not_band (a ∷ b ∷ c ∷ d ∷ e ∷ f ∷ []) h = absurd (h refl)
not_band (a ∷ b ∷ c ∷ d ∷ e ∷ f ∷ g ∷ rest) h = refl
