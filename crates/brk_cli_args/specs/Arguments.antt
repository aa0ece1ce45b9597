-- The values that the parser found for the arguments of a subcommand, by their names.
use Rattle.std.specs.Prelude.{◌≡◌, ◌⊎◌, ◌<◌, ◌≤◌, ◌^◌, ℕ, Bool, true, false, List, [], Option, Some, None, codes, pos, unwrap_or}
use Rattle.std.specs.Option.{option_map_or}
use Rattle.std.specs.Str.Parse.{IsNumeral, digits_value, signed_digits_value, without_leading_plus, without_leading_sign}
use Rattle.clap.specs.Matches.{first_value, matched_of, one_text, raw_values}
use Rattle.clap.specs.declared.parser.matches.Found.{Found}
use Rattle.brk_money.specs.Moments.{greatest_stamp}
use Rattle.brk_money.specs.Spelling.{Text}
use Rattle.brk_money.specs.declared.id.TheConstants.Id

-- The text of the argument `name`, empty if it is missing.
abbrev pub text_of_argument : Found → List ℕ → Text
text_of_argument found name = unwrap_or (first_value found name) []

-- The texts of the argument `name`, in order, none if it is missing.
abbrev pub texts_of_argument : Found → List ℕ → List Text
texts_of_argument found name = option_map_or raw_values (matched_of found name) []

-- The argument `name` is a text of decimal digits, perhaps after a plus, of the number `n`.
abbrev pub IsNumberOf : Found → List ℕ → ℕ → Type 0
IsNumberOf found name n =
    (text : Text) × (one_text found name ≡ Some text) × IsNumeral 10 (without_leading_plus text) × (n ≡ digits_value 10 (without_leading_plus text))

-- `n` is the number of the argument `name`, or `other` if it has none of at most `bits` bits.
abbrev pub IsNumberOr : ℕ → ℕ → Found → List ℕ → ℕ → Type 0
IsNumberOr bits other found name n = IsNumberOf found name n ⊎ ((n ≡ other) × ((m : ℕ) → m < 2 ^ bits → IsNumberOf found name m → ⊥))

-- The argument `name` is a text of a sign or none and the decimal digits of the stamp.
abbrev pub IsStampOf : Found → List ℕ → ℕ → Type 0
IsStampOf found name stamp =
    (text : Text) × (one_text found name ≡ Some text) × IsNumeral 10 (without_leading_sign text) × (signed_digits_value 10 text ≡ pos stamp)

-- The stamp is the one of the argument `name`, or there is none.
abbrev pub IsOptionalStampOf : Found → List ℕ → Option ℕ → Type 0
IsOptionalStampOf found name (Some stamp) = IsStampOf found name stamp
IsOptionalStampOf found name None = (stamp : ℕ) → stamp ≤ greatest_stamp → IsStampOf found name stamp → ⊥

-- The id is the number of the argument `name`, or there is none.
abbrev pub IsOptionalIdOf : Found → List ℕ → Option ℕ → Type 0
IsOptionalIdOf found name (Some id) = IsNumberOf found name id
IsOptionalIdOf found name None = (id : ℕ) → 1 ≤ id → id ≤ Id.GREATEST → IsNumberOf found name id → ⊥

-- True if the text of the flag `name` is `true`, and false if it is `false` or missing.
pub record IsFlagOf (found : Found) (name : List ℕ) (flag : Bool) : Type 0 where
  pub given : one_text found name ≡ Some (codes "true") → flag ≡ true
  pub not_given : one_text found name ≡ Some (codes "false") → flag ≡ false
  pub missing : one_text found name ≡ None → flag ≡ false
