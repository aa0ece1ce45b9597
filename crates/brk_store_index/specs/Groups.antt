-- The ages of the groups that a number names, or a number and a symbol.
use Rattle.std.specs.Prelude.{◌==◌, ◌&&◌, ℕ, Bool, List, [], Option, Some, None, bytes_eq, nat_eq}
use Rattle.std.specs.declared.alloc.Global.{Global}
use Rattle.std.specs.HashMap.{HashMap, get, get_by_text}
use Rattle.std.specs.declared.collections.VecDeque.{VecDeque}
use Rattle.std.specs.declared.string.String.{String}
use Rattle.brk_money.specs.Spelling.{Text}
use Rattle.brk_store_index.specs.Ages.{ages_in}
use Rattle.brk_store_index.specs.declared.age.RowAge.{RowAge}
use Rattle.brk_store_index.specs.declared.by_number.AgesByNumber.{AgesByNumber}
use Rattle.brk_store_index.specs.declared.by_position.AgesByPosition.{AgesByPosition}

-- The ages of the group with the number.
abbrev pub ages_of_number : AgesByNumber → ℕ → List RowAge
ages_of_number groups number = ages_in (get nat_eq groups.groups number)

-- The ages of the rows with the security `symbol`, of the ages by symbol of a number.
abbrev pub ages_of_symbol : {S : Type 0} → Option (HashMap (String Global) (VecDeque RowAge Global) S) → Text → List RowAge
ages_of_symbol None symbol = []
ages_of_symbol (Some symbols) symbol = ages_in (get_by_text symbols symbol)

-- The ages of the group with the number and the symbol.
abbrev pub ages_of_position : AgesByPosition → ℕ → Text → List RowAge
ages_of_position groups number symbol = ages_of_symbol (get nat_eq groups.numbers number) symbol

-- True if the numbers and the symbols are equal.
abbrev pub is_same_position : ℕ → Text → ℕ → Text → Bool
is_same_position number symbol other name = (number == other) && bytes_eq symbol name
