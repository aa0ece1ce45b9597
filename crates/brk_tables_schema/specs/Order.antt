-- Keys in the order in which the database compares them.
use Rattle.std.specs.Prelude.{pos, List, map}
use Rattle.std.specs.declared.cmp.Ordering.{Ordering}
use Rattle.std.specs.Cmp.Lexicographic.{slice_cmp}
use Rattle.sqlite_value.specs.declared.value.Value.{Value}
use Rattle.sqlite_value.specs.declared.value.Value.TheVariants.{Int, Text as Words}
use Rattle.sqlite_value.specs.Order.{Row, value_cmp}
use Rattle.brk_model.specs.Keys.{KeyPart, number, word}

-- The SQL value of one part of a key: an INTEGER for a number, a TEXT for a text.
abbrev pub key_part_value : KeyPart → Value
key_part_value (number n) = Int (pos n)
key_part_value (word s) = Words s

-- The SQL values of the parts of a key, in order.
abbrev pub key_values : List KeyPart → Row
key_values = map key_part_value

-- The ordering of two records `x` and `y` by their keys, which `key` returns: the first parts that
-- differ decide, in the order of SQL values. A key is less than any longer key that begins with it.
abbrev pub ordering_by_key : {X : Type 0} → (X → List KeyPart) → X → X → Ordering
ordering_by_key key x y = slice_cmp value_cmp (key_values (key x)) (key_values (key y))
