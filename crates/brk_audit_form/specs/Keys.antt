-- The order of keys.
use Rattle.std.specs.Prelude.{List, [], ◌∷◌}
use Rattle.std.specs.declared.cmp.Ordering.{Ordering}
use Rattle.std.specs.declared.cmp.Ordering.TheVariants.{Less, Equal, Greater}
use Rattle.std.specs.Ordering.{nat_cmp, ordering_then}
use Rattle.std.specs.Cmp.Lexicographic.{slice_cmp}
use Rattle.brk_model.specs.Keys.{KeyPart, number, word}

-- The order of two key parts: numbers by size, texts by bytes, a number before a text.
abbrev pub key_part_cmp : KeyPart → KeyPart → Ordering
key_part_cmp (number m) (number n) = nat_cmp m n
key_part_cmp (word s) (word t) = slice_cmp nat_cmp s t
key_part_cmp (number m) (word t) = Less
key_part_cmp (word s) (number n) = Greater

-- The lexicographic order of two keys; a key that is a proper prefix of the other is less.
abbrev pub key_cmp : List KeyPart → List KeyPart → Ordering
key_cmp [] [] = Equal
key_cmp [] (k ∷ ks) = Less
key_cmp (j ∷ js) [] = Greater
key_cmp (j ∷ []) (k ∷ []) = key_part_cmp j k
key_cmp (j ∷ js) (k ∷ ks) = ordering_then (key_part_cmp j k) (key_cmp js ks)
