-- Bytes that pass a format check are UTF-8. These are facts for proofs, and no contract cites them.
use Rattle.std.proofs.Common.{◌≡◌, ◌<◌, ℕ, List, [], ◌∷◌, Bool, true, false, refl, arith, ◌&&◌}
use Rattle.std.specs.Prelude.{nat_le, zero, suc, ◌==◌, ◌||◌}
use Rattle.std.specs.List.{list_all}
use Rattle.std.specs.Str.{is_utf8, IsUtf8, IsAscii}
use Rattle.std.specs.Char.{is_ascii_alphanumeric}
use Rattle.std.proofs.lemmas.Str.{IsUtf8-from_ascii, IsUtf8-from_is_utf8}
use Rattle.std.proofs.lemmas.Bool.{leb-true, eqb-true}
use Rattle.brk_model.specs.Forms.{is_word_up_to_length, is_name, is_tax_id, is_symbol, is_exchange, is_acl, is_batch_name}

-- If the conjunction of `a` and `b` is true, `a` is true.
first_conjunct_is_true : (a b : Bool) → a && b ≡ true → a ≡ true
first_conjunct_is_true true b h = refl
first_conjunct_is_true false b h = h

-- If the conjunction of `a` and `b` is true, `b` is true.
second_conjunct_is_true : (a b : Bool) → a && b ≡ true → b ≡ true
second_conjunct_is_true true b h = h
second_conjunct_is_true false b h = absurd (cc)

-- If the disjunction of `a` and `b` is true, and each of them implies `P`, then `P` holds.
holds_by_either_disjunct : (a b : Bool) (P : Type 0) → (a ≡ true → P) → (b ≡ true → P) → a || b ≡ true → P
holds_by_either_disjunct true b P p q h = p refl
holds_by_either_disjunct false b P p q h = q h

-- A byte `c` from `low` to `high`, both included, is below 128 if `high` is.
byte_in_ascii_range_is_ascii : (low high c : ℕ) → high < 128 → nat_le low c && nat_le c high ≡ true → c < 128
byte_in_ascii_range_is_ascii low high c below h = let k = leb-true c high (second_conjunct_is_true (nat_le low c) (nat_le c high) h) in omega (arith, k, below)

-- A byte `c` that equals `mark` is below 128 if `mark` is.
byte_equal_to_ascii_is_ascii : (mark c : ℕ) → mark < 128 → c == mark ≡ true → c < 128
byte_equal_to_ascii_is_ascii mark c below h = let k : c ≡ mark = eqb-true c mark h in omega (arith, k, below)

-- A byte that is an ASCII letter or digit is below 128.
alphanumeric_byte_is_ascii : (c : ℕ) → is_ascii_alphanumeric c ≡ true → c < 128
alphanumeric_byte_is_ascii c h =
    holds_by_either_disjunct _ _ (c < 128)
    (holds_by_either_disjunct _ _ (c < 128)
    (byte_in_ascii_range_is_ascii 48 57 c (omega arith))
    (byte_in_ascii_range_is_ascii 65 90 c (omega arith)))
    (byte_in_ascii_range_is_ascii 97 122 c (omega arith)) h

-- A text is ASCII if each of its bytes passes `test`, and only bytes below 128 pass `test`.
text_is_ascii_if_each_byte_is : (test : ℕ → Bool) → ((c : ℕ) → test c ≡ true → c < 128) → (text : List ℕ) → list_all test text ≡ true → IsAscii text
text_is_ascii_if_each_byte_is test low [] h i = omega arith
text_is_ascii_if_each_byte_is test low (c ∷ cs) h zero = low c (first_conjunct_is_true (test c) (list_all test cs) h)
text_is_ascii_if_each_byte_is test low (c ∷ cs) h (suc i) = text_is_ascii_if_each_byte_is test low cs (second_conjunct_is_true (test c) (list_all test cs) h) i

-- A text of 1 to `most` bytes that each pass `test` is UTF-8 if only bytes below 128 pass `test`.
text_of_ascii_bytes_is_utf8 : (most : ℕ) (test : ℕ → Bool) → ((c : ℕ) → test c ≡ true → c < 128) → (text : List ℕ)
    → is_word_up_to_length most test text ≡ true → IsUtf8 text
text_of_ascii_bytes_is_utf8 most test low text h =
    IsUtf8-from_ascii text (text_is_ascii_if_each_byte_is test low text (second_conjunct_is_true _ (list_all test text) h))

-- A text that has the format of a name is UTF-8.
pub name_is_utf8 : (text : List ℕ) → is_name text ≡ true → IsUtf8 text
name_is_utf8 text h = IsUtf8-from_is_utf8 text (second_conjunct_is_true _ (is_utf8 text) (first_conjunct_is_true _ _ h))

-- A text that has the format of a tax id is UTF-8.
pub tax_id_is_utf8 : (text : List ℕ) → is_tax_id text ≡ true → IsUtf8 text
tax_id_is_utf8 =
    text_of_ascii_bytes_is_utf8 20 _
    (λ c. holds_by_either_disjunct _ _ (c < 128) (alphanumeric_byte_is_ascii c) (byte_equal_to_ascii_is_ascii 45 c (omega arith)))

-- A text that has the format of a symbol is UTF-8.
pub symbol_is_utf8 : (text : List ℕ) → is_symbol text ≡ true → IsUtf8 text
symbol_is_utf8 =
    text_of_ascii_bytes_is_utf8 15 _
    (λ c. holds_by_either_disjunct _ _ (c < 128)
    (holds_by_either_disjunct _ _ (c < 128)
    (holds_by_either_disjunct _ _ (c < 128)
    (byte_in_ascii_range_is_ascii 65 90 c (omega arith))
    (byte_in_ascii_range_is_ascii 48 57 c (omega arith)))
    (byte_equal_to_ascii_is_ascii 46 c (omega arith)))
    (byte_equal_to_ascii_is_ascii 45 c (omega arith)))

-- A text that has the format of an exchange is UTF-8.
pub exchange_is_utf8 : (text : List ℕ) → is_exchange text ≡ true → IsUtf8 text
exchange_is_utf8 = text_of_ascii_bytes_is_utf8 6 _ (λ c. byte_in_ascii_range_is_ascii 65 90 c (omega arith))

-- A text that has the format of the name of a batch is UTF-8.
pub batch_name_is_utf8 : (text : List ℕ) → is_batch_name text ≡ true → IsUtf8 text
batch_name_is_utf8 =
    text_of_ascii_bytes_is_utf8 40 _
    (λ c. holds_by_either_disjunct _ _ (c < 128)
    (holds_by_either_disjunct _ _ (c < 128)
    (holds_by_either_disjunct _ _ (c < 128)
    (alphanumeric_byte_is_ascii c)
    (byte_equal_to_ascii_is_ascii 46 c (omega arith)))
    (byte_equal_to_ascii_is_ascii 45 c (omega arith)))
    (byte_equal_to_ascii_is_ascii 95 c (omega arith)))

-- A text that has the format of the rights of a permission is UTF-8.
pub acl_is_utf8 : (text : List ℕ) → is_acl text ≡ true → IsUtf8 text
acl_is_utf8 text h =
    IsUtf8-from_ascii text
    (text_is_ascii_if_each_byte_is (λ c. (c == 48)
    || (c == 49)) (λ c. holds_by_either_disjunct _ _ (c
    < 128) (byte_equal_to_ascii_is_ascii 48 c (omega arith)) (byte_equal_to_ascii_is_ascii 49 c (omega arith))) text (second_conjunct_is_true _ _ h))
