-- Amounts without a sign, cut before the point.
use Rattle.std.proofs.Common.{◌≡◌, ◌+◌, ◌-◌, ◌*◌, ◌/◌, ◌%◌, ◌<◌, ◌≤◌, ◌^◌, ◌++◌, ℕ, List, [], ◌∷◌, arith, true, refl, sym, ap, get_or, length, take, drop, ◌∙◌}
use Rattle.std.specs.Prelude.{suc, ℤ, pos, negsuc}
use Rattle.std.specs.Fmt.{decimal}
use Rattle.std.proofs.lemmas.List.{length-append, take_at, drop_at, take-append-drop, get_or_append_left, take_all}
use Rattle.brk_money.specs.Spelling.{unsigned_cents_text, cents_text, IsWithinAmountLimit}
use Rattle.std.proofs.lemmas.Fmt.{decimal_injective}
use Rattle.std.proofs.lemmas.Str.Parse.{tells_all_ascii_digits}
use Rattle.std.specs.Str.{all_ascii_digits}
use Rattle.brk_money.proofs.Digits.{whole_only}

-- The bytes `bs` consist of the digits of the whole units of `n` cents, a point and two digits.
pub record IsPlain (bs : List ℕ) (n : ℕ) : Type 0 where
  pub long : 3 ≤ length bs
  pub whole : take (length bs - 3) bs ≡ decimal (n / 100)
  pub rest : drop (length bs - 3) bs ≡ 46 ∷ (48 + n % 100 / 10) ∷ (48 + n % 10) ∷ []

cut : (ds cs bs : List ℕ) → length cs ≡ 3 → bs ≡ ds ++ cs → (3 ≤ length bs) × (take (length bs - 3) bs ≡ ds) × (drop (length bs - 3) bs ≡ cs)
cut ds cs bs three e =
    let size : length bs ≡ length ds + length cs = ap length e ∙ length-append ds cs in
    let place : length ds ≡ length bs - 3 = omega arith in
    (omega arith, ap (take (length bs - 3)) e ∙ take_at ds cs (length bs - 3) place, ap (drop (length bs - 3)) e ∙ drop_at ds cs (length bs - 3) place)

pub plain_split : (bs : List ℕ) (n : ℕ) → bs ≡ unsigned_cents_text n → IsPlain bs n
plain_split bs n e =
    let c = cut (decimal (n / 100)) (46 ∷ (48 + n % 100 / 10) ∷ (48 + n % 10) ∷ []) bs refl e in
    record { long = c.0; whole = c.1; rest = c.2 }

three_of : (cs : List ℕ) → length cs ≡ 3 → cs ≡ get_or cs 0 0 ∷ get_or cs 1 0 ∷ get_or cs 2 0 ∷ []
three_of [] h = absurd (omega arith)
three_of (a ∷ []) h = absurd (omega arith)
three_of (a ∷ b ∷ []) h = absurd (omega arith)
three_of (a ∷ b ∷ c ∷ []) h = refl
three_of (a ∷ b ∷ c ∷ d ∷ ds) h = absurd (omega arith)

-- a whole number, a point and two digits are the text of an amount
pub plain_joined : (bs : List ℕ) (k u : ℕ) → length (drop k bs) ≡ 3 → take k bs ≡ decimal u → get_or (drop k bs) 0 0 ≡ 46
    → 48 ≤ get_or (drop k bs) 1 0 → get_or (drop k bs) 1 0 ≤ 57 → 48 ≤ get_or (drop k bs) 2 0 → get_or (drop k bs) 2 0 ≤ 57
    → bs ≡ unsigned_cents_text (u * 100 + (get_or (drop k bs) 1 0 - 48) * 10 + (get_or (drop k bs) 2 0 - 48))
plain_joined bs k u three front point tl th ol oh =
    let t = get_or (drop k bs) 1 0 in
    let o = get_or (drop k bs) 2 0 in
    let n = u * 100 + (t - 48) * 10 + (o - 48) in
    let units : n / 100 ≡ u = omega arith in
    let tens : 48 + n % 100 / 10 ≡ t = omega arith in
    let ones : 48 + n % 10 ≡ o = omega arith in
    sym (take-append-drop k bs) ∙ ap (λ (p : List ℕ). take k bs ++ p) (three_of (drop k bs) three)
    ∙ rw (front, point, units, tens, ones) refl

-- what the parts of an amount read as
pub plain_reads : (bs : List ℕ) (k n u : ℕ) → n ≤ 10 ^ 17 → u ≤ 10 ^ 17 → IsPlain bs n → k ≡ length bs - 3 → take k bs ≡ decimal u
    → u * 100 + (get_or (drop k bs) 1 0 - 48) * 10 + (get_or (drop k bs) 2 0 - 48) ≡ n
plain_reads bs k n u small fits p at front =
    let units : u ≡ n / 100 = decimal_injective u (n / 100) (omega arith) (omega arith) (sym front ∙ rw at p.whole) in
    let rest : drop k bs ≡ 46 ∷ (48 + n % 100 / 10) ∷ (48 + n % 10) ∷ [] = rw at p.rest in
    rw rest (omega arith)

-- no two amounts without a sign are spelled alike
pub plain_injective : (m n : ℕ) → m ≤ 10 ^ 17 → n ≤ 10 ^ 17 → unsigned_cents_text m ≡ unsigned_cents_text n → m ≡ n
plain_injective m n fm fn e =
    let bs = unsigned_cents_text m in
    let p = plain_split bs m refl in
    let q = plain_split bs n e in
    sym (plain_reads bs (length bs - 3) m (m / 100) fm (omega arith) p refl p.whole) ∙ plain_reads bs (length bs - 3) n (m / 100) fn (omega arith) q refl p.whole

starts : (ds : List ℕ) → all_ascii_digits ds ≡ true → 0 < length ds → 48 ≤ get_or ds 0 0
starts [] p h = absurd (omega arith)
starts (c ∷ cs) p h = let digit = (tells_all_ascii_digits.parts c cs p).0 in omega (arith, digit)

-- an amount without a sign begins with a digit
pub plain_first : (n : ℕ) → n ≤ 10 ^ 17 → 48 ≤ get_or (unsigned_cents_text n) 0 0
plain_first n h =
    let w = whole_only (decimal (n / 100)) (n / 100) (omega arith) refl in
    let first = starts (decimal (n / 100)) w.digits w.some in
    rw (get_or_append_left (decimal (n / 100)) (46 ∷ (48 + n % 100 / 10) ∷ (48 + n % 10) ∷ []) 0 0 w.some) first

-- what is spelled with a minus is an amount below 0
pub minus_only : (bs : List ℕ) (z : ℤ) → IsWithinAmountLimit z → bs ≡ cents_text z → get_or bs 0 0 ≡ 45
    → (n : ℕ) × (n ≤ 10 ^ 17) × (0 < n) × (take (length bs - 1) (drop 1 bs) ≡ unsigned_cents_text n)
minus_only bs (pos n) h e first =
    let other = plain_first n h in
    let same : get_or bs 0 0 ≡ get_or (unsigned_cents_text n) 0 0 = ap (λ (l : List ℕ). get_or l 0 0) e in
    absurd (omega arith)
minus_only bs (negsuc n) h e first =
    (suc n, h, omega arith, ap (λ (l : List ℕ). take (length l - 1) (drop 1 l)) e ∙ take_all (length (45 ∷ unsigned_cents_text (suc n)) - 1) (unsigned_cents_text (suc n)) (omega arith))

-- no two amounts are spelled alike
pub cents_injective : (y z : ℤ) → IsWithinAmountLimit y → IsWithinAmountLimit z → cents_text y ≡ cents_text z → y ≡ z
cents_injective (pos m) (pos n) a b e = ap pos (plain_injective m n a b e)
cents_injective (pos m) (negsuc n) a b e =
    let first = plain_first m a in
    let same : get_or (unsigned_cents_text m) 0 0 ≡ 45 = ap (λ (l : List ℕ). get_or l 0 0) e in
    absurd (omega arith)
cents_injective (negsuc m) (pos n) a b e =
    let first = plain_first n b in
    let same : 45 ≡ get_or (unsigned_cents_text n) 0 0 = ap (λ (l : List ℕ). get_or l 0 0) e in
    absurd (omega arith)
cents_injective (negsuc m) (negsuc n) a b e =
    let same = plain_injective (suc m) (suc n) a b (ap (drop 1) e) in
    ap negsuc (omega (arith, same))
