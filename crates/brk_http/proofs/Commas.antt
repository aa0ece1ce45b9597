-- No field of a reply has a comma.
use Rattle.std.proofs.Common.{◌≡◌, ℕ, zero, suc, ◌+◌, ◌-◌, ◌/◌, ◌%◌, List, [], ◌∷◌, ◌++◌, Bool, true, false, cond, eqb, refl, ap, ◌∙◌, arith, map, length, replicate}
use Rattle.std.specs.Prelude.{⊤, decimal, ℤ, pos, negsuc, ◌==◌}
use Rattle.std.specs.Fmt.{digits, digits_onto, digit_glyph}
use Rattle.std.specs.List.{join_with_byte, slice_split}
use Rattle.std.proofs.lemmas.Bool.Decides.{nat_tests}
use Rattle.brk_money.specs.Spelling.{Text, cents_text, date_text, unsigned_cents_text, padded_decimal}
use Rattle.brk_money.specs.Moments.{CivilDate, civil_date_of_day}
use Rattle.brk_money.specs.Kinds.{trade_status_code}
use Rattle.brk_money.specs.declared.status.Status.{Status}
use Rattle.brk_money.specs.declared.status.Status.TheVariants.{Completed, Active, Submitted, Pending, Canceled}
use Rattle.brk_model.specs.Commands.{Reply, Booked, Ordered, Ticked, CanceledTrade, CompletedTrade, Changed, Estimate, Completion, Estimated, MovedCash}
use Rattle.brk_model.specs.Rows.{completion_fields, estimate_fields, line_text, reply_fields}
use Rattle.brk_model_http.specs.Routes.{split_at_byte}

-- No byte of the text is a comma.
abbrev Plain : Text → Type 0
Plain [] = ⊤
Plain (b ∷ text) = (eqb b 44 ≡ false) × Plain text

-- No byte of any text of the list is a comma.
abbrev AllPlain : List Text → Type 0
AllPlain [] = ⊤
AllPlain (text ∷ texts) = Plain text × AllPlain texts

joins : (a b : Text) → Plain a → Plain b → Plain (a ++ b)
joins [] b p q = q
joins (x ∷ a) b (h, p) q = (h, joins a b p q)

glyph : (d : ℕ) → eqb (digit_glyph false d) 44 ≡ false
glyph d = grind (arith, nat_tests)

either : (t : Bool) (a b : Text) → Plain a → Plain b → Plain (cond t a b)
either true a b p q = p
either false a b p q = q

onto : (k n : ℕ) (acc : Text) → Plain acc → Plain (digits_onto k 10 false n acc)
onto zero n acc p = p
onto (suc k) n acc p =
    let more = digit_glyph false (n % 10) ∷ acc in
    either (n / 10 == 0) more (digits_onto k 10 false (n / 10) more) (glyph (n % 10), p) (onto k (n / 10) more (glyph (n % 10), p))

number : (n : ℕ) → Plain (decimal n)
unfolding digits
number n = onto 64 n [] tt

zeros : (k : ℕ) → Plain (replicate k 48)
zeros zero = tt
zeros (suc k) = (refl, zeros k)

digit : (n : ℕ) → eqb (48 + n) 44 ≡ false
digit n = grind (arith, nat_tests)

magnitude : (n : ℕ) → Plain (unsigned_cents_text n)
magnitude n = joins (decimal (n / 100)) _ (number (n / 100)) (refl, (digit (n % 100 / 10), (digit (n % 10), tt)))

cents : (n : ℤ) → Plain (cents_text n)
cents (pos n) = magnitude n
cents (negsuc n) = (refl, magnitude (suc n))

padded : (places n : ℕ) → Plain (padded_decimal places n)
padded places n = joins (replicate (places - length (decimal n)) 48) (decimal n) (zeros (places - length (decimal n))) (number n)

date : (d : CivilDate) → Plain (date_text d)
date d =
    joins (padded_decimal 4 d.year ++ 45 ∷ padded_decimal 2 d.month) (45 ∷ padded_decimal 2 d.day)
    (joins (padded_decimal 4 d.year) (45 ∷ padded_decimal 2 d.month) (padded 4 d.year) (refl, padded 2 d.month)) (refl, padded 2 d.day)

status : (s : Status) → Plain (trade_status_code s)
status Completed = (refl, (refl, (refl, (refl, tt))))
status Active = (refl, (refl, (refl, (refl, tt))))
status Submitted = (refl, (refl, (refl, (refl, tt))))
status Pending = (refl, (refl, (refl, (refl, tt))))
status Canceled = (refl, (refl, (refl, (refl, tt))))

numbers : (ns : List ℕ) → AllPlain (map decimal ns)
numbers [] = tt
numbers (n ∷ ns) = (number n, numbers ns)

estimate : (e : Estimate) → AllPlain (estimate_fields e)
estimate e =
    (cents (pos e.price), (cents (pos e.buy_value), (cents (pos e.sell_value), (cents (pos e.tax), (cents (pos e.commission), (cents (pos e.charge), (cents e.assets, tt)))))))

completion : (c : Completion) → AllPlain (completion_fields c)
completion c =
    (cents (pos c.commission), (cents (pos c.tax), (cents c.amount, (date (civil_date_of_day c.due_day), (cents (pos c.buy_value), (cents (pos c.sell_value), (cents c.balance, tt)))))))

fields : (reply : Reply) → AllPlain (reply_fields reply)
unfolding reply_fields
fields (Booked stamp) = (number stamp, tt)
fields (Ordered stamp trade s e) = (number stamp, (number trade, (status s, estimate e)))
fields (Ticked stamp triggered) = (number stamp, numbers triggered)
fields (CanceledTrade stamp) = (number stamp, ((refl, (refl, (refl, (refl, tt)))), tt))
fields (CompletedTrade stamp c) = (number stamp, completion c)
fields (Changed stamp count) = (number stamp, (number count, tt))
fields (MovedCash stamp move balance) = (number stamp, (number move, (cents balance, tt)))
fields (Estimated e) = estimate e

-- ---- cutting

-- True if the byte is a comma.
abbrev is_comma : ℕ → Bool
is_comma b = eqb b 44

cut_last : (text : Text) → Plain text → slice_split is_comma text ≡ text ∷ []
cut_last [] p = refl
cut_last (b ∷ text) (h, p) = rw (h, cut_last text p) refl

cut_first : (text rest : Text) → Plain text → slice_split is_comma (text ++ 44 ∷ rest) ≡ text ∷ slice_split is_comma rest
cut_first [] rest p = refl
cut_first (b ∷ text) rest (h, p) = rw (h, cut_first text rest p) refl

cut : (text : Text) (texts : List Text) → AllPlain (text ∷ texts) → slice_split is_comma (join_with_byte 44 (text ∷ texts)) ≡ text ∷ texts
cut text [] (p, q) = cut_last text p
cut text (next ∷ texts) (p, q) = cut_first text (join_with_byte 44 (next ∷ texts)) p ∙ ap (λ ts. text ∷ ts) (cut next texts q)

pub fields_cut : (reply : Reply) → split_at_byte 44 (line_text reply) ≡ reply_fields reply
unfolding split_at_byte reply_fields
fields_cut (Booked stamp) = cut _ _ (fields (Booked stamp))
fields_cut (Ordered stamp trade s e) = cut _ _ (fields (Ordered stamp trade s e))
fields_cut (Ticked stamp triggered) = cut _ _ (fields (Ticked stamp triggered))
fields_cut (CanceledTrade stamp) = cut _ _ (fields (CanceledTrade stamp))
fields_cut (CompletedTrade stamp c) = cut _ _ (fields (CompletedTrade stamp c))
fields_cut (Changed stamp count) = cut _ _ (fields (Changed stamp count))
fields_cut (MovedCash stamp move balance) = cut _ _ (fields (MovedCash stamp move balance))
fields_cut (Estimated e) = cut _ _ (fields (Estimated e))
