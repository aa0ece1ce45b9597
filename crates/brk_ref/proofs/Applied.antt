-- Fields that are read side by side, where the only refusal is `BadText`.
use Rattle.std.proofs.Common.{◌≡◌, refl, arith, cond}
use Rattle.std.specs.Prelude.{Ok, Err, nat_le}
use Rattle.brk_money.specs.declared.refusal.Refusal.{Refusal}
use Rattle.brk_money.specs.declared.refusal.Refusal.TheVariants.{BadText, BadQty, BadPrice, BadType, TooMany, KeyReused, NoAccount, NoCustomer, NoBroker}
use Rattle.brk_money.specs.declared.refusal.Refusal.TheVariants.{NoSecurity, NoTrade, NoTax, WrongStatus, NotPermitted, Exists, Overlap, TaxSum, NoCharge}
use Rattle.brk_money.specs.declared.refusal.Refusal.TheVariants.{NoRate, Range, ClockEnd, TooEarly}
use Rattle.std.proofs.lemmas.Bool.{le-leb}
use Rattle.brk_model.specs.Forms.{ReadResult, format_refusal_rank, ◌⊛◌}

-- a refusal of text stands before every other one
least : (r : Refusal) → cond (nat_le (format_refusal_rank r) 0) r BadText ≡ BadText
least BadText = refl
least BadQty = refl
least BadPrice = refl
least BadType = refl
least TooMany = refl
least KeyReused = refl
least NoAccount = refl
least NoCustomer = refl
least NoBroker = refl
least NoSecurity = refl
least NoTrade = refl
least NoTax = refl
least (WrongStatus x) = refl
least NotPermitted = refl
least Exists = refl
least Overlap = refl
least TaxSum = refl
least NoCharge = refl
least NoRate = refl
least (Range x) = refl
least ClockEnd = refl
least TooEarly = refl

pub text_left : {A B : Type 0} (f : ReadResult (A → B)) (x : ReadResult A) → f ≡ Err BadText → f ⊛ x ≡ Err BadText
text_left f (Ok x) e = rw e refl
text_left f (Err s) e = rw (e, le-leb 0 (format_refusal_rank s) (omega arith)) refl

pub text_right : {A B : Type 0} (f : ReadResult (A → B)) (x : ReadResult A) → x ≡ Err BadText → f ⊛ x ≡ Err BadText
text_right (Ok f) x e = rw e refl
text_right (Err r) x e = rw (e, least r) refl

-- a charge of whose fields the tier or the amount is refused
pub no_charge_tier : {A B C D : Type 0} (f : A → B → C → D) (a : ReadResult A) (b : ReadResult B) (c : ReadResult C) → b ≡ Err BadText → Ok f ⊛ a ⊛ b ⊛ c ≡ Err BadText
no_charge_tier f a b c h = text_left (Ok f ⊛ a ⊛ b) c (text_right (Ok f ⊛ a) b h)

pub no_charge_amount : {A B C D : Type 0} (f : A → B → C → D) (a : ReadResult A) (b : ReadResult B) (c : ReadResult C) → c ≡ Err BadText → Ok f ⊛ a ⊛ b ⊛ c ≡ Err BadText
no_charge_amount f a b c h = text_right (Ok f ⊛ a ⊛ b) c h

-- one of five values is refused as text
module _ {A B C D E F : Type 0} (f : A → B → C → D → E → F) (a : ReadResult A) (b : ReadResult B) (c : ReadResult C) (d : ReadResult D) (e : ReadResult E)
  where
    pub first_of_five_refused : a ≡ Err BadText → Ok f ⊛ a ⊛ b ⊛ c ⊛ d ⊛ e ≡ Err BadText
    first_of_five_refused h =
        text_left (Ok f ⊛ a ⊛ b ⊛ c ⊛ d) e (text_left (Ok f ⊛ a ⊛ b ⊛ c) d (text_left (Ok f ⊛ a ⊛ b) c (text_left (Ok f ⊛ a) b (text_right (Ok f) a h))))

    pub second_of_five_refused : b ≡ Err BadText → Ok f ⊛ a ⊛ b ⊛ c ⊛ d ⊛ e ≡ Err BadText
    second_of_five_refused h =
        text_left (Ok f ⊛ a ⊛ b ⊛ c ⊛ d) e (text_left (Ok f ⊛ a ⊛ b ⊛ c) d (text_left (Ok f ⊛ a ⊛ b) c (text_right (Ok f ⊛ a) b h)))

    pub third_of_five_refused : c ≡ Err BadText → Ok f ⊛ a ⊛ b ⊛ c ⊛ d ⊛ e ≡ Err BadText
    third_of_five_refused h = text_left (Ok f ⊛ a ⊛ b ⊛ c ⊛ d) e (text_left (Ok f ⊛ a ⊛ b ⊛ c) d (text_right (Ok f ⊛ a ⊛ b) c h))

    pub fourth_of_five_refused : d ≡ Err BadText → Ok f ⊛ a ⊛ b ⊛ c ⊛ d ⊛ e ≡ Err BadText
    fourth_of_five_refused h = text_left (Ok f ⊛ a ⊛ b ⊛ c ⊛ d) e (text_right (Ok f ⊛ a ⊛ b ⊛ c) d h)

    pub fifth_of_five_refused : e ≡ Err BadText → Ok f ⊛ a ⊛ b ⊛ c ⊛ d ⊛ e ≡ Err BadText
    fifth_of_five_refused h = text_right (Ok f ⊛ a ⊛ b ⊛ c ⊛ d) e h

-- one of six values is refused as text
module _ {A B C D E F G : Type 0} (f : A → B → C → D → E → F → G) (a : ReadResult A) (b : ReadResult B) (c : ReadResult C) (d : ReadResult D) (e : ReadResult E)
    (o : ReadResult F)
  where
    pub first_of_six_refused : a ≡ Err BadText → Ok f ⊛ a ⊛ b ⊛ c ⊛ d ⊛ e ⊛ o ≡ Err BadText
    first_of_six_refused h = text_left (Ok f ⊛ a ⊛ b ⊛ c ⊛ d ⊛ e) o (first_of_five_refused f a b c d e h)

    pub second_of_six_refused : b ≡ Err BadText → Ok f ⊛ a ⊛ b ⊛ c ⊛ d ⊛ e ⊛ o ≡ Err BadText
    second_of_six_refused h = text_left (Ok f ⊛ a ⊛ b ⊛ c ⊛ d ⊛ e) o (second_of_five_refused f a b c d e h)

    pub third_of_six_refused : c ≡ Err BadText → Ok f ⊛ a ⊛ b ⊛ c ⊛ d ⊛ e ⊛ o ≡ Err BadText
    third_of_six_refused h = text_left (Ok f ⊛ a ⊛ b ⊛ c ⊛ d ⊛ e) o (third_of_five_refused f a b c d e h)

    pub fourth_of_six_refused : d ≡ Err BadText → Ok f ⊛ a ⊛ b ⊛ c ⊛ d ⊛ e ⊛ o ≡ Err BadText
    fourth_of_six_refused h = text_left (Ok f ⊛ a ⊛ b ⊛ c ⊛ d ⊛ e) o (fourth_of_five_refused f a b c d e h)

    pub fifth_of_six_refused : e ≡ Err BadText → Ok f ⊛ a ⊛ b ⊛ c ⊛ d ⊛ e ⊛ o ≡ Err BadText
    fifth_of_six_refused h = text_left (Ok f ⊛ a ⊛ b ⊛ c ⊛ d ⊛ e) o (fifth_of_five_refused f a b c d e h)

    pub sixth_of_six_refused : o ≡ Err BadText → Ok f ⊛ a ⊛ b ⊛ c ⊛ d ⊛ e ⊛ o ≡ Err BadText
    sixth_of_six_refused h = text_right (Ok f ⊛ a ⊛ b ⊛ c ⊛ d ⊛ e) o h
