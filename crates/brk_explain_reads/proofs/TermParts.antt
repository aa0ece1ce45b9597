-- The tax rates and the band of a trade, from the rows that were read.
use Rattle.std.proofs.Common.{◌≡◌, ◌∙◌, ◌==◌, ◌&&◌, ◌++◌, ℕ, Bool, true, false, cond, List, [], ◌∷◌, Option, Some, None, ap, filter, find, map, refl, sym}
use Rattle.std.specs.Prelude.{bytes_eq, flat_map, nat_le, option_to_list}
use Rattle.std.specs.Option.{option_or}
use Rattle.std.proofs.lemmas.List.{map-append}
use Rattle.std.proofs.lemmas.List.Folds.{find-append}
use Rattle.brk_money.specs.Spelling.{Text}
use Rattle.brk_money.specs.Kinds.{is_same_trade_type}
use Rattle.brk_model.specs.Records.{Band}
use Rattle.brk_model.specs.Tables.{Tables, TradeRow}
use Rattle.brk_model_explain.specs.Trades.{band_for_tier_and_exchange}
use Rattle.brk_explain_reads.proofs.Each.{find_both, find_same}

-- what was found one by one
pub one_by_one : {X Y : Type 0} (look : X → Option Y) (xs : List X) (ys : List Y) → map Some ys ≡ map look xs → ys ≡ flat_map (λ x. option_to_list (look x)) xs
one_by_one look [] [] e = refl
one_by_one look [] (y ∷ ys) e = absurd (cc)
one_by_one look (x ∷ xs) [] e = absurd (cc)
one_by_one look (x ∷ xs) (y ∷ ys) e =
    let first : Some y ≡ look x = cc in
    let rest : map Some ys ≡ map look xs = cc in
    ap (λ zs. y ∷ zs) (one_by_one look xs ys rest) ∙ ap (λ o. option_to_list o ++ flat_map (λ x. option_to_list (look x)) xs) first

-- ---- the first one that passes, from the last one on

or_none : {X : Type 0} (o : Option X) → option_or o None ≡ o
or_none None = refl
or_none (Some x) = refl

or_or : {X : Type 0} (a b c : Option X) → option_or (option_or a b) c ≡ option_or a (option_or b c)
or_or None b c = refl
or_or (Some x) b c = refl

or_cond : {X : Type 0} (b : Bool) (x : X) (o : Option X) → option_or (cond b (Some x) None) o ≡ cond b (Some x) o
or_cond true x o = refl
or_cond false x o = refl

pub first_last : {X : Type 0} (p : X → Bool) (xs : List X) → find p xs ≡ option_or (find p xs) None
first_last p xs = sym (or_none (find p xs))

pub first_before : {X Y : Type 0} (f : X → Y) (p : Y → Bool) (before rest : List X) (x : X) (found new : Option Y) (whole : Option Y) → before ≡ rest ++ x ∷ []
    → whole ≡ option_or (find p (map f before)) found → new ≡ cond (p (f x)) (Some (f x)) found → whole ≡ option_or (find p (map f rest)) new
first_before f p before rest x found new whole is e n =
    e ∙ ap (λ xs. option_or (find p (map f xs)) found) is ∙ ap (λ ys. option_or (find p ys) found) (map-append f rest (x ∷ []))
    ∙ ap (λ o. option_or o found) (find-append p (map f rest) (f x ∷ []))
    ∙ or_or (find p (map f rest)) (find p (f x ∷ [])) found
    ∙ ap (option_or (find p (map f rest))) (or_cond (p (f x)) (f x) found ∙ sym n)

-- ---- the band

pairs : (a b c d e : Bool) → a && b && c && d && e ≡ (a && b && c) && (d && e)
pairs true true true d e = refl
pairs true true false d e = refl
pairs true false c d e = refl
pairs false b c d e = refl

pub band_known : (t : Tables) (u : TradeRow) (tier : ℕ) (exchange : Text) (band : Option Band) (bands : List Band)
    → bands ≡ filter (λ r. (r.tier == tier) && is_same_trade_type r.kind u.kind && bytes_eq r.exchange exchange) t.bands
    → band ≡ find (λ b. nat_le b.from_qty u.qty && nat_le u.qty b.to_qty) bands → band ≡ band_for_tier_and_exchange t u tier exchange
band_known t u tier exchange band bands all first =
    first ∙ ap (find (λ (b : Band). nat_le b.from_qty u.qty && nat_le u.qty b.to_qty)) all
    ∙ sym (find_both (λ (b : Band). (b.tier == tier) && is_same_trade_type b.kind u.kind && bytes_eq b.exchange exchange) (λ (b : Band). nat_le b.from_qty u.qty && nat_le u.qty b.to_qty) t.bands)
    ∙ find_same (λ (b : Band). ((b.tier == tier) && is_same_trade_type b.kind u.kind && bytes_eq b.exchange exchange) && (nat_le b.from_qty u.qty && nat_le u.qty b.to_qty))
    (λ (b : Band). (b.tier == tier) && is_same_trade_type b.kind u.kind && bytes_eq b.exchange exchange && nat_le b.from_qty u.qty && nat_le u.qty b.to_qty)
    (λ b. sym (pairs (b.tier == tier) (is_same_trade_type b.kind u.kind) (bytes_eq b.exchange exchange) (nat_le b.from_qty u.qty) (nat_le u.qty b.to_qty))) t.bands
