-- A conjunction of Booleans is true if and only if each of its parts is true.
use Rattle.std.proofs.Common.{◌≡◌, Bool, true, List, [], ◌∷◌}
use Rattle.std.specs.Prelude.{◌&&◌}
use Rattle.std.specs.List.{AllByRecursion}
use Rattle.std.proofs.lemmas.Bool.{and_from, and_parts}

-- The conjunction of `a` and the Booleans of the list, associated to the left.
abbrev pub joined : Bool → List Bool → Bool
joined a [] = a
joined a (b ∷ bs) = joined (a && b) bs

-- Each Boolean of the list is true.
abbrev pub Hold : List Bool → Type 0
Hold bs = AllByRecursion (λ b. b ≡ true) bs

pub parts : (a : Bool) (bs : List Bool) → joined a bs ≡ true → (a ≡ true) × Hold bs
parts a [] h = (h, tt)
parts a (b ∷ bs) h =
    let p = parts (a && b) bs h in
    let q = and_parts a b p.0 in
    (q.0, (q.1, p.1))

pub whole : (a : Bool) (bs : List Bool) → a ≡ true → Hold bs → joined a bs ≡ true
whole a [] p ps = p
whole a (b ∷ bs) p ps = whole (a && b) bs (and_from a b p ps.0) ps.1

pub parts3 : (a b c : Bool) → a && b && c ≡ true → (a ≡ true) × (b ≡ true) × (c ≡ true)
parts3 a b c z = let p = parts a (b ∷ c ∷ []) z in (p.0, p.1.0, p.1.1.0)

pub parts4 : (a b c d : Bool) → a && b && c && d ≡ true → (a ≡ true) × (b ≡ true) × (c ≡ true) × (d ≡ true)
parts4 a b c d z = let p = parts a (b ∷ c ∷ d ∷ []) z in (p.0, p.1.0, p.1.1.0, p.1.1.1.0)

pub parts5 : (a b c d e : Bool) → a && b && c && d && e ≡ true → (a ≡ true) × (b ≡ true) × (c ≡ true) × (d ≡ true) × (e ≡ true)
parts5 a b c d e z = let p = parts a (b ∷ c ∷ d ∷ e ∷ []) z in (p.0, p.1.0, p.1.1.0, p.1.1.1.0, p.1.1.1.1.0)

pub parts6 : (a b c d e f : Bool) → a && b && c && d && e && f ≡ true → (a ≡ true) × (b ≡ true) × (c ≡ true) × (d ≡ true) × (e ≡ true) × (f ≡ true)
parts6 a b c d e f z = let p = parts a (b ∷ c ∷ d ∷ e ∷ f ∷ []) z in (p.0, p.1.0, p.1.1.0, p.1.1.1.0, p.1.1.1.1.0, p.1.1.1.1.1.0)

pub parts9 : (a b c d e f g h i : Bool) → a && b && c && d && e && f && g && h && i ≡ true → (a ≡ true) × (b ≡ true) × (c ≡ true) × (d ≡ true) × (e ≡ true)
    × (f ≡ true) × (g ≡ true) × (h ≡ true) × (i ≡ true)
parts9 a b c d e f g h i z = let p = parts a (b ∷ c ∷ d ∷ e ∷ f ∷ g ∷ h ∷ i ∷ []) z in
    (p.0, p.1.0, p.1.1.0, p.1.1.1.0, p.1.1.1.1.0, p.1.1.1.1.1.0, p.1.1.1.1.1.1.0, p.1.1.1.1.1.1.1.0, p.1.1.1.1.1.1.1.1.0)

pub parts10 : (a b c d e f g h i j : Bool) → a && b && c && d && e && f && g && h && i && j ≡ true → (a ≡ true) × (b ≡ true) × (c ≡ true) × (d ≡ true)
    × (e ≡ true) × (f ≡ true) × (g ≡ true) × (h ≡ true) × (i ≡ true) × (j ≡ true)
parts10 a b c d e f g h i j z = let p = parts a (b ∷ c ∷ d ∷ e ∷ f ∷ g ∷ h ∷ i ∷ j ∷ []) z in
    (p.0, p.1.0, p.1.1.0, p.1.1.1.0, p.1.1.1.1.0, p.1.1.1.1.1.0, p.1.1.1.1.1.1.0, p.1.1.1.1.1.1.1.0, p.1.1.1.1.1.1.1.1.0, p.1.1.1.1.1.1.1.1.1.0)

pub and3 : (a b c : Bool) → a ≡ true → b ≡ true → c ≡ true → a && b && c ≡ true
and3 a b c ha hb hc = whole a (b ∷ c ∷ []) ha (hb, (hc, tt))

pub and4 : (a b c d : Bool) → a ≡ true → b ≡ true → c ≡ true → d ≡ true → a && b && c && d ≡ true
and4 a b c d ha hb hc hd = whole a (b ∷ c ∷ d ∷ []) ha (hb, (hc, (hd, tt)))

pub and5 : (a b c d e : Bool) → a ≡ true → b ≡ true → c ≡ true → d ≡ true → e ≡ true → a && b && c && d && e ≡ true
and5 a b c d e ha hb hc hd he = whole a (b ∷ c ∷ d ∷ e ∷ []) ha (hb, (hc, (hd, (he, tt))))

pub and6 : (a b c d e f : Bool) → a ≡ true → b ≡ true → c ≡ true → d ≡ true → e ≡ true → f ≡ true → a && b && c && d && e && f ≡ true
and6 a b c d e f ha hb hc hd he hf = whole a (b ∷ c ∷ d ∷ e ∷ f ∷ []) ha (hb, (hc, (hd, (he, (hf, tt)))))

pub and9 : (a b c d e f g h i : Bool) → a ≡ true → b ≡ true → c ≡ true → d ≡ true → e ≡ true → f ≡ true → g ≡ true → h ≡ true → i ≡ true → a && b && c && d && e && f && g && h && i ≡ true
and9 a b c d e f g h i ha hb hc hd he hf hg hh hi = whole a (b ∷ c ∷ d ∷ e ∷ f ∷ g ∷ h ∷ i ∷ []) ha (hb, (hc, (hd, (he, (hf, (hg, (hh, (hi, tt))))))))

pub and10 : (a b c d e f g h i j : Bool) → a ≡ true → b ≡ true → c ≡ true → d ≡ true → e ≡ true → f ≡ true → g ≡ true → h ≡ true → i ≡ true → j ≡ true
    → a && b && c && d && e && f && g && h && i && j ≡ true
and10 a b c d e f g h i j ha hb hc hd he hf hg hh hi hj = whole a (b ∷ c ∷ d ∷ e ∷ f ∷ g ∷ h ∷ i ∷ j ∷ []) ha (hb, (hc, (hd, (he, (hf, (hg, (hh, (hi, (hj, tt)))))))))
