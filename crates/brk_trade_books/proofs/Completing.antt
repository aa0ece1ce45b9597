-- The effect of a trade that is completed after all others on the shares of each trade.
use Rattle.std.proofs.Common.{◌≡◌, ◌==◌, ◌&&◌, Bool, true, false, cond, List, [], ◌∷◌, ◌++◌, refl, sym, ◌∙◌, ap, subst, filter}
use Rattle.std.specs.Prelude.{bytes_eq}
use Rattle.std.specs.List.{AllByRecursion}
use Rattle.std.proofs.lemmas.Bool.{eqb-true, eq-eqb}
use Rattle.std.proofs.lemmas.Slice.Eq.{bytes_eq-Decides}
use Rattle.brk_model.specs.Lists.{insert_by, sort_by}
use Rattle.brk_model.specs.Records.{Trade}
use Rattle.brk_model.specs.Base.{Base, completed_trades}
use Rattle.brk_model.specs.Derived.{deal_of_trade, deals_of_position, trades_of_position, shares_of_position}
use Rattle.brk_model.specs.Shares.{Share, shares_after_deal}
use Rattle.brk_trade_books.specs.Books.{BooksInvariant}
use Rattle.brk_trade_books.proofs.Bools.{numbers_back, same_text, texts_back}
use Rattle.brk_trade_books.proofs.NewKeys.{and_both, both}
use Rattle.brk_trade_books.proofs.Same.{NonePass, All-map}
use Rattle.brk_trade_books.proofs.Positions.{IsLast, deals_other, deals_own, shares_other, shares_own}
use Rattle.brk_trade_books.proofs.LotReading.{IdsApart, filter-both}

-- a trade is completed among those that are, and after all of them
pub record Completes (base : Base) (xs : List Trade) (t : Trade) (ys : List Trade) : Type 0 where
  pub books : BooksInvariant base
  pub split : completed_trades base ≡ xs ++ ys
  pub last : IsLast t (completed_trades base)
  pub fresh : NonePass (λ u. u.id == t.id) (completed_trades base)

-- whether a trade is of the same position
abbrev pub is_here : Trade → Trade → Bool
is_here t u = (u.account == t.account) && bytes_eq u.symbol t.symbol

pub here_itself : (t : Trade) → is_here t t ≡ true
here_itself t = and_both (t.account == t.account) (bytes_eq t.symbol t.symbol) (eq-eqb t.account t.account refl) ((bytes_eq-Decides t.symbol t.symbol).1 refl)

pub other_way : (t u : Trade) → is_here t u ≡ false → (t.account == u.account) && bytes_eq t.symbol u.symbol ≡ false
other_way t u e = (λ i. numbers_back t.account u.account i && texts_back t.symbol u.symbol i) ∙ e

-- the trades of its position
pub of_here : (t : Trade) (ts : List Trade) → filter (is_here t) ts ≡ trades_of_position ts t.account t.symbol
of_here t ts = filter-both (λ u. u.account == t.account) (λ u. bytes_eq u.symbol t.symbol) ts

-- the shares of its position before it
abbrev pub shares_before : Base → Trade → List Share
shares_before base t = shares_of_position (completed_trades base) t.account t.symbol

-- and after it
abbrev pub shares_then : Base → Trade → List Share
shares_then base t = shares_after_deal (shares_before base t) (deal_of_trade t)

pub here_shares : (done : List Trade) (t u : Trade) → is_here t u ≡ true → shares_of_position done u.account u.symbol ≡ shares_of_position done t.account t.symbol
here_shares done t u e =
    let k = both (u.account == t.account) (bytes_eq u.symbol t.symbol) e in
    λ i. shares_of_position done (eqb-true u.account t.account k.0 i) (same_text u.symbol t.symbol k.1 i)

pub here_deals : (done : List Trade) (t u : Trade) → is_here t u ≡ true → deals_of_position done u.account u.symbol ≡ deals_of_position done t.account t.symbol
here_deals done t u e =
    let k = both (u.account == t.account) (bytes_eq u.symbol t.symbol) e in
    λ i. deals_of_position done (eqb-true u.account t.account k.0 i) (same_text u.symbol t.symbol k.1 i)

pub shares_here : (base : Base) (xs : List Trade) (t : Trade) (ys : List Trade) → Completes base xs t ys → (u : Trade) → is_here t u ≡ true
    → shares_of_position (xs ++ t ∷ ys) u.account u.symbol ≡ shares_then base t
shares_here base xs t ys c u e =
    here_shares (xs ++ t ∷ ys) t u e ∙ shares_own xs t ys (subst (IsLast t) c.split c.last)
    ∙ ap (λ ts. shares_after_deal (shares_of_position ts t.account t.symbol) (deal_of_trade t)) (sym c.split)

pub shares_elsewhere : (base : Base) (xs : List Trade) (t : Trade) (ys : List Trade) → Completes base xs t ys → (u : Trade) → is_here t u ≡ false
    → shares_of_position (xs ++ t ∷ ys) u.account u.symbol ≡ shares_of_position (completed_trades base) u.account u.symbol
shares_elsewhere base xs t ys c u e =
    shares_other xs t ys u.account u.symbol (other_way t u e) ∙ ap (λ ts. shares_of_position ts u.account u.symbol) (sym c.split)

pub deals_here : (base : Base) (xs : List Trade) (t : Trade) (ys : List Trade) → Completes base xs t ys → (u : Trade) → is_here t u ≡ true
    → deals_of_position (xs ++ t ∷ ys) u.account u.symbol ≡ deals_of_position (completed_trades base) t.account t.symbol ++ deal_of_trade t ∷ []
deals_here base xs t ys c u e =
    here_deals (xs ++ t ∷ ys) t u e ∙ deals_own xs t ys (subst (IsLast t) c.split c.last)
    ∙ ap (λ ts. deals_of_position ts t.account t.symbol ++ deal_of_trade t ∷ []) (sym c.split)

pub deals_elsewhere : (base : Base) (xs : List Trade) (t : Trade) (ys : List Trade) → Completes base xs t ys → (u : Trade) → is_here t u ≡ false
    → deals_of_position (xs ++ t ∷ ys) u.account u.symbol ≡ deals_of_position (completed_trades base) u.account u.symbol
deals_elsewhere base xs t ys c u e =
    deals_other xs t ys u.account u.symbol (other_way t u e) ∙ ap (λ ts. deals_of_position ts u.account u.symbol) (sym c.split)

-- ---- trades of different ids

-- each is the one that has its id
pub one_of_id : (ts : List Trade) → IdsApart ts → AllByRecursion (λ w. AllByRecursion (λ v. (v.id == w.id) ≡ true → v ≡ w) ts) ts
one_of_id [] d = tt
one_of_id (t ∷ ts) d = (
  ((λ e. refl), All-map ts (λ v other same. clash (v.id == t.id) other same) d.0),
  behind ts d.0 (one_of_id ts d.1),
)
  where
    clash : {A : Type 0} (b : Bool) → b ≡ false → b ≡ true → A
    clash b other same = absurd (cc)

    behind : (us : List Trade) → NonePass (λ u. u.id == t.id) us → AllByRecursion (λ w. AllByRecursion (λ v. (v.id == w.id) ≡ true → v ≡ w) ts) us
        → AllByRecursion (λ w. AllByRecursion (λ v. (v.id == w.id) ≡ true → v ≡ w) (t ∷ ts)) us
    behind [] h k = tt
    behind (u ∷ us) h k = (((λ same. clash (t.id == u.id) (numbers_back t.id u.id ∙ h.0) same), k.0), behind us h.1 k.1)

-- ---- what holds of each of sorted ones, or of those that pass a test

taken : {X : Type 0} (P : X → Type 0) (before : X → X → Bool) (x : X) (ys : List X) → AllByRecursion P (insert_by before x ys) → P x × AllByRecursion P ys
taken P before x [] h = (h.0, tt)
taken {X = X} P before x (y ∷ ys) h = by_test (before y x) h (taken P before x ys)
  where
    by_test : (b : Bool) → AllByRecursion P (cond b (y ∷ insert_by before x ys) (x ∷ y ∷ ys)) → (AllByRecursion P (insert_by before x ys) → P x × AllByRecursion P ys) → P x × AllByRecursion P (y ∷ ys)
    by_test true k ih = let r = ih k.1 in (r.0, (k.0, r.1))
    by_test false k ih = (k.0, k.1)

pub All-unsort : {X : Type 0} (P : X → Type 0) (before : X → X → Bool) (xs : List X) → AllByRecursion P (sort_by before xs) → AllByRecursion P xs
unfolding sort_by
All-unsort P before [] h = tt
All-unsort P before (x ∷ xs) h = let k = taken P before x (sort_by before xs) h in (k.0, All-unsort P before xs k.1)

pub All-unfilter : {X : Type 0} (P : X → Type 0) (p : X → Bool) (xs : List X) → AllByRecursion P (filter p xs) → AllByRecursion (λ x. p x ≡ true → P x) xs
All-unfilter P p [] h = tt
All-unfilter {X = X} P p (x ∷ xs) h = by_test (p x) refl h (All-unfilter P p xs)
  where
    by_test : (b : Bool) → p x ≡ b → AllByRecursion P (cond b (x ∷ filter p xs) (filter p xs)) → (AllByRecursion P (filter p xs) → AllByRecursion (λ x. p x ≡ true → P x) xs)
        → AllByRecursion (λ x. p x ≡ true → P x) (x ∷ xs)
    by_test true e k ih = ((λ i. k.0), ih k.1)
    by_test false e k ih = ((λ i. let j : false ≡ true = sym e ∙ i in absurd (cc)), ih k)

-- those that pass a test, of which this is known
pub All-passing : {X : Type 0} (P : X → Type 0) (p : X → Bool) (xs : List X) → AllByRecursion (λ x. p x ≡ true → P x) xs → AllByRecursion P (filter p xs)
All-passing P p [] h = tt
All-passing {X = X} P p (x ∷ xs) h = by_test (p x) refl (All-passing P p xs h.1)
  where
    by_test : (b : Bool) → p x ≡ b → AllByRecursion P (filter p xs) → AllByRecursion P (cond b (x ∷ filter p xs) (filter p xs))
    by_test true e ih = (h.0 e, ih)
    by_test false e ih = ih
