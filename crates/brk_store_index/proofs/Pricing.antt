-- The last prices of an index after one was added or set, and sums of market values.
use Rattle.std.proofs.Common.{◌≡◌, ◌∙◌, ◌+◌, ◌<◌, ◌+ℤ◌, ℕ, ℤ, pos, Bool, true, false, cond, List, [], ◌∷◌, ◌++◌, Option, Some, None, arith, find, get_or, length, map, option_map, take, refl, sym, ap}
use Rattle.std.specs.Prelude.{bytes_eq}
use Rattle.std.specs.Option.{option_map_or}
use Rattle.std.proofs.lemmas.Cmp.{nat_list_eq_equiv}
use Rattle.std.proofs.lemmas.Int.{ints}
use Rattle.std.proofs.lemmas.Slice.Eq.{bytes_eq-Decides}
use Rattle.brk_money.specs.Spelling.{Text}
use Rattle.brk_model.specs.Joins.{last_price_in_tables}
use Rattle.brk_model.specs.Lists.{insert_by, total_by, update_where}
use Rattle.brk_model.specs.Tables.{LastTradeRow, Tables}
use Rattle.brk_store_index.specs.Prices.{AddsPrice, AreLastPricesOf, SetsPrice, price_of_symbol}
use Rattle.brk_store_index.specs.declared.prices.LastPrices.{LastPrices}
use Rattle.brk_store_index.proofs.Elements.{mapped_more}

-- ---- one row more

-- a row that is inserted is found where no other is
pub find_inserted : {X : Type 0} (less : X → X → Bool) (p : X → Bool) (r : X) (xs : List X) → (p r ≡ true → find p xs ≡ None) → find p (insert_by less r xs) ≡ cond (p r) (Some r) (find p xs)
find_inserted less p r [] alone = refl
find_inserted {X} less p r (x ∷ xs) alone = go (less x r) (p x) refl (λ h. find_inserted less p r xs h)
  where
    nowhere : (b : Bool) → p r ≡ b → p x ≡ true → Some x ≡ cond b (Some r) (Some x)
    nowhere true e f = absurd (let g = alone e in let h : find p (x ∷ xs) ≡ Some x = rw f refl in cc)
    nowhere false e f = refl

    behind : p x ≡ false → p r ≡ true → find p xs ≡ None
    behind f e = let g = alone e in (let h : find p (x ∷ xs) ≡ find p xs = rw f refl in sym h ∙ g)

    go : (b c : Bool) → p x ≡ c → ((p r ≡ true → find p xs ≡ None) → find p (insert_by less r xs) ≡ cond (p r) (Some r) (find p xs))
        → find p (cond b (x ∷ insert_by less r xs) (r ∷ x ∷ xs)) ≡ cond (p r) (Some r) (find p (x ∷ xs))
    go true true f more = rw f (nowhere (p r) refl f)
    go true false f more = rw f (more (behind f))
    go false c f more = refl

pub pushed : {X : Type 0} (r : X) (xs : List X) → insert_by (λ x y. true) r xs ≡ xs ++ r ∷ []
pushed r [] = refl
pushed r (x ∷ xs) = ap (λ l. x ∷ l) (pushed r xs)

pub price_inserted : (less : LastTradeRow → LastTradeRow → Bool) (old new : LastPrices) (r : LastTradeRow) (rows : List LastTradeRow) → AddsPrice old r.symbol r.price new
    → AreLastPricesOf old rows → AreLastPricesOf new (insert_by less r rows)
price_inserted less old new r rows adds are symbol =
    adds.prices symbol ∙ ap (cond (bytes_eq r.symbol symbol) (Some r.price)) (are symbol) ∙ go (bytes_eq r.symbol symbol)
    ∙ sym (ap (option_map (λ (x : LastTradeRow). x.price)) (find_inserted less (λ (x : LastTradeRow). bytes_eq x.symbol symbol) r rows alone))
  where
    not_found : (o : Option LastTradeRow) → option_map (λ (x : LastTradeRow). x.price) o ≡ None → o ≡ None
    not_found None e = refl
    not_found (Some x) e = absurd (let f = e in cc)

    alone : bytes_eq r.symbol symbol ≡ true → find (λ (x : LastTradeRow). bytes_eq x.symbol symbol) rows ≡ None
    alone e = not_found (find (λ (x : LastTradeRow). bytes_eq x.symbol symbol) rows) (sym (are symbol) ∙ ap (price_of_symbol old) (sym ((bytes_eq-Decides r.symbol symbol).0 e)) ∙ adds.fresh)

    go : (b : Bool) → cond b (Some r.price) (option_map (λ (x : LastTradeRow). x.price) (find (λ (x : LastTradeRow). bytes_eq x.symbol symbol) rows))
        ≡ option_map (λ (x : LastTradeRow). x.price) (cond b (Some r) (find (λ (x : LastTradeRow). bytes_eq x.symbol symbol) rows))
    go true = refl
    go false = refl

pub price_pushed : (old new : LastPrices) (r : LastTradeRow) (rows : List LastTradeRow) → AddsPrice old r.symbol r.price new → AreLastPricesOf old rows → AreLastPricesOf new (rows ++ r ∷ [])
price_pushed old new r rows adds are symbol =
    price_inserted (λ x y. true) old new r rows adds are symbol ∙ ap (λ l. option_map (λ (x : LastTradeRow). x.price) (find (λ (x : LastTradeRow). bytes_eq x.symbol symbol) l)) (pushed r rows)

-- ---- the row of a symbol, set

module _ (l : LastTradeRow) (symbol : Text) where
  abbrev set_row : LastTradeRow → LastTradeRow
  set_row r = record r { stamp = l.stamp; price = l.price; volume = l.volume }

  abbrev price_in : List LastTradeRow → Option ℕ
  price_in rows = option_map (λ (x : LastTradeRow). x.price) (find (λ (x : LastTradeRow). bytes_eq x.symbol symbol) rows)

  abbrev set_price : Option ℕ → Option ℕ
  set_price o = option_map (λ was. cond (bytes_eq l.symbol symbol) l.price was) o

  price_set_in : (rows : List LastTradeRow) → set_price (price_in rows) ≡ price_in (map (λ r. cond (bytes_eq r.symbol l.symbol) (set_row r) r) rows)
  price_set_in [] = refl
  price_set_in (x ∷ rows) = go (bytes_eq x.symbol symbol) (bytes_eq x.symbol l.symbol) refl refl (price_set_in rows)
    where
      turned : bytes_eq x.symbol symbol ≡ true → bytes_eq x.symbol l.symbol ≡ bytes_eq l.symbol symbol
      turned e = nat_list_eq_equiv.congr x.symbol symbol l.symbol e ∙ nat_list_eq_equiv.symm symbol l.symbol

      go : (a b : Bool) → bytes_eq x.symbol symbol ≡ a → bytes_eq x.symbol l.symbol ≡ b → set_price (price_in rows) ≡ price_in (map (λ r. cond (bytes_eq r.symbol l.symbol) (set_row r) r) rows)
          → set_price (option_map (λ (y : LastTradeRow). y.price) (cond (bytes_eq x.symbol symbol) (Some x) (find (λ (y : LastTradeRow). bytes_eq y.symbol symbol) rows)))
          ≡ price_in (cond (bytes_eq x.symbol l.symbol) (set_row x) x ∷ map (λ r. cond (bytes_eq r.symbol l.symbol) (set_row r) r) rows)
      go true true e f more = rw (f, e, sym (turned e) ∙ f) refl
      go true false e f more = rw (f, e, sym (turned e) ∙ f) refl
      go false true e f more = rw (f, e) more
      go false false e f more = rw (f, e) more

pub price_set : (old new : LastPrices) (l : LastTradeRow) (rows : List LastTradeRow) → SetsPrice old l.symbol l.price new → AreLastPricesOf old rows
    → AreLastPricesOf new (update_where (λ r. bytes_eq r.symbol l.symbol) (λ r. record r { stamp = l.stamp; price = l.price; volume = l.volume }) rows)
price_set old new l rows sets are symbol = sets symbol ∙ ap (option_map (λ was. cond (bytes_eq l.symbol symbol) l.price was)) (are symbol) ∙ price_set_in l symbol rows

-- the price of one symbol was written over
pub price_written : (old new : Text → Option ℕ) (symbol : Text) (price was : ℕ) → old symbol ≡ Some was → ((other : Text) → new other ≡ cond (bytes_eq symbol other) (Some price) (old other))
    → (other : Text) → new other ≡ option_map (λ w. cond (bytes_eq symbol other) price w) (old other)
price_written old new symbol price was had put other = put other ∙ go (bytes_eq symbol other) refl
  where
    same : (o : Option ℕ) → o ≡ option_map (λ w. w) o
    same None = refl
    same (Some w) = refl

    go : (b : Bool) → bytes_eq symbol other ≡ b → cond b (Some price) (old other) ≡ option_map (λ w. cond b price w) (old other)
    go true e = let is : old other ≡ Some was = ap old (sym ((bytes_eq-Decides symbol other).0 e)) ∙ had in rw is refl
    go false e = same (old other)

-- ---- market values

-- the price of a symbol is that of the tables
pub price_of_tables : (prices : LastPrices) (t : Tables) → AreLastPricesOf prices t.last_trades → (symbol : Text) (price : ℕ) → price_of_symbol prices symbol ≡ Some price
    → last_price_in_tables t symbol ≡ price
price_of_tables prices t are symbol price is = go (find (λ (x : LastTradeRow). bytes_eq x.symbol symbol) t.last_trades) (sym (are symbol) ∙ is)
  where
    go : (o : Option LastTradeRow) → option_map (λ (x : LastTradeRow). x.price) o ≡ Some price → option_map_or (λ (x : LastTradeRow). x.price) o 0 ≡ price
    go None e = absurd (let f = e in cc)
    go (Some x) e = let f = e in cc

pub total_by-more : {X : Type 0} (f : X → ℤ) (xs : List X) (x : X) → total_by f (xs ++ x ∷ []) ≡ total_by f xs +ℤ f x
unfolding total_by
total_by-more f [] x = omega (arith, ints)
total_by-more f (y ∷ xs) x = let h = total_by-more f xs x in omega (h, arith, ints)

pub total_by-none : {X : Type 0} (f : X → ℤ) → total_by f [] ≡ pos 0
unfolding total_by
total_by-none f = refl

pub worth_more : {Typed Row : Type 0} (f : Typed → Row) (worth : Row → ℤ) (rows : List Typed) (i : ℕ) (row : Typed) → i < length rows → row ≡ get_or rows i row
    → total_by worth (map f (take i rows)) +ℤ worth (f row) ≡ total_by worth (map f (take (i + 1) rows))
worth_more f worth rows i row inside is = sym (total_by-more worth (map f (take i rows)) (f row)) ∙ ap (total_by worth) (sym (mapped_more f rows i row inside is))
