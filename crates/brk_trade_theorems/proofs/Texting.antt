-- Texts of cash rows set one after another equal those of all postings set at once.
use Rattle.std.proofs.Common.{◌≡◌, ℕ, ◌+◌, ◌==◌, ◌||◌, Bool, true, false, cond, List, [], ◌∷◌, ◌++◌, refl, sym, ap, ◌∙◌, map, fold, Option, Some, None}
use Rattle.std.specs.Prelude.{nat_lt}
use Rattle.std.specs.Option.{option_map_or}
use Rattle.std.specs.List.{AllByRecursion}
use Rattle.brk_money.specs.Spelling.{Text}
use Rattle.brk_model.specs.Derived.{Posting, cash_trades, postings_sorted_by_stamp, posting_of_movement, posting_of_trade, postings}
use Rattle.brk_model.specs.Keys.{rows_sorted_by_key, cash_move_key}
use Rattle.brk_model.specs.Lists.{contains_number, update_where}
use Rattle.brk_model.specs.LookupView.{is_cash_row_of_trade}
use Rattle.brk_model.specs.Records.{Account, Movement, Trade}
use Rattle.brk_model.specs.Tables.{CashRow, cash_move_row, numbered_cash_move_rows}
use Rattle.brk_trade_books.proofs.Bools.{numbers_back}
use Rattle.brk_trade_books.proofs.Order.{by_key-map}
use Rattle.brk_trade_books.proofs.Places.{map-append}
use Rattle.brk_trade_books.proofs.Same.{All-map, map-same}
use Rattle.brk_trade_theorems.proofs.Through.{map-map, sort-map}

-- ---- other texts of rows are other texts of postings

-- a text by the trade of a row and its text
abbrev pub Rename : Type 0
Rename = Option ℕ → Text → Text

abbrev pub renamed_row : Rename → CashRow → CashRow
renamed_row g r = record r { name = g r.trade r.name }

abbrev pub renamed : Rename → Posting → Posting
renamed g p = record p { name = g p.trade p.name }

numbered_through : (g : Rename) (n : ℕ) (ps : List Posting) → map (renamed_row g) (numbered_cash_move_rows n ps) ≡ numbered_cash_move_rows n (map (renamed g) ps)
numbered_through g n [] = refl
numbered_through g n (p ∷ ps) = ap (λ rows. cash_move_row n (renamed g p) ∷ rows) (numbered_through g (n + 1) ps)

pub rows_through : (g : Rename) (ps : List Posting)
    → map (renamed_row g) (rows_sorted_by_key cash_move_key (numbered_cash_move_rows 1 (postings_sorted_by_stamp ps)))
    ≡ rows_sorted_by_key cash_move_key (numbered_cash_move_rows 1 (postings_sorted_by_stamp (map (renamed g) ps)))
rows_through g ps =
    sym (by_key-map cash_move_key cash_move_key (renamed_row g) (numbered_cash_move_rows 1 (postings_sorted_by_stamp ps)) (λ r. refl))
    ∙ ap (rows_sorted_by_key cash_move_key) (numbered_through g 1 (postings_sorted_by_stamp ps)
    ∙ ap (numbered_cash_move_rows 1) (sym (sort-map (λ a b. nat_lt a.stamp b.stamp) (λ a b. nat_lt a.stamp b.stamp) (renamed g) ps (λ a b. refl))))

-- ---- texts that are set, each by its trade

module _ {C : Type 0} (cid : C → ℕ) (new : C → Text) where
  -- a text after each of some corrections
  abbrev one_named : Option ℕ → Text → C → Text
  one_named trade name c = cond (option_map_or (λ id. id == cid c) trade false) (new c) name

  abbrev pub all_named : List C → Rename
  all_named cs trade name = fold (one_named trade) name cs

  abbrev set_text : List CashRow → C → List CashRow
  set_text rows c = update_where (is_cash_row_of_trade (cid c)) (λ r. record r { name = new c }) rows

  one_text : (c : C) (r : CashRow) (b : Bool) → cond b (record r { name = new c }) r ≡ record r { name = cond b (new c) r.name }
  one_text c r true = refl
  one_text c r false = refl

  -- rows are changed each by itself
  pub each_text : (rows : List CashRow) (cs : List C) → fold set_text rows cs ≡ map (renamed_row (all_named cs)) rows
  each_text rows [] = sym (itself rows)
    where
      itself : (rows : List CashRow) → map (renamed_row (all_named [])) rows ≡ rows
      itself [] = refl
      itself (r ∷ rows) = ap (λ rs. r ∷ rs) (itself rows)
  each_text rows (c ∷ cs) =
      each_text (set_text rows c) cs
      ∙ map-map (renamed_row (all_named cs)) (λ r. cond (is_cash_row_of_trade (cid c) r) (record r { name = new c }) r) rows
      ∙ same rows
    where
      same : (rows : List CashRow) → map (λ r. renamed_row (all_named cs) (cond (is_cash_row_of_trade (cid c) r) (record r { name = new c }) r)) rows ≡ map (renamed_row (all_named (c ∷ cs))) rows
      same [] = refl
      same (r ∷ rows) = λ i. renamed_row (all_named cs) (one_text c r (is_cash_row_of_trade (cid c) r) i) ∷ same rows i

  -- a movement keeps its name
  unnamed : (cs : List C) (name : Text) → all_named cs None name ≡ name
  unnamed [] name = refl
  unnamed (c ∷ cs) name = unnamed cs name

  -- what is set is of the trade
  abbrev pub IsOwnText : (Trade → Text) → List C → Trade → Type 0
  IsOwnText word cs t = AllByRecursion (λ c. (t.id == cid c) ≡ true → new c ≡ word t) cs

  module _ (word : Trade → Text) where
    named_by : (t : Trade) (b : Bool) (cs : List C) → IsOwnText word cs t
        → all_named cs (Some t.id) (cond b (word t) t.cash_name) ≡ cond (b || contains_number t.id (map cid cs)) (word t) t.cash_name
    named_by t b [] own = ap (λ d. cond d (word t) t.cash_name) (none_more b)
      where
        none_more : (b : Bool) → b ≡ b || false
        none_more true = refl
        none_more false = refl
    named_by t b (c ∷ cs) own =
        ap (all_named cs (Some t.id)) (one (t.id == cid c) refl ∙ ap (λ d. cond (b || d) (word t) t.cash_name) (numbers_back t.id (cid c)))
        ∙ named_by t (b || (cid c == t.id)) cs own.1
        ∙ ap (λ d. cond d (word t) t.cash_name) (grouped b (cid c == t.id) (contains_number t.id (map cid cs)))
      where
        grouped : (a b c : Bool) → (a || b) || c ≡ a || (b || c)
        grouped true b c = refl
        grouped false b c = refl

        now_own : (b : Bool) → word t ≡ cond (b || true) (word t) t.cash_name
        now_own true = refl
        now_own false = refl

        as_before : (b : Bool) → cond b (word t) t.cash_name ≡ cond (b || false) (word t) t.cash_name
        as_before true = refl
        as_before false = refl

        one : (d : Bool) → (t.id == cid c) ≡ d → cond (t.id == cid c) (new c) (cond b (word t) t.cash_name) ≡ cond (b || (t.id == cid c)) (word t) t.cash_name
        one true e = rw e (own.0 e ∙ now_own b)
        one false e = rw e (as_before b)

    pub texts_named : (accounts : List Account) (done : List Trade) (ms : List Movement) (cs : List C) → AllByRecursion (IsOwnText word cs) (cash_trades done)
        → map (renamed (all_named cs)) (postings accounts done ms)
        ≡ map (λ t. record (posting_of_trade accounts t) { name = cond (contains_number t.id (map cid cs)) (word t) t.cash_name }) (cash_trades done) ++ map posting_of_movement ms
    texts_named accounts done ms cs own =
        map-append (renamed (all_named cs)) (map (posting_of_trade accounts) (cash_trades done)) (map posting_of_movement ms)
        ∙ (λ i. of_trades i ++ of_movements ms i)
      where
        P : Trade → Posting
        P = posting_of_trade accounts

        of_trades : map (renamed (all_named cs)) (map P (cash_trades done)) ≡ map (λ t. record (P t) { name = cond (contains_number t.id (map cid cs)) (word t) t.cash_name }) (cash_trades done)
        of_trades =
            map-map (renamed (all_named cs)) P (cash_trades done)
            ∙ map-same (λ t. renamed (all_named cs) (P t)) (λ t. record (P t) { name = cond (contains_number t.id (map cid cs)) (word t) t.cash_name }) (cash_trades done)
            (All-map (cash_trades done) (λ t k. λ i. record (P t) { name = named_by t false cs k i }) own)

        of_movements : (ms : List Movement) → map (renamed (all_named cs)) (map posting_of_movement ms) ≡ map posting_of_movement ms
        of_movements [] = refl
        of_movements (m ∷ ms) = λ i. record (posting_of_movement m) { name = unnamed cs m.name i } ∷ of_movements ms i
