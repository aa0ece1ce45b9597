-- The images of sorted rows are sorted, and so are the numbered cash rows.
use Rattle.std.proofs.Common.{◌≡◌, List, [], ◌∷◌, map, Bool, inl, inr, refl, sym, ap, ◌∙◌}
use Rattle.std.specs.Prelude.{nat_lt}
use Rattle.std.proofs.lemmas.Bool.{cases_Bool}
use Rattle.brk_ref.specs.Rows.{abstract_old_cash_row}
use Rattle.brk_ref.specs.declared.old_cash_row.OldCashRow as code
use Rattle.brk_model.specs.Adopted.{posting_of_cash_transaction_row}
use Rattle.brk_model.specs.Derived.{Posting, postings_sorted_by_stamp}
use Rattle.brk_model.specs.Lists.{insert_by, sort_by, sort_by_key}
use Rattle.brk_model.specs.Tables.{Tables, OldCashRow}

map_put : {X Y : Type 0} (before : X → X → Bool) (after : Y → Y → Bool) (f : X → Y) (x : X) (ys : List X)
    → ((a b : X) → after (f a) (f b) ≡ before a b) → insert_by after (f x) (map f ys) ≡ map f (insert_by before x ys)
map_put before after f x [] h = refl
map_put before after f x (y ∷ ys) h = elim (cases_Bool (before y x)) [
  | inl e ↦ rw (h y x, e) (ap (λ l. f y ∷ l) (map_put before after f x ys h))
  | inr e ↦ rw (h y x, e) refl
]

map_sorted : {X Y : Type 0} (before : X → X → Bool) (after : Y → Y → Bool) (f : X → Y) (xs : List X)
    → ((a b : X) → after (f a) (f b) ≡ before a b) → sort_by after (map f xs) ≡ map f (sort_by before xs)
unfolding sort_by
map_sorted before after f [] h = refl
map_sorted before after f (x ∷ xs) h = ap (insert_by after (f x)) (map_sorted before after f xs h) ∙ map_put before after f x (sort_by before xs) h

-- rows in code and their abstract rows have one order by stamp
pub rows_in_order : (rows : List code.OldCashRow) → map abstract_old_cash_row (sort_by_key (λ (r : code.OldCashRow). r.stamp) rows) ≡ sort_by_key (λ (r : OldCashRow). r.stamp) (map abstract_old_cash_row rows)
rows_in_order rows = sym (map_sorted (λ (a b : code.OldCashRow). nat_lt a.stamp b.stamp) (λ (a b : OldCashRow). nat_lt a.stamp b.stamp) abstract_old_cash_row rows (λ a b. refl))

-- the postings sorted by stamp are the postings of the rows sorted by stamp
pub posted_in_turn : (t : Tables) (xs : List OldCashRow)
    → postings_sorted_by_stamp (map (posting_of_cash_transaction_row t) xs)
    ≡ map (posting_of_cash_transaction_row t) (sort_by_key (λ (r : OldCashRow). r.stamp) xs)
posted_in_turn t xs = map_sorted (λ (a b : OldCashRow). nat_lt a.stamp b.stamp) (λ (a b : Posting). nat_lt a.stamp b.stamp) (posting_of_cash_transaction_row t) xs (λ a b. refl)
