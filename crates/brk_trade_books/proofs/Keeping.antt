-- A reply stored under its key, in the tables.
use Rattle.std.proofs.Common.{◌≡◌, ℕ, ◌==◌, ◌&&◌, Bool, true, false, List, [], ◌∷◌, refl, sym, ◌∙◌, ap, Option, Some, None}
use Rattle.std.specs.Prelude.{find, is_some, bytes_eq}
use Rattle.std.proofs.lemmas.Bool.{eqb-true, eq-eqb}
use Rattle.std.proofs.lemmas.Slice.Eq.{bytes_eq-Decides}
use Rattle.brk_money.specs.Spelling.{Text}
use Rattle.brk_model.specs.Records.{Key, Kept}
use Rattle.brk_model.specs.Base.{Base}
use Rattle.brk_model.specs.Derived.{shares_of_position, holding_summary_quantity, balance_of_account, trade_count_of_broker, commission_total_of_broker}
use Rattle.brk_model.specs.Tables.{tables_of_base_in_schema}
use Rattle.brk_model.specs.Keys.{KeyPart, number, word, is_key_less, kept_key}
use Rattle.brk_model.specs.Sheets.{sheets, tables_sorted_by_key}
use Rattle.brk_model.specs.Commands.{Command, Reply}
use Rattle.brk_model.specs.Keyed.{stored_row_with_key, base_with_stored_reply}
use Rattle.brk_trade_rows.specs.Changes.{tables_with_stored_reply}
use Rattle.brk_trade_books.specs.Steps.{stored_reply_row}
use Rattle.brk_trade_books.proofs.Order.{NewKey, key_one_way, by_key-append}
use Rattle.brk_trade_books.proofs.Same.{NonePass, All-map, find-none}
use Rattle.brk_trade_books.proofs.Reading.{find-sorted}

-- whether a row is kept under a key
abbrev has_key : Key → Kept → Bool
has_key key k = bytes_eq k.key.batch key.batch && (k.key.n == key.n)

both : (a b : Bool) → a && b ≡ true → (a ≡ true) × (b ≡ true)
both true b e = (refl, e)
both false b e = absurd (cc)

and_both : (a b : Bool) → a ≡ true → b ≡ true → a && b ≡ true
and_both a b e f = rw (e, f) refl

parts_of : Key → List KeyPart
parts_of key = word key.batch ∷ number key.n ∷ []

key_is : (key : Key) (k : Kept) → has_key key k ≡ true → kept_key k ≡ parts_of key
unfolding parts_of
key_is key k e =
    let h = both (bytes_eq k.key.batch key.batch) (k.key.n == key.n) e in
    let s : k.key.batch ≡ key.batch = (bytes_eq-Decides k.key.batch key.batch).0 h.0 in
    let n : k.key.n ≡ key.n = eqb-true k.key.n key.n h.1 in
    λ i. word (s i) ∷ number (n i) ∷ []

is_key : (key : Key) (k : Kept) → kept_key k ≡ parts_of key → has_key key k ≡ true
unfolding parts_of
is_key key k e =
    let s : (k.key.batch ≡ key.batch) × (k.key.n ≡ key.n) = split k.key.batch key.batch k.key.n key.n e in
    and_both (bytes_eq k.key.batch key.batch) (k.key.n == key.n) ((bytes_eq-Decides k.key.batch key.batch).1 s.0) (eq-eqb k.key.n key.n s.1)
  where
    split : (a b : Text) (m n : ℕ) → word a ∷ number m ∷ [] ≡ word b ∷ number n ∷ [] → (a ≡ b) × (m ≡ n)
    split a b m n e = (cc, cc)

true_false : true ≡ false → ⊥
true_false e = absurd (cc)

-- a key doesn't go before itself
not_itself : (j k : List KeyPart) → j ≡ k → is_key_less j k ≡ true → ⊥
not_itself j k p e = true_false (sym e ∙ (λ i. is_key_less (p i) (sym p i)) ∙ key_one_way j k e)

pub reads_kept : (base : Base) (key : Key) → find (has_key key) (sheets base).kept ≡ stored_row_with_key base key
unfolding tables_of_base_in_schema tables_sorted_by_key
reads_kept base key = find-sorted kept_key (has_key key) base.kept (λ x y e f. other x y (has_key key y) refl e f)
  where
    other : (x y : Kept) (b : Bool) → has_key key y ≡ b → has_key key x ≡ true → is_key_less (kept_key y) (kept_key x) ≡ true → has_key key y ≡ false
    other x y false g e f = g
    other x y true g e f = absurd (not_itself (kept_key y) (kept_key x) (key_is key y g ∙ sym (key_is key x e)) f)

none_found : (o : Option Kept) → o ≡ None → is_some o ≡ false
none_found None e = refl
none_found (Some k) e = absurd (cc)

new_kept : (key : Key) (k : Kept) (ks : List Kept) → kept_key k ≡ parts_of key → NonePass (has_key key) ks → NewKey kept_key k ks
new_kept key k ks s h = All-map ks (λ j n e. true_false (sym (is_key key j (e ∙ s)) ∙ n)) h

pub kept_rows : (base : Base) (key : Key) (command : Command) (reply : Reply) → stored_row_with_key base key ≡ None
    → sheets (base_with_stored_reply (Some key) command reply base) ≡ tables_with_stored_reply (stored_reply_row key command reply) (sheets base)
unfolding tables_of_base_in_schema tables_sorted_by_key shares_of_position holding_summary_quantity balance_of_account trade_count_of_broker commission_total_of_broker parts_of
kept_rows base key command reply n =
    ap (λ rows. record (sheets base) { kept = rows })
    (by_key-append kept_key base.kept (stored_reply_row key command reply)
    (new_kept key (stored_reply_row key command reply) base.kept refl (find-none (has_key key) base.kept (none_found (stored_row_with_key base key) n))))
