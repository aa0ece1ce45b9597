-- The deals, the shares and the summary of a position after one of its trades is completed last.
use Rattle.std.proofs.Common.{◌≡◌, ◌<◌, ℕ, ◌==◌, ◌&&◌, Bool, true, false, cond, List, [], ◌∷◌, ◌++◌, refl, sym, ◌∙◌, ap, map, filter, arith, ◌+ℤ◌}
use Rattle.std.specs.Prelude.{bytes_eq, fold, nat_lt}
use Rattle.std.specs.List.{AllByRecursion}
use Rattle.std.proofs.lemmas.Bool.{eq-eqb}
use Rattle.std.proofs.lemmas.Bool.Decides.{nat_tests}
use Rattle.std.proofs.lemmas.Slice.Eq.{bytes_eq-Decides}
use lib.IntN.{+ℤ_assoc, +ℤ_comm}
use Rattle.brk_money.specs.Spelling.{Text}
use Rattle.brk_money.specs.Kinds.{side_of_trade_type}
use Rattle.brk_model.specs.Lists.{insert_by, sort_by, sort_by_key, total_by}
use Rattle.brk_model.specs.Records.{Trade}
use Rattle.brk_model.specs.Base.{last_status_stamp_of_trade}
use Rattle.brk_model.specs.Derived.{deal_of_trade, deals_of_position, trades_of_account, trades_of_position, shares_of_position, holding_summary_quantity}
use Rattle.brk_model.specs.Shares.{shares_after_deal, signed_by_side}
use Rattle.brk_trade_books.proofs.Same.{All-map, All-filter, map-last}
use Rattle.brk_trade_books.proofs.Places.{filter-append, filter-not_one, filter-one}
use Rattle.brk_trade_books.proofs.Tested.{All-back, All-front}
use Rattle.brk_trade_books.proofs.Worth.{total-append}
use Rattle.brk_trade_books.proofs.LotReading.{All-sort}

-- ---- the last of a sorted list

insert_before : {X : Type 0} (before : X → X → Bool) (x t : X) (ys : List X) → before t x ≡ false → insert_by before x (ys ++ t ∷ []) ≡ insert_by before x ys ++ t ∷ []
insert_before before x t [] e = rw e refl
insert_before before x t (y ∷ ys) e = by_test (insert_before before x t ys e) (before y x)
  where
    by_test : insert_by before x (ys ++ t ∷ []) ≡ insert_by before x ys ++ t ∷ [] → (b : Bool)
        → cond b (y ∷ insert_by before x (ys ++ t ∷ [])) (x ∷ y ∷ ys ++ t ∷ []) ≡ cond b (y ∷ insert_by before x ys) (x ∷ y ∷ ys) ++ t ∷ []
    by_test ih true = ap (λ zs. y ∷ zs) ih
    by_test ih false = refl

insert_last : {X : Type 0} (before : X → X → Bool) (t : X) (ys : List X) → AllByRecursion (λ y. before y t ≡ true) ys → insert_by before t ys ≡ ys ++ t ∷ []
insert_last before t [] h = refl
insert_last before t (y ∷ ys) h = rw h.0 (ap (λ zs. y ∷ zs) (insert_last before t ys h.1))

pub sort_last : {X : Type 0} (before : X → X → Bool) (xs : List X) (t : X) (ys : List X) → AllByRecursion (λ x. before t x ≡ false) xs → AllByRecursion (λ y. before y t ≡ true) ys
    → sort_by before (xs ++ t ∷ ys) ≡ sort_by before (xs ++ ys) ++ t ∷ []
unfolding sort_by
sort_last before [] t ys g h = insert_last before t (sort_by before ys) (All-sort (λ y. before y t ≡ true) before ys h)
sort_last before (x ∷ xs) t ys g h =
    ap (insert_by before x) (sort_last before xs t ys g.1 h) ∙ insert_before before x t (sort_by before (xs ++ ys)) g.0

-- ---- the trades of a position, with one among the others

same_bytes : (s : Text) → bytes_eq s s ≡ true
same_bytes s = (bytes_eq-Decides s s).1 refl

pub position_both : (xs ys : List Trade) (account : ℕ) (symbol : Text) → trades_of_position (xs ++ ys) account symbol ≡ trades_of_position xs account symbol ++ trades_of_position ys account symbol
position_both xs ys account symbol =
    ap (filter (λ t. bytes_eq t.symbol symbol)) (filter-append (λ t. t.account == account) xs ys)
    ∙ filter-append (λ t. bytes_eq t.symbol symbol) (trades_of_account xs account) (trades_of_account ys account)

pub position_own : (xs : List Trade) (t : Trade) (ys : List Trade)
    → trades_of_position (xs ++ t ∷ ys) t.account t.symbol ≡ trades_of_position xs t.account t.symbol ++ t ∷ trades_of_position ys t.account t.symbol
position_own xs t ys =
    ap (filter (λ u. bytes_eq u.symbol t.symbol)) (filter-one (λ u. u.account == t.account) xs t ys (eq-eqb t.account t.account refl))
    ∙ filter-one (λ u. bytes_eq u.symbol t.symbol) (trades_of_account xs t.account) t (trades_of_account ys t.account) (same_bytes t.symbol)

pub position_other : (xs : List Trade) (t : Trade) (ys : List Trade) (account : ℕ) (symbol : Text) → (t.account == account) && bytes_eq t.symbol symbol ≡ false
    → trades_of_position (xs ++ t ∷ ys) account symbol ≡ trades_of_position (xs ++ ys) account symbol
position_other xs t ys account symbol e = by_test (t.account == account) refl
  where
    A : Trade → Bool
    A u = u.account == account

    S : Trade → Bool
    S u = bytes_eq u.symbol symbol

    by_test : (b : Bool) → (t.account == account) ≡ b → filter S (filter A (xs ++ t ∷ ys)) ≡ filter S (filter A (xs ++ ys))
    by_test true k =
        let no : bytes_eq t.symbol symbol ≡ false = sym (ap (λ b. b && bytes_eq t.symbol symbol) k) ∙ e in
        ap (filter S) (filter-one A xs t ys k) ∙ filter-not_one S (filter A xs) t (filter A ys) no
        ∙ sym (filter-append S (filter A xs) (filter A ys)) ∙ ap (filter S) (sym (filter-append A xs ys))
    by_test false k = ap (filter S) (filter-not_one A xs t ys k ∙ sym (filter-append A xs ys))

-- ---- its deals and its shares

-- all others were completed before it
abbrev pub IsLast : Trade → List Trade → Type 0
IsLast t others = AllByRecursion (λ u. last_status_stamp_of_trade u < last_status_stamp_of_trade t) others

goes_before : (m n : ℕ) → m < n → nat_lt m n ≡ true
goes_before m n h = grind (arith, nat_tests)

goes_not : (m n : ℕ) → m < n → nat_lt n m ≡ false
goes_not m n h = grind (arith, nat_tests)

pub deals_own : (xs : List Trade) (t : Trade) (ys : List Trade) → IsLast t (xs ++ ys)
    → deals_of_position (xs ++ t ∷ ys) t.account t.symbol ≡ deals_of_position (xs ++ ys) t.account t.symbol ++ deal_of_trade t ∷ []
deals_own xs t ys h =
    let P : List Trade → List Trade = λ ts. trades_of_position ts t.account t.symbol in
    let before : Trade → Trade → Bool = λ u v. nat_lt (last_status_stamp_of_trade u) (last_status_stamp_of_trade v) in
    let L : Trade → Type 0 = λ u. last_status_stamp_of_trade u < last_status_stamp_of_trade t in
    let within : (ts : List Trade) → AllByRecursion L ts → AllByRecursion L (P ts) = λ ts k.
    All-filter L (λ u. bytes_eq u.symbol t.symbol) (trades_of_account ts t.account) (All-filter L (λ u. u.account == t.account) ts k) in
    let front = All-map (P xs) (λ u k. goes_not (last_status_stamp_of_trade u) (last_status_stamp_of_trade t) k) (within xs (All-front L xs ys h)) in
    let back = All-map (P ys) (λ u k. goes_before (last_status_stamp_of_trade u) (last_status_stamp_of_trade t) k) (within ys (All-back L xs ys h)) in
    ap (λ ts. map deal_of_trade (sort_by before ts)) (position_own xs t ys)
    ∙ ap (map deal_of_trade) (sort_last before (P xs) t (P ys) front back)
    ∙ map-last deal_of_trade (sort_by before (P xs ++ P ys)) t
    ∙ ap (λ ts. map deal_of_trade (sort_by before ts) ++ deal_of_trade t ∷ []) (sym (position_both xs ys t.account t.symbol))

pub deals_other : (xs : List Trade) (t : Trade) (ys : List Trade) (account : ℕ) (symbol : Text) → (t.account == account) && bytes_eq t.symbol symbol ≡ false
    → deals_of_position (xs ++ t ∷ ys) account symbol ≡ deals_of_position (xs ++ ys) account symbol
deals_other xs t ys account symbol e = ap (λ ts. map deal_of_trade (sort_by_key last_status_stamp_of_trade ts)) (position_other xs t ys account symbol e)

fold_last : {S X : Type 0} (f : S → X → S) (s : S) (xs : List X) (x : X) → fold f s (xs ++ x ∷ []) ≡ f (fold f s xs) x
fold_last f s [] x = refl
fold_last f s (y ∷ xs) x = fold_last f (f s y) xs x

pub shares_own : (xs : List Trade) (t : Trade) (ys : List Trade) → IsLast t (xs ++ ys)
    → shares_of_position (xs ++ t ∷ ys) t.account t.symbol ≡ shares_after_deal (shares_of_position (xs ++ ys) t.account t.symbol) (deal_of_trade t)
unfolding shares_of_position
shares_own xs t ys h = ap (fold shares_after_deal []) (deals_own xs t ys h) ∙ fold_last shares_after_deal [] (deals_of_position (xs ++ ys) t.account t.symbol) (deal_of_trade t)

pub shares_other : (xs : List Trade) (t : Trade) (ys : List Trade) (account : ℕ) (symbol : Text) → (t.account == account) && bytes_eq t.symbol symbol ≡ false
    → shares_of_position (xs ++ t ∷ ys) account symbol ≡ shares_of_position (xs ++ ys) account symbol
unfolding shares_of_position
shares_other xs t ys account symbol e = ap (fold shares_after_deal []) (deals_other xs t ys account symbol e)

-- ---- its summary

pub summary_own : (xs : List Trade) (t : Trade) (ys : List Trade)
    → holding_summary_quantity (xs ++ t ∷ ys) t.account t.symbol ≡ holding_summary_quantity (xs ++ ys) t.account t.symbol +ℤ signed_by_side
    (side_of_trade_type t.kind) t.qty
unfolding holding_summary_quantity total_by
summary_own xs t ys =
    let f = λ (u : Trade). signed_by_side (side_of_trade_type u.kind) u.qty in
    let P : List Trade → List Trade = λ ts. trades_of_position ts t.account t.symbol in
    ap (total_by f) (position_own xs t ys) ∙ total-append f (P xs) (t ∷ P ys)
    ∙ ap (λ n. total_by f (P xs) +ℤ n) (+ℤ_comm (f t) (total_by f (P ys)))
    ∙ sym (+ℤ_assoc (total_by f (P xs)) (total_by f (P ys)) (f t))
    ∙ ap (λ n. n +ℤ f t) (sym (total-append f (P xs) (P ys)) ∙ ap (total_by f) (sym (position_both xs ys t.account t.symbol)))

pub summary_other : (xs : List Trade) (t : Trade) (ys : List Trade) (account : ℕ) (symbol : Text) → (t.account == account) && bytes_eq t.symbol symbol ≡ false
    → holding_summary_quantity (xs ++ t ∷ ys) account symbol ≡ holding_summary_quantity (xs ++ ys) account symbol
unfolding holding_summary_quantity
summary_other xs t ys account symbol e = ap (total_by (λ u. signed_by_side (side_of_trade_type u.kind) u.qty)) (position_other xs t ys account symbol e)
