-- The view of the lots that a trade touched, from the rows read, is the model's.
use Rattle.std.proofs.Common.{◌≡◌, ◌==◌, ℕ, List, [], ◌∷◌, ◌++◌, Option, Some, None, Ok, Err, refl, sym, ap, ◌∙◌, arith, find, filter, length, map, take}
use Rattle.std.proofs.lemmas.List.{map-append}
use Rattle.std.specs.Prelude.{flat_map, is_none, nat_le, option_map, option_to_list}
use Rattle.brk_money.specs.declared.refusal.Refusal.TheVariants.{NoAccount}
use Rattle.brk_ref.specs.Rows.{abstract_lot_change_row, abstract_trade_row}
use Rattle.brk_ref.specs.declared.lot_change.LotChange.{LotChange}
use Rattle.brk_ref.specs.declared.trade_row.TradeRow as trade
use Rattle.brk_model.specs.Ask.{view_of_base, ask, checks_of_query}
use Rattle.brk_model.specs.Base.{Base, account_with_id}
use Rattle.brk_model.specs.Joins.{trade_rows_oldest_first, trade_rows_of_account}
use Rattle.brk_model.specs.Lists.{sort_by}
use Rattle.brk_model.specs.LookupView.{touched_lots_of_oldest_trade}
use Rattle.brk_model.specs.Queries.{LotsTouched}
use Rattle.brk_model.specs.Sheets.{sheets}
use Rattle.brk_model.specs.Tables.{AccountRow, HoldingHistoryRow, Tables, TradeRow, tables_of_base}
use Rattle.brk_model.specs.Views.{view_of_tables}
use Rattle.brk_audit_theorems.specs.Sound.{AuditInvariant}
use Rattle.brk_trade_books.specs.Books.{BooksInvariant}
use Rattle.brk_view_rows.specs.Lots.{AreTouchedLots, is_earlier_lot_change, stamped_lot_change, changes_of_touched_lots}
use Rattle.brk_view_rows.specs.Views.{records_of_view}
use Rattle.brk_view_rows.specs.declared.touched_lots.LotTouch.{LotTouch}
use Rattle.brk_view_rows.specs.declared.touched_lots.TouchedLots.{TouchedLots}
use Rattle.brk_view_rows.specs.declared.view.View.{View}
use Rattle.brk_view_rows.specs.declared.view.View.TheVariants as views
use Rattle.brk_view_theorems.proofs.TouchRows.{same_lots, touched_by_lot}
use Rattle.brk_desk_queries.specs.QueryResults.{AnswersQueryAsModel}
use Rattle.brk_desk_queries.specs.Touched.{AreTouchedLotsOfTrade, stamped_changes_of_lot}
use Rattle.brk_desk_queries.proofs.RecentViews.{account_missing, account_there}
use Rattle.brk_desk_queries.proofs.Tested.{answered, carried_as, refused}

-- ---- gathered from the last one on

-- `kept` are the first 20 changes of the lots of all `rows` but `rest`, sorted by
-- `is_earlier_lot_change`.
abbrev pub AreFirstChangesSoFar : Tables → List HoldingHistoryRow → List LotChange → List LotTouch → Type 0
AreFirstChangesSoFar t rows rest kept =
    (done : List LotChange) × (map abstract_lot_change_row (rest ++ done) ≡ rows)
    × (kept ≡ take 20 (sort_by is_earlier_lot_change (flat_map (λ r. stamped_changes_of_lot t r.lot) (map abstract_lot_change_row done))))

append_nil : {X : Type 0} (xs : List X) → xs ++ [] ≡ xs
append_nil [] = refl
append_nil (x ∷ xs) = ap (λ ys. x ∷ ys) (append_nil xs)

append_assoc : {X : Type 0} (xs ys zs : List X) → (xs ++ ys) ++ zs ≡ xs ++ (ys ++ zs)
append_assoc [] ys zs = refl
append_assoc (x ∷ xs) ys zs = ap (λ ws. x ∷ ws) (append_assoc xs ys zs)

pub none_kept : (t : Tables) (rest : List LotChange) (kept : List LotTouch) (rows : List HoldingHistoryRow) → kept ≡ []
    → map abstract_lot_change_row rest ≡ rows → AreFirstChangesSoFar t rows rest kept
unfolding sort_by
none_kept t rest kept rows e f = ([], ap (map abstract_lot_change_row) (append_nil rest) ∙ f, e)

pub kept_more : (t : Tables) (before rest : List LotChange) (change : LotChange) (touches old new : List LotTouch) (rows : List HoldingHistoryRow) → before ≡ rest ++ change ∷ []
    → touches ≡ stamped_changes_of_lot t change.lot
    → ((behind : List LotTouch) → old ≡ take 20 (sort_by is_earlier_lot_change behind) → new ≡ take 20 (sort_by is_earlier_lot_change (touches ++ behind)))
    → AreFirstChangesSoFar t rows before old → AreFirstChangesSoFar t rows rest new
kept_more t before rest change touches old new rows is e keeps (done, f, k) = (
  change ∷ done,
  ap (map abstract_lot_change_row) (sym (append_assoc rest (change ∷ []) done) ∙ ap (λ xs. xs ++ done) (sym is)) ∙ f,
  keeps (flat_map (λ r. stamped_changes_of_lot t r.lot) (map abstract_lot_change_row done)) k
      ∙ ap (λ xs. take 20 (sort_by is_earlier_lot_change (xs ++ flat_map (λ (r : HoldingHistoryRow). stamped_changes_of_lot t r.lot) (map abstract_lot_change_row done)))) e,
)

pub all_done : (t : Tables) (rest : List LotChange) (kept : List LotTouch) (rows : List HoldingHistoryRow) → length rest ≡ 0 → AreFirstChangesSoFar t rows rest kept
    → kept ≡ take 20 (sort_by is_earlier_lot_change (flat_map (λ r. stamped_changes_of_lot t r.lot) rows))
all_done t [] kept rows none (done, f, k) = k ∙ ap (λ (xs : List HoldingHistoryRow). take 20 (sort_by is_earlier_lot_change (flat_map (λ r. stamped_changes_of_lot t r.lot) xs))) f
all_done t (x ∷ rest) kept rows none h = absurd (omega (arith, none))

-- ---- lot by lot

pieces : {X Y Z : Type 0} (f : Y → Z) (g : ℕ → List Y) (lot : X → ℕ) (xs : List X) → flat_map (λ x. map f (g (lot x))) xs ≡ map f (flat_map g (map lot xs))
pieces f g lot [] = refl
pieces f g lot (x ∷ xs) = ap (λ ys. map f (g (lot x)) ++ ys) (pieces f g lot xs) ∙ sym (map-append f (g (lot x)) (flat_map g (map lot xs)))

-- the changes of the touched lots, lot by lot, are the changes of all these lots
by_lot : (base : Base) (trade : ℕ) → BooksInvariant base → AuditInvariant base
    → flat_map (λ r. stamped_changes_of_lot (sheets base) r.lot) (filter (λ r. r.trade == trade) (sheets base).holding_history) ≡ changes_of_touched_lots (sheets base) trade
by_lot base trade books sound =
    let s : Tables = sheets base in
    pieces (stamped_lot_change s) (λ lot. filter (λ (r : HoldingHistoryRow). r.lot == lot) s.holding_history) (λ (r : HoldingHistoryRow). r.lot)
    (filter (λ (r : HoldingHistoryRow). r.trade == trade) s.holding_history)
    ∙ ap (map (stamped_lot_change s)) (touched_by_lot base trade books sound)

-- ---- the view

pub no_lots : (id first : ℕ) (t : Tables) → None ≡ find (λ r. r.id == id) t.accounts → AnswersQueryAsModel (LotsTouched id first) (Err NoAccount) t
unfolding ask checks_of_query
no_lots id first t e = (λ base books sound s. refused (is_none (account_with_id base id)) NoAccount (view_of_base base (LotsTouched id first)) (account_missing base id t s e), tt)

-- `o` is the oldest trade of the account with the id `id` whose stamp is `first` or later, or
-- `None` if there is none.
abbrev pub IsFirstTradeSince : ℕ → ℕ → Option trade.TradeRow → Tables → Type 0
IsFirstTradeSince id first o t = option_to_list (option_map abstract_trade_row o) ≡ take 1 (trade_rows_oldest_first (filter (λ r. nat_le first r.stamp) (trade_rows_of_account t id)))

seen : (id first : ℕ) (a : AccountRow) (lots : Option TouchedLots) (view : View) → view ≡ views.Lots lots
    → ((t : Tables) (account first : ℕ) → AreTouchedLots t account first lots → records_of_view view ≡ touched_lots_of_oldest_trade t account first)
    → (t : Tables) → Some a ≡ find (λ r. r.id == id) t.accounts
    → ((base : Base) → BooksInvariant base → AuditInvariant base → t ≡ sheets base → AreTouchedLots t id first lots)
    → AnswersQueryAsModel (LotsTouched id first) (Ok view) t
unfolding ask checks_of_query view_of_base view_of_tables
seen id first a lots view shown is t e touched = (
  λ base books sound s.
      answered (is_none (account_with_id base id)) NoAccount (touched_lots_of_oldest_trade (tables_of_base base) id first) (account_there base id a t s e)
      ∙ ap Ok (sym (is t id first (touched base books sound s) ∙ ap (λ (x : Tables). touched_lots_of_oldest_trade x id first) s ∙ same_lots base id first books sound)),
  λ base books sound s. carried_as (LotsTouched id first) view (views.Lots lots) t shown (touched base books sound s),
)

pub none_seen : (id first : ℕ) (a : AccountRow) (view : View) → view ≡ views.Lots None
    → ((t : Tables) (account first : ℕ) → AreTouchedLots t account first None → records_of_view view ≡ touched_lots_of_oldest_trade t account first)
    → (t : Tables) → Some a ≡ find (λ r. r.id == id) t.accounts → IsFirstTradeSince id first None t → AnswersQueryAsModel (LotsTouched id first) (Ok view) t
none_seen id first a view shown is t e none = seen id first a None view shown is t e (λ base books sound s. record { found = ap (map (λ (r : TradeRow). r.id)) (sym none); changes = tt })

pub lots_seen : (id first : ℕ) (a : AccountRow) (row : trade.TradeRow) (lots : TouchedLots) (view : View) → view ≡ views.Lots (Some lots)
    → ((t : Tables) (account first : ℕ) → AreTouchedLots t account first (Some lots) → records_of_view view ≡ touched_lots_of_oldest_trade t account first)
    → (t : Tables) → Some a ≡ find (λ r. r.id == id) t.accounts → IsFirstTradeSince id first (Some row) t → AreTouchedLotsOfTrade row.id lots t → AnswersQueryAsModel (LotsTouched id first) (Ok view) t
lots_seen id first a row lots view shown is t e since touched = seen id first a (Some lots) view shown is t e (λ base books sound s. record {
  found = ap (map (λ (r : TradeRow). r.id)) (sym since) ∙ ap (λ n. n ∷ []) (sym touched.0);
  changes = touched.1
      ∙ ap (λ (x : Tables). take 20 (sort_by is_earlier_lot_change (flat_map (λ r. stamped_changes_of_lot x r.lot) (filter (λ r. r.trade == row.id) x.holding_history)))) s
      ∙ ap (λ xs. take 20 (sort_by is_earlier_lot_change xs)) (by_lot base row.id books sound)
      ∙ ap (λ (x : Tables). take 20 (sort_by is_earlier_lot_change (changes_of_touched_lots x row.id))) (sym s)
      ∙ ap (λ n. take 20 (sort_by is_earlier_lot_change (changes_of_touched_lots t n))) (sym touched.0);
})
