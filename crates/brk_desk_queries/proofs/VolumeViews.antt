-- The view of the brokers' volumes in a sector, from the rows read, is the model's.
use Rattle.std.proofs.Common.{◌≡◌, ◌==◌, ◌+◌, ◌<◌, ℕ, Bool, true, false, cond, List, [], ◌∷◌, ◌++◌, Ok, refl, sym, ap, ◌∙◌, arith, filter, get_or, length, map, pos, take}
use Rattle.std.proofs.lemmas.List.{map-append}
use Rattle.std.proofs.lemmas.Bool.Decides.{nat_tests}
use Rattle.std.specs.Global.{Vec}
use Rattle.std.specs.Prelude.{bytes_eq, flat_map, nat_lt, sum_by}
use Rattle.brk_money.specs.Spelling.{Text}
use Rattle.brk_ref.specs.Rows.{abstract_request_row}
use Rattle.brk_ref.specs.declared.request_row.RequestRow as read
use Rattle.brk_model.specs.Ask.{view_of_base, ask, checks_of_query}
use Rattle.brk_model.specs.Lists.{distinct_texts, sort_by}
use Rattle.brk_model.specs.Queries.{VolumeOf}
use Rattle.brk_model.specs.Sheets.{sheets}
use Rattle.brk_model.specs.Tables.{BrokerRow, Tables}
use Rattle.brk_model.specs.Views.{view_of_tables}
use Rattle.brk_model.specs.VolumeView.{is_before_by_volume, sector_requests_of_broker, broker_volume_view}
use Rattle.brk_trade_books.proofs.Places.{filter-append}
use Rattle.brk_view_rows.specs.Views.{records_of_view}
use Rattle.brk_view_rows.specs.Volume.{has_name_and_pending_request, request_value_at_bid}
use Rattle.brk_view_rows.specs.Volume as volume
use Rattle.brk_view_rows.specs.declared.view.View.{View}
use Rattle.brk_view_rows.specs.declared.view.View.TheVariants as views
use Rattle.brk_view_rows.specs.declared.volumes.BrokerVolume.{BrokerVolume}
use Rattle.brk_view_theorems.proofs.VolumeRows.{brokers_by_name, same_volumes}
use Rattle.brk_desk_queries.specs.QueryResults.{AnswersQueryAsModel}
use Rattle.brk_desk_queries.specs.Volumes.{has_requests_in_sector, is_sector_request_of_broker, brokers_of_name_in_sector, requests_with_row_if_of_broker_in_sector, volumes_of_brokers_in_sector}
use Rattle.brk_desk_queries.proofs.Each.{first_more}
use Rattle.brk_desk_queries.proofs.Tested.{carried_as}

append_nil : {X : Type 0} (xs : List X) → xs ++ [] ≡ xs
append_nil [] = refl
append_nil (x ∷ xs) = ap (λ ys. x ∷ ys) (append_nil xs)

append_assoc : {X : Type 0} (xs ys zs : List X) → (xs ++ ys) ++ zs ≡ xs ++ (ys ++ zs)
append_assoc [] ys zs = refl
append_assoc (x ∷ xs) ys zs = ap (λ ws. x ∷ ws) (append_assoc xs ys zs)

-- ---- the requests of a broker in a sector

-- those among the first requests, and among one more
pub request_more : (t : Tables) (sector : Text) (broker : ℕ) (rows : List read.RequestRow) (i : ℕ) (row : read.RequestRow) (old new : List read.RequestRow) → i < length rows → row ≡ get_or rows i row
    → map abstract_request_row old ≡ filter (is_sector_request_of_broker t sector broker) (map abstract_request_row (take i rows))
    → new ≡ requests_with_row_if_of_broker_in_sector t sector broker row old
    → map abstract_request_row new ≡ filter (is_sector_request_of_broker t sector broker) (map abstract_request_row (take (i + 1) rows))
request_more t sector broker rows i row old new inside is e g = ap (map abstract_request_row) g ∙ by_test (is_sector_request_of_broker t sector broker (abstract_request_row row)) refl
  where
    more : filter (is_sector_request_of_broker t sector broker) (map abstract_request_row (take (i + 1) rows))
        ≡ filter (is_sector_request_of_broker t sector broker) (map abstract_request_row (take i rows))
        ++ cond (is_sector_request_of_broker t sector broker (abstract_request_row row)) (abstract_request_row row ∷ []) []
    more =
        ap (λ rs. filter (is_sector_request_of_broker t sector broker) (map abstract_request_row rs)) (sym (first_more rows i row inside is))
        ∙ ap (filter (is_sector_request_of_broker t sector broker)) (map-append abstract_request_row (take i rows) (row ∷ []))
        ∙ filter-append (is_sector_request_of_broker t sector broker) (map abstract_request_row (take i rows)) (abstract_request_row row ∷ [])

    by_test : (b : Bool) → is_sector_request_of_broker t sector broker (abstract_request_row row) ≡ b
        → map abstract_request_row (cond b (old ++ row ∷ []) old)
        ≡ filter (is_sector_request_of_broker t sector broker) (map abstract_request_row (take (i + 1) rows))
    by_test true h =
        map-append abstract_request_row old (row ∷ [])
        ∙ ap (λ xs. xs ++ abstract_request_row row ∷ []) e
        ∙ ap (λ b. filter (is_sector_request_of_broker t sector broker) (map abstract_request_row (take i rows)) ++ cond b (abstract_request_row row ∷ []) []) (sym h)
        ∙ sym more
    by_test false h =
        e ∙ sym (append_nil (filter (is_sector_request_of_broker t sector broker) (map abstract_request_row (take i rows))))
        ∙ ap (λ b. filter (is_sector_request_of_broker t sector broker) (map abstract_request_row (take i rows)) ++ cond b (abstract_request_row row ∷ []) []) (sym h)
        ∙ sym more

-- ---- a broker

as_many : (rows : List read.RequestRow) → length (map abstract_request_row rows) ≡ length rows
as_many [] = refl
as_many (r ∷ rows) = let e = as_many rows in omega arith

-- one that has nothing to trade
pub none_to_trade : (t : Tables) (sector : Text) (b : BrokerRow) (rows : List read.RequestRow)
    → map abstract_request_row rows ≡ sector_requests_of_broker t sector b.id → length rows ≡ 0 → [] ≡ volumes_of_brokers_in_sector t sector (b ∷ [])
none_to_trade t sector b rows e none =
    ap (λ c. map (volume.volume_of_broker_in_sector t sector) (cond c (b ∷ []) [])) (sym (ap (nat_lt 0) (sym (ap length e) ∙ as_many rows ∙ none)))

above : (n : ℕ) → 0 < n → nat_lt 0 n ≡ true
above n h = grind (arith, nat_tests)

pub some_left : (n : ℕ) → (n == 0) ≡ false → 0 < n
some_left n h = grind (arith, nat_tests)

-- one that has something
pub some_to_trade : (t : Tables) (sector : Text) (b : BrokerRow) (rows : List read.RequestRow) (v : BrokerVolume)
    → map abstract_request_row rows ≡ sector_requests_of_broker t sector b.id → 0 < length rows
    → v.broker ≡ b.id → v.name ≡ b.name → v.volume ≡ pos (sum_by request_value_at_bid (map abstract_request_row rows)) → v ∷ [] ≡ volumes_of_brokers_in_sector t sector (b ∷ [])
some_to_trade t sector b rows v e some i n w =
    (λ j. record { broker = i j; name = n j; volume = (w ∙ ap (λ rs. pos (sum_by request_value_at_bid rs)) e) j } ∷ [])
    ∙ ap (λ c. map (volume.volume_of_broker_in_sector t sector) (cond c (b ∷ []) []))
    (sym (above (length (sector_requests_of_broker t sector b.id)) (let a = as_many rows in let f = ap length e in omega (arith, some))))

-- ---- brokers one after another

volumes_append : (t : Tables) (sector : Text) (bs cs : List BrokerRow)
    → volumes_of_brokers_in_sector t sector (bs ++ cs) ≡ volumes_of_brokers_in_sector t sector bs ++ volumes_of_brokers_in_sector t sector cs
volumes_append t sector bs cs =
    ap (map (volume.volume_of_broker_in_sector t sector)) (filter-append (has_requests_in_sector t sector) bs cs)
    ∙ map-append (volume.volume_of_broker_in_sector t sector) (filter (has_requests_in_sector t sector) bs) (filter (has_requests_in_sector t sector) cs)

-- one broker more
pub volume_more : {X : Type 0} (t : Tables) (sector : Text) (f : X → BrokerRow) (rows : List X) (i : ℕ) (row : X) (before old new : List BrokerVolume) → i < length rows → row ≡ get_or rows i row
    → old ≡ before ++ volumes_of_brokers_in_sector t sector (map f (take i rows)) → new ≡ old ++ volumes_of_brokers_in_sector t sector (f row ∷ [])
    → new ≡ before ++ volumes_of_brokers_in_sector t sector (map f (take (i + 1) rows))
volume_more t sector f rows i row before old new inside is e g =
    g ∙ ap (λ vs. vs ++ volumes_of_brokers_in_sector t sector (f row ∷ [])) e
    ∙ append_assoc before (volumes_of_brokers_in_sector t sector (map f (take i rows))) (volumes_of_brokers_in_sector t sector (f row ∷ []))
    ∙ ap (λ vs. before ++ vs) (sym (volumes_append t sector (map f (take i rows)) (f row ∷ [])))
    ∙ ap (λ bs. before ++ volumes_of_brokers_in_sector t sector bs) (sym (map-append f (take i rows) (row ∷ [])) ∙ ap (map f) (first_more rows i row inside is))

flat_append : {X Y : Type 0} (f : X → List Y) (xs ys : List X) → flat_map f (xs ++ ys) ≡ flat_map f xs ++ flat_map f ys
flat_append f [] ys = refl
flat_append f (x ∷ xs) ys = ap (λ zs. f x ++ zs) (flat_append f xs ys) ∙ sym (append_assoc (f x) (flat_map f xs) (flat_map f ys))

-- one name more
pub name_more : (t : Tables) (sector : Text) (names : List Text) (i : ℕ) (name : Text) (old new : List BrokerVolume) → i < length names → name ≡ get_or names i name
    → old ≡ map (volume.volume_of_broker_in_sector t sector) (flat_map (brokers_of_name_in_sector t sector) (take i names))
    → new ≡ old ++ volumes_of_brokers_in_sector t sector (filter (λ b. bytes_eq b.name name) t.brokers)
    → new ≡ map (volume.volume_of_broker_in_sector t sector) (flat_map (brokers_of_name_in_sector t sector) (take (i + 1) names))
name_more t sector names i name old new inside is e g =
    g ∙ ap (λ vs. vs ++ map (volume.volume_of_broker_in_sector t sector) (brokers_of_name_in_sector t sector name)) e
    ∙ sym (map-append (volume.volume_of_broker_in_sector t sector) (flat_map (brokers_of_name_in_sector t sector) (take i names)) (brokers_of_name_in_sector t sector name))
    ∙ ap (λ bs. map (volume.volume_of_broker_in_sector t sector) (flat_map (brokers_of_name_in_sector t sector) (take i names) ++ bs)) (sym (append_nil (brokers_of_name_in_sector t sector name)))
    ∙ ap (map (volume.volume_of_broker_in_sector t sector))
    (sym (flat_append (brokers_of_name_in_sector t sector) (take i names) (name ∷ []))
    ∙ ap (flat_map (brokers_of_name_in_sector t sector)) (first_more names i name inside is))

-- ---- the view

pub volume_seen : (sector : Text) (names : List Text) (found : List BrokerVolume) (sorted : Vec BrokerVolume) (view : View) → distinct_texts names ≡ names → view ≡ views.Volume sorted
    → ((t : Tables) (sector : Text) (names : List Text) (rows : List BrokerRow) → found ≡ map (volume.volume_of_broker_in_sector t sector) rows
    → sort_by (is_before_by_volume t sector) rows ≡ sort_by (is_before_by_volume t sector) (filter (has_name_and_pending_request t sector names) t.brokers)
    → records_of_view view ≡ broker_volume_view t sector names)
    → (t : Tables) → found ≡ map (volume.volume_of_broker_in_sector t sector) (flat_map (brokers_of_name_in_sector t sector) names) → AnswersQueryAsModel (VolumeOf sector names) (Ok view) t
unfolding ask checks_of_query view_of_base view_of_tables
volume_seen sector names found sorted view distinct shown is t e = (
  λ base books sound s.
      let at_sheets : found ≡ map (volume.volume_of_broker_in_sector (sheets base) sector) (flat_map (brokers_of_name_in_sector (sheets base) sector) names) =
      e ∙ ap (λ x. map (volume.volume_of_broker_in_sector x sector) (flat_map (brokers_of_name_in_sector x sector) names)) s in
      ap Ok (sym (is (sheets base) sector names (flat_map (brokers_of_name_in_sector (sheets base) sector) names) at_sheets
      (brokers_by_name base sector names books sound distinct) ∙ same_volumes base sector names books sound)),
  λ base books sound s. carried_as (VolumeOf sector names) view (views.Volume sorted) t shown tt,
)
