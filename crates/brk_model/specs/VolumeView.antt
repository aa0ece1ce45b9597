-- The volume view of brokers, which has only its name from Broker-Volume.
use Rattle.std.specs.Prelude.{ℕ, ◌*◌, Bool, false, ◌&&◌, ◌||◌, ◌==◌, nat_lt, List, [], ◌∷◌, map, filter, length, sum_by, decimal, bytes_eq}
use Rattle.std.specs.List.{list_any}
use Rattle.std.specs.Option.{option_map_or}
use Rattle.brk_money.specs.Spelling.{Text}
use Rattle.brk_model.specs.Lists.{sort_by, is_text_less}
use Rattle.brk_model.specs.Tables.{Tables, BrokerRow, RequestRow}
use Rattle.brk_model.specs.Rows.{nonnegative_cents_text}
use Rattle.brk_model.specs.Queries.{View}
use Rattle.brk_model.specs.Joins.{security_row_with_symbol}

-- The TRADE_REQUEST rows of the broker `broker` whose securities are in the sector `sector`, in the
-- sequence of the table; a row whose symbol has no SECURITY row is left out.
abbrev pub sector_requests_of_broker : Tables → Text → ℕ → List RequestRow
sector_requests_of_broker tables sector broker =
    filter (λ r. (r.broker == broker) && option_map_or (λ s. bytes_eq s.sector sector) (security_row_with_symbol tables r.symbol) false) tables.requests

-- The sum of quantity times bid, in cents, over the pending requests of `broker` in `sector`.
abbrev pub value_of_sector_requests_of_broker : Tables → Text → ℕ → ℕ
value_of_sector_requests_of_broker tables sector broker = sum_by (λ r. r.qty * r.bid) (sector_requests_of_broker tables sector broker)

-- True if broker `a` is before broker `b` in the volume view of the sector `sector`: sorted by
-- volume, descending, then by name (`is_text_less`) and id, ascending.
abbrev pub is_before_by_volume : Tables → Text → BrokerRow → BrokerRow → Bool
is_before_by_volume tables sector a b =
    nat_lt (value_of_sector_requests_of_broker tables sector b.id) (value_of_sector_requests_of_broker tables sector a.id)
    || ((value_of_sector_requests_of_broker tables sector b.id == value_of_sector_requests_of_broker tables sector a.id)
    && (is_text_less a.name b.name || (bytes_eq a.name b.name && nat_lt a.id b.id)))

-- One record (name, id, volume) for each broker that has one of the `names` and a pending request
-- in the sector, sorted by volume, descending, then by name (`is_text_less`) and id, ascending.
unfoldable pub broker_volume_view : Tables → Text → List Text → View
broker_volume_view tables sector names =
    map (λ b. b.name ∷ decimal b.id ∷ nonnegative_cents_text (value_of_sector_requests_of_broker tables sector b.id) ∷ [])
    (sort_by (is_before_by_volume tables sector)
    (filter (λ b. list_any (bytes_eq b.name) names && nat_lt 0 (length (sector_requests_of_broker tables sector b.id))) tables.brokers))
