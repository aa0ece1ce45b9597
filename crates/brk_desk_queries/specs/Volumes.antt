-- The volumes of brokers in a sector, as they were read.
use Rattle.std.specs.Prelude.{ℕ, ◌==◌, ◌&&◌, Bool, false, if◌then◌else◌, List, [], ◌∷◌, ◌++◌, bytes_eq, filter, length, map, nat_lt}
use Rattle.std.specs.Option.{option_map_or}
use Rattle.brk_ref.specs.Rows.{abstract_request_row}
use Rattle.brk_ref.specs.declared.request_row.RequestRow as read
use Rattle.brk_model.specs.Joins.{security_row_with_symbol}
use Rattle.brk_model.specs.Tables.{BrokerRow, RequestRow, Tables}
use Rattle.brk_model.specs.VolumeView.{sector_requests_of_broker}
use Rattle.brk_money.specs.Spelling.{Text}
use Rattle.brk_view_rows.specs.Volume as volume
use Rattle.brk_view_rows.specs.declared.volumes.BrokerVolume.{BrokerVolume}

-- True if the security with the symbol `symbol` exists and is in the sector `sector`.
abbrev pub is_symbol_in_sector : Tables → Text → Text → Bool
is_symbol_in_sector t sector symbol = option_map_or (λ s. bytes_eq s.sector sector) (security_row_with_symbol t symbol) false

-- True if the request `r` is of the broker `broker` and its security exists in the sector `sector`.
abbrev pub is_sector_request_of_broker : Tables → Text → ℕ → RequestRow → Bool
is_sector_request_of_broker t sector broker r = (r.broker == broker) && is_symbol_in_sector t sector r.symbol

-- `found`, and at its end `row` if it is a request of `broker` for a security in the sector.
abbrev pub requests_with_row_if_of_broker_in_sector : Tables → Text → ℕ → read.RequestRow → List read.RequestRow → List read.RequestRow
requests_with_row_if_of_broker_in_sector t sector broker row found =
    if is_sector_request_of_broker t sector broker (abstract_request_row row) then found ++ row ∷ [] else found

-- True if the broker `b` has at least one pending request for a security in the sector.
abbrev pub has_requests_in_sector : Tables → Text → BrokerRow → Bool
has_requests_in_sector t sector b = nat_lt 0 (length (sector_requests_of_broker t sector b.id))

-- The brokers named `name` with a pending request for a security in the sector, in table order.
abbrev pub brokers_of_name_in_sector : Tables → Text → Text → List BrokerRow
brokers_of_name_in_sector t sector name = filter (has_requests_in_sector t sector) (filter (λ b. bytes_eq b.name name) t.brokers)

-- The id, name and volume of each broker in `brokers` with a pending request for a security in the
-- sector, in order. The volume is the sum of quantity times bid price of these requests, in cents.
abbrev pub volumes_of_brokers_in_sector : Tables → Text → List BrokerRow → List BrokerVolume
volumes_of_brokers_in_sector t sector brokers = map (volume.volume_of_broker_in_sector t sector) (filter (has_requests_in_sector t sector) brokers)
