-- The records of the brokers' volumes, and the sequence of the brokers.
use Rattle.std.specs.Prelude.{ℕ, ◌*◌, Bool, not, ◌&&◌, ◌||◌, nat_lt, int_lt, List, [], ◌∷◌, length, decimal, pos, bytes_eq}
use Rattle.std.specs.List.{list_any}
use Rattle.brk_model.specs.Lists.{is_text_less}
use Rattle.brk_model.specs.Tables.{Tables, BrokerRow, RequestRow}
use Rattle.brk_model.specs.VolumeView.{sector_requests_of_broker, value_of_sector_requests_of_broker}
use Rattle.brk_money.specs.Spelling.{Text, cents_text}
use Rattle.brk_view_rows.specs.declared.volumes.BrokerVolume.{BrokerVolume}

-- True if the broker `a` is before `b` when they are sorted by name, then by id, ascending.
abbrev pub is_before_by_broker_name : BrokerVolume → BrokerVolume → Bool
is_before_by_broker_name a b = is_text_less a.name b.name || (bytes_eq a.name b.name && nat_lt a.broker b.broker)

-- True if the broker `a` is before `b` by volume, descending, then by name, then by id.
abbrev pub is_before_by_broker_volume : BrokerVolume → BrokerVolume → Bool
is_before_by_broker_volume a b = int_lt b.volume a.volume || (not (int_lt a.volume b.volume) && is_before_by_broker_name a b)

-- The record of the broker volume `v`: the name and the id of the broker, and the volume.
abbrev pub broker_volume_record : BrokerVolume → List Text
broker_volume_record v = v.name ∷ decimal v.broker ∷ cents_text v.volume ∷ []

-- The quantity of the request `r` times its bid price, in cents.
abbrev pub request_value_at_bid : RequestRow → ℕ
request_value_at_bid r = r.qty * r.bid

-- The id and the name of the broker `b` with its volume in `sector`, in cents: the sum of quantity
-- times bid price over its pending requests for securities of this sector in the tables `t`.
abbrev pub volume_of_broker_in_sector : Tables → Text → BrokerRow → BrokerVolume
volume_of_broker_in_sector t sector b = record { broker = b.id; name = b.name; volume = pos (value_of_sector_requests_of_broker t sector b.id) }

-- True if the name of `b` is in `names`, and `b` has a pending request for a security of `sector`.
abbrev pub has_name_and_pending_request : Tables → Text → List Text → BrokerRow → Bool
has_name_and_pending_request t sector names b = list_any (bytes_eq b.name) names && nat_lt 0 (length (sector_requests_of_broker t sector b.id))
