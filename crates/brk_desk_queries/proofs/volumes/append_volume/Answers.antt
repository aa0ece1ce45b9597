use Rattle.std.proofs.Common.{◌≡◌, ◌∙◌, ◌<◌, ◌++◌, ◌∷◌, [], ap, arith, filter, length, map, pos, refl, sum_by, sym}
use Rattle.std.proofs.lemmas.Bool.{eqb-true}
use Rattle.std.proofs.lemmas.List.{append-nil}
use Rattle.brk_ref.specs.Rows.{abstract_request_row}
use Rattle.brk_model.specs.Tables.{BrokerRow, Tables}
use Rattle.brk_ref.specs.Records.{abstract_broker_row}
use Rattle.brk_store_reads.proofs.Sequences.{reads_retold}
use Rattle.brk_view_rows.specs.Volume.{request_value_at_bid}
use Rattle.brk_view_rows.specs.declared.volumes.BrokerVolume.{BrokerVolume}
use Rattle.brk_desk_queries.specs.Volumes.{is_sector_request_of_broker, volumes_of_brokers_in_sector}
use Rattle.brk_desk_queries.proofs.VolumeViews.{none_to_trade, some_left, some_to_trade}
use Rattle.brk_desk_queries.proofs.volumes.append_volume.Goals as goal

pub returns-then-is_empty : goal.returns-then-is_empty
returns-then-is_empty g c =
    let sector = c.args.sector.now in
    let b : BrokerRow = abstract_broker_row c.args.row.now in
    let found = c.args.found.now.items in
    let all = c.args.requests.now in
    let mine = c.in_ok-mine.mine in
    let none : length mine.items ≡ 0 = sym mine.ok.0 ∙ eqb-true _ 0 (sym c.is_empty.ensures ∙ c.if-is_empty.true) in
    reads_retold g.S.Store c.args.store.now c.sector_requests.new.store mine tt
    (λ rows (t : Tables). map abstract_request_row rows.items ≡ filter (is_sector_request_of_broker t sector b.id) (map abstract_request_row all))
    (λ _ (t : Tables). map abstract_request_row all ≡ t.requests → found ≡ found ++ volumes_of_brokers_in_sector t sector (b ∷ []))
    (λ t e whole. sym (append-nil found) ∙ ap (λ vs. found ++ vs) (none_to_trade t sector b mine.items (e ∙ ap (filter (is_sector_request_of_broker t sector b.id)) whole) none))
    c.in_ok-mine.ensures

pub returns : goal.returns
returns g c =
    let sector = c.args.sector.now in
    let b : BrokerRow = abstract_broker_row c.args.row.now in
    let found = c.args.found.now.items in
    let all = c.args.requests.now in
    let mine = c.in_ok-mine.mine in
    let some : 0 < length mine.items = (let left = some_left _ (sym c.is_empty.ensures ∙ c.if-is_empty.false) in let o = mine.ok.0 in omega arith) in
    let v : BrokerVolume = record { broker = b.id; name = c.in_ok-name.name; volume = c.total_bid_value-volume.result } in
    let worth : v.volume ≡ pos (sum_by request_value_at_bid (map abstract_request_row mine.items)) =
    c.total_bid_value-volume.ensures ∙ ap (λ rows. pos (sum_by request_value_at_bid (map abstract_request_row rows))) c.deref.ensures.value in
    reads_retold g.S.Store c.args.store.now c.sector_requests.new.store mine tt
    (λ rows (t : Tables). map abstract_request_row rows.items ≡ filter (is_sector_request_of_broker t sector b.id) (map abstract_request_row all))
    (λ _ (t : Tables). map abstract_request_row all ≡ t.requests → c.push.new.self.items ≡ found ++ volumes_of_brokers_in_sector t sector (b ∷ []))
    (λ t e whole. c.in_ok-push.ensures.items
    ∙ ap (λ vs. found ++ vs)
    (some_to_trade t sector b mine.items v (e ∙ ap (filter (is_sector_request_of_broker t sector b.id)) whole) some refl c.in_ok-name.ensures.cases worth))
    c.in_ok-mine.ensures
