use Rattle.sqlite.specs.Held.{state}
use Rattle.brk_trade_rows.specs.Schemas.{abstract_schema}
use Rattle.brk_tables_scan.proofs.AllShown.{reads_all_tables}
use Rattle.brk_tables_scan.proofs.Failing.{both, fails}
use Rattle.brk_tables_scan.proofs.all_tables.read_raw_sheets.Goals as goal

pub returns-in_err-owners-clause-step : goal.returns-in_err-owners-clause-step
returns-in_err-owners-clause-step g c = fails c.from_residual.result _ c.from_residual.ensures.0 c.read_owner_group.ensures.step

pub returns-in_err-listings-clause-step : goal.returns-in_err-listings-clause-step
returns-in_err-listings-clause-step g c = fails c.from_residual-in_err-listings.result _ c.from_residual-in_err-listings.ensures.0 (both c.read_owner_group.ensures.step c.read_listing_group.ensures.step)

pub returns-in_err-terms-clause-step : goal.returns-in_err-terms-clause-step
returns-in_err-terms-clause-step g c = fails c.from_residual-in_err-terms.result _ c.from_residual-in_err-terms.ensures.0 (both (both c.read_owner_group.ensures.step c.read_listing_group.ensures.step) c.read_terms_group.ensures.step)

pub returns-in_err-trades-clause-step : goal.returns-in_err-trades-clause-step
returns-in_err-trades-clause-step g c = fails c.from_residual-in_err-trades.result _ c.from_residual-in_err-trades.ensures.0 (both (both (both c.read_owner_group.ensures.step c.read_listing_group.ensures.step) c.read_terms_group.ensures.step) c.read_trade_group.ensures.step)

pub returns-in_err-bookings-clause-step : goal.returns-in_err-bookings-clause-step
returns-in_err-bookings-clause-step g c = fails c.from_residual-in_err-bookings.result _ c.from_residual-in_err-bookings.ensures.0 (both (both (both (both c.read_owner_group.ensures.step c.read_listing_group.ensures.step) c.read_terms_group.ensures.step) c.read_trade_group.ensures.step) c.read_booking_group.ensures.step)

pub returns-in_err-later-clause-step : goal.returns-in_err-later-clause-step
returns-in_err-later-clause-step g c = fails c.from_residual-in_err-later.result _ c.from_residual-in_err-later.ensures.0 (both (both (both (both (both c.read_owner_group.ensures.step c.read_listing_group.ensures.step) c.read_terms_group.ensures.step) c.read_trade_group.ensures.step) c.read_booking_group.ensures.step) c.read_later_group.ensures.step)

pub returns-clause-step : goal.returns-clause-step
returns-clause-step g c =
    reads_all_tables (abstract_schema c.args.schema) c.args.decoder.now.are_well_formed c.read_owner_group.new.decoder.are_well_formed (state g.S.Store c.args.tx.now.conn.now)
    (state g.S.Store c.read_owner_group.new.tx.conn.now)
    (state g.S.Store c.read_listing_group.new.tx.conn.now)
    (state g.S.Store c.read_terms_group.new.tx.conn.now)
    (state g.S.Store c.read_trade_group.new.tx.conn.now)
    (state g.S.Store c.read_booking_group.new.tx.conn.now)
    (state g.S.Store c.read_later_group.new.tx.conn.now)
    c.in_ok-owners.owners c.in_ok-listings.listings c.in_ok-terms.terms c.in_ok-trades.trades c.in_ok-bookings.bookings c.in_ok-later.later
    c.in_ok-owners.ensures.step c.in_ok-listings.ensures.step c.in_ok-terms.ensures.step c.in_ok-trades.ensures.step c.in_ok-bookings.ensures.step c.in_ok-later.ensures.step _ _ (λ s. s)
