use Rattle.brk_trade_rows.specs.Schemas.{abstract_schema}
use Rattle.brk_tables_scan.proofs.Continued.{continues_six}
use Rattle.brk_tables_scan.proofs.Sheeted.{are_sheets}
use Rattle.brk_tables_scan.proofs.all_tables.decode_raw_sheets.Goals as goal

pub returns-clause-decoded : goal.returns-clause-decoded
returns-clause-decoded c =
    continues_six _ _ _ _ _ _ _ _ _ _ _ _ _ _ _ _ _ _ _ _
    (are_sheets c.args.schema c.in_ok-owners.owners c.in_ok-listings.listings c.in_ok-terms.terms c.in_ok-trades.trades c.in_ok-bookings.bookings c.in_ok-later.later (abstract_schema c.args.schema) c.args.raw)
    c.in_ok-owners.ensures.decoded c.in_ok-listings.ensures.decoded c.in_ok-terms.ensures.decoded c.in_ok-trades.ensures.decoded c.in_ok-bookings.ensures.decoded c.in_ok-later.ensures.decoded
