-- The reads of all tables, one after the other, show each of them.
use Rattle.std.proofs.Common.{◌≡◌, Bool, List, Ok, true, refl, sym, subst, ◌∙◌}
use Rattle.sqlite_value.specs.Order.{Row}
use Rattle.brk_model.specs.Schemas.{Schema}
use Rattle.sqlite.specs.State.{State}
use Rattle.brk_money.specs.declared.fault.CallFault.{CallFault}
use Rattle.brk_money.specs.declared.fault.StoreFailed.{StoreFailed}
use Rattle.brk_tables_sql.specs.Model.{IsTransactionStep}
use Rattle.brk_tables_sql.proofs.Inside.{step_then, step_read}
use Rattle.brk_tables_schema.specs.Desk.{DeskTable, TheDesk, KeptRows, Brokers, Customers, Accounts, Permissions, Securities, LastTrades, Charges, Bands}
use Rattle.brk_tables_schema.specs.Desk.{TaxRates, CustomerTaxes, Trades, TradeHistory, Requests, Holdings, Summaries, HoldingHistory, Settlements, CashRows}
use Rattle.brk_tables_schema.specs.Desk.{CashMoves, SettleRules, schema_has_table}
use Rattle.brk_tables_scan.specs.Whole.{ShowsAllRows, ShowsRowsIfInSchema}
use Rattle.brk_tables_scan.specs.Decoded.{ReadsOwnerTables, ReadsRawSheets}
use Rattle.brk_tables_scan.specs.Raw.{IsUnchangedAndOpen, raw_rows_of_table}
use Rattle.brk_tables_scan.specs.Raw.{ShowsListingTables, ShowsTermsTables, ShowsTradeTables, ShowsBookingTables, ShowsLaterTables}
use Rattle.brk_tables_scan.specs.declared.all_tables.RawSheets.{RawSheets}
use Rattle.brk_tables_scan.specs.declared.all_tables.OwnerRows.{OwnerRows}
use Rattle.brk_tables_scan.specs.declared.all_tables.ListingRows.{ListingRows}
use Rattle.brk_tables_scan.specs.declared.all_tables.TermsRows.{TermsRows}
use Rattle.brk_tables_scan.specs.declared.all_tables.TradeRows.{TradeRows}
use Rattle.brk_tables_scan.specs.declared.all_tables.BookingRows.{BookingRows}
use Rattle.brk_tables_scan.specs.declared.all_tables.LaterRows.{LaterRows}
use Rattle.brk_tables_scan.proofs.Four.{stays_then, shown_before}

module _ (desk : Schema) (m n : Bool) (a b c d e f g : State) (owners : OwnerRows) (listings : ListingRows) (terms : TermsRows) (trades : TradeRows) (bookings : BookingRows) (later : LaterRows) where
  abbrev raw : RawSheets
  raw = record { owners = owners; listings = listings; terms = terms; trades = trades; bookings = bookings; later = later }

  module _ (in_owners : ReadsOwnerTables m n owners a b) (in_listings : ShowsListingTables listings b c) (in_terms : ShowsTermsTables terms c d) (in_trades : ShowsTradeTables trades d e) (in_bookings : ShowsBookingTables bookings e f) (in_later : ShowsLaterTables desk later f g) where
    -- one that each schema has
    each : (w : DeskTable) → schema_has_table desk w ≡ true → ShowsAllRows w (raw_rows_of_table in_owners.kept raw w) a.now → ShowsRowsIfInSchema desk w (raw_rows_of_table in_owners.kept raw w) a.now
    each w of all = (λ _. all, λ off. absurd (let e = sym of ∙ off in cc))

    ab : IsUnchangedAndOpen a b
    ab = in_owners.shown.stays

    ac : IsUnchangedAndOpen a c
    ac = stays_then a b c ab in_listings.stays

    ad : IsUnchangedAndOpen a d
    ad = stays_then a c d ac in_terms.stays

    ae : IsUnchangedAndOpen a e
    ae = stays_then a d e ad in_trades.stays

    af : IsUnchangedAndOpen a f
    af = stays_then a e f ae in_bookings.stays

    before : (w : DeskTable) (rows : List Row) → ShowsRowsIfInSchema desk w rows f.now → ShowsRowsIfInSchema desk w rows a.now
    before w rows = subst (ShowsRowsIfInSchema desk w rows) af.1

    shows : (w : DeskTable) → ShowsRowsIfInSchema desk w (raw_rows_of_table in_owners.kept raw w) a.now
    shows TheDesk = each TheDesk refl in_owners.shown.one
    shows KeptRows = each KeptRows refl in_owners.shown.two
    shows Brokers = each Brokers refl in_owners.shown.three
    shows Customers = each Customers refl in_owners.shown.four
    shows Accounts = each Accounts refl (shown_before Accounts (raw_rows_of_table in_owners.kept raw Accounts) a b ab in_listings.one)
    shows Permissions = each Permissions refl (shown_before Permissions (raw_rows_of_table in_owners.kept raw Permissions) a b ab in_listings.two)
    shows Securities = each Securities refl (shown_before Securities (raw_rows_of_table in_owners.kept raw Securities) a b ab in_listings.three)
    shows LastTrades = each LastTrades refl (shown_before LastTrades (raw_rows_of_table in_owners.kept raw LastTrades) a b ab in_listings.four)
    shows Charges = each Charges refl (shown_before Charges (raw_rows_of_table in_owners.kept raw Charges) a c ac in_terms.one)
    shows Bands = each Bands refl (shown_before Bands (raw_rows_of_table in_owners.kept raw Bands) a c ac in_terms.two)
    shows TaxRates = each TaxRates refl (shown_before TaxRates (raw_rows_of_table in_owners.kept raw TaxRates) a c ac in_terms.three)
    shows CustomerTaxes = each CustomerTaxes refl (shown_before CustomerTaxes (raw_rows_of_table in_owners.kept raw CustomerTaxes) a c ac in_terms.four)
    shows Trades = each Trades refl (shown_before Trades (raw_rows_of_table in_owners.kept raw Trades) a d ad in_trades.one)
    shows TradeHistory = each TradeHistory refl (shown_before TradeHistory (raw_rows_of_table in_owners.kept raw TradeHistory) a d ad in_trades.two)
    shows Requests = each Requests refl (shown_before Requests (raw_rows_of_table in_owners.kept raw Requests) a d ad in_trades.three)
    shows Holdings = each Holdings refl (shown_before Holdings (raw_rows_of_table in_owners.kept raw Holdings) a d ad in_trades.four)
    shows Summaries = each Summaries refl (shown_before Summaries (raw_rows_of_table in_owners.kept raw Summaries) a e ae in_bookings.one)
    shows HoldingHistory = each HoldingHistory refl (shown_before HoldingHistory (raw_rows_of_table in_owners.kept raw HoldingHistory) a e ae in_bookings.two)
    shows Settlements = each Settlements refl (shown_before Settlements (raw_rows_of_table in_owners.kept raw Settlements) a e ae in_bookings.three)
    shows CashRows = each CashRows refl (shown_before CashRows (raw_rows_of_table in_owners.kept raw CashRows) a e ae in_bookings.four)
    shows CashMoves = before CashMoves (raw_rows_of_table in_owners.kept raw CashMoves) in_later.moves
    shows SettleRules = before SettleRules (raw_rows_of_table in_owners.kept raw SettleRules) in_later.rule

    shows_all : ReadsRawSheets desk m n raw a g
    shows_all = record {
      kept = in_owners.kept;
      read = record { stays = (ab.0, in_later.same ∙ af.1); shown = shows };
      keys = in_owners.keys;
    }

  module _ (step_owners : IsTransactionStep {V = OwnerRows} {E = CallFault} a b (Ok owners) (λ raw. ReadsOwnerTables m n raw))
      (step_listings : IsTransactionStep {V = ListingRows} {E = StoreFailed} b c (Ok listings) (λ raw. ShowsListingTables raw))
      (step_terms : IsTransactionStep {V = TermsRows} {E = StoreFailed} c d (Ok terms) (λ raw. ShowsTermsTables raw))
      (step_trades : IsTransactionStep {V = TradeRows} {E = StoreFailed} d e (Ok trades) (λ raw. ShowsTradeTables raw))
      (step_bookings : IsTransactionStep {V = BookingRows} {E = StoreFailed} e f (Ok bookings) (λ raw. ShowsBookingTables raw))
      (step_later : IsTransactionStep {V = LaterRows} {E = StoreFailed} f g (Ok later) (λ raw. ShowsLaterTables desk raw)) where
    abbrev To2 : ListingRows → State → State → Type 0
    To2 raw x y = ReadsOwnerTables m n owners x b × ShowsListingTables raw b y

    abbrev To3 : TermsRows → State → State → Type 0
    To3 raw x y = To2 listings x c × ShowsTermsTables raw c y

    abbrev To4 : TradeRows → State → State → Type 0
    To4 raw x y = To3 terms x d × ShowsTradeTables raw d y

    abbrev To5 : BookingRows → State → State → Type 0
    To5 raw x y = To4 trades x e × ShowsBookingTables raw e y

    abbrev To6 : LaterRows → State → State → Type 0
    To6 raw x y = To5 bookings x f × ShowsLaterTables desk raw f y

    pub reads_all_tables : {V F : Type 0} (v : V) (made : V → State → State → Type 0) → (ReadsRawSheets desk m n raw a g → made v a g) → IsTransactionStep {V = V} {E = F} a g (Ok v) made
    reads_all_tables {V} {F} v made makes =
        let p2 = step_then a b c owners (Ok listings) (λ raw. ReadsOwnerTables m n raw) (λ raw. ShowsListingTables raw) To2 (λ raw p q. (p, q)) step_owners step_listings in
        let p3 = step_then a c d listings (Ok terms) To2 (λ raw. ShowsTermsTables raw) To3 (λ raw p q. (p, q)) p2 step_terms in
        let p4 = step_then a d e terms (Ok trades) To3 (λ raw. ShowsTradeTables raw) To4 (λ raw p q. (p, q)) p3 step_trades in
        let p5 = step_then a e f trades (Ok bookings) To4 (λ raw. ShowsBookingTables raw) To5 (λ raw p q. (p, q)) p4 step_bookings in
        let p6 = step_then a f g bookings (Ok later) To5 (λ raw. ShowsLaterTables desk raw) To6 (λ raw p q. (p, q)) p5 step_later in
        step_read a g later (Ok v) To6 made (λ w is p. let same : v ≡ w = cc in subst (λ w. made w a g) same (makes (shows_all p.0.0.0.0.0 p.0.0.0.0.1 p.0.0.0.1 p.0.0.1 p.0.1 p.1))) p6
