-- No view changes if the tables of a base are sorted by key, as a store reads them.
use Rattle.std.proofs.Common.{◌≡◌, ◌==◌, List, [], ◌∷◌, refl, ap, map, filter}
use Rattle.std.specs.Prelude.{◌&&◌, Some, bytes_eq, decimal, nat_lt}
use Rattle.brk_money.specs.Kinds.{is_same_trade_status, trade_type_code}
use Rattle.brk_money.specs.declared.status.Status.TheVariants.{Submitted}
use Rattle.brk_model.specs.Base.{Base}
use Rattle.brk_model.specs.Lists.{contains_number, sort_by}
use Rattle.brk_model.specs.LookupView.{row_stamp_is_between}
use Rattle.brk_model.specs.Queries.{Query, PositionOf, PositionOfTaxId, RecentOf, StatusOf, SubmittedTrades, EstimateOf, TradesWith, TradesOfAccount, TradesOfSymbol, LotsTouched, VolumeOf}
use Rattle.brk_model.specs.Rows.{nonnegative_cents_text}
use Rattle.brk_model.specs.Sheets.{sheets}
use Rattle.brk_model.specs.StatusView.{submitted_trades_view}
use Rattle.brk_model.specs.Tables.{TradeRow, tables_of_base}
use Rattle.brk_model.specs.Views.{view_of_tables}
use Rattle.brk_audit_theorems.specs.Sound.{AuditInvariant}
use Rattle.brk_trade_books.specs.Books.{BooksInvariant}
use Rattle.brk_view_theorems.proofs.LookupRows.{same_lookup}
use Rattle.brk_view_theorems.proofs.RecentRows.{same_recent}
use Rattle.brk_view_theorems.proofs.StatusRows.{same_status_view}
use Rattle.brk_view_theorems.proofs.TouchRows.{same_lots}
use Rattle.brk_view_theorems.proofs.Trades.{same_trades}
use Rattle.brk_view_theorems.proofs.VolumeRows.{same_volumes}
use Rattle.brk_view_theorems.proofs.Worths.{same_position}

pub same_submitted : (base : Base) → BooksInvariant base → submitted_trades_view (sheets base) ≡ submitted_trades_view (tables_of_base base)
unfolding submitted_trades_view
same_submitted base books =
    ap (λ (rows : List TradeRow). map (λ t. decimal t.id ∷ trade_type_code t.kind ∷ t.symbol ∷ decimal t.qty ∷ nonnegative_cents_text t.bid ∷ [])
    (sort_by (λ a b. nat_lt a.id b.id) (filter (λ t. is_same_trade_status t.status Submitted) rows)))
    (same_trades base books)

pub same_view_of : (base : Base) (query : Query) → BooksInvariant base → AuditInvariant base → view_of_tables (sheets base) query ≡ view_of_tables (tables_of_base base) query
unfolding view_of_tables
same_view_of base (PositionOf customer) books sound = ap Some (same_position base (λ c. c.id == customer) books)
same_view_of base (PositionOfTaxId tax_id) books sound = ap Some (same_position base (λ c. bytes_eq c.tax_id tax_id) books)
same_view_of base (RecentOf account) books sound = ap Some (same_recent base account books sound)
same_view_of base (StatusOf account) books sound = ap Some (same_status_view base account books)
same_view_of base SubmittedTrades books sound = ap Some (same_submitted base books)
same_view_of base (EstimateOf order) books sound = refl
same_view_of base (TradesWith ids) books sound = ap Some (same_lookup base (λ t. contains_number t.id ids) books sound)
same_view_of base (TradesOfAccount account first last) books sound = ap Some (same_lookup base (λ t. (t.account == account) && row_stamp_is_between first last t) books sound)
same_view_of base (TradesOfSymbol symbol first last) books sound = ap Some (same_lookup base (λ t. bytes_eq t.symbol symbol && row_stamp_is_between first last t) books sound)
same_view_of base (LotsTouched account first) books sound = ap Some (same_lots base account first books sound)
same_view_of base (VolumeOf sector names) books sound = ap Some (same_volumes base sector names books sound)
