-- The result of an audit of a store that represents a base.
use Rattle.std.proofs.Common.{Result}
use Rattle.sqlite_trees.specs.declared.store.Store.{Ghosts}
use Rattle.sqlite.specs.Held.{Held}
use Rattle.brk_money.specs.declared.fault.Fault.{Fault}
use Rattle.brk_model.specs.Sheets.{sheets}
use Rattle.brk_store_transactions.specs.Audited.{AuditPost}
use Rattle.brk_store_transactions.proofs.Taking.{sound_books_pass}
use Rattle.brk_desk.specs.CallPosts.{DeskAuditPost}
use Rattle.brk_desk.proofs.Seen.{still_kept}

pub audits : {S : Type 0} (g : Ghosts S) (old new : Held S) (result : Result (Unit {0}) Fault) → AuditPost g old new result → DeskAuditPost g old new result
audits g old new result audit = record {
  audited = audit;
  undamaged = λ clean base keeps. sound_books_pass g old new result audit base keeps clean;
  same_bases = λ base keeps. still_kept g old new base (audit.same_rows (sheets base)) keeps;
}
