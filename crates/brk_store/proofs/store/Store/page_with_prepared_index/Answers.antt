use Rattle.brk_store.proofs.ByIndex.{page_read}
use Rattle.brk_store.proofs.store.Store.page_with_prepared_index.Goals as goal

pub returns-then-number_of_lots-gt-MOST_SCANNED_LOTS : goal.returns-then-number_of_lots-gt-MOST_SCANNED_LOTS
returns-then-number_of_lots-gt-MOST_SCANNED_LOTS g c =
    record {
      read = page_read g.S.Store c.self.inside.conn c.in-Made.index (rw c.in-Made.is at c.self.invariant.1) c.read_indexed_page.new.conn c.args.self.now c.self.view_is c.args.account c.args.symbol.now c.args.lifo c.args.skipped _ c.ages.ensures
          c.read_indexed_page.result c.read_indexed_page.ensures.read;
    }
