use Rattle.std.proofs.Common.{◌≡◌, ◌∙◌, ap, subst}
use Rattle.brk_ref.specs.Rows.{abstract_cash_row}
use Rattle.brk_store.specs.Walked.{WalkPost, cash_rows_in_span}
use Rattle.brk_store.proofs.RowsOfAccounts.{cash_read}
use Rattle.brk_store.proofs.Visiting.{walk_of_read}
use Rattle.brk_store.proofs.WalkedLists.{cash_walked}
use Rattle.brk_store.proofs.store.Store.visit_cash_rows.Goals as goal
use Rattle.brk_store.proofs.store.Store.visit_cash_rows.Goals.{in-Made+else-are_few, in_default}

pub returns-then-are_few-clause-walked : goal.returns-then-are_few-clause-walked
returns-then-are_few-clause-walked g c =
    walk_of_read g.S.Store c.args.self.now c.read_cash_rows_between-rows.new.conn abstract_cash_row (cash_rows_in_span c.args.account c.args.from c.args.to) g.V.Visitor.takes g.V.Visitor.stops c.args.visitor.now c.visit_read_rows.new.visitor
    c.read_cash_rows_between-rows.result c.visit_read_rows.result
    (cash_read g.S.Store c.self.inside.conn c.in-Made.index (rw c.in-Made.is at c.self.invariant.1) c.read_cash_rows_between-rows.new.conn c.args.self.now c.self.view_is c.args.account c.args.from c.args.to c.read_cash_rows_between-rows.result
    (rw c.ages-ages.ensures at c.read_cash_rows_between-rows.ensures.read)) c.visit_read_rows.ensures.visited

pub returns-clause-walked : goal.returns-clause-walked
returns-clause-walked g c =
    subst (λ h. WalkPost g.S.Store h c.walk_account_cash_rows.new.conn abstract_cash_row (cash_rows_in_span c.args.account c.args.from c.args.to) g.V.Visitor.takes g.V.Visitor.stops c.args.visitor.now c.walk_account_cash_rows.new.visitor c.walk_account_cash_rows.result)
    (same ∙ c.self.view_is) (cash_walked _ _ _ _ _ _ _ _ _ _ _ c.walk_account_cash_rows.ensures.walked)
  where
    same : c.match-self.self-inside.conn ≡ c.self.inside.conn
    same = elim c.match-self.branch [ in-Made+else-are_few w ↦ ap (λ s. s.conn) w.self-inside-is | in_default w ↦ ap (λ s. s.conn) w.self-inside-is ]
