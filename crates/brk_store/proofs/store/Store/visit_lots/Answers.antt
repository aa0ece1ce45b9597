use Rattle.std.proofs.Common.{◌≡◌, ◌∙◌, ap, subst}
use Rattle.brk_model.specs.Statement.{holding_rows_of_account}
use Rattle.brk_ref.specs.Rows.{abstract_holding_row}
use Rattle.brk_store.specs.Walked.{WalkPost}
use Rattle.brk_store.proofs.RowsOfAccounts.{lots_read}
use Rattle.brk_store.proofs.Visiting.{walk_of_read}
use Rattle.brk_store.proofs.WalkedLists.{lots_walked}
use Rattle.brk_store.proofs.store.Store.visit_lots.Goals as goal
use Rattle.brk_store.proofs.store.Store.visit_lots.Goals.{in-Made+else-are_few, in_default}

pub returns-then-are_few-clause-walked : goal.returns-then-are_few-clause-walked
returns-then-are_few-clause-walked g c =
    walk_of_read g.S.Store c.args.self.now c.read_lots_by_symbol-lots.new.conn abstract_holding_row (λ t. holding_rows_of_account t c.args.account) g.V.Visitor.takes g.V.Visitor.stops c.args.visitor.now c.visit_read_rows.new.visitor
    c.read_lots_by_symbol-lots.result c.visit_read_rows.result
    (lots_read g.S.Store c.self.inside.conn c.in-Made.index (rw c.in-Made.is at c.self.invariant.1) c.read_lots_by_symbol-lots.new.conn c.args.self.now c.self.view_is c.args.account c.read_lots_by_symbol-lots.result
    (rw c.ages-ages.ensures at c.read_lots_by_symbol-lots.ensures.read)) c.visit_read_rows.ensures.visited

pub returns-clause-walked : goal.returns-clause-walked
returns-clause-walked g c =
    subst (λ h. WalkPost g.S.Store h c.walk_lots.new.conn abstract_holding_row (λ t. holding_rows_of_account t c.args.account) g.V.Visitor.takes g.V.Visitor.stops c.args.visitor.now c.walk_lots.new.visitor c.walk_lots.result)
    (same ∙ c.self.view_is) (lots_walked _ _ _ _ _ _ _ _ _ c.walk_lots.ensures.walked)
  where
    same : c.match-self.self-inside.conn ≡ c.self.inside.conn
    same = elim c.match-self.branch [ in-Made+else-are_few w ↦ ap (λ s. s.conn) w.self-inside-is | in_default w ↦ ap (λ s. s.conn) w.self-inside-is ]
