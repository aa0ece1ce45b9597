use Rattle.sqlite.specs.Held.{state}
use Rattle.brk_store_transactions.proofs.Compiling.{unchanged_or_undone}
use Rattle.brk_store_transactions.proofs.openness.require_open.Goals as goal

pub returns-clause-unchanged : goal.returns-clause-unchanged
returns-clause-unchanged g c =
    unchanged_or_undone c.prepare.result _ (state g.S.Store c.args.conn.now) (state g.S.Store c.prepare.new.self) c.prepare.ensures.ok c.prepare.ensures.err
