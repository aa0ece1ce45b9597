use Rattle.brk_ref.specs.Records.{abstract_key}
use Rattle.brk_desk_commands.specs.Commands.{abstract_command}
use Rattle.brk_import.proofs.Under.{acts_if_ok, has_outcome, may_act_if_err, represented_if_err}
use Rattle.brk_import.proofs.at_desk.DeskRowsRows.call.Goals as goal

pub returns-clause-called : goal.returns-clause-called
returns-clause-called g c = has_outcome g.S.Store _ _ c.args.now c.args.command.now c.args.key.now _ c.call.ensures.called

pub returns-clause-ok : goal.returns-clause-ok
returns-clause-ok g c = acts_if_ok g.S.Store _ _ c.args.now (abstract_command c.args.command.now) (abstract_key c.args.key.now) _ c.call.ensures.called

pub returns-clause-err : goal.returns-clause-err
returns-clause-err g c = represented_if_err g.S.Store _ _ c.args.now (abstract_command c.args.command.now) (abstract_key c.args.key.now) _ c.call.ensures.called

pub returns-clause-stop : goal.returns-clause-stop
returns-clause-stop g c = may_act_if_err g.S.Store _ _ c.args.now (abstract_command c.args.command.now) (abstract_key c.args.key.now) _ c.call.ensures.called
