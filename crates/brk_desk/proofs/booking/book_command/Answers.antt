use Rattle.std.proofs.Common.{Err, Ok, inl, inr, refl}
use Rattle.std.proofs.lemmas.Result.{err_from_is_err_and}
use Rattle.std.specs.Option.{option_copied}
use Rattle.std.specs.Prelude.{IfSome}
use Rattle.brk_ref.specs.Records.{abstract_kept_row}
use Rattle.brk_desk_commands.specs.Commands.{abstract_command}
use Rattle.brk_desk.specs.Keys.{optional_model_key}
use Rattle.brk_audit_theorems.specs.InForm.{MeetsAuditFormats, IsWellFormedKey}
use Rattle.brk_desk.proofs.Calling.{DecidesCommandOfNewKey, books_it, books_none, fails, known, refuses, repeats, same_fault}
use Rattle.brk_desk.proofs.Seen.{sought_some}
use Rattle.brk_desk.proofs.booking.book_command.Goals as goal

pub returns-in-Some : goal.returns-in-Some
returns-in-Some g c =
    let old = c.args.store.now in
    let key = optional_model_key (option_copied c.args.key) in
    let formed : MeetsAuditFormats (abstract_command c.args.command.now)
    × IfSome key IsWellFormedKey = (c.prove_formats.ensures.command, c.prove_formats.ensures.key) in
    let sought = rw c.in-Some.is at c.in_ok-kept.ensures in
    record {
      called = repeats g.S.Store old c.read_kept.new.store c.args.now (abstract_command c.args.command.now) key formed (abstract_kept_row c.in-Some.kept)
          c.in_ok-answer_retry.field-0 c.in_ok-answer_retry.ensures (sought_some g.S.Store old c.read_kept.new.store key c.in-Some.kept sought);
    }

pub returns-in_err-answer_retry : goal.returns-in_err-answer_retry
returns-in_err-answer_retry g c =
    let old = c.args.store.now in
    let key = optional_model_key (option_copied c.args.key) in
    let formed : MeetsAuditFormats (abstract_command c.args.command.now)
    × IfSome key IsWellFormedKey = (c.prove_formats.ensures.command, c.prove_formats.ensures.key) in
    let sought = rw c.in-Some.is at c.in_ok-kept.ensures in
    let p = err_from_is_err_and c.from_residual-in_err-answer_retry.result c.from_residual-in_err-answer_retry.ensures.1 in
    record {
      called = rw (p.1, p.2)
          (fails g.S.Store old c.read_kept.new.store c.args.now (abstract_command c.args.command.now) key formed _
          (sought_some g.S.Store old c.read_kept.new.store key c.in-Some.kept sought) _ (inl refl));
    }

pub returns-in_err-plan-in-Ok : goal.returns-in_err-plan-in-Ok
returns-in_err-plan-in-Ok g c =
    let old = c.args.store.now in
    let mid = c.decide.new.store in
    let key = optional_model_key (option_copied c.args.key) in
    let formed : MeetsAuditFormats (abstract_command c.args.command.now)
    × IfSome key IsWellFormedKey = (c.prove_formats.ensures.command, c.prove_formats.ensures.key) in
    let command = abstract_command c.args.command.now in
    let planned = Ok c.in-Ok.plan in
    let sought = rw c.in_default.is at c.in_ok-kept.ensures in
    let decided = rw c.in-Ok.is at c.in_ok-plan.ensures in
    let seen = known g.S.Store old c.read_kept.new.store mid c.args.now command key planned sought decided in
    let p = err_from_is_err_and c.from_residual-in_err-plan-in-Ok.result c.from_residual-in_err-plan-in-Ok.ensures.1 in
    record {
      called = rw (p.1, p.2)
          (fails g.S.Store old mid c.args.now command key formed (DecidesCommandOfNewKey c.args.now command key planned) seen _
          (inl refl));
    }

pub returns-in_err-apply-in-Ok : goal.returns-in_err-apply-in-Ok
returns-in_err-apply-in-Ok g c =
    let old = c.args.store.now in
    let mid = c.decide.new.store in
    let key = optional_model_key (option_copied c.args.key) in
    let formed : MeetsAuditFormats (abstract_command c.args.command.now)
    × IfSome key IsWellFormedKey = (c.prove_formats.ensures.command, c.prove_formats.ensures.key) in
    let command = abstract_command c.args.command.now in
    let sought = rw c.in_default.is at c.in_ok-kept.ensures in
    let decided = rw c.in-Ok.is at c.in_ok-plan.ensures in
    let seen = known g.S.Store old c.read_kept.new.store mid c.args.now command key (Ok c.in-Ok.plan) sought decided in
    let p = err_from_is_err_and c.from_residual-in_err-apply-in-Ok.result c.from_residual-in_err-apply-in-Ok.ensures.1 in
    let applied = rw c.deref.ensures.value at c.in_err-apply-in-Ok.ensures.applied in
    record {
      called = rw (p.1, p.2)
          (books_none g.S.Store old mid c.args.now command key formed c.in-Ok.plan seen c.apply.new.self c.in_ok-plan-in-Ok.plan c.in_ok-plan-in-Ok.ensures.reply
          c.in_ok-plan-in-Ok.ensures.rows _ (inr (same_fault _ _ _ refl c.in_err-apply-in-Ok.ensures.fault)) applied);
    }

pub returns-in_ok-apply-in-Ok : goal.returns-in_ok-apply-in-Ok
returns-in_ok-apply-in-Ok g c =
    let old = c.args.store.now in
    let mid = c.decide.new.store in
    let key = optional_model_key (option_copied c.args.key) in
    let formed : MeetsAuditFormats (abstract_command c.args.command.now)
    × IfSome key IsWellFormedKey = (c.prove_formats.ensures.command, c.prove_formats.ensures.key) in
    let command = abstract_command c.args.command.now in
    let sought = rw c.in_default.is at c.in_ok-kept.ensures in
    let decided = rw c.in-Ok.is at c.in_ok-plan.ensures in
    let seen = known g.S.Store old c.read_kept.new.store mid c.args.now command key (Ok c.in-Ok.plan) sought decided in
    let applied = rw c.deref.ensures.value at c.in_ok-apply-in-Ok.ensures.applied in
    record {
      called = books_it g.S.Store old mid c.args.now command key formed c.in-Ok.plan seen c.apply.new.self c.in_ok-plan-in-Ok.plan
          c.in_ok-plan-in-Ok.ensures.reply c.in_ok-plan-in-Ok.ensures.rows c.in_ok-apply-in-Ok.field-0 applied;
    }

pub returns-in-Err : goal.returns-in-Err
returns-in-Err g c =
    let old = c.args.store.now in
    let mid = c.decide.new.store in
    let key = optional_model_key (option_copied c.args.key) in
    let formed : MeetsAuditFormats (abstract_command c.args.command.now)
    × IfSome key IsWellFormedKey = (c.prove_formats.ensures.command, c.prove_formats.ensures.key) in
    let command = abstract_command c.args.command.now in
    let sought = rw c.in_default.is at c.in_ok-kept.ensures in
    let decided = rw c.in-Err.is at c.in_ok-plan.ensures in
    let seen = known g.S.Store old c.read_kept.new.store mid c.args.now command key (Err c.in-Err.refusal) sought decided in
    record { called = refuses g.S.Store old mid c.args.now command key formed c.in-Err.refusal seen }
