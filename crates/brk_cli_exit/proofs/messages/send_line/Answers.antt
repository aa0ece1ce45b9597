use Rattle.std.proofs.lemmas.Result.{on_err_weaker}
use Rattle.brk_cli_exit.proofs.Prefixes.{fails_after, fails_before, on_err}
use Rattle.brk_cli_exit.proofs.messages.send_line.Goals as goal

pub returns-in_err-send-clause-err : goal.returns-in_err-send-clause-err
returns-in_err-send-clause-err g c =
    rw (← c.as_bytes.ensures.value) (on_err c.from_residual.result (fails_before g.S.Sink.contents g.S.Sink.fails _ _ _ _ c.in_err-send.ensures.err))

pub returns-in_err-send-2-clause-err : goal.returns-in_err-send-2-clause-err
returns-in_err-send-2-clause-err g c =
    rw (← c.as_bytes.ensures.value, ← c.as_bytes-2.ensures.value) (on_err c.from_residual-in_err-send-2.result
    (fails_after g.S.Sink.contents g.S.Sink.fails _ _ _ _ _ c.in_ok-send.ensures.ok (fails_before g.S.Sink.contents g.S.Sink.fails _ _ _ _ c.in_err-send-2.ensures.err)))

pub returns-clause-err : goal.returns-clause-err
returns-clause-err g c =
    rw (← c.as_bytes.ensures.value, ← c.as_bytes-2.ensures.value) (on_err_weaker c.send-3.result
    (λ h. fails_after g.S.Sink.contents g.S.Sink.fails _ _ _ _ _ c.in_ok-send.ensures.ok (fails_after g.S.Sink.contents g.S.Sink.fails _ _ _ _ _ c.in_ok-send-2.ensures.ok h)) c.send-3.ensures.err)
