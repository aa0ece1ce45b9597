use Rattle.std.proofs.lemmas.Result.{on_err_weaker}
use Rattle.brk_cli_exit.proofs.Prefixes.{prefix_of}
use Rattle.brk_cli_exit.proofs.sink.AnySink.send.Goals as goal

pub returns-clause-err : goal.returns-clause-err
returns-clause-err g c = on_err_weaker c.write_all_bytes.result (λ h. (c.args.self.now, tt, prefix_of _ _ _ h.0 h.1)) c.write_all_bytes.ensures.err
