use Rattle.std.proofs.Common.{refl, [], ◌∷◌}
use Rattle.brk_http_engine.proofs.acting.execute_requested_call.Goals as goal

pub returns-in-Row : goal.returns-in-Row
returns-in-Row g c = rw c.in-Row.is (
  c.now-now.result ∷ [],
  (c.now-now.new.self, c.now-now.ensures, refl),
  (c.now-now.result, c.execute_command.ensures.0, c.execute_command.ensures.1, refl, c.execute_command.ensures.2),
)
