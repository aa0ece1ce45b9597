use Rattle.std.proofs.Common.{◌≡◌, ◌++◌, ◌+◌, ◌≤◌, List, length, take, vec_len}
use Rattle.std.specs.Vec.{vec_capacity}
use Rattle.brk_io.specs.Calls.{IsCallSequence}
use Rattle.brk_desk.specs.CallPosts.{OutcomePost}
use Rattle.brk_desk.specs.declared.call.Outcome.{Outcome}
use Rattle.brk_desk.proofs.desk.Desk.run.Given as goal

abbrev pub invariant-loop-made : goal.invariant-loop-made
invariant-loop-made g l = record {
  made : (outcomes : List Outcome) × (l.out.items ≡ l.fn.out.items ++ outcomes)
      × IsCallSequence (λ old now call outcome new. OutcomePost g.S.Store old new now call outcome) l.fn.self (take l.made-index l.calls) outcomes l.self;
  room : vec_len l.out + length l.calls ≤ vec_capacity l.out + l.made-index;
}
