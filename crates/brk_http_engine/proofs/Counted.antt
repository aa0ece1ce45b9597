-- A stream that follows a script makes no more calls than its result allows.
use Rattle.std.proofs.Common.{◌≡◌, ℕ, ◌+◌, ◌≤◌, List, [], ◌∷◌, length, ap, arith, inl, inr}
use Rattle.std.specs.Prelude.{Result, Ok, Err}
use Rattle.brk_money.specs.Spelling.{Text}
use Rattle.brk_io.specs.Span.{ClockAndWriterChange, EnvironmentChange}
use Rattle.brk_model_http.specs.Asked.{RequestParsers, RequestDemand, ResponseOnly, DeskCall, demand_of_request}
use Rattle.brk_model_http.specs.Found.{RequestReading, NoBytesLeft, Unreadable, CompleteRequest}
use Rattle.brk_model_http.specs.Replies.{Response}
use Rattle.brk_model_http.specs.Stream.{StreamState, Finished, Continues, RequestEffect, IsEffectOfFirstRequest, IsEffectOfReading, AreRepliesOfStream, AreFirstReplies, IsResponseToDemand}
use Rattle.brk_http_engine.proofs.Effects.{effect_of}
use Rattle.brk_http_engine.specs.Limits.{call_limit_at_fault, call_limit_of_stream}
use Rattle.brk_http_engine.specs.Promises.{CallScript, StreamMatchesScript, IsNextScriptedCall}
use Rattle.brk_http_engine.specs.Turns.{ExchangeFailsWith}
use Rattle.brk_io.specs.declared.stream_fault.ServeFault.{ServeFault}
use Rattle.brk_io.specs.declared.stream_fault.FaultKind.{FaultKind}
use Rattle.brk_io.specs.declared.stream_fault.FaultKind.TheVariants as kinds

-- The number of calls of a script.
abbrev call_count_of_script : CallScript → ℕ
call_count_of_script script = length script.0

same_script : (before after : CallScript) (n : ℕ) → after ≡ before → call_count_of_script before ≤ call_count_of_script after + n
same_script before after n same = let e : call_count_of_script after ≡ call_count_of_script before = ap call_count_of_script same in omega (arith, e)

module _ (forms : RequestParsers) where
  responds_few : (asked : RequestDemand) (before after : CallScript) (taken : List ℕ) (response : Response)
      → IsResponseToDemand IsNextScriptedCall asked before taken response after → call_count_of_script before ≤ call_count_of_script after + 1
  responds_few (ResponseOnly said) before after taken response (is, none, same) = same_script before after 1 same
  responds_few (DeskCall call) before after taken response (now, outcome, is, took, (made, came)) =
      let e : call_count_of_script before ≡ length ((now, call) ∷ after.0) = ap length made in omega (arith, e)

  replied_few : (n : ℕ) (found : RequestReading) (effect : RequestEffect CallScript) → IsEffectOfReading forms IsNextScriptedCall n found effect
      → call_count_of_script effect.base ≤ call_count_of_script effect.after + 1
  replied_few n NoBytesLeft effect h = elim h [ ]
  replied_few n (Unreadable problem) effect (is, ends, none, same) = same_script effect.base effect.after 1 same
  replied_few n (CompleteRequest request rest) effect h = responds_few (demand_of_request forms request) effect.base effect.after effect.moments h.response h.responds

  one_few : (n : ℕ) (input : Text) (effect : RequestEffect CallScript) → IsEffectOfFirstRequest forms IsNextScriptedCall n input effect
      → call_count_of_script effect.base ≤ call_count_of_script effect.after + 1
  one_few n input effect h = replied_few n h.found effect h.replied

  replies_few : (rs : List Text) (n : ℕ) (next : StreamState) (before after : CallScript) (moments : List ℕ) → AreRepliesOfStream forms IsNextScriptedCall n next before moments rs after
      → call_count_of_script before ≤ call_count_of_script after + length rs
  replies_few rs n Finished before after moments (none, asked, same) = same_script before after (length rs) same
  replies_few [] n (Continues input) before after moments (none, asked, same) = same_script before after 0 same
  replies_few (reply ∷ rs) n (Continues input) before after moments (taken, more, next, mid, split, first, others) =
      let one : call_count_of_script before ≤ call_count_of_script mid + 1 = one_few n input (effect_of before taken reply next mid) first in
      let rest : call_count_of_script mid ≤ call_count_of_script after + length rs = replies_few rs (n + 1) next mid after more others in
      omega (arith, one, rest)

  begins_few : (rs : List Text) (n : ℕ) (input rest : Text) (before after : CallScript) (moments : List ℕ) → AreFirstReplies forms IsNextScriptedCall n input before moments rs rest after
      → call_count_of_script before ≤ call_count_of_script after + length rs
  begins_few [] n input rest before after moments (is, asked, same) = same_script before after 0 same
  begins_few (reply ∷ rs) n input rest before after moments (taken, more, left, mid, split, first, others) =
      let one : call_count_of_script before ≤ call_count_of_script mid + 1 = one_few n input (effect_of before taken reply (Continues left) mid) first in
      let later : call_count_of_script mid ≤ call_count_of_script after + length rs = begins_few rs (n + 1) left rest mid after more others in
      omega (arith, one, later)

  module _ {C : Type 0} (gives : C → ℕ → C → Type 0) where
    failed_few : (n : ℕ) (input : Text) (span : EnvironmentChange CallScript C) (kind : FaultKind)
        → ExchangeFailsWith forms IsNextScriptedCall gives n input span kind
        → call_count_of_script span.base ≤ call_count_of_script span.after + call_limit_at_fault kind
    failed_few n input span kinds.Read h = same_script span.base span.after 0 h.base
    failed_few n input span kinds.Memory (inl h) = same_script span.base span.after 1 h.base
    failed_few n input span kinds.Memory (inr (reply, next, h, wrote)) = one_few n input (effect_of span.base h.taken reply next span.after) h.one
    failed_few n input span kinds.Write (reply, next, size, h, wrote) = one_few n input (effect_of span.base h.taken reply next span.after) h.one

    pub tells_few : (input : Text) (script : CallScript) (outside : ClockAndWriterChange C) (result : Result ℕ ServeFault)
        → StreamMatchesScript forms gives input script outside result → call_count_of_script script ≤ call_limit_of_stream result
    tells_few input script outside (Ok count) h =
        let few : call_count_of_script script ≤ 0 + length h.replies = replies_few h.replies 0 (Continues input) script ([], []) h.moments h.replied in
        omega (arith, few, h.counted)
    tells_few input script outside (Err fault) h =
        let first : call_count_of_script script ≤ call_count_of_script h.mid + length h.replies = begins_few h.replies 0 input h.rest script h.mid h.moments h.begun in
        let last : call_count_of_script h.mid ≤ 0 + call_limit_at_fault fault.kind = failed_few (length h.replies) h.rest _ fault.kind h.failed in
        omega (arith, first, last, h.counted)
