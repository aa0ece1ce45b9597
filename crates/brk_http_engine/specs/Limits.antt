-- The greatest number of calls of the desk that a request and a stream make.
use Rattle.std.specs.Prelude.{ℕ, ◌+◌, Result, Ok, Err}
use Rattle.brk_http_engine.specs.declared.exchanges.ExchangeResult.{ExchangeResult}
use Rattle.brk_http_engine.specs.declared.exchanges.ExchangeResult.TheVariants as turn
use Rattle.brk_io.specs.declared.stream_fault.FaultKind.{FaultKind}
use Rattle.brk_io.specs.declared.stream_fault.FaultKind.TheVariants as kinds
use Rattle.brk_io.specs.declared.stream_fault.ServeFault.{ServeFault}

-- The most calls of the desk by a request with this fault: 0 if the reader failed, otherwise 1.
abbrev pub call_limit_at_fault : FaultKind → ℕ
call_limit_at_fault kinds.Read = 0
call_limit_at_fault kinds.Write = 1
call_limit_at_fault kinds.Memory = 1

-- The most calls of the desk by an exchange with this result: 0 if no input was left, 1 after a
-- reply, and `call_limit_at_fault` after a fault.
abbrev pub call_limit_of_exchange : Result ExchangeResult FaultKind → ℕ
call_limit_of_exchange (Ok turn.Ended) = 0
call_limit_of_exchange (Ok turn.Open) = 1
call_limit_of_exchange (Ok turn.Closed) = 1
call_limit_of_exchange (Err kind) = call_limit_at_fault kind

-- The greatest number of calls of the desk that a stream with this result makes: 1 for each reply,
-- and after a fault also the limit at this fault (`call_limit_at_fault`).
abbrev pub call_limit_of_stream : Result ℕ ServeFault → ℕ
call_limit_of_stream (Ok count) = count
call_limit_of_stream (Err fault) = fault.done + call_limit_at_fault fault.kind
