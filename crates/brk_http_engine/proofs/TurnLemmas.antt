-- From the request at the front of the input to an exchange of the stream.
use Rattle.std.proofs.Common.{◌≡◌, ℕ, [], ◌++◌, drop, take, Bool, true, false, Option, Some, None, refl, ap, ◌∙◌, subst, IfSome, inl, inr}
use Rattle.std.specs.Io.KnownBytes.{Appends, prepend_known}
use Rattle.brk_money.specs.Spelling.{Text}
use Rattle.brk_io.specs.Span.{IsUnchangedEnvironment, EnvironmentChange}
use Rattle.brk_model_http.specs.Asked.{RequestParsers}
use Rattle.brk_model_http.specs.Found.{Request, RequestReading, NoBytesLeft, Unreadable, CompleteRequest, ReadsFirstRequest}
use Rattle.brk_model_http.specs.Replies.{FromProblem, reply_text}
use Rattle.brk_model_http.specs.Stream.{CallRelation, Finished, stream_after_reply}
use Rattle.brk_model_http.specs.declared.problem.RequestProblem.{RequestProblem}
use Rattle.brk_http_reader.specs.FirstRequests.{request_at_positions, MatchesNextRequest}
use Rattle.brk_http_reader.specs.declared.next.RequestPositions.{RequestPositions}
use Rattle.brk_http_reader.specs.declared.next.NextRequest.TheVariants.{Whole}
use Rattle.brk_http_engine.specs.Turns.{ExecutesRequest, ExchangeHasReply, ExchangeCompletesWith, ExchangeFailsWith}
use Rattle.brk_http_engine.specs.declared.exchanges.ExchangeResult.TheVariants as turn
use Rattle.brk_io.specs.declared.stream_fault.FaultKind.TheVariants as kinds

module _ {B C : Type 0} (forms : RequestParsers) (does : CallRelation B) (gives : C → ℕ → C → Type 0) (n : ℕ) (a : Option Text) (x : Text) (span : EnvironmentChange B C) where
  pub ended : IfSome a (λ xs. (found : RequestReading) × ReadsFirstRequest (x ++ xs) found × (found ≡ NoBytesLeft)) → IsUnchangedEnvironment span → (left : Option Text)
      → IfSome a (λ xs. ExchangeCompletesWith forms does gives n (x ++ xs) span left turn.Ended)
  ended h same left = over a h
    where
      over : (a : Option Text) → IfSome a (λ xs. (found : RequestReading) × ReadsFirstRequest (x ++ xs) found × (found ≡ NoBytesLeft))
          → IfSome a (λ xs. ExchangeCompletesWith forms does gives n (x ++ xs) span left turn.Ended)
      over None h = tt
      over (Some xs) (found, finds, is) = (subst (λ f. ReadsFirstRequest (x ++ xs) f) is finds, same)

  -- the reply to what is no request
  wrong : (problem : RequestProblem) (input : Text) (found : RequestReading) → ReadsFirstRequest input found → found ≡ Unreadable problem → span.after ≡ span.base → span.later ≡ span.clock
      → ExchangeHasReply forms does gives n input span (reply_text (FromProblem problem) true) Finished
  wrong problem input found finds is base clock = record {
    taken = [];
    moments = clock;
    one = record { found = Unreadable problem; finds = subst (λ f. ReadsFirstRequest input f) is finds; replied = (refl, refl, refl, base) };
  }

  pub wrong_closed : (problem : RequestProblem) (reply : Text)
      → IfSome a (λ xs. (found : RequestReading) × ReadsFirstRequest (x ++ xs) found × (found ≡ Unreadable problem)) → span.after ≡ span.base
      → span.later ≡ span.clock
      → reply ≡ reply_text (FromProblem problem) true → Appends span.old span.new reply → (left : Option Text)
      → IfSome a (λ xs. ExchangeCompletesWith forms does gives n (x ++ xs) span left turn.Closed)
  wrong_closed problem reply h base clock is wrote left = over a h
    where
      over : (a : Option Text) → IfSome a (λ xs. (found : RequestReading) × ReadsFirstRequest (x ++ xs) found × (found ≡ Unreadable problem))
          → IfSome a (λ xs. ExchangeCompletesWith forms does gives n (x ++ xs) span left turn.Closed)
      over None h = tt
      over (Some xs) (found, finds, same) = (reply_text (FromProblem problem) true, wrong problem (x ++ xs) found finds same base clock, rw is at wrote)

  pub wrong_failed : (problem : RequestProblem) (reply : Text)
      → IfSome a (λ xs. (found : RequestReading) × ReadsFirstRequest (x ++ xs) found × (found ≡ Unreadable problem)) → span.after ≡ span.base
      → span.later ≡ span.clock
      → reply ≡ reply_text (FromProblem problem) true → ((k : ℕ) × Appends span.old span.new (take k reply)) → IfSome a (λ xs. ExchangeFailsWith forms does gives n (x ++ xs) span kinds.Write)
  wrong_failed problem reply h base clock is (k, wrote) = over a h
    where
      over : (a : Option Text) → IfSome a (λ xs. (found : RequestReading) × ReadsFirstRequest (x ++ xs) found × (found ≡ Unreadable problem))
          → IfSome a (λ xs. ExchangeFailsWith forms does gives n (x ++ xs) span kinds.Write)
      over None h = tt
      over (Some xs) (found, finds, same) = (reply_text (FromProblem problem) true, Finished, k, wrong problem (x ++ xs) found finds same base clock, rw is at wrote)

  pub untouched : IsUnchangedEnvironment span → IfSome a (λ xs. ExchangeFailsWith forms does gives n (x ++ xs) span kinds.Memory)
  untouched same = over a
    where
      over : (a : Option Text) → IfSome a (λ xs. ExchangeFailsWith forms does gives n (x ++ xs) span kinds.Memory)
      over None = tt
      over (Some xs) = inl same

  pub unread : IsUnchangedEnvironment span → IfSome a (λ xs. ExchangeFailsWith forms does gives n (x ++ xs) span kinds.Read)
  unread same = over a
    where
      over : (a : Option Text) → IfSome a (λ xs. ExchangeFailsWith forms does gives n (x ++ xs) span kinds.Read)
      over None = tt
      over (Some xs) = same

  -- the reply to a request
  answered : (request : Request) (input rest : Text) (closes : Bool) (reply : Text) (found : RequestReading) → ReadsFirstRequest input found → found ≡ CompleteRequest request rest
      → ExecutesRequest forms does gives n request span closes reply → ExchangeHasReply forms does gives n input span reply (stream_after_reply closes rest)
  answered request input rest closes reply found finds is acted = record {
    taken = acted.taken;
    moments = acted.moments;
    one = record {
      found = CompleteRequest request rest;
      finds = subst (λ f. ReadsFirstRequest input f) is finds;
      replied = record { response = acted.response; closes = closes; responds = acted.responds; last = acted.last; bytes = acted.bytes; follows = refl };
    };
  }

  pub request_failed : (q : RequestPositions) (y : Text) (left : Option Text) (closes : Bool) (reply : Text)
      → IfSome a (λ xs. (found : RequestReading) × ReadsFirstRequest (x ++ xs) found × MatchesNextRequest (Whole q) y left found)
      → ExecutesRequest forms does gives n (request_at_positions y q) span closes reply → ((k : ℕ) × Appends span.old span.new (take k reply))
      → IfSome a (λ xs. ExchangeFailsWith forms does gives n (x ++ xs) span kinds.Write)
  request_failed q y left closes reply h acted (k, wrote) = over a h
    where
      over : (a : Option Text) → IfSome a (λ xs. (found : RequestReading) × ReadsFirstRequest (x ++ xs) found × MatchesNextRequest (Whole q) y left found)
          → IfSome a (λ xs. ExchangeFailsWith forms does gives n (x ++ xs) span kinds.Write)
      over None h = tt
      over (Some xs) (found, finds, (rest, some, is)) = (reply, stream_after_reply closes rest, k, answered (request_at_positions y q) (x ++ xs) rest closes reply found finds is acted, wrote)

  pub request_unwritten : (q : RequestPositions) (y : Text) (left : Option Text) (closes : Bool) (reply : Text)
      → IfSome a (λ xs. (found : RequestReading) × ReadsFirstRequest (x ++ xs) found × MatchesNextRequest (Whole q) y left found)
      → ExecutesRequest forms does gives n (request_at_positions y q) span closes reply → Appends span.old span.new []
      → IfSome a (λ xs. ExchangeFailsWith forms does gives n (x ++ xs) span kinds.Memory)
  request_unwritten q y left closes reply h acted wrote = over a h
    where
      over : (a : Option Text) → IfSome a (λ xs. (found : RequestReading) × ReadsFirstRequest (x ++ xs) found × MatchesNextRequest (Whole q) y left found)
          → IfSome a (λ xs. ExchangeFailsWith forms does gives n (x ++ xs) span kinds.Memory)
      over None h = tt
      over (Some xs) (found, finds, (rest, some, is)) = inr (reply, stream_after_reply closes rest, answered (request_at_positions y q) (x ++ xs) rest closes reply found finds is acted, wrote)

  pub request_closed : (q : RequestPositions) (y : Text) (left : Option Text) (closes : Bool) (reply : Text)
      → IfSome a (λ xs. (found : RequestReading) × ReadsFirstRequest (x ++ xs) found × MatchesNextRequest (Whole q) y left found)
      → ExecutesRequest forms does gives n (request_at_positions y q) span closes reply → closes ≡ true → Appends span.old span.new reply
      → (after : Option Text) → IfSome a (λ xs. ExchangeCompletesWith forms does gives n (x ++ xs) span after turn.Closed)
  request_closed q y left closes reply h acted last wrote after = over a h
    where
      over : (a : Option Text) → IfSome a (λ xs. (found : RequestReading) × ReadsFirstRequest (x ++ xs) found × MatchesNextRequest (Whole q) y left found)
          → IfSome a (λ xs. ExchangeCompletesWith forms does gives n (x ++ xs) span after turn.Closed)
      over None h = tt
      over (Some xs) (found, finds, (rest, some, is)) = (
        reply,
        subst (λ b. ExchangeHasReply forms does gives n (x ++ xs) span reply (stream_after_reply b rest)) last
            (answered (request_at_positions y q) (x ++ xs) rest closes reply found finds is acted),
        wrote,
      )

  pub request_open : (q : RequestPositions) (y : Text) (left : Option Text) (closes : Bool) (reply : Text)
      → IfSome a (λ xs. (found : RequestReading) × ReadsFirstRequest (x ++ xs) found × MatchesNextRequest (Whole q) y left found)
      → ExecutesRequest forms does gives n (request_at_positions y q) span closes reply → closes ≡ false → Appends span.old span.new reply → (z : Text) → z ≡ drop q.body.end y
      → IfSome a (λ xs. ExchangeCompletesWith forms does gives n (x ++ xs) span (prepend_known z left) turn.Open)
  request_open q y left closes reply h acted goes_on wrote z cut = over a h
    where
      over : (a : Option Text) → IfSome a (λ xs. (found : RequestReading) × ReadsFirstRequest (x ++ xs) found × MatchesNextRequest (Whole q) y left found)
          → IfSome a (λ xs. ExchangeCompletesWith forms does gives n (x ++ xs) span (prepend_known z left) turn.Open)
      over None h = tt
      over (Some xs) (found, finds, (rest, some, is)) = (
        reply,
        rest,
        subst (λ b. ExchangeHasReply forms does gives n (x ++ xs) span reply (stream_after_reply b rest)) goes_on
            (answered (request_at_positions y q) (x ++ xs) rest closes reply found finds is acted),
        wrote,
        ap (λ front. prepend_known front left) cut ∙ some,
      )
