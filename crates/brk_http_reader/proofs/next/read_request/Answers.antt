use Rattle.std.proofs.Common.{ap, Ok}
use Rattle.brk_http_reader.proofs.NextLemmas.{bad_len, cut_body, whole_body}
use Rattle.brk_http_reader.proofs.next.read_request.Goals as goal

pub returns-in-Err-clause-found : goal.returns-in-Err-clause-found
returns-in-Err-clause-found g c =
    let value = rw c.in-At.is at c.in_ok-read_head.ensures.value in
    let within = rw c.in-At.is at c.in_ok-read_head.ensures.within in
    let head = rw c.deref.ensures.value at c.in-Some.ensures.head in
    bad_len _ _ _ _ c.in-At.end c.in_ok-read_head.ensures.moves value within c.in-Some.facts head.0 head.1 c.in-Err.problem head.2 c.in-Err.is

pub returns-then-not-there-clause-found : goal.returns-then-not-there-clause-found
returns-then-not-there-clause-found g c =
    let value = rw c.in-At.is at c.in_ok-read_head.ensures.value in
    let within = rw c.in-At.is at c.in_ok-read_head.ensures.within in
    let head = rw c.deref.ensures.value at c.in-Some.ensures.head in
    let short = c.in_ok-there.ensures.short (ap (λ b. Ok b) c.if-not-there.true) in
    cut_body _ _ _ _ c.in-At.end c.in_ok-read_head.ensures.moves value within c.in-Some.facts head.0 head.1 c.in-Ok.len _ _ head.2 c.in-Ok.is
    c.in_ok-there.ensures.moves short.1 short.0

pub returns-clause-found : goal.returns-clause-found
returns-clause-found g c =
    let value = rw c.in-At.is at c.in_ok-read_head.ensures.value in
    let within = rw c.in-At.is at c.in_ok-read_head.ensures.within in
    let head = rw c.deref.ensures.value at c.in-Some.ensures.head in
    let spans = rw c.deref.ensures.value at c.in-Some.ensures.within in
    let there = c.in_ok-there.ensures.whole (ap (λ b. Ok b) c.if-not-there.false) in
    whole_body _ _ _ _ c.in-At.end c.in_ok-read_head.ensures.moves value within c.in-Some.facts head.0 head.1 c.in-Ok.len _ _ head.2 c.in-Ok.is
    c.in_ok-there.ensures.moves there spans.0 spans.1
