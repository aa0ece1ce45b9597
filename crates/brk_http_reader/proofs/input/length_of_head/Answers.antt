use Rattle.std.proofs.Common.{◌≡◌, ◌+◌, [], arith, get_or, drop, sym, ◌∙◌, ap}
use Rattle.std.proofs.lemmas.List.{drop_more, drop_all, take_rest}
use Rattle.brk_model_http.specs.Heads.{line_end_length_after_line_feed}
use Rattle.brk_http_reader.proofs.FrontLemmas.{found_here, passed_here, head_len-nil}
use Rattle.brk_http_reader.proofs.input.length_of_head.Goals as goal

pub returns-in-Some-clause-value : goal.returns-in-Some-clause-value
returns-in-Some-clause-value c =
    let cut = drop_more c.args.bytes.now c.loop-i.i 0 c.loop-i-test.true in
    let e = sym c.in-Some.is ∙ c.line_end_length_after_line_feed.ensures ∙ ap (line_end_length_after_line_feed (get_or c.args.bytes.now c.loop-i.i 0)) (take_rest c.args.bytes.now (c.loop-i.i + 1)) in
    found_here c.loop-i.i c.in-Some.n _ c.args.bytes.now _ cut (sym e) c.loop-i.invariant

pub loop-i-preserved : goal.loop-i-preserved
loop-i-preserved c =
    let cut = drop_more c.args.bytes.now c.loop-i.i 0 c.loop-i-test.true in
    let e = sym c.in-None.is ∙ c.line_end_length_after_line_feed.ensures ∙ ap (line_end_length_after_line_feed (get_or c.args.bytes.now c.loop-i.i 0)) (take_rest c.args.bytes.now (c.loop-i.i + 1)) in
    passed_here c.loop-i.i _ c.args.bytes.now _ cut (sym e) c.loop-i.invariant

pub returns-clause-value : goal.returns-clause-value
returns-clause-value c =
    let e : drop c.loop-i.i c.args.bytes.now ≡ [] = drop_all c.loop-i.i c.args.bytes.now (omega arith) in
    let h = rw (e, head_len-nil) at c.loop-i.invariant in h
