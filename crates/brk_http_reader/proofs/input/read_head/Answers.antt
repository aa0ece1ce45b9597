use Rattle.std.proofs.Common.{◌≡◌, arith, take, length, min, sym, ◌∙◌, Some, None, ap, vec_len, Ok}
use Rattle.brk_model_http.specs.Heads.{head_length, most_head_bytes, head_end}
use Rattle.brk_http_reader.proofs.FrontLemmas.{head_at, head_long, head_cut, head_nothing, Moves_trans}
use Rattle.brk_http_reader.proofs.input.read_head.Goals as goal

pub returns-in-Some-clause-value : goal.returns-in-Some-clause-value
unfolding head_end
returns-in-Some-clause-value g c =
    let len : vec_len c.filling.buffer ≡ length c.filling.buffer.items = sym c.deref.ensures.len ∙ ap length c.deref.ensures.value in
    let e : head_length (take (min (length c.filling.buffer.items) most_head_bytes) c.filling.buffer.items) ≡ Some c.in-Some.n =
    sym (rw (c.min-seen.ensures, c.len-len.ensures, c.deref.ensures.value, len) at (sym c.in-Some.is ∙ c.length_of_head.ensures.value)) in
    head_at most_head_bytes _ _ _ _ c.in-Some.n c.filling.invariant e

pub returns-then-len-ge-MAXIMUM_HEAD_BYTES-clause-value : goal.returns-then-len-ge-MAXIMUM_HEAD_BYTES-clause-value
unfolding head_end
returns-then-len-ge-MAXIMUM_HEAD_BYTES-clause-value g c =
    let len : vec_len c.filling.buffer ≡ length c.filling.buffer.items = sym c.deref.ensures.len ∙ ap length c.deref.ensures.value in
    let e : head_length (take (min (length c.filling.buffer.items) most_head_bytes) c.filling.buffer.items) ≡ None =
    sym (rw (c.min-seen.ensures, c.len-len.ensures, c.deref.ensures.value, len) at (sym c.in-None.is ∙ c.length_of_head.ensures.value)) in
    head_long most_head_bytes _ _ _ _ (omega arith) c.filling.invariant e (omega arith)

pub returns-then-not-branch-clause-value : goal.returns-then-not-branch-clause-value
unfolding head_end
returns-then-not-branch-clause-value g c =
    let len : vec_len c.filling.buffer ≡ length c.filling.buffer.items = sym c.deref.ensures.len ∙ ap length c.deref.ensures.value in
    let e : head_length (take (min (length c.filling.buffer.items) most_head_bytes) c.filling.buffer.items) ≡ None =
    sym (rw (c.min-seen.ensures, c.len-len.ensures, c.deref.ensures.value, len) at (sym c.in-None.is ∙ c.length_of_head.ensures.value)) in
    let end = c.in_ok-fill_buffer.ensures.end (ap (λ b. Ok b) c.if-not-branch.true) in
    let f : head_length (take (min (length c.fill_buffer.new.buffer.items) most_head_bytes) c.fill_buffer.new.buffer.items) ≡ None = rw end.1 e in
    let same : length c.fill_buffer.new.buffer.items ≡ vec_len c.filling.buffer = ap length end.1 ∙ sym len in
    head_cut most_head_bytes _ _ _ _ (Moves_trans _ _ _ _ _ _ c.filling.invariant c.in_ok-fill_buffer.ensures.moves) end.0 f (omega arith) (omega arith)

pub returns-then-len-eq0-clause-value : goal.returns-then-len-eq0-clause-value
unfolding head_end
returns-then-len-eq0-clause-value g c =
    let len : vec_len c.filling.buffer ≡ length c.filling.buffer.items = sym c.deref.ensures.len ∙ ap length c.deref.ensures.value in
    let end = c.in_ok-fill_buffer.ensures.end (ap (λ b. Ok b) c.if-not-branch.true) in
    let same : length c.fill_buffer.new.buffer.items ≡ vec_len c.filling.buffer = ap length end.1 ∙ sym len in
    head_nothing most_head_bytes _ _ _ _ (Moves_trans _ _ _ _ _ _ c.filling.invariant c.in_ok-fill_buffer.ensures.moves) end.0 (omega arith)
