use Rattle.std.proofs.Common.{◌≡◌, ◌∙◌, ◌<◌, ◌+◌, ◌++◌, ◌∷◌, [], Result, cond, ap, refl, sym, subst, take, arith, rules, vec_len}
use Rattle.std.specs.Result.{IsOk, is_ok}
use Rattle.std.specs.Vec.{vec_capacity}
use Rattle.std.proofs.lemmas.List.{append-nil, append_assoc, take_all, take_more}
use Rattle.brk_io.specs.Calls.{IsCallSequence}
use Rattle.brk_io.proofs.Calls.{made_then}
use Rattle.brk_desk.specs.CallPosts.{OutcomePost}
use Rattle.brk_desk.proofs.Made.{run_of}
use Rattle.brk_desk.proofs.desk.Desk.run.Goals as goal

went_in : {A B L : Type 0} (r : Result A B) (x y : L) → IsOk r → cond (is_ok r) x y ≡ x
went_in r x y ok = ap (λ b. cond b x y) ok

pub loop-made-preserved : goal.loop-made-preserved
loop-made-preserved g c =
    let calls = c.args.calls.now in
    let i = c.loop-made.made-index in
    let item = c.made-item.result in
    let outcome = c.execute_call-outcome.result in
    let made = c.loop-made.invariant.made in
    let first = c.args.self.now in
    let last = c.execute_call-outcome.new.self in
    let inside : vec_len c.loop-made.out < vec_capacity c.loop-made.out = (let r = c.loop-made.invariant.room in let t = c.loop-made-test.true in omega arith) in
    let pushed = c.push.ensures.items ∙ went_in c.push.result (c.loop-made.out.items ++ outcome ∷ []) c.loop-made.out.items (c.push.ensures.succeeds inside) in
    let more = made_then (λ old now call outcome new. OutcomePost g.S.Store old new now call outcome) first c.loop-made.self last (take i calls) (item ∷ [])
    made.0 (outcome ∷ []) made.2 (last, c.execute_call-outcome.ensures.executed, refl) in
    let taken : take i calls ++ item ∷ [] ≡ take (i + 1) calls = ap (λ x. take i calls ++ x ∷ []) c.made-item.is ∙ sym (take_more calls i item c.loop-made-test.true) in
    record {
      made = (
        made.0 ++ outcome ∷ [],
        pushed ∙ ap (λ items. items ++ outcome ∷ []) made.1 ∙ append_assoc c.args.out.now.items made.0 (outcome ∷ []),
        subst (λ done. IsCallSequence (λ old now call outcome new. OutcomePost g.S.Store old new now call outcome) first done (made.0 ++ outcome ∷ []) last) taken more,
      );
      room = (let r = c.loop-made.invariant.room in let u = c.push.ensures.upper_bound in let k = c.push.ensures.capacity in omega arith);
    }

pub loop-made-init : goal.loop-made-init
loop-made-init g c = record {
  made = ([], c.reserve.ensures.items ∙ sym (append-nil c.args.out.now.items), refl);
  room = search rules;
}

pub returns-clause-executed : goal.returns-clause-executed
returns-clause-executed g c =
    let calls = c.args.calls.now in
    let made = c.loop-made.invariant.made in
    let whole : IsCallSequence (λ old now call outcome new. OutcomePost g.S.Store old new now call outcome) c.args.self.now calls made.0 c.loop-made.self =
    subst (λ done. IsCallSequence (λ old now call outcome new. OutcomePost g.S.Store old new now call outcome) c.args.self.now done made.0 c.loop-made.self)
    (take_all c.loop-made.made-index calls c.loop-made-test.false) made.2 in
    (made.0, made.1, run_of g.S.Store c.args.self.now c.loop-made.self calls made.0 whole)
