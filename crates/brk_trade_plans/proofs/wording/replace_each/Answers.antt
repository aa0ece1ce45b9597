use Rattle.std.proofs.Common.{rules, ◌≡◌, ◌++◌, sym, ap, subst, ◌∙◌, List, ℕ, string_bytes}
use Rattle.brk_trade_plans.proofs.Replacing.{IsReplacedSoFar, all_replaced, one_replaced}
use Rattle.brk_trade_plans.proofs.wording.replace_each.Goals as goal

-- src/wording.rt:22:5
pub loop-before-preserved : goal.loop-before-preserved
loop-before-preserved c =
    let (i, j, found, front, back, in_order, len, rest_len) = c.in-Some.ensures.cases in
    let written : string_bytes c.push_str-in-Some.new.self ≡ (string_bytes c.loop-before.written ++ c.in-Some.before.now) ++ c.args.new.now =
    c.in_ok-push_str-2.ensures.bytes ∙ ap (λ (t : List ℕ). t ++ c.args.new.now) c.in_ok-push_str.ensures.bytes in (
      search rules,
      subst (λ (t : List ℕ). IsReplacedSoFar c.args.part.now c.args.new.now c.args.text.now t c.in-Some.after.now) (sym written)
          (one_replaced c.args.part.now c.args.new.now c.args.text.now (string_bytes c.loop-before.written) c.loop-before.rest.now c.in-Some.before.now
          c.in-Some.after.now i j c.requires found front back len c.loop-before.invariant.1),
    )

-- src/wording.rt:16:1
pub returns : goal.returns
returns c =
    c.in_ok-push_str-3.ensures.bytes
    ∙ all_replaced c.args.part.now c.args.new.now c.args.text.now (string_bytes c.loop-before.written) c.loop-before.rest.now c.in_default.ensures.cases c.loop-before.invariant.1
