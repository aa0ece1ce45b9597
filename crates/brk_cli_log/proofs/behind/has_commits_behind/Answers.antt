use Rattle.std.proofs.Common.{ℕ, ◌+◌, ◌<◌, Option, arith, refl, subst, sym, ◌∙◌}
use Rattle.std.proofs.lemmas.Bool.{false≢true}
use Rattle.brk_cli_log.specs.Chains.{IsLastMark}
use Rattle.brk_cli_log.proofs.Chained.{first_mark, found_pair, next_mark, none_at_first, none_more}
use Rattle.brk_cli_log.proofs.behind.has_commits_behind.Goals as goal

pub loop-n-init : goal.loop-n-init
loop-n-init c = (first_mark _ _ _, none_at_first _ _ _)

pub returns-then-is_second_commit : goal.returns-then-is_second_commit
returns-then-is_second_commit c =
    let second = c.is_second_commit.ensures.0 c.if-is_second_commit.true in
    let pair = found_pair _ _ _ _ _ _ c.kind_of_frame-kind.ensures c.loop-n.invariant.0 second in
    (λ _. (pair.0, (c.loop-n.n, omega arith, pair.1)), λ _. refl)

pub loop-n-preserved : goal.loop-n-preserved
loop-n-preserved c =
    let behind : c.args.k < c.loop-n.n = omega arith in
    let mark = next_mark _ _ _ _ _ _ behind c.kind_of_frame-kind.ensures c.loop-n.invariant.0 in (
      subst (λ (m : Option ℕ). IsLastMark c.args.page_size c.args.log.now c.args.k (c.loop-n.n + 1) m) (sym c.mark_after-mark.ensures) mark,
      none_more _ _ _ _ _ _ c.kind_of_frame-kind.ensures c.loop-n.invariant.0 c.loop-n.invariant.1
          (λ second. false≢true (sym c.if-is_second_commit.false ∙ c.is_second_commit.ensures.1 second)),
    )
