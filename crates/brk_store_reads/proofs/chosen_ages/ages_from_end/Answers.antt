use Rattle.std.proofs.Common.{◌≡◌, ◌∙◌, ◌+◌, ◌∷◌, ◌++◌, ℕ, [], Some, ap, arith, drop, refl, slice_get, sym, take}
use Rattle.brk_store_index.specs.Ages.{in_order}
use Rattle.brk_store_reads.proofs.ByAges.{no_age, one_age}
use Rattle.brk_store_reads.proofs.chosen_ages.ages_from_end.Goals as goal

pub loop-place-init : goal.loop-place-init
loop-place-init c = record { chosen = c.new-chosen.ensures.items; within = omega arith }

pub loop-place-preserved : goal.loop-place-preserved
loop-place-preserved c =
    let es = in_order c.args.newest_first c.args.ages.now.items in
    let n = c.loop-place.place in
    let k = c.args.skipped in
    let age = c.in-Some.age in
    let this : slice_get es (k + n) ≡ Some age = sym c.age_in_order.ensures ∙ c.in-Some.is in
    let more : take (n + 1) (drop k es) ≡ take n (drop k es) ++ age ∷ [] = one_age es (k + n) age this n k refl in
    record {
      chosen = c.in_ok-push.ensures.items ∙ ap (λ l. l ++ age ∷ []) c.loop-place.invariant.chosen ∙ sym more;
      within = omega arith;
    }

pub returns-in_default : goal.returns-in_default
returns-in_default c =
    let es = in_order c.args.newest_first c.args.ages.now.items in
    let n = c.loop-place.place in
    let k = c.args.skipped in
    c.loop-place.invariant.chosen ∙ no_age es (k + n) (sym c.in_default.is ∙ c.age_in_order.ensures) n k c.args.most refl c.loop-place.invariant.within

pub returns : goal.returns
returns c =
    let es = in_order c.args.newest_first c.args.ages.now.items in
    let last : c.loop-place.place ≡ c.args.most = omega (arith, c.loop-place.invariant.within) in
    c.loop-place.invariant.chosen ∙ ap (λ (m : ℕ). take m (drop c.args.skipped es)) last
