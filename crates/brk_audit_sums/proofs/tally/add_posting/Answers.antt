use Rattle.std.proofs.Common.{rules, ◌≡◌, ◌∙◌, ap, arith}
use Rattle.std.specs.Prelude.{◌+ℤ◌, nat_abs}
use Rattle.std.proofs.lemmas.Int.{to_z-of_z}
use Rattle.std.specs.Int.{w64, w128}
use mir.Val.{SFits}
use Rattle.brk_audit_sums.specs.Tally.{sum_at_key}
use Rattle.brk_audit_sums.proofs.Tallies.{posted, posted_small}
use Rattle.brk_audit_sums.proofs.tally.add_posting.Goals as goal

pub returns : goal.returns
returns g c =
    let fits_sum : SFits w128 c.unwrap_or-sum.result = search rules in
    let fits_more : SFits w128 c.sum_plus_amount-more.result = search rules in
    let fits_amount : SFits w64 c.args.posting.now.amount = search rules in
    let read : c.unwrap_or-sum.result ≡ sum_at_key g.K.Ord.cmp c.args.tally.now c.args.posting.now.key = cc (c.get.ensures.value, c.unwrap_or-sum.ensures, c.copied.ensures) in
    let updates = simp to_z-of_z at c.in_ok-insert.ensures.updates in
    let sum = simp to_z-of_z at c.sum_plus_amount-more.ensures.sum in
    let small = simp to_z-of_z at c.sum_plus_amount-more.ensures.small in
    record {
      more = posted g.K.Ord.cmp g.met.K.Ord.total c.args.tally.now c.insert.new.self c.args.posting.now.key c.args.posting.now.amount c.sum_plus_amount-more.result
          (sum ∙ ap (λ s. s +ℤ c.args.posting.now.amount) read) updates;
      small = posted_small g.K.Ord.cmp g.met.K.Ord.total c.args.tally.now c.insert.new.self c.args.posting.now.key c.sum_plus_amount-more.result 9223372036854775808
          (let e = ap nat_abs read in let e : nat_abs c.unwrap_or-sum.result ≡ nat_abs (sum_at_key g.K.Ord.cmp c.args.tally.now c.args.posting.now.key) =
          ap nat_abs read in omega (arith, small)) updates;
    }
