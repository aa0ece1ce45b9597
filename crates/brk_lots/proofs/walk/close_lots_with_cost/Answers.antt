use Rattle.std.proofs.Common.{rules, arith, ◌≡◌, ℕ, length, drop, ◌+◌, ◌*◌, ◌-◌, ◌≤◌, min, unsigned_abs, true, false, List, [], ◌∷◌, ◌++◌, refl, sym, ap, ◌∙◌, subst, append-nil}
use Rattle.std.proofs.lemmas.List.{append_assoc, length-append, drop-drop}
use Rattle.std.proofs.Math.Nat.{mul-le-mul_left}
use Rattle.brk_model.specs.Limits.{greatest_price}
use Rattle.brk_lots.specs.declared.lot.Lot.{Lot}
use Rattle.brk_lots.specs.declared.lot.Touch.{Touch}
use Rattle.brk_lots.specs.Position.{IsPositionInAnyOrder}
use Rattle.brk_money.specs.Kinds.{is_same_side}
use Rattle.brk_money.specs.declared.side.Side.{Side}
use Rattle.brk_lots.specs.Lots.{side_of_qty}
use Rattle.brk_lots.specs.Walks.{IsResultOfClosingLots, closed_share_count, touches_of_first_shares, cost_of_first_shares}
use Rattle.brk_lots.proofs.Runs.{size_positive}
use Rattle.brk_lots.proofs.Walks.{met_none, met_own, touches_none, paid_none, met_more, touches_more, paid_more}
use Rattle.brk_lots.proofs.walk.close_lots_with_cost.Goals as goal

-- the next of what is left
drop_next : {X : Type 0} (n : ℕ) (xs : List X) (y : X) (ys : List X) → drop n xs ≡ y ∷ ys → ys ≡ drop (n + 1) xs
drop_next n xs y ys e = sym (ap (drop 1) e) ∙ drop-drop 1 n xs

-- lots that were requested are at most one more than those that are touched in all
requested : (asked before : ℕ) (touched more all : List Touch) → asked ≤ before + length touched + 1 → touched ++ more ≡ all → asked ≤ before + length all + 1
requested asked before touched more all h e = omega (arith, h, ap length e, length-append touched more)

-- nothing more is met of what the walk ends with
ended : (side : Side) (qty left cost : ℕ) (touched : List Touch) (all rest : List Lot) → closed_share_count side left rest ≡ 0
    → left + closed_share_count side qty all ≡ qty + closed_share_count side left rest
    → touched ++ touches_of_first_shares (closed_share_count side left rest) rest ≡ touches_of_first_shares (closed_share_count side qty all) all
    → cost + cost_of_first_shares (closed_share_count side left rest) rest ≡ cost_of_first_shares (closed_share_count side qty all) all
    → IsResultOfClosingLots side qty all touched left cost
ended side qty left cost touched all rest none il it ip =
    let z : touches_of_first_shares (closed_share_count side left rest) rest ≡ [] = rw none (touches_none rest) in
    let y : cost_of_first_shares (closed_share_count side left rest) rest ≡ 0 = rw none (paid_none rest) in
    record {
      left = omega (arith, none, il);
      rows = sym (append-nil touched) ∙ ap (λ (ts : List Touch). touched ++ ts) (sym z) ∙ it;
      shares = omega (arith, y, ip);
    }

pub loop-left-preserved : goal.loop-left-preserved
loop-left-preserved g c =
    let lot = c.in-Some.lot in
    let left = c.loop-left.left in
    let before = c.loop-left.source in
    let after = c.next.new.self in
    let v : c.from.result * c.from-in-loop-left.result ≡ c.shares_to_close_in_lot-shares.result * lot.price = rw (c.from.ensures, c.from-in-loop-left.ensures, c.get.ensures.value) refl in
    let b : c.shares_to_close_in_lot-shares.result * lot.price ≤ c.shares_to_close_in_lot-shares.result * greatest_price = mul-le-mul_left c.shares_to_close_in_lot-shares.result c.get.ensures.high in
    let s : c.shares_to_close_in_lot-shares.result ≡ min left (unsigned_abs lot.qty) = omega arith in
    let i = c.loop-left.invariant in
    let touched : List Touch = i.taken.0 in
    let earlier = g.met.L.LotSource.faithful_before before after c.next.ensures.leads in
    record {
      leads = g.met.L.LotSource.transitive c.args.source.now before after i.leads c.next.ensures.leads;
      taken = (
        touched ++ c.closing_touch.result ∷ [],
        c.in_ok-add.ensures.added touched i.taken.1,
        omega (arith, i.taken.2, c.next.ensures.asked, length-append touched (c.closing_touch.result ∷ [])),
        λ told all h w.
            let was = i.taken.3 (earlier told) all h w in
            let m = (rw c.in-Some.is at c.in_ok-lot.ensures.given) told was.0 was.1 in
            let ls = m.0 in
            let e : was.0 ≡ lot ∷ ls = m.1 in
            let walk : IsPositionInAnyOrder (lot ∷ ls) = subst IsPositionInAnyOrder e was.2 in
            let o : is_same_side (side_of_qty lot.qty) c.args.side ≡ false = search rules in
            let n : closed_share_count c.args.side left (lot ∷ ls) ≡ c.shares_to_close_in_lot-shares.result + closed_share_count c.args.side (left - c.shares_to_close_in_lot-shares.result) ls =
            rw s (met_more c.args.side left lot ls walk o) in
            let t : touches_of_first_shares (closed_share_count c.args.side left (lot ∷ ls)) (lot ∷ ls) ≡ c.closing_touch.result
            ∷ touches_of_first_shares (closed_share_count c.args.side (left - c.shares_to_close_in_lot-shares.result) ls) ls =
            rw (c.closing_touch.ensures, s) (touches_more c.args.side left lot ls walk o (omega arith)) in
            let p : cost_of_first_shares (closed_share_count c.args.side left (lot ∷ ls)) (lot ∷ ls) ≡ c.shares_to_close_in_lot-shares.result * lot.price
            + cost_of_first_shares (closed_share_count c.args.side (left - c.shares_to_close_in_lot-shares.result) ls) ls = rw s (paid_more c.args.side left lot ls walk o) in
            let il : left + closed_share_count c.args.side c.args.qty all ≡ c.args.qty + closed_share_count c.args.side left (lot ∷ ls) = rw e at was.3 in
            let it : touched ++ touches_of_first_shares (closed_share_count c.args.side left (lot ∷ ls)) (lot ∷ ls)
            ≡ touches_of_first_shares (closed_share_count c.args.side c.args.qty all) all = rw e at was.4 in
            let ip : c.loop-left.cost + cost_of_first_shares (closed_share_count c.args.side left (lot ∷ ls)) (lot ∷ ls)
            ≡ cost_of_first_shares (closed_share_count c.args.side c.args.qty all) all = rw e at was.5 in (
              ls,
              m.2,
              walk.2,
              omega (arith, n, il),
              append_assoc touched (c.closing_touch.result ∷ [])
                  (touches_of_first_shares (closed_share_count c.args.side (left - c.shares_to_close_in_lot-shares.result) ls) ls)
                  ∙ ap (λ (ts : List Touch). touched ++ ts) (sym t) ∙ it,
              rw v (omega (arith, ip, p)),
            ),
      );
      short = omega (arith, i.short);
      few = omega (arith, i.few, c.next.ensures.asked, s, size_positive lot.qty (rw c.in-Some.is at c.in_ok-lot.ensures.some_shares), c.loop-left-test.true);
      bound = rw v (omega (arith, b, i.bound));
      faulted = c.in_ok-lot.ensures.faulted ∙ i.faulted;
      given = λ told all h.
          let n = i.given (earlier told) all h in
          let m = (rw c.in-Some.is at c.in_ok-lot.ensures.given) told (drop n.0 all) n.1 in
          (n.0 + 1, subst (λ (l : List Lot). g.L.LotSource.remaining after l) (drop_next n.0 all lot m.0 m.1) m.2);
    }

pub returns-after-loop-left-clause-taken : goal.returns-after-loop-left-clause-taken
returns-after-loop-left-clause-taken g c =
    let t = c.loop-left.invariant.taken in
    let z : c.loop-left.left ≡ 0 = omega (arith, c.loop-left-test.false) in (
      t.0,
      t.1,
      omega (arith, t.2),
      λ ls given w.
          let b = t.3 given.0 ls given.1 w in
          ended c.args.side c.args.qty c.loop-left.left c.loop-left.cost t.0 ls b.0 (rw z (met_none c.args.side b.0)) b.3 b.4 b.5,
    )

pub returns-then-are_same_side-clause-taken : goal.returns-then-are_same_side-clause-taken
returns-then-are_same_side-clause-taken g c =
    let t = c.loop-left.invariant.taken in
    let lot = c.in-Some.lot in
    let o : is_same_side (side_of_qty lot.qty) c.args.side ≡ true = search rules in (
      t.0,
      t.1,
      omega (arith, t.2, c.next.ensures.asked),
      λ ls given w.
          let b = t.3 (g.met.L.LotSource.faithful_before c.loop-left.source c.next.new.self c.next.ensures.leads given.0) ls given.1 w in
          let m = (rw c.in-Some.is at c.in_ok-lot.ensures.given) given.0 b.0 b.1 in
          ended c.args.side c.args.qty c.loop-left.left c.loop-left.cost t.0 ls b.0 (rw m.1 (met_own c.args.side c.loop-left.left lot m.0 o)) b.3 b.4 b.5,
    )

pub returns-in_err-add-clause-source : goal.returns-in_err-add-clause-source
returns-in_err-add-clause-source g c =
    let after = c.next.new.self in
    record {
      leads = g.met.L.LotSource.transitive c.args.source.now c.loop-left.source after c.loop-left.invariant.leads c.next.ensures.leads;
      requests = search rules;
      faulted = search rules;
      fault = search rules;
      remaining = λ ls given.
          let n = c.loop-left.invariant.given (g.met.L.LotSource.faithful_before c.loop-left.source after c.next.ensures.leads given.0) ls given.1 in
          let m = (rw c.in-Some.is at c.in_ok-lot.ensures.given) given.0 (drop n.0 ls) n.1 in
          (n.0 + 1, subst (λ (l : List Lot). g.L.LotSource.remaining after l) (drop_next n.0 ls c.in-Some.lot m.0 m.1) m.2);
    }

pub returns-then-are_same_side-clause-source : goal.returns-then-are_same_side-clause-source
returns-then-are_same_side-clause-source g c =
    let after = c.next.new.self in
    record {
      leads = g.met.L.LotSource.transitive c.args.source.now c.loop-left.source after c.loop-left.invariant.leads c.next.ensures.leads;
      requests = search rules;
      faulted = search rules;
      fault = search rules;
      remaining = λ ls given.
          let n = c.loop-left.invariant.given (g.met.L.LotSource.faithful_before c.loop-left.source after c.next.ensures.leads given.0) ls given.1 in
          let m = (rw c.in-Some.is at c.in_ok-lot.ensures.given) given.0 (drop n.0 ls) n.1 in
          (n.0 + 1, subst (λ (l : List Lot). g.L.LotSource.remaining after l) (drop_next n.0 ls c.in-Some.lot m.0 m.1) m.2);
    }

pub returns-after-loop-left-clause-source : goal.returns-after-loop-left-clause-source
returns-after-loop-left-clause-source g c =
    let i = c.loop-left.invariant in
    record {
      leads = i.leads;
      requests = omega (arith, i.few);
      faulted = i.faulted;
      fault = tt;
      remaining = λ ls given. i.given given.0 ls given.1;
    }

pub returns-after-loop-left-clause-requests_at_most_touched : goal.returns-after-loop-left-clause-requests_at_most_touched
returns-after-loop-left-clause-requests_at_most_touched g c ls given w =
    let t = c.loop-left.invariant.taken in
    let b = t.3 given.0 ls given.1 w in
    requested _ _ t.0 _ _ (omega (arith, t.2)) b.4

pub returns-then-are_same_side-clause-requests_at_most_touched : goal.returns-then-are_same_side-clause-requests_at_most_touched
returns-then-are_same_side-clause-requests_at_most_touched g c ls given w =
    let t = c.loop-left.invariant.taken in
    let b = t.3 (g.met.L.LotSource.faithful_before c.loop-left.source c.next.new.self c.next.ensures.leads given.0) ls given.1 w in
    requested _ _ t.0 _ _ (omega (arith, t.2, c.next.ensures.asked)) b.4

pub returns-in_err-add-clause-requests_at_most_touched : goal.returns-in_err-add-clause-requests_at_most_touched
returns-in_err-add-clause-requests_at_most_touched g c ls given w =
    let t = c.loop-left.invariant.taken in
    let b = t.3 (g.met.L.LotSource.faithful_before c.loop-left.source c.next.new.self c.next.ensures.leads given.0) ls given.1 w in
    requested _ _ t.0 _ _ (omega (arith, t.2, c.next.ensures.asked)) b.4

pub returns-in_err-lot-clause-requests_at_most_touched : goal.returns-in_err-lot-clause-requests_at_most_touched
returns-in_err-lot-clause-requests_at_most_touched g c ls given w =
    let t = c.loop-left.invariant.taken in
    let b = t.3 (g.met.L.LotSource.faithful_before c.loop-left.source c.next.new.self c.next.ensures.leads given.0) ls given.1 w in
    requested _ _ t.0 _ _ (omega (arith, t.2, c.next.ensures.asked)) b.4

pub returns-in_default-clause-requests_at_most_touched : goal.returns-in_default-clause-requests_at_most_touched
returns-in_default-clause-requests_at_most_touched g c ls given w =
    let t = c.loop-left.invariant.taken in
    let b = t.3 (g.met.L.LotSource.faithful_before c.loop-left.source c.next.new.self c.next.ensures.leads given.0) ls given.1 w in
    requested _ _ t.0 _ _ (omega (arith, t.2, c.next.ensures.asked)) b.4

pub returns-in_default-clause-taken : goal.returns-in_default-clause-taken
returns-in_default-clause-taken g c =
    let t = c.loop-left.invariant.taken in (
      t.0,
      t.1,
      omega (arith, t.2, c.next.ensures.asked),
      λ ls given w.
          let b = t.3 (g.met.L.LotSource.faithful_before c.loop-left.source c.next.new.self c.next.ensures.leads given.0) ls given.1 w in
          let m = (rw c.in_default.is at c.in_ok-lot.ensures.given) given.0 b.0 b.1 in
          ended c.args.side c.args.qty c.loop-left.left c.loop-left.cost t.0 ls b.0 (rw m.0 refl) b.3 b.4 b.5,
    )

pub returns-in_default-clause-source : goal.returns-in_default-clause-source
returns-in_default-clause-source g c =
    let after = c.next.new.self in
    record {
      leads = g.met.L.LotSource.transitive c.args.source.now c.loop-left.source after c.loop-left.invariant.leads c.next.ensures.leads;
      requests = search rules;
      faulted = c.in_ok-lot.ensures.faulted ∙ c.loop-left.invariant.faulted;
      fault = tt;
      remaining = λ ls given.
          let n = c.loop-left.invariant.given (g.met.L.LotSource.faithful_before c.loop-left.source after c.next.ensures.leads given.0) ls given.1 in
          let m = (rw c.in_default.is at c.in_ok-lot.ensures.given) given.0 (drop n.0 ls) n.1 in
          (n.0, subst (λ (l : List Lot). g.L.LotSource.remaining after l) (sym m.0) m.1);
    }
