use Rattle.std.proofs.Common.{arith, ◌≡◌, ◌++◌, ◌≤◌, ℕ, List, [], ◌∷◌, Option, length, drop, map, sym, ap, ◌∙◌, append-nil}
use Rattle.std.proofs.lemmas.List.{drop-append-le, length-append}
use Rattle.std.specs.Option.{option_to_list}
use Rattle.brk_model.specs.Shares.{Deal, lots_of_shares, shares_after_deal}
use Rattle.brk_lots.specs.declared.lot.Lot.{Lot}
use Rattle.brk_lots.specs.declared.lot.Touch.{Touch}
use Rattle.brk_lots.specs.declared.closing.Closing.{Closing}
use Rattle.brk_lots.specs.Closing.{IsApplicableClosing}
use Rattle.brk_lots.specs.Lots.{list_reversed_if_lifo, abstract_lot, shares_of_lots}
use Rattle.brk_lots.specs.Position.{IsPosition}
use Rattle.brk_lots.specs.Walks.{lots_after_touches, closed_share_count, touches_of_first_shares}
use Rattle.brk_lots.proofs.Ends.{walk_of}
use Rattle.brk_lots.proofs.Plain.{lots_walk}
use Rattle.brk_lots.proofs.Upon.{rows_back}
use Rattle.brk_lots.proofs.Left.{booked, booked_lots, lots_after}
use Rattle.brk_lots.proofs.position.Position.apply.Goals as goal

-- `ms` are the lots `ls` after the touches of `closing`, followed by the lot that it opens.
abbrev IsBooked : List Lot → Closing → List Lot → Type 0
IsBooked ls closing ms = ms ≡ lots_after_touches closing.touched.items ls ++ option_to_list closing.opened

lawful : (d : Deal) (ls ms : List Lot) (closing : Closing) → IsPosition ls → IsApplicableClosing d ls closing → IsBooked ls closing ms → IsPosition ms
lawful d ls ms closing p h e = rw (e ∙ booked d ls closing p h) (booked_lots d ls p h.fresh h.later).0

spelled : (d : Deal) (ls ms : List Lot) (closing : Closing) → IsPosition ls → IsApplicableClosing d ls closing → IsBooked ls closing ms → shares_of_lots ms ≡ shares_after_deal (shares_of_lots ls) d
spelled d ls ms closing p h e = rw (e ∙ booked d ls closing p h) (booked_lots d ls p h.fresh h.later).1

listed : (d : Deal) (ls ms : List Lot) (closing : Closing) → IsPosition ls → IsApplicableClosing d ls closing → IsBooked ls closing ms
    → map abstract_lot ms ≡ lots_of_shares (shares_after_deal (shares_of_lots ls) d)
listed d ls ms closing p h e =
    let b = booked_lots d ls p h.fresh h.later in
    rw (e ∙ booked d ls closing p h) (sym (lots_walk (lots_after d ls) (walk_of (lots_after d ls) b.0)) ∙ ap lots_of_shares b.1)

pub apply_touches-self-inside-requires-clause-walk : goal.apply_touches-self-inside-requires-clause-walk
apply_touches-self-inside-requires-clause-walk c = rw c.reserve.ensures.items (walk_of (drop c.self.inside.first c.self.inside.lots.items) c.self.invariant.1)

pub apply_touches-self-inside-requires-clause-rows : goal.apply_touches-self-inside-requires-clause-rows
apply_touches-self-inside-requires-clause-rows c =
    let d = c.requires.0 in
    let h = c.requires.1 in
    let p : IsPosition c.args.self.now = rw (← c.self.view_is) c.self.invariant.1 in
    let taken = λ (ls : List Lot). touches_of_first_shares (closed_share_count d.side d.qty (list_reversed_if_lifo d.is_lifo ls)) (list_reversed_if_lifo d.is_lifo ls) in
    let e = rows_back d c.args.self.now c.args.closing.now (walk_of c.args.self.now p) h.fresh h.closes in
    let all = c.self.inside.lots.items in
    let k = closed_share_count d.side d.qty (list_reversed_if_lifo d.is_lifo (drop c.self.inside.first all)) in (
      d.is_lifo,
      k,
      c.deref.ensures.value ∙ e ∙ ap taken (sym c.self.view_is)
          ∙ ap (λ (ls : List Lot). touches_of_first_shares k (list_reversed_if_lifo d.is_lifo (drop c.self.inside.first ls))) (sym c.reserve.ensures.items),
    )

-- what the cut leaves
cut : (first : ℕ) (all now ls left : List Lot) (rows touched : List Touch) → left ≡ lots_after_touches rows (drop first now) → rows ≡ touched → now ≡ all
    → drop first all ≡ ls → left ≡ lots_after_touches touched ls
cut first all now ls left rows touched e r n v = e ∙ ap (λ (ts : List Touch). lots_after_touches ts (drop first now)) r
    ∙ ap (λ (ms : List Lot). lots_after_touches touched (drop first ms)) n ∙ ap (lots_after_touches touched) v

-- where a lot is opened
pushed : (c : goal.In_ok-push) → IsBooked c.args.self.now c.args.closing.now (drop c.apply_touches-self-inside.result c.push.new.self.items)
pushed c =
    let first = c.apply_touches-self-inside.result in
    let left = c.apply_touches-self-inside.new.lots.items in
    let lot = c.in-Some.lot in
    let begins : first ≤ length left = omega (arith, c.apply_touches-self-inside.ensures.begins) in
    let e = cut c.self.inside.first c.self.inside.lots.items c.reserve.new.self.items c.args.self.now (drop first left) c.deref.result.now
    c.args.closing.now.touched.items c.apply_touches-self-inside.ensures.left c.deref.ensures.value c.reserve.ensures.items c.self.view_is in
    ap (drop first) c.in_ok-push.ensures.items ∙ drop-append-le first left (lot ∷ []) begins ∙ ap (λ (ls : List Lot). ls ++ lot ∷ []) e
    ∙ ap (λ (o : Option Lot). lots_after_touches c.args.closing.now.touched.items c.args.self.now ++ option_to_list o) (sym c.in-Some.is)

-- where none is opened
alone : (c : goal.In_default) → IsBooked c.args.self.now c.args.closing.now (drop c.apply_touches-self-inside.result c.apply_touches-self-inside.new.lots.items)
alone c =
    let first = c.apply_touches-self-inside.result in
    let left = c.apply_touches-self-inside.new.lots.items in
    let e = cut c.self.inside.first c.self.inside.lots.items c.reserve.new.self.items c.args.self.now (drop first left) c.deref.result.now
    c.args.closing.now.touched.items c.apply_touches-self-inside.ensures.left c.deref.ensures.value c.reserve.ensures.items c.self.view_is in
    e ∙ sym (append-nil (lots_after_touches c.args.closing.now.touched.items c.args.self.now))
    ∙ ap (λ (o : Option Lot). lots_after_touches c.args.closing.now.touched.items c.args.self.now ++ option_to_list o) (sym c.in_default.is)

pub invariant_of-self-in-Continue-branch-2 : goal.invariant_of-self-in-Continue-branch-2
invariant_of-self-in-Continue-branch-2 c =
    let p : IsPosition c.args.self.now = rw (← c.self.view_is) c.self.invariant.1 in
    let n = c.in_ok-push.ensures.items in
    let begins : c.apply_touches-self-inside.result ≤ length c.push.new.self.items =
    omega (
      arith,
      c.apply_touches-self-inside.ensures.begins,
      ap length n,
      length-append c.apply_touches-self-inside.new.lots.items
          (c.in-Some.lot ∷ []),
    ) in
    (begins, lawful c.requires.0 c.args.self.now _ c.args.closing.now p c.requires.1 (pushed c))

pub invariant_of-self-in_default : goal.invariant_of-self-in_default
invariant_of-self-in_default c =
    let p : IsPosition c.args.self.now = rw (← c.self.view_is) c.self.invariant.1 in
    let begins : c.apply_touches-self-inside.result ≤ length c.apply_touches-self-inside.new.lots.items = omega (arith, c.apply_touches-self-inside.ensures.begins) in
    (begins, lawful c.requires.0 c.args.self.now _ c.args.closing.now p c.requires.1 (alone c))

pub returns-in_ok-push-clause-shares : goal.returns-in_ok-push-clause-shares
returns-in_ok-push-clause-shares c d h =
    let p : IsPosition c.args.self.now = rw (← c.self.view_is) c.self.invariant.1 in
    spelled d c.args.self.now _ c.args.closing.now p h (pushed c)

pub returns-in_ok-push-clause-lots : goal.returns-in_ok-push-clause-lots
returns-in_ok-push-clause-lots c d h =
    let p : IsPosition c.args.self.now = rw (← c.self.view_is) c.self.invariant.1 in
    listed d c.args.self.now _ c.args.closing.now p h (pushed c)

pub returns-in_default-clause-shares : goal.returns-in_default-clause-shares
returns-in_default-clause-shares c d h =
    let p : IsPosition c.args.self.now = rw (← c.self.view_is) c.self.invariant.1 in
    spelled d c.args.self.now _ c.args.closing.now p h (alone c)

pub returns-in_default-clause-lots : goal.returns-in_default-clause-lots
returns-in_default-clause-lots c d h =
    let p : IsPosition c.args.self.now = rw (← c.self.view_is) c.self.invariant.1 in
    listed d c.args.self.now _ c.args.closing.now p h (alone c)
