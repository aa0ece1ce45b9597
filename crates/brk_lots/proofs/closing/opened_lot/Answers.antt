use Rattle.std.proofs.Common.{rules, arith, ◌≡◌, sym, ◌∙◌, w64, to_z, of_z}
use Rattle.std.specs.Int.RustNames.{FitsSigned}
use Rattle.std.proofs.lemmas.Int.{to_z-of_z}
use Rattle.brk_model.specs.Shares.{Share, signed_by_side}
use Rattle.brk_lots.proofs.Plain.{lots_alike, lots_some}
use Rattle.brk_lots.proofs.closing.opened_lot.Goals as goal

pub returns-then-shares-eq0 : goal.returns-then-shares-eq0
returns-then-shares-eq0 c =
    let u : Share = record { side = c.args.side; trade = c.args.trade; price = c.args.price; stamp = c.args.stamp } in
    let e : c.args.shares ≡ 0 = omega arith in
    rw e (sym (lots_alike 0 u))

pub returns : goal.returns
returns c =
    let u : Share = record { side = c.args.side; trade = c.args.trade; price = c.args.price; stamp = c.args.stamp } in
    let fits : FitsSigned w64 c.signed_qty.result = search rules in
    let q : to_z w64 (of_z w64 c.signed_qty.result) ≡ signed_by_side c.args.side c.args.shares = to_z-of_z w64 c.signed_qty.result fits ∙ c.signed_qty.ensures in
    rw q (sym (lots_some c.args.shares u (omega arith)))
