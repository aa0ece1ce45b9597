use Rattle.std.proofs.Common.{Result, Ok, Err, OnOk, IfErr, ℕ, List, rules, Bor}
use Rattle.std.specs.Fn.{Mut}
use Rattle.brk_lots.specs.declared.lot.Lot.{Lot}
use Rattle.brk_ref.specs.declared.holding_row.HoldingRow.{HoldingRow}
use Rattle.brk_tables_views.specs.Calling.{IsClosureCallWithLot}
use Rattle.brk_tables_views.proofs.closure_visitors.LotClosureVisitorVisitorHoldingRow.visit.Goals as goal

ok_at : {F E : Type 0} (m : Mut F (Bor (List ℕ) × (Bor Lot × Unit {0})) (Result (Unit {0}) E)) (f : F) (x : HoldingRow) (r : Result (Unit {0}) E) (f' : F)
    → IsClosureCallWithLot m f x r f' → OnOk r (IsClosureCallWithLot m f x (Ok tt) f')
ok_at m f x (Ok u) f' h = h
ok_at m f x (Err e) f' h = tt

err_at : {F E : Type 0} (m : Mut F (Bor (List ℕ) × (Bor Lot × Unit {0})) (Result (Unit {0}) E)) (f : F) (x : HoldingRow) (r : Result (Unit {0}) E) (f' : F)
    → IsClosureCallWithLot m f x r f' → IfErr r (λ e. IsClosureCallWithLot m f x (Err e) f')
err_at m f x (Ok u) f' h = tt
err_at m f x (Err e) f' h = h

pub returns-clause-takes : goal.returns-clause-takes
returns-clause-takes g c =
    ok_at g.F.FnMut _ c.args.item.now c.call.result _
    (record { symbol = c.as_str.result; lot = _; same_symbol = c.as_str.ensures; same_lot = search rules; called = c.call.ensures })

pub returns-clause-stops : goal.returns-clause-stops
returns-clause-stops g c =
    err_at g.F.FnMut _ c.args.item.now c.call.result _
    (record { symbol = c.as_str.result; lot = _; same_symbol = c.as_str.ensures; same_lot = search rules; called = c.call.ensures })
