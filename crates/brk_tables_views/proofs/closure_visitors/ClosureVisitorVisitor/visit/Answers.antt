use Rattle.std.proofs.Common.{Result, Ok, Err, OnOk, IfErr, refl, Bor}
use Rattle.std.specs.Fn.{CalledAt, Mut}
use Rattle.brk_tables_views.proofs.closure_visitors.ClosureVisitorVisitor.visit.Goals as goal

ok_at : {F R E : Type 0} (m : Mut F (Bor R × Unit {0}) (Result (Unit {0}) E)) (f : F) (x : R) (r : Result (Unit {0}) E) (f' : F) → CalledAt m f x r f' → OnOk r (CalledAt m f x (Ok tt) f')
ok_at m f x (Ok u) f' h = h
ok_at m f x (Err e) f' h = tt

err_at : {F R E : Type 0} (m : Mut F (Bor R × Unit {0}) (Result (Unit {0}) E)) (f : F) (x : R) (r : Result (Unit {0}) E) (f' : F) → CalledAt m f x r f' → IfErr r (λ e. CalledAt m f x (Err e) f')
err_at m f x (Ok u) f' h = tt
err_at m f x (Err e) f' h = h

pub returns-clause-takes : goal.returns-clause-takes
returns-clause-takes g c = ok_at g.F.FnMut _ _ c.call.result _ (record { shown = c.args.item; shows = refl; called = c.call.ensures })

pub returns-clause-stops : goal.returns-clause-stops
returns-clause-stops g c = err_at g.F.FnMut _ _ c.call.result _ (record { shown = c.args.item; shows = refl; called = c.call.ensures })
