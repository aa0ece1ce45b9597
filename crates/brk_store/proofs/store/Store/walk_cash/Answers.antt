use Rattle.std.proofs.Common.{Ok, Err, refl}
use Rattle.std.specs.Fn.{CalledAt}
use Rattle.brk_store.proofs.Walking.{is_walked_by}
use Rattle.brk_store.proofs.store.Store.walk_cash.Goals as goal

pub returns-in-Ok : goal.returns-in-Ok
returns-in-Ok g c = record {
  called = (
    c.visit_cash_rows.new.visitor.call,
    c.visit_cash_rows.result,
    is_walked_by _ _ _ _ _ (λ v. v.call) (λ p x q. CalledAt g.F.FnMut p x (Ok tt) q)
        (λ p x e q. CalledAt g.F.FnMut p x (Err e) q) _ _ _ c.visit_cash_rows.ensures.walked,
    rw c.in-Ok.is refl,
  );
}

pub returns-in-Err-Failed : goal.returns-in-Err-Failed
returns-in-Err-Failed g c =
    record {
      called = (
        c.visit_cash_rows.new.visitor.call,
        c.visit_cash_rows.result,
        is_walked_by _ _ _ _ _ (λ v. v.call)
            (λ p x q. CalledAt g.F.FnMut p x (Ok tt) q) (λ p x e q. CalledAt g.F.FnMut p x (Err e) q) _ _ _ c.visit_cash_rows.ensures.walked,
        rw (c.in-Err-Failed.is, c.in-Err-Failed.field-0-is) (_, refl, rw c.from.ensures at c.from-in-Err-Failed.ensures),
      );
    }

pub returns : goal.returns
returns g c =
    record {
      called = (
        c.visit_cash_rows.new.visitor.call,
        c.visit_cash_rows.result,
        is_walked_by _ _ _ _ _ (λ v. v.call)
            (λ p x q. CalledAt g.F.FnMut p x (Ok tt) q) (λ p x e q. CalledAt g.F.FnMut p x (Err e) q) _ _ _ c.visit_cash_rows.ensures.walked,
        rw (c.in-Err-Cause.is, c.in-Err-Cause.field-0-is) refl,
      );
    }
