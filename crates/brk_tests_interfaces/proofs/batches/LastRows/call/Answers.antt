use Rattle.std.proofs.Common.{◌≡◌, ℕ, Bool, true, false, rules, refl, ap, of_z, to_z, w64}
use Rattle.std.specs.Prelude.{nat_abs}
use Rattle.brk_model.specs.Commands.{Answer, Booked, Done}
use Rattle.brk_import_engine.specs.Answers.{RepresentsDurably}
use Rattle.brk_tests_interfaces.specs.declared.batches.Last.{Last}
use Rattle.brk_tests_interfaces.proofs.batches.LastRows.call.Goals as goal

-- nothing is asked of a stop
stands_by : (sure : Bool) (desk : Last) → RepresentsDurably (λ (d : Last) (b : ℕ). b ≡ d.moment) (λ _ _ _. Unit {0}) sure desk desk.moment
stands_by false desk = refl
stands_by true desk = (refl, tt)

pub returns-in-Put-clause-ok : goal.returns-in-Put-clause-ok
returns-in-Put-clause-ok c = λ sure good base stood.
    let moment = nat_abs (to_z w64 (of_z w64 c.get.result)) in
    let same : c.args.now ≡ moment = search rules in
    (moment, stands_by sure (record { moment = moment }), rw c.in-Put.is (ap (λ (n : ℕ). let both : Answer × ℕ = (Done (Booked n), n) in both) same))
