use Rattle.std.proofs.Common.{inl, refl}
use Rattle.brk_model_examples.proofs.OnLiterals.{model_on_literals}
use Rattle.brk_model_examples.proofs.audits.tables_after_purchase_pass_audit.Goals as goal

pub returns : goal.returns
unfolding model_on_literals
returns c = record {
  third = inl (refl, inl (refl, inl (refl, inl (refl, inl (refl, inl (refl, inl (refl, inl (refl, inl (refl, inl ((refl, refl), inl (refl, refl)))))))))));
  second = inl (refl, inl (refl, inl (refl, inl (refl, inl (refl, inl (refl, inl (refl, inl (refl, inl (refl, inl ((refl, refl), inl (refl, refl)))))))))));
  first = inl (refl, inl (refl, inl (refl, inl (refl, inl (refl, inl (refl, inl (refl, inl (refl, inl (refl, inl ((refl, refl), inl (refl, refl)))))))))));
  day_set = inl (refl, inl (refl, inl (refl, inl (refl, inl (refl, inl (refl, inl (refl, inl (refl, inl (refl, inl ((refl, refl), inl (refl, refl)))))))))));
  deposit = inl (refl, inl (refl, inl (refl, inl (refl, inl (refl, inl (refl, inl (refl, inl (refl, inl (refl, inl ((refl, refl), inl (refl, refl)))))))))));
  withdrawal = inl (refl, inl (refl, inl (refl, inl (refl, inl (refl, inl (refl, inl (refl, inl (refl, inl (refl, inl ((refl, refl), inl (refl, refl)))))))))));
}
