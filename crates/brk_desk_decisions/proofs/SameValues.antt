-- What is known of a value holds also where the type of the fault is another.
use Rattle.std.proofs.Common.{◌≡◌, Result, Ok, Err, IfOk, subst, sym}
use Rattle.std.specs.Prelude.{MatchResult}
use Rattle.std.specs.Result.{IsErrAnd}

pub same_value : {X E F : Type 0} (r : Result X E) (s : Result X F) (P : X → Type 0) (R : E → F → Type 0) → MatchResult r (λ x. s ≡ Ok x) (λ e. IsErrAnd s (R e)) → IfOk r P → IfOk s P
same_value (Ok x) s P R e p = subst (λ o. IfOk o P) (sym e) p
same_value (Err e) (Ok x) P R h p = absurd h
same_value (Err e) (Err f) P R h p = tt
