-- Reads, the last of which fails or is followed by a decoding that fails, are a step of the
-- transaction that fails.
use Rattle.std.proofs.Common.{Ok, Err, Result, IsErr}
use Rattle.sqlite.specs.State.{State}
use Rattle.sqlite.proofs.InsideLemmas.{keeps_then}
use Rattle.sqlite.proofs.StateLemmas.{survives_then}
use Rattle.brk_tables_sql.specs.Model.{IsTransactionStep}
use Rattle.brk_tables_sql.proofs.Inside.{clean_before}

-- two steps, with any results
pub both : {U V E F : Type 0} {a b c : State} {r : Result U E} {s : Result V F} {P : U → State → State → Type 0} {Q : V → State → State → Type 0}
    → IsTransactionStep a b r P → IsTransactionStep b c s Q → IsTransactionStep {V = Unit {0}} {E = Unit {0}} a c (Err tt) (λ _ _ _. Unit {0})
both {U} {V} {E} {F} {a} {b} {c} first next = record {
  commits_nothing = λ clean. keeps_then a b c (first.commits_nothing (clean_before b c (λ _. ⊥) next.survives clean)) (next.commits_nothing clean);
  relates_states = λ clean on. tt;
  survives = survives_then a b c (λ _. ⊥) (λ _. ⊥) (λ _. ⊥) (λ _ db none. none) (λ _ db none. none) first.survives next.survives;
}

-- a step whose result is an error
pub fails : {U V E F : Type 0} {a b : State} {r : Result U E} {P : U → State → State → Type 0} (s : Result V F) (made : V → State → State → Type 0)
    → IsErr s → IsTransactionStep a b r P → IsTransactionStep a b s made
fails (Ok v) made failed step = absurd (let e = failed in cc)
fails (Err e) made failed step = record { commits_nothing = step.commits_nothing; relates_states = λ clean on. tt; survives = step.survives }
