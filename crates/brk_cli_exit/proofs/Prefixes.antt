-- Prefixes of a text that a sink received before it failed.
use Rattle.std.proofs.Common.{◌++◌, ◌∙◌, ℕ, List, Option, Result, Ok, Err, OnErr, take, drop, sym, ap, append_assoc, take-append-drop}
use Rattle.std.specs.Io.KnownBytes.{Appends}
use Rattle.std.proofs.KnownBytes.{Appends-trans}
use Rattle.brk_cli_exit.specs.Sinks.{ReceivesPrefix, SinkFailsWithinText}

-- So many bytes are a prefix.
pub prefix_of : (a b : Option (List ℕ)) (text : List ℕ) (k : ℕ) → Appends a b (take k text) → ReceivesPrefix a b text
prefix_of a b text k h = (take k text, drop k text, h, sym (take-append-drop k text))

-- A prefix of a part is a prefix of the part with a rest.
pub prefix_before : (a b : Option (List ℕ)) (part rest : List ℕ) → ReceivesPrefix a b part → ReceivesPrefix a b (part ++ rest)
prefix_before a b part rest h = (h.0, h.1 ++ rest, h.2, ap (λ (l : List ℕ). l ++ rest) h.3 ∙ append_assoc h.0 h.1 rest)

-- A part and then a prefix of the rest are a prefix of both.
pub prefix_after : (a b c : Option (List ℕ)) (part rest : List ℕ) → Appends a b part → ReceivesPrefix b c rest → ReceivesPrefix a c (part ++ rest)
prefix_after a b c part rest whole h = (part ++ h.0, h.1, Appends-trans a b c part h.0 whole h.2, ap (λ (l : List ℕ). part ++ l) h.3 ∙ sym (append_assoc part h.0 h.1))

-- Who fails within a part fails within the part with a rest.
pub fails_before : {S : Type 0} (contents : S → Option (List ℕ)) (fails : S → S → Type 0) (a b : S) (part rest : List ℕ)
    → SinkFailsWithinText contents fails a b part → SinkFailsWithinText contents fails a b (part ++ rest)
fails_before contents fails a b part rest h = (h.0, h.1, prefix_before _ _ part rest h.2)

-- Who received a part and then fails within the rest fails within both.
pub fails_after : {S : Type 0} (contents : S → Option (List ℕ)) (fails : S → S → Type 0) (a b c : S) (part rest : List ℕ)
    → Appends (contents a) (contents b) part → SinkFailsWithinText contents fails b c rest
    → SinkFailsWithinText contents fails a c (part ++ rest)
fails_after contents fails a b c part rest whole h = (h.0, h.1, prefix_after _ _ _ part rest whole h.2)

pub on_err : {T E P : Type 0} (r : Result T E) → P → OnErr r P
on_err (Ok v) p = tt
on_err (Err e) p = p
