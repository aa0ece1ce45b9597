-- The bytes that a file has from its start to its end.
use Rattle.std.proofs.Common.{◌≡◌, subst, sym, ℕ, ◌+◌, ◌<◌, List, length, slice_index, arith}
use Rattle.std.proofs.lemmas.List.{ext_get_or}
use Rattle.sqlite_disk.specs.Disk.{Holds, Torn}

pub held_whole : (bytes file : List ℕ) → length bytes ≡ length file → (0 < length bytes → Holds file 0 bytes) → bytes ≡ file
held_whole bytes file len held = ext_get_or 0 bytes file len λ i low.
    let at : 0 + i ≡ i = omega arith in
    sym (subst (λ (n : ℕ). slice_index file n ≡ slice_index bytes i) at ((held (omega (low, arith))).each i low))

pub written_over : (bytes file : List ℕ) → (0 < length bytes → Holds file 0 bytes) → Torn 0 (length bytes) bytes file → bytes ≡ file
written_over bytes file held torn = held_whole bytes file (omega (torn.no_longer, torn.no_shorter, arith)) held
