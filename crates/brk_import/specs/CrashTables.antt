-- The tables that a crash of a desk's store exposes.
use Rattle.std.specs.Prelude.{◌⊎◌}
use Rattle.sqlite.specs.Held.{Held}
use Rattle.sqlite_trees.specs.declared.store.Store.{Ghosts}
use Rattle.brk_model.specs.Base.{Base}
use Rattle.brk_model.specs.Sheets.{sheets}
use Rattle.brk_store_transactions.specs.Audited.{IsConsistent}
use Rattle.brk_store_transactions.specs.Holds.{IsDiskContentOfRows, CrashStatesSatisfy}

-- A crash exposes only the tables of `base` or, only if `other` is consistent, of `other`.
abbrev pub CrashExposesOnlyOneOf : {S : Type 0} → Ghosts S → Held S → Base → Base → Type 0
CrashExposesOnlyOneOf g desk base other =
    CrashStatesSatisfy g desk (λ trees. IsDiskContentOfRows (sheets base) trees ⊎ (IsDiskContentOfRows (sheets other) trees × IsConsistent other))
