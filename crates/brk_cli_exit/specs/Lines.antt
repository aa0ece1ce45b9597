-- The lines that the program writes to standard error.
use Rattle.std.specs.Prelude.{ℕ, List, [], ◌∷◌, ◌++◌, codes}
use Rattle.std.specs.Borrow.{Bor}
use Rattle.brk_money.specs.Kinds.{condition_word}
use Rattle.brk_money.specs.declared.fault.Fault.{Fault}
use Rattle.brk_money.specs.declared.fault.Fault.TheVariants as fault

-- The bytes of the error line with the parts `line.0` and `line.1`, and a line feed.
abbrev pub bytes_of_error_line : Bor (List ℕ) × Bor (List ℕ) → List ℕ
bytes_of_error_line line = line.0.now ++ (line.1.now ++ (10 ∷ []))

-- The bytes of the error line of a fault of a desk, with its line feed: `brk: fault: ` and `memory`
-- or `store`, or `brk: damaged: ` and the word for the condition that fails.
abbrev pub error_line_of_fault : Fault → List ℕ
error_line_of_fault fault.Memory = codes "brk: fault: memory\n"
error_line_of_fault fault.Store = codes "brk: fault: store\n"
error_line_of_fault (fault.Damaged condition) = codes "brk: damaged: " ++ (condition_word condition ++ (10 ∷ []))
