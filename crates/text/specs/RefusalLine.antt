-- The line that says why a program stopped. Assumes nothing.
use Rattle.std.specs.Prelude.{ℕ, List, ◌++◌, Some, None, codes, decimal, Option}
use Rattle.task.specs.Numbers.{number_of}
use Rattle.task.specs.declared.faults.Fault.{Fault}

-- by the number of the kind, if it has one, and the place
abbrev pub stop_line : Option ℕ → ℕ → List ℕ
stop_line None place = codes "out of memory\n"
stop_line (Some number) place = codes "refused " ++ (decimal number ++ (codes " at " ++ (decimal place ++ codes "\n")))

abbrev pub refusal_line : Fault → List ℕ
refusal_line f = stop_line (number_of f.kind) f.place
