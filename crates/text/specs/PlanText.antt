-- A plan's text, and the answer to a call that asks for it. Assumes nothing.
use Rattle.std.specs.Prelude.{ℕ, ◌+◌, Bool, cond, List, [], ◌∷◌, ◌++◌, length, Some, None, Ok, Err, codes, decimal, Option, Result, nat_lt}
use Rattle.std.specs.List.{flat_map}
use Rattle.task.specs.Model.{Model}
use Rattle.task.specs.Names.{Names}
use Rattle.task.specs.Plans.{price}
use Rattle.task.specs.declared.faults.Fault.{Fault}
use Rattle.task.specs.declared.faults.Kind.TheVariants.{OutOfRange, OverLimit}
use Rattle.text.specs.Buffer.{text_fault, fit}

-- the operator's name in brackets
abbrev pub step_line : Names → ℕ → List ℕ
step_line n o = codes "(" ++ (n.name o ++ codes ")\n")

abbrev pub step_lines : Names → List ℕ → List ℕ
step_lines n steps = flat_map (step_line n) steps

-- how the cost line ends
abbrev pub cost_ending : Bool → List ℕ
cost_ending unit = cond unit (codes " (unit cost)\n") (codes " (general cost)\n")

abbrev pub cost_line : Bool → ℕ → List ℕ
cost_line unit cost = codes "; cost = " ++ (decimal cost ++ cost_ending unit)

-- a line for each step, and the cost line
abbrev pub plan_text : Model → Names → List ℕ → List ℕ
plan_text m n steps = step_lines n steps ++ cost_line n.unit (price m steps)

-- at most 65,535 steps
abbrev pub check_count : List ℕ → Result (Unit {0}) Fault
check_count steps = cond (nat_lt 65535 (length steps)) (Err (text_fault OverLimit 0)) (Ok tt)

-- the place of the first step that is no operator; the first of all stands at `at`
abbrev pub first_unknown : ℕ → ℕ → List ℕ → Option ℕ
first_unknown operators at [] = None
first_unknown operators at (o ∷ os) = cond (nat_lt o operators) (first_unknown operators (at + 1) os) (Some at)

-- no step is unknown
abbrev pub check_known : Option ℕ → Result (Unit {0}) Fault
check_known None = Ok tt
check_known (Some place) = Err (text_fault OutOfRange place)

-- a check's refusal, or else the answer
abbrev pub then : Result (Unit {0}) Fault → Result ℕ Fault → Result ℕ Fault
then (Ok passed) r = r
then (Err f) r = Err f

-- the length of the text, or the first refusal
abbrev pub answer : Model → Names → List ℕ → ℕ → Result ℕ Fault
answer m n steps room =
    then (check_count steps) (then (check_known (first_unknown m.operators 0 steps)) (fit room (length (plan_text m n steps))))
