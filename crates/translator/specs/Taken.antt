-- What the reader of files answers, and what it leaves in the three tables. Assumes nothing.
use Rattle.std.specs.Prelude.{◌≡◌, ℕ, List, ◌++◌, length, Ok, Err, Result}
use Rattle.task.specs.declared.faults.Fault.{Fault}
use Rattle.sas.specs.declared.tables.Variable.{Variable}
use Rattle.sas.specs.declared.tables.Operator.{Operator}
use Rattle.sas.specs.declared.tables.Condition.{Condition}
use Rattle.sas.specs.declared.tables.Reading.{Reading}
use Rattle.translator.specs.Description.{Description, all_conditions}
use Rattle.translator.specs.Filling.{variable_records, operator_records, used_by, room_in, laid}
use Rattle.translator.specs.Sections.{described}

-- the tables hold the description, and behind its records what they held before
pub record Holds (variables variables' : List Variable) (operators operators' : List Operator) (conditions conditions' : List Condition) (used : Reading) (d : Description) : Type 0 where
  pub is : used ≡ used_by d
  pub variables_hold : variables' ≡ laid (variable_records d.variables) variables
  pub operators_hold : operators' ≡ laid (operator_records (length d.goal) d.operators) operators
  pub conditions_hold : conditions' ≡ laid (d.goal ++ all_conditions d.operators) conditions

-- a file that gives a description is taken into the tables; any other is refused with its first fault, and
-- the tables are as they were
abbrev pub Taken : List ℕ → List Variable → List Variable → List Operator → List Operator → List Condition → List Condition → Result Reading Fault → Type 0
Taken bs vs vs' os os' cs cs' (Ok used) = (d : Description) × (described (room_in vs os cs) bs ≡ Ok d) × Holds vs vs' os os' cs cs' used d
Taken bs vs vs' os os' cs cs' (Err f) = (described (room_in vs os cs) bs ≡ Err f) × (vs' ≡ vs) × (os' ≡ os) × (cs' ≡ cs)
