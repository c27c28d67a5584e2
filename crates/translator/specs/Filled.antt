-- What a pass over a part of the file leaves in the program's tables. Assumes nothing.
use Rattle.std.specs.Prelude.{◌≡◌, ℕ, ◌+◌, ◌≤◌, List, ◌++◌, length}
use Rattle.sas.specs.declared.tables.Condition.{Condition}
use Rattle.sas.specs.declared.tables.Operator.{Operator}
use Rattle.sas.specs.declared.tables.Reading.{Reading}
use Rattle.sas.specs.declared.tables.Variable.{Variable}
use Rattle.translator.specs.declared.stores.Room.{Room}
use Rattle.translator.specs.Description.{DescribedVariable, DescribedOperator, Description, sizes_in, conditions_in, all_conditions}
use Rattle.translator.specs.Filling.{put, variable_records, operator_record, operator_records, used_by}
use Rattle.translator.specs.Sections.{Noted}

-- the sizes of the variables are at hand, and their records stand
pub record VariablesFilled (old : List Variable) (sizes : List ℕ) (new : List Variable) (vs : List DescribedVariable) : Type 0 where
  pub sized : sizes ≡ sizes_in vs
  pub laid : new ≡ put old 0 (variable_records vs)

-- the conditions read stand from this place on, and their variables are noted
pub record ConditionsFilled (first count : ℕ) (old : List Condition) (seen : Noted) (new : List Condition) (s : List Condition × Noted) : Type 0 where
  pub noted : s.1 ≡ seen
  pub long : length s.0 ≡ count
  pub laid : new ≡ put old first s.0

-- the goal's conditions stand first
pub record GoalFilled (count : ℕ) (old new : List Condition) (cs : List Condition) : Type 0 where
  pub long : length cs ≡ count
  pub laid : new ≡ put old 0 cs

-- an operator's conditions stand from this place on, and this is its record
pub record OperatorFilled (first : ℕ) (old new : List Condition) (r : Operator) (o : DescribedOperator) : Type 0 where
  pub is : r ≡ operator_record first o
  pub laid : new ≡ put old first (conditions_in o)

-- the operators' records stand first, and their conditions from `first` up to `used`, within the room
pub record OperatorsFilled (count first room : ℕ) (old new : List Operator) (before after : List Condition) (used : ℕ) (os : List DescribedOperator) : Type 0 where
  pub long : length os ≡ count
  pub ends : used ≡ first + length (all_conditions os)
  pub within : used ≤ room
  pub laid : new ≡ put old 0 (operator_records first os)
  pub conditions : after ≡ put before first (all_conditions os)

-- the goal's conditions stand first, then the operators' ones; the operators' records stand first
pub record RestFilled (room : Room) (count used goal : ℕ) (old new : List Operator) (before after : List Condition) (r : List Condition × List DescribedOperator) : Type 0 where
  pub goal_long : length r.0 ≡ goal
  pub long : length r.1 ≡ count
  pub few : count ≤ room.operators
  pub ends : used ≡ length (r.0 ++ all_conditions r.1)
  pub within : used ≤ room.conditions
  pub laid : new ≡ put old 0 (operator_records (length r.0) r.1)
  pub conditions : after ≡ put before 0 (r.0 ++ all_conditions r.1)

-- the records of a whole file stand in front of each table, and this is how much of the room is in use
pub record FileFilled (room : Room) (variables variables' : List Variable) (operators operators' : List Operator) (conditions conditions' : List Condition) (used : Reading) (d : Description) : Type 0 where
  pub is : used ≡ used_by d
  pub variables_fit : length (variable_records d.variables) ≤ room.variables
  pub operators_fit : length (operator_records (length d.goal) d.operators) ≤ room.operators
  pub conditions_fit : length (d.goal ++ all_conditions d.operators) ≤ room.conditions
  pub variables_laid : variables' ≡ put variables 0 (variable_records d.variables)
  pub operators_laid : operators' ≡ put operators 0 (operator_records (length d.goal) d.operators)
  pub conditions_laid : conditions' ≡ put conditions 0 (d.goal ++ all_conditions d.operators)
