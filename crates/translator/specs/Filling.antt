-- Records laid into a table, and what a description puts into each table. Assumes nothing.
use Rattle.std.specs.Prelude.{ℕ, ◌+◌, List, [], ◌∷◌, ◌++◌, map, length, drop, slice_set}
use Rattle.sas.specs.declared.tables.Variable.{Variable}
use Rattle.sas.specs.declared.tables.Operator.{Operator}
use Rattle.sas.specs.declared.tables.Condition.{Condition}
use Rattle.sas.specs.declared.tables.Reading.{Reading}
use Rattle.sas.specs.States.{numbered}
use Rattle.translator.specs.Description.{DescribedVariable, DescribedOperator, Description, sizes_in, conditions_in, all_conditions}
use Rattle.translator.specs.declared.stores.Room.{Room}

-- the table with the records from place i on; those past its end are left out
abbrev pub put : {A : Type 0} → List A → ℕ → List A → List A
put table i [] = table
put table i (r ∷ rs) = put (slice_set table i r) (i + 1) rs

abbrev pub variable_record : DescribedVariable → Variable
variable_record v = record { size = v.size }

abbrev pub variable_records : List DescribedVariable → List Variable
variable_records vs = map variable_record vs

-- the record of an operator whose conditions begin at this place of their table
abbrev pub operator_record : ℕ → DescribedOperator → Operator
operator_record first o =
    record {
      name = o.name.place;
      name_length = length o.name.letters;
      first = first;
      count = length (conditions_in o);
      cost = o.cost;
    }

abbrev pub operator_records : ℕ → List DescribedOperator → List Operator
operator_records first [] = []
operator_records first (o ∷ os) = operator_record first o ∷ operator_records (first + length (conditions_in o)) os

-- how much of the tables a description takes
abbrev pub used_by : Description → Reading
used_by d =
    record {
      variables = length d.variables;
      operators = length d.operators;
      conditions = length (d.goal ++ all_conditions d.operators);
      goal = length d.goal;
      start = numbered (sizes_in d.variables) d.start;
      unit_cost = d.unit;
    }

abbrev pub room_in : List Variable → List Operator → List Condition → Room
room_in vs os cs = record { variables = length vs; operators = length os; conditions = length cs }

-- records in front of what stood behind them
abbrev pub laid : {A : Type 0} → List A → List A → List A
laid rs table = rs ++ drop (length rs) table
