-- What a SasTask means, and when it is the one that tables make. Assumes nothing.
use Rattle.std.specs.Prelude.{◌≡◌, false, [], length, map}
use Rattle.std.specs.List.{slice_get}
use Rattle.std.specs.Option.{option_map_or}
use Rattle.task.specs.Model.{Model}
use Rattle.task.specs.Names.{Names}
use Rattle.task.specs.Nothing.{nothing, no_names}
use Rattle.sas.specs.declared.in_use.InUse.{InUse}
use Rattle.sas.specs.declared.shape.SasTask.{SasTask}
use Rattle.sas.specs.declared.tables.Reading.{Reading}
use Rattle.sas.specs.Sas.{Sas, meant}
use Rattle.sas.specs.Tables.{Tables, InRange, action_of, name_of, sas_of, names_of}
use Rattle.sas.specs.Checks.{tables}
use Rattle.sas.specs.Values.{sizes}

-- the SAS+ task of the records in use
abbrev pub sas_in : InUse → Sas
sas_in u =
    record {
      sizes = sizes u.variables.now;
      start = u.start;
      goal = u.goal.now;
      actions = map (action_of u.conditions.now) u.operators.now;
    }

abbrev pub meaning_in : InUse → Model
meaning_in u = meant (sas_in u)

abbrev pub names_in : InUse → Names
names_in u = record { name = λ o. name_of u.bytes.now (slice_get u.operators.now o); unit = u.unit_cost }

-- the records in use, counted
abbrev pub reading_in : InUse → Reading
reading_in u =
    record {
      variables = length u.variables.now;
      operators = length u.operators.now;
      conditions = length u.conditions.now;
      goal = length u.goal.now;
      start = u.start;
      unit_cost = u.unit_cost;
    }

-- the records in use, as tables
abbrev pub tables_in : InUse → Tables
tables_in u = tables u.bytes.now u.variables.now u.operators.now u.conditions.now (reading_in u)

-- tables that hold nothing, and so no variable
abbrev pub no_tables : Tables
no_tables = tables [] [] [] [] (record { variables = 0; operators = 0; conditions = 0; goal = 0; start = 0; unit_cost = false })

-- the tables that a task holds
abbrev pub tables_of : SasTask → Tables
tables_of s = option_map_or tables_in s.in_use no_tables

-- the records in use of tables in range hold the task and the names of the tables
pub record UseOf (t : Tables) (u : InUse) : Type 0 where
  pub range : InRange t
  pub task : sas_in u ≡ sas_of t
  pub names : names_in u ≡ names_of t

abbrev pub task_meaning : SasTask → Model
task_meaning s = option_map_or meaning_in s.in_use nothing

abbrev pub task_names : SasTask → Names
task_names s = option_map_or names_in s.in_use no_names

-- the task of the tables where they are in range, and the empty task where not
pub record Made (t : Tables) (s : SasTask) : Type 0 where
  pub held : InRange t → (task_meaning s ≡ meant (sas_of t)) × (task_names s ≡ names_of t)
  pub refused : (InRange t → ⊥) → (task_meaning s ≡ nothing) × (task_names s ≡ no_names)
