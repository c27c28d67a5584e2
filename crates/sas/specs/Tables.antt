-- The SAS+ task and the names that three tables hold, and when they are in range. Assumes nothing.
use Rattle.std.specs.Prelude.{ℕ, ◌+◌, ◌^◌, ◌<◌, ◌≤◌, List, [], map, length, take, drop, Some, None, Option, slice_index}
use Rattle.std.specs.List.{slice_get}
use Rattle.task.specs.Listing.{Each}
use Rattle.task.specs.Names.{Names}
use Rattle.sas.specs.declared.tables.Variable.{Variable}
use Rattle.sas.specs.declared.tables.Condition.{Condition}
use Rattle.sas.specs.declared.tables.Operator.{Operator}
use Rattle.sas.specs.declared.tables.Reading.{Reading}
use Rattle.sas.specs.States.{spanned}
use Rattle.sas.specs.Sas.{Action, Sas}

-- the bytes of the file, the three tables, and how much of them is in use
pub record Tables : Type 0 where
  pub bytes : List ℕ
  pub variables : List Variable
  pub operators : List Operator
  pub conditions : List Condition
  pub used : Reading

-- `count` records from `first` on
abbrev pub part : {A : Type 0} → List A → ℕ → ℕ → List A
part xs first count = take count (drop first xs)

abbrev pub sizes_of : Tables → List ℕ
sizes_of t = map (λ v. v.size) (take t.used.variables t.variables)

abbrev pub action_of : List Condition → Operator → Action
action_of cs o = record { conditions = part cs o.first o.count; cost = o.cost }

abbrev pub used_operators : Tables → List Operator
used_operators t = take t.used.operators t.operators

abbrev pub sas_of : Tables → Sas
sas_of t =
    record {
      sizes = sizes_of t;
      start = t.used.start;
      goal = take t.used.goal t.conditions;
      actions = map (action_of t.conditions) (used_operators t);
    }

abbrev pub name_of : List ℕ → Option Operator → List ℕ
name_of bs None = []
name_of bs (Some o) = part bs o.name o.name_length

abbrev pub names_of : Tables → Names
names_of t = record { name = λ o. name_of t.bytes (slice_get (used_operators t) o); unit = t.used.unit_cost }

-- a value, if there is one, is a value of the variable
abbrev pub Valid : Option ℕ → ℕ → Type 0
Valid None n = Unit {0}
Valid (Some v) n = v < n

pub record ConditionFits (ns : List ℕ) (c : Condition) : Type 0 where
  pub known : c.variable < length ns
  pub before : Valid c.before (slice_index ns c.variable)
  pub after : Valid c.after (slice_index ns c.variable)

pub record OperatorFits (t : Tables) (o : Operator) : Type 0 where
  pub named : o.name + o.name_length ≤ length t.bytes
  pub placed : o.first + o.count ≤ t.used.conditions
  pub priced : (1 ≤ o.cost) × (o.cost ≤ 1000000)

-- the tables are in range: within the limits, and no record names what is not there
pub record InRange (t : Tables) : Type 0 where
  pub variables : (1 ≤ t.used.variables) × (t.used.variables ≤ 60) × (t.used.variables ≤ length t.variables)
  pub operators : (t.used.operators ≤ 4096) × (t.used.operators ≤ length t.operators)
  pub conditions : (t.used.goal ≤ t.used.conditions) × (t.used.conditions ≤ length t.conditions)
  pub sizes : Each (λ n. (1 ≤ n) × (n ≤ 1000)) (sizes_of t)
  pub span : spanned (sizes_of t) ≤ 2 ^ 60
  pub start : t.used.start < spanned (sizes_of t)
  pub each_condition : Each (ConditionFits (sizes_of t)) (take t.used.conditions t.conditions)
  pub each_operator : Each (OperatorFits t) (used_operators t)
