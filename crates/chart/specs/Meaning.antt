-- What a chart means, and when it is the one that tables make. Assumes nothing.
use Rattle.std.specs.Prelude.{◌≡◌, ℕ, ◌<◌, ◌≤◌, ◌⊎◌, Some, None, Err, Option, Result}
use Rattle.task.specs.Model.{Model}
use Rattle.task.specs.Names.{Names}
use Rattle.task.specs.Nothing.{nothing, no_names}
use Rattle.task.specs.Numbers.{no_memory}
use Rattle.task.specs.declared.faults.Fault.{Fault}
use Rattle.chart.specs.declared.index.IndexedTables.{IndexedTables}
use Rattle.chart.specs.declared.shape.Chart.{Chart}
use Rattle.chart.specs.declared.tables.Arc.{Arc}
use Rattle.chart.specs.Faults.{answered, chart_fault, table_fault}
use Rattle.chart.specs.Tables.{Tables, contents, charted, chart_names}

-- the task and the names of the tables that are held, or of the empty task
abbrev pub meaning_of : Option IndexedTables → Model
meaning_of (Some t) = charted (contents t.fit.tables)
meaning_of None = nothing

abbrev pub naming_of : Option IndexedTables → Names
naming_of (Some t) = chart_names (contents t.fit.tables)
naming_of None = no_names

abbrev pub task_meaning : Chart → Model
task_meaning c = meaning_of c.held

abbrev pub task_names : Chart → Names
task_names c = naming_of c.held

-- the task of the tables where they have no fault, and the empty task where they have one
pub record Made (t : Tables) (c : Chart) : Type 0 where
  pub held : chart_fault t ≡ None → (task_meaning c ≡ charted t) × (task_names c ≡ chart_names t)
  pub refused : (f : Fault) → chart_fault t ≡ Some f → (task_meaning c ≡ nothing) × (task_names c ≡ no_names)

-- the first fault, or want of memory for the checks that compare records
abbrev pub Checked : Tables → Result (Unit {0}) Fault → Type 0
Checked t r = (r ≡ answered (chart_fault t)) ⊎ ((table_fault t ≡ None) × (r ≡ Err no_memory))

-- the arc of the least operator numbered `from` or more that leads somewhere
abbrev pub FirstOut : (ℕ → Option ℕ) → ℕ → Option Arc → Type 0
FirstOut lead from None = (o : ℕ) → from ≤ o → lead o ≡ None
FirstOut lead from (Some a) =
    (from ≤ a.operator) × (lead a.operator ≡ Some a.to) × ((o : ℕ) → from ≤ o → o < a.operator → lead o ≡ None)
