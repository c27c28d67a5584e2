-- A made chart is the one that its tables mean. Assumes nothing.
use Rattle.std.proofs.Common.{◌≡◌, [], Some, None, Option, sym, refl, ap, ◌∙◌}
use Rattle.task.specs.declared.faults.Fault.{Fault}
use Rattle.task.specs.declared.faults.Kind.TheVariants.{OverLimit}
use Rattle.task.specs.declared.faults.Layer.TheVariants as layer
use Rattle.chart.specs.declared.index.IndexedTables.{IndexedTables}
use Rattle.chart.specs.declared.shape.Chart.{Chart}
use Rattle.chart.specs.Faults.{chart_fault}
use Rattle.chart.specs.Meaning.{meaning_of, naming_of, Made}
use Rattle.chart.specs.Tables.{Tables, contents, charted, chart_names}

-- no states, which is a fault
abbrev pub no_tables : Tables
no_tables = record { costs = []; text = []; ends = []; goals = []; estimates = []; arcs = []; start = 0 }

-- the tables of a chart: those that it holds, or none
abbrev pub held_tables : Option IndexedTables → Tables
held_tables (Some h) = contents h.fit.tables
held_tables None = no_tables

-- the same of any tables: where the chart holds none, those that have a fault
abbrev pub TablesOf : Option IndexedTables → Tables → Type 0
TablesOf (Some h) t = t ≡ contents h.fit.tables
TablesOf None t = (f : Fault) × (chart_fault t ≡ Some f)

module _ (c : Chart) (t : Tables) where
  pub made_of_any : TablesOf c.held t → Made t c
  made_of_any s = go c.held refl s
    where
      go : (h : Option IndexedTables) → c.held ≡ h → TablesOf h t → Made t c
      go (Some h) e s =
          let same : charted t ≡ meaning_of (Some h) = ap charted s in
          let names : chart_names t ≡ naming_of (Some h) = ap chart_names s in
          let none : chart_fault t ≡ None = ap chart_fault s ∙ c.faultless h e in
          record {
            held = λ _. (ap meaning_of e ∙ sym same, ap naming_of e ∙ sym names);
            refused = λ g k. absurd (cc);
          }
      go None e s =
          record {
            held = λ k. absurd (let fault = s.1 in (cc));
            refused = λ _ _. (ap meaning_of e, ap naming_of e);
          }

-- every chart is the one that its tables make
pub made_of_tables : (c : Chart) → Made (held_tables c.held) c
made_of_tables c = made_of_any c (held_tables c.held) (go c.held)
  where
    go : (h : Option IndexedTables) → TablesOf h (held_tables h)
    go (Some h) = refl
    go None = (record { kind = OverLimit; place = 0; layer = layer.Chart }, refl)
