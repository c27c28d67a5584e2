-- The tables of a chart, and the task and the names that they hold. Assumes nothing.
use Rattle.std.specs.Prelude.{ℕ, ◌-◌, Bool, false, cond, ◌&&◌, List, [], ◌∷◌, length, take, drop, Some, None, Option, ◌==◌, nat_lt, slice_index, slice_index_or}
use Rattle.task.specs.Model.{Model}
use Rattle.task.specs.Names.{Names}
use Rattle.chart.specs.declared.tables.Arc.{Arc}
use Rattle.chart.specs.declared.tables.ChartTables.{ChartTables}

pub record Tables : Type 0 where
  pub costs : List ℕ
  pub text : List ℕ
  pub ends : List ℕ
  pub goals : List Bool
  pub estimates : List ℕ
  pub arcs : List Arc
  pub start : ℕ

-- what the lent tables hold
abbrev pub contents : ChartTables → Tables
contents t =
    record {
      costs = t.costs.now;
      text = t.text.now;
      ends = t.ends.now;
      goals = t.goals.now;
      estimates = t.estimates.now;
      arcs = t.arcs.now;
      start = t.start;
    }

-- the largest number of the table stands for no estimate
abbrev pub hope : ℕ → Option ℕ
hope e = cond (nat_lt e 4294967295) (Some e) None

-- a number past the end of the table has no estimate
abbrev pub estimate_of : Tables → ℕ → Option ℕ
estimate_of t s = hope (slice_index_or t.estimates s 4294967295)

abbrev pub leads : Arc → ℕ → ℕ → Bool
leads a s o = a.from == s && a.operator == o

-- where the first arc of this state and operator leads
abbrev pub target : List Arc → ℕ → ℕ → Option ℕ
target [] s o = None
target (a ∷ rest) s o = cond (leads a s o) (Some a.to) (target rest s o)

abbrev pub charted : Tables → Model
charted t =
    record {
      operators = length t.costs;
      cost = λ o. slice_index t.costs o;
      span = length t.goals;
      start = t.start;
      goal = λ s. slice_index_or t.goals s false;
      estimate = estimate_of t;
      move = target t.arcs;
    }

-- the place where name o begins: the end of the one before it
abbrev pub name_start : List ℕ → ℕ → ℕ
name_start ends o = cond (o == 0) 0 (slice_index ends (o - 1))

-- past the last operator the end is 0 and the name empty
abbrev pub name_of : List ℕ → List ℕ → ℕ → List ℕ
name_of text ends o = take (slice_index ends o - name_start ends o) (drop (name_start ends o) text)

-- names, and general cost
abbrev pub chart_names : Tables → Names
chart_names t = record { name = name_of t.text t.ends; unit = false }
