-- What is written for the bytes of a file. Assumes nothing.
use Rattle.std.specs.Prelude.{◌≡◌, ℕ, List, length, Ok, Err, vec_items, Result}
use Rattle.task.specs.Model.{Model}
use Rattle.task.specs.Names.{Names}
use Rattle.task.specs.Nothing.{nothing, no_names}
use Rattle.task.specs.declared.faults.Fault.{Fault}
use Rattle.sas.specs.declared.tables.Variable.{Variable}
use Rattle.sas.specs.declared.tables.Operator.{Operator}
use Rattle.sas.specs.declared.tables.Condition.{Condition}
use Rattle.sas.specs.declared.tables.Reading.{Reading}
use Rattle.sas.specs.Checks.{tables}
use Rattle.sas.specs.Sas.{meant}
use Rattle.sas.specs.Tables.{Tables, InRange, sas_of, names_of}
use Rattle.translator.specs.Taken.{Taken}
use Rattle.listing.specs.declared.output.Output.{Output}
use Rattle.listing.specs.Outcome.{Written, Outcome, refused_with}

abbrev pub written : Output → Written
written o = (vec_items o.text, o.refusal)

-- the task of the tables where they are in range, and the empty task where not
pub record TaskOf (t : Tables) (m : Model) (n : Names) : Type 0 where
  pub held : InRange t → (m ≡ meant (sas_of t)) × (n ≡ names_of t)
  pub refused : (InRange t → ⊥) → (m ≡ nothing) × (n ≡ no_names)

-- what is written of the task that tables make
abbrev pub Told : ℕ → Tables → Written → Type 0
Told highest t w = (m : Model) × (n : Names) × TaskOf t m n × Outcome highest m n w

-- the line of the reader's refusal, or what is written of the task that was read
abbrev pub Answered : ℕ → List ℕ → List Variable → List Operator → List Condition → Result Reading Fault → Written → Type 0
Answered highest bs vs os cs (Err f) w = w ≡ refused_with f
Answered highest bs vs os cs (Ok used) w = Told highest (tables bs vs os cs used) w

-- the file is read into the tables, and answered by what that gave
abbrev pub Listed : ℕ → List ℕ → List Variable → List Variable → List Operator → List Operator → List Condition → List Condition → Written → Type 0
Listed highest bs vs vs' os os' cs cs' w =
    (r : Result Reading Fault) × Taken bs vs vs' os os' cs cs' r × Answered highest bs vs' os' cs' r w

-- the same with tables of 60 variables, 4,096 operators and 65,536 conditions
abbrev pub ListedAnew : ℕ → List ℕ → Written → Type 0
ListedAnew highest bs w =
    (vs : List Variable) × (vs' : List Variable) × (os : List Operator) × (os' : List Operator) × (cs : List Condition) × (cs' : List Condition)
    × (length vs ≡ 60) × (length os ≡ 4096) × (length cs ≡ 65536) × Listed highest bs vs vs' os os' cs cs' w
