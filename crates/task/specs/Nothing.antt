-- The empty task: what is made in spite of a refusal. Assumes nothing.
use Rattle.std.specs.Prelude.{false, [], None}
use Rattle.task.specs.Model.{Model}
use Rattle.task.specs.Names.{Names}

-- one state, which is hopeless and no goal, and no operator
abbrev pub nothing : Model
nothing =
    record {
      operators = 0;
      cost = λ o. 0;
      span = 1;
      start = 0;
      goal = λ s. false;
      estimate = λ s. None;
      move = λ s o. None;
    }

-- no names, and general cost
abbrev pub no_names : Names
no_names = record { name = λ o. []; unit = false }
