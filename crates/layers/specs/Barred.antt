-- What a task without one of its operators means, over what the task means. Assumes nothing.
use Rattle.std.specs.Prelude.{ℕ, cond, None, ◌==◌}
use Rattle.task.specs.Model.{Model}

-- the task without the moves of o
abbrev pub barred : ℕ → Model → Model
barred o m =
    record {
      operators = m.operators;
      cost = m.cost;
      span = m.span;
      start = m.start;
      goal = m.goal;
      estimate = m.estimate;
      move = λ s p. cond (p == o) None (m.move s p);
    }
