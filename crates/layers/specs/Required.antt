-- What a task that asks for one of its operators means, over what the task means: its states are 2 * s + u,
-- where u is 1 once the operator has been used on the way to s. Assumes nothing.
use Rattle.std.specs.Prelude.{ℕ, ◌+◌, ◌*◌, ◌/◌, ◌%◌, false, cond, Some, ◌==◌}
use Rattle.task.specs.Model.{Model}
use Rattle.task.specs.Plans.{then_on}

-- the mark after p, where u is the mark before
abbrev pub used_after : ℕ → ℕ → ℕ → ℕ
used_after o p u = cond (p == o) 1 u

abbrev pub required : ℕ → Model → Model
required o m =
    record {
      operators = m.operators;
      cost = m.cost;
      span = 2 * m.span;
      start = 2 * m.start;
      goal = λ s. cond (s % 2 == 1) (m.goal (s / 2)) false;
      estimate = λ s. m.estimate (s / 2);
      move = λ s p. then_on (m.move (s / 2) p) (λ t. Some (2 * t + used_after o p (s % 2)));
    }
