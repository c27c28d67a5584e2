use Rattle.std.proofs.Common.{◌≡◌, ◌+◌, length, take}
use Rattle.text.specs.PlanText.{step_lines}
use Rattle.text.proofs.plan.room_behind_steps.Given as goal

abbrev pub invariant-loop-step : goal.invariant-loop-step
invariant-loop-step g l =
    length (step_lines (g.T.NamedTask.names l.task) (take l.step-index l.steps)) + l.left ≡ l.room
