use Rattle.std.proofs.Common.{◌≡◌, length, take}
use Rattle.text.specs.Buffer.{over}
use Rattle.text.specs.PlanText.{step_lines}
use Rattle.text.proofs.plan.put_steps.Given as goal

abbrev pub invariant-loop-step : goal.invariant-loop-step
invariant-loop-step g l =
    let written = step_lines (g.T.NamedTask.names l.task) (take l.step-index l.steps) in
    (l.end ≡ length written) × (l.text ≡ over written l.initial.text)
