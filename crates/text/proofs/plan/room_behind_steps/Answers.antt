use Rattle.std.proofs.Common.{arith}
use Rattle.std.proofs.lemmas.Grind.{common_steps}
use Rattle.std.proofs.lemmas.List.Folds.{length-flat_map-take}
use Rattle.text.specs.PlanText.{step_line}
use Rattle.text.proofs.plan.room_behind_steps.Goals as goal

pub returns-in_err-left : goal.returns-in_err-left
returns-in_err-left g c =
    let within = length-flat_map-take (step_line (g.T.NamedTask.names c.args.task.now)) c.args.steps.now c.loop-step.step-index 0 c.loop-step-test.true in
    grind (arith, common_steps, within)
