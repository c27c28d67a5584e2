use Rattle.std.proofs.Common.{length, ap, arith, length-drop}
use Rattle.std.proofs.lemmas.List.{take_rest}
use Rattle.std.proofs.lemmas.List.Folds.{length-flat_map-take}
use Rattle.text.specs.PlanText.{step_line}
use Rattle.text.proofs.plan.put_steps.Goals as goal

pub put_all-end-requires : goal.put_all-end-requires
put_all-end-requires g c =
    let within = length-flat_map-take (step_line (g.T.NamedTask.names c.args.task.now)) c.args.steps.now c.loop-step.step-index 0 c.loop-step-test.true in
    let rest = ap length (take_rest c.loop-step.text c.loop-step.end) in
    omega (arith, within, rest, length-drop c.loop-step.end c.loop-step.text, ap length c.step_pieces.ensures)
