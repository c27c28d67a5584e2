use Rattle.std.proofs.Common.{◌≡◌, rules, ◌∙◌}
use Rattle.std.specs.List.{sum_by}
use Rattle.std.proofs.iter.runs.Made.{chains}
use Rattle.text.proofs.Steps.{price_is}
use Rattle.text.proofs.plan.total.Goals as goal

pub returns : goal.returns
returns g c =
    let m = g.T.Task.meaning c.args.task.now in
    let e : c.sum.result ≡ sum_by m.cost c.args.steps.now = search (rules, chains) in
    e ∙ price_is m c.args.steps.now
