use Rattle.std.proofs.Common.{◌≡◌, rules, ◌∙◌}
use Rattle.std.specs.List.{reduce}
use Rattle.std.proofs.iter.runs.Made.{chains}
use Rattle.tally.proofs.Joins.{reduce_is}
use Rattle.tally.proofs.plans.join_all.Goals as goal

pub returns : goal.returns
returns g c =
    let y = g.Y.Tally.meaning c.args.tally.now in
    let e : c.reduce.result ≡ reduce y.join c.args.values.now = search (rules, chains) in
    e ∙ reduce_is y (g.met.Y.Tally.lawful c.args.tally.now) c.args.values.now
