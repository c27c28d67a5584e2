use Rattle.std.proofs.Common.{arith}
use Rattle.enumerate.proofs.Cheap.{nonempty_found}
use Rattle.enumerate.proofs.cheapest.Goals as goal

pub returns-then-not-is_empty : goal.returns-then-not-is_empty
returns-then-not-is_empty g c =
    nonempty_found (g.T.Task.meaning c.args.task.now) _ c.loop-price.invariant _ c.start-start.ensures c.in_ok-plans.plans c.in_ok-plans.ensures c.if-not-is_empty.ensures _ (omega arith)
