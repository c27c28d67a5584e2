use Rattle.std.proofs.Common.{◌≡◌}
use Rattle.task.specs.Listing.{AllOf}
use Rattle.task.specs.Order.{Before}
use Rattle.enumerate.specs.Completes.{CompletesBelow}
use Rattle.enumerate.specs.Lists.{plans_of}
use Rattle.enumerate.proofs.+completions.Given as goal

abbrev pub decreases-completions : goal.decreases-completions
decreases-completions g l = l.price

-- the moves that are left are the state's own, and the lists so far begin before them
abbrev pub invariant-loop-operator : goal.invariant-loop-operator
invariant-loop-operator g l =
    record {
      task : l.operator-iterator.task.now ≡ l.task;
      state : l.operator-iterator.state ≡ l.state;
      before : AllOf Before (CompletesBelow (g.T.Task.meaning l.task) l.state l.price l.operator-iterator.from) (plans_of l.plans);
    }
