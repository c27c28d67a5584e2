use Rattle.std.proofs.Common.{◌≡◌, ℕ, ◌<◌, ◌≤◌, None}
use Rattle.task.proofs.tasks.Task.next_move.Given as goal

abbrev pub invariant-loop-operator : goal.invariant-loop-operator
invariant-loop-operator g l = (o : ℕ) → l.from ≤ o → o < l.operator → (g.Self.Task.meaning l.self).move l.state o ≡ None
