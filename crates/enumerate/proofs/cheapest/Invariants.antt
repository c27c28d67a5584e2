use Rattle.std.proofs.Common.{ℕ, ◌≤◌, List}
use Rattle.task.specs.Plans.{Plan, price}
use Rattle.enumerate.proofs.cheapest.Given as goal

-- no plan costs less
abbrev pub invariant-loop-price : goal.invariant-loop-price
invariant-loop-price g l =
    (ps : List ℕ) → Plan (g.T.Task.meaning l.task) ps → l.price ≤ price (g.T.Task.meaning l.task) ps
