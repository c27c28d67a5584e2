use Rattle.std.proofs.Common.{ℕ, ◌<◌, true}
use Rattle.chart.proofs.checks.check_each.Given as goal

abbrev pub invariant-loop-i : goal.invariant-loop-i
invariant-loop-i g l = (k : ℕ) → k < l.i → goal.F-post g l.holds k true
