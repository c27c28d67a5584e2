use Rattle.std.proofs.Common.{◌≡◌, ℕ, ◌-◌, ◌<◌, ◌≤◌, true, false, length, get_or}
use Rattle.chart.specs.Index.{before, no_entry}
use Rattle.chart.proofs.index.lower_bound.Given as goal

abbrev pub invariant-loop-low : goal.invariant-loop-low
invariant-loop-low l =
    (l.low ≤ l.high) × (l.high ≤ length l.index)
    × ((k : ℕ) → k < l.low → before (get_or l.index k no_entry) l.state l.operator ≡ true)
    × ((k : ℕ) → l.high ≤ k → k < length l.index → before (get_or l.index k no_entry) l.state l.operator ≡ false)

abbrev pub decreases-loop-low : goal.decreases-loop-low
decreases-loop-low l = l.high - l.low
