-- Which two numbers are a pair: at least one plan, and no more with the operator than there are.
-- Assumes nothing.
use Rattle.std.specs.Prelude.{◌≤◌}
use Rattle.tally.specs.declared.pairs.Pair.{Pair}

pub record IsPair (p : Pair) : Type 0 where
  pub some : 1 ≤ p.all
  pub within : p.with ≤ p.all
