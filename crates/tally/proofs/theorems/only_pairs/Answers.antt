use Rattle.tally.proofs.Kept.{watching_keeps_pairs}
use Rattle.tally.proofs.theorems.only_pairs.Goals as goal

pub returns : goal.returns
returns c = watching_keeps_pairs
