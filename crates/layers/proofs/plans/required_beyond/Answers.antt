use Rattle.layers.proofs.Requiring.{required_beyond}
use Rattle.layers.proofs.plans.required_beyond.Goals as goal

pub returns : goal.returns
returns c = required_beyond
