use Rattle.layers.proofs.Requiring.{required_plans}
use Rattle.layers.proofs.plans.required_plans.Goals as goal

pub returns : goal.returns
returns c = required_plans
