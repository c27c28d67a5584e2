use Rattle.layers.proofs.Barring.{barred_plans}
use Rattle.layers.proofs.plans.barred_plans.Goals as goal

pub returns : goal.returns
returns c = barred_plans
