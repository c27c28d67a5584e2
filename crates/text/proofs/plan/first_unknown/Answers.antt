use Rattle.std.proofs.Common.{not, nat_lt, rules, ap, ◌∙◌}
use borrow.Author.Tests.{tests}
use Rattle.std.proofs.lemmas.Iterator.{YieldsList-from_slice}
use Rattle.std.proofs.lemmas.Iterator.Adapters.{position_from-zero}
use Rattle.std.proofs.lemmas.Iterator.Search.{position_from_yields_List}
use Rattle.text.specs.PlanText.{first_unknown}
use Rattle.text.proofs.Steps.{first_unknown_is}
use Rattle.text.proofs.plan.first_unknown.Goals as goal

pub returns-clause-first : goal.returns-clause-first
returns-clause-first g c =
    let n = c.operators-operators.result in
    let steps = c.args.steps.now in
    position_from_yields_List (λ o. not (nat_lt o n)) _ _ _ c.position.ensures.ran (YieldsList-from_slice steps cc) (λ x b q k. search (rules, tests))
    ∙ position_from-zero (λ o. not (nat_lt o n)) steps ∙ first_unknown_is n 0 steps ∙ ap (λ m. first_unknown m 0 steps) c.operators-operators.ensures
