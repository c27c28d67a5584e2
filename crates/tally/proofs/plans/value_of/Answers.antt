use Rattle.std.proofs.Common.{rules}
use borrow.Author.Tests.{tests}
use Rattle.std.proofs.lemmas.Iterator.{YieldsList-from_slice}
use Rattle.std.proofs.lemmas.Iterator.Consumers.{fold_from_yields_List}
use Rattle.tally.proofs.Steps.{value_is}
use Rattle.tally.proofs.plans.value_of.Goals as goal

pub returns : goal.returns
returns g c =
    let y = g.Y.Tally.meaning c.args.tally.now in
    let steps = c.args.steps.now in
    value_is y steps _ c.fold.result
    (fold_from_yields_List _ y.extend _ _ c.fold.ensures.ran (YieldsList-from_slice steps cc) (λ a x b q k. search (rules, tests)))
    (search rules)
