use Rattle.std.proofs.Common.{◌+◌, ◌*◌, ◌<◌, ap, arith}
use Rattle.std.proofs.lemmas.Slice.Zip.{either_empty_from_Zip}
use Rattle.sas.specs.States.{spanned}
use Rattle.sas.specs.Values.{sizes}
use Rattle.sas.proofs.Walks.{left_all, number_below, weight_below}
use Rattle.sas.proofs.values.number.Goals as goal
use Rattle.sas.proofs.values.number.Goals.{After-from}

-- the number stays below the span with the weight of the value that is next
next_below : (c : After-from) → c.loop-variable.number + c.loop-variable.weight * c.from.result < spanned (sizes c.args.variables.now)
next_below c =
    omega (arith, ap (λ v. c.loop-variable.weight * v) c.from.ensures, number_below _ _ c.requires.below _ c.next.new.self _ _ _ c.in-Some.is c.next.ensures.steps _ _ c.loop-variable.invariant)

pub overflow_mul-number : goal.overflow_mul-number
overflow_mul-number c = omega (arith, c.requires.small, next_below (goal.at.overflow_mul-number c).After-from)

pub overflow_add-number : goal.overflow_add-number
overflow_add-number c = omega (arith, c.requires.small, next_below (goal.at.overflow_add-number c).After-from)

pub overflow_mul-weight : goal.overflow_mul-weight
overflow_mul-weight c =
    omega (arith, c.requires.small, ap (λ n. c.loop-variable.weight * n) c.from-weight.ensures, weight_below _ _ c.requires.below _ c.next.new.self _ _ _ c.in-Some.is c.next.ensures.steps _ _ c.loop-variable.invariant)

pub returns : goal.returns
returns c =
    left_all (sizes c.args.variables.now) c.args.values.now _ _ c.loop-variable.number c.loop-variable.weight (either_empty_from_Zip c.loop-variable.variable-iterator c.next.new.self _ c.in-None.is c.next.ensures.steps) c.loop-variable.invariant
