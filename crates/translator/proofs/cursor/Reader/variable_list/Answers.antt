use Rattle.std.proofs.Common.{◌*◌, ap}
use Rattle.translator.proofs.Repeats.{finds_fault}
use Rattle.translator.proofs.Spans.{one_more, variable_fault}
use Rattle.translator.proofs.cursor.Reader.variable_list.Goals as goal

pub returns-in_err-size-clause-tells : goal.returns-in_err-size-clause-tells
returns-in_err-size-clause-tells c = finds_fault _ _ _ _ c.in_err-size.field-0.0 c.from_residual.ensures.1 (variable_fault c.loop-at.invariant.1 _ c.in_err-size.ensures.tells c.loop-at-test.true)

pub loop-at-preserved : goal.loop-at-preserved
loop-at-preserved c =
    let so = c.loop-at.invariant.1 in
    let told = c.in_ok-size.ensures in
    (_, one_more _ _ _ _ _ _ _ _ _ so _ _ _ told.tells.1 told.tells.2 told.within.0 told.within.1 c.loop-at-test.true _ c.push.ensures.items _ (ap (λ n. c.loop-at.span * n) c.from-span.ensures) _ c.store.ensures)
