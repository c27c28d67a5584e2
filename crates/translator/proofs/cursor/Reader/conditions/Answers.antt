use Rattle.translator.proofs.Facts.{one_more, condition_fault}
use Rattle.translator.proofs.Repeats.{finds_fault}
use Rattle.translator.proofs.cursor.Reader.conditions.Goals as goal

pub returns-in_err-condition : goal.returns-in_err-condition
returns-in_err-condition c = finds_fault _ _ _ _ c.in_err-condition.field-0.0 c.from_residual.ensures.1 (condition_fault c.loop-at.invariant.1 c.loop-at-test.true _ c.in_err-condition.ensures)

pub loop-at-preserved : goal.loop-at-preserved
loop-at-preserved c = (_, one_more c.loop-at.invariant.1 c.loop-at-test.true _ _ _ c.in_ok-condition.ensures _ c.store.ensures)
