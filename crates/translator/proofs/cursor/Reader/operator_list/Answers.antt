use Rattle.translator.proofs.Operators.{one_more, operator_fault}
use Rattle.translator.proofs.Repeats.{finds_fault}
use Rattle.translator.proofs.cursor.Reader.operator_list.Goals as goal

pub returns-in_err-operator : goal.returns-in_err-operator
returns-in_err-operator c = finds_fault _ _ _ _ c.in_err-operator.field-0.0 c.from_residual.ensures.1 (operator_fault c.loop-at.invariant.1 c.loop-at-test.true _ c.in_err-operator.ensures.tells)

pub loop-at-preserved : goal.loop-at-preserved
loop-at-preserved c = let told = c.in_ok-operator.ensures in (_, one_more c.loop-at.invariant.1 c.loop-at-test.true _ _ _ told.tells.1 _ told.tells.2 told.within _ c.store.ensures)
