use Rattle.std.proofs.Common.{sym, ◌∙◌, arith}
use Rattle.sas.proofs.Ranges.{product_none, product_more}
use Rattle.sas.proofs.range.product_of.Goals as goal

pub returns-in_err-result : goal.returns-in_err-result
returns-in_err-result c =
    c.from_residual.ensures
    ∙ (sym (product_none c.args.variables.now c.loop-variable.variable-index c.loop-variable.result (omega arith) (sym c.times.ensures ∙ c.in_err-result.was)) ∙ c.loop-variable.invariant.1)

pub loop-variable-preserved : goal.loop-variable-preserved
loop-variable-preserved c =
    let more = product_more c.args.variables.now c.loop-variable.variable-index c.loop-variable.result (omega arith) c.in_ok-result.result (sym c.times.ensures ∙ c.in_ok-result.was) in
    (more.0, more.1 ∙ c.loop-variable.invariant.1)
