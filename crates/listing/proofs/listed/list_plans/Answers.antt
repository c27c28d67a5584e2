use Rattle.std.proofs.Common.{arith}
use Rattle.std.proofs.lemmas.Result.{IfOk-weaker}
use Rattle.listing.proofs.listed.list_plans.Goals as goal

pub returns : goal.returns
returns c =
    IfOk-weaker c.list_file.result _ _ (λ o e. (_, _, _, _, _, _, omega (arith, c.deref_mut.ensures.len, c.in_ok-variables.ensures.len), omega (arith, c.deref_mut-2.ensures.len, c.in_ok-operators.ensures.len), omega (arith, c.deref_mut-3.ensures.len, c.in_ok-conditions.ensures.len), e)) c.list_file.ensures
