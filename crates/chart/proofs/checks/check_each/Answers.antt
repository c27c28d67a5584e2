use Rattle.std.proofs.Common.{true, false, sym, arith}
use Rattle.chart.proofs.Firsts.{answer_first, answer_none}
use Rattle.chart.proofs.checks.check_each.Goals as goal

pub returns-then-not-holds : goal.returns-then-not-holds
returns-then-not-holds g c = λ p h.
    answer_first p c.args.kind c.args.count c.loop-i.i c.fault.result (omega arith) (λ k l. sym (h k true (omega arith) (c.loop-i.invariant k l))) (sym (h c.loop-i.i false (omega arith) c.if-not-holds.ensures)) c.fault.ensures

pub returns : goal.returns
returns g c = λ p h. answer_none p c.args.kind c.args.count (λ k l. sym (h k true l (c.loop-i.invariant k (omega arith))))
