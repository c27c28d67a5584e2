use Rattle.enumerate.proofs.Ways.{below_all, below_more, below_skips}
use Rattle.enumerate.proofs.+completions.Goals as goal

pub loop-operator-preserved-then-cost-price : goal.loop-operator-preserved-then-cost-price
loop-operator-preserved-then-cost-price g t c =
    let i = c.loop-operator.invariant in
    let first = rw (i.task, i.state) at c.in-Some.ensures.steps.0 in
    rw c.in-Some.ensures.steps.1 (record {
      task = i.task;
      state = i.state;
      before = simp (c.in_ok-append_led.ensures, c.deref.ensures.value) (below_more (g.T.Task.meaning c.args.task.now) c.args.state c.args.price _ _ _ _ first c.cost-cost.ensures c.if-cost-price.true _ _ i.before c.in_ok-tails.ensures);
    })

pub loop-operator-preserved : goal.loop-operator-preserved
loop-operator-preserved g t c =
    let i = c.loop-operator.invariant in
    let first = rw (i.task, i.state) at c.in-Some.ensures.steps.0 in
    rw c.in-Some.ensures.steps.1 (record {
      task = i.task;
      state = i.state;
      before = below_skips (g.T.Task.meaning c.args.task.now) c.args.state c.args.price _ _ _ _ first c.cost-cost.ensures c.if-cost-price.false _ i.before;
    })

pub returns : goal.returns
returns g t c =
    let i = c.loop-operator.invariant in
    let none = rw (i.task, i.state) at c.in-None.ensures.steps.0 in
    below_all (g.T.Task.meaning c.args.task.now) _ _ _ none _ i.before
