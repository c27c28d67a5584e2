use Rattle.std.proofs.Common.{refl, sym, ap, ◌∙◌, inl, inr}
use Rattle.std.specs.Ordering.{is_lt}
use Rattle.task.proofs.Orders.{less_before, before_less}
use Rattle.task.proofs.steps.earlier.Goals as goal

pub returns-then-is_lt : goal.returns-then-is_lt
returns-then-is_lt c = inl (refl, less_before c.args.second.now c.args.first.now (ap is_lt (sym c.cmp.ensures) ∙ sym c.if-is_lt.ensures))

pub returns-else-is_lt : goal.returns-else-is_lt
returns-else-is_lt c = inr (refl, before_less c.args.second.now c.args.first.now (ap is_lt (sym c.cmp.ensures) ∙ sym c.if-is_lt.ensures))
