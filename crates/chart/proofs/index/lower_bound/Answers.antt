use Rattle.std.proofs.Common.{◌+◌, ◌-◌, ◌/◌, sym, arith}
use Rattle.chart.proofs.Entries.{all_before, none_before}
use Rattle.chart.proofs.index.lower_bound.Goals as goal

pub loop-low-preserved-then-is_before : goal.loop-low-preserved-then-is_before
loop-low-preserved-then-is_before c =
    (omega arith, omega arith, all_before c.args.index.now c.requires c.args.state c.args.operator (c.loop-low.low + (c.loop-low.high - c.loop-low.low) / 2) (omega arith) (sym c.if-is_before.ensures), c.loop-low.invariant.3)

pub loop-low-preserved : goal.loop-low-preserved
loop-low-preserved c =
    (omega arith, omega arith, c.loop-low.invariant.2, none_before c.args.index.now c.requires c.args.state c.args.operator (c.loop-low.low + (c.loop-low.high - c.loop-low.low) / 2) (sym c.if-is_before.ensures))
