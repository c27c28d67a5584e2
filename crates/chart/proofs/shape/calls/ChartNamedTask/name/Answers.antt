use Rattle.chart.specs.Lawful.{no_fault_passed}
use Rattle.chart.specs.Tables.{contents}
use Rattle.chart.proofs.shape.calls.ChartNamedTask.name.Goals as goal

pub name_at-requires-clause-fits : goal.name_at-requires-clause-fits
name_at-requires-clause-fits c = (no_fault_passed (contents c.in-Some.tables) c.in-Some.ensures.faultless).ends c.args.operator c.if-operator-tables.true
