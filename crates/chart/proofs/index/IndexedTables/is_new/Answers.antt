use Rattle.std.proofs.Common.{◌∙◌}
use Rattle.chart.proofs.Repeats.{new_is}
use Rattle.chart.proofs.index.IndexedTables.is_new.Goals as goal

pub returns : goal.returns
returns c =
    c.eq.ensures ∙ new_is c.args.self.now.fit.tables.arcs.now c.args.at c.requires c.next_arc.result c.next_arc.ensures
