use Rattle.std.proofs.Common.{◌<◌, ◌≤◌, length, sym, subst, rules, tests}
use Rattle.chart.specs.Index.{Indexed, NextArc}
use Rattle.chart.proofs.Entries.{next_at, none_at_end}
use Rattle.chart.proofs.index.IndexedTables.next_arc.Goals as goal
use Rattle.chart.proofs.index.IndexedTables.next_arc.Goals.{After-as_slice-entries}

indexed : (c : After-as_slice-entries) → Indexed c.args.self.now.fit.tables.arcs.now c.as_slice-entries.result.now
indexed c = subst (Indexed c.args.self.now.fit.tables.arcs.now) (sym c.as_slice-entries.ensures.value) c.args.self.now.indexed

pub lower_bound-place-requires : goal.lower_bound-place-requires
lower_bound-place-requires c = (indexed (goal.at.lower_bound-place-requires c).After-as_slice-entries).ordered

pub returns-in_err-entry : goal.returns-in_err-entry
returns-in_err-entry c =
    let p = (goal.at.returns-in_err-entry c).After-as_slice-entries in
    let arcs = c.args.self.now.fit.tables.arcs.now in
    let past : length c.as_slice-entries.result.now ≤ c.lower_bound-place.result = search (rules, tests) in
    subst (NextArc arcs c.args.state c.args.from) (sym c.from_residual.ensures) (none_at_end arcs c.as_slice-entries.result.now (indexed p) c.args.state c.args.from c.lower_bound-place.result c.lower_bound-place.ensures past)

pub returns : goal.returns
returns c =
    let p = (goal.at.returns c).After-as_slice-entries in
    let arcs = c.args.self.now.fit.tables.arcs.now in
    let within : c.lower_bound-place.result < length c.as_slice-entries.result.now = search (rules, tests) in
    subst (NextArc arcs c.args.state c.args.from) (sym c.then_some.ensures) (next_at arcs c.as_slice-entries.result.now (indexed p) c.args.state c.args.from c.lower_bound-place.result c.lower_bound-place.ensures within c.in_ok-entry.entry.now (search rules))
