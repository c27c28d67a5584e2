use Rattle.std.proofs.Common.{◌≤◌, length, Some, None, get_or, sym, subst, rules}
use Rattle.chart.specs.Faults.{no_arc}
use Rattle.chart.specs.Index.{NextArc}
use Rattle.chart.specs.Makes.{made_passed}
use Rattle.chart.specs.Meaning.{FirstOut, meaning_of}
use Rattle.chart.specs.Tables.{contents}
use Rattle.chart.proofs.Charts.{found_out, none_past}
use Rattle.chart.proofs.shape.Chart.next_out.Goals as goal

pub returns-then-state-held : goal.returns-then-state-held
returns-then-state-held c =
    let h = c.in_ok-held.held.now in
    let past : length h.fit.tables.goals.now ≤ c.args.state = search rules in
    let none = none_past (contents h.fit.tables) (made_passed c.args.self.now h (sym c.in_ok-held.ensures.value)) c.args.state past in
    subst (λ x. FirstOut ((meaning_of x).move c.args.state) c.args.from None) c.in_ok-held.ensures.value (λ o l. none o)

pub returns : goal.returns
returns c =
    let h = c.in_ok-held.held.now in
    let next : NextArc h.fit.tables.arcs.now c.args.state c.args.from (Some c.in_ok-arc.arc) = search rules in
    subst (λ x. FirstOut ((meaning_of x).move c.args.state) c.args.from (Some (get_or h.fit.tables.arcs.now c.in_ok-arc.arc no_arc))) c.in_ok-held.ensures.value
    (found_out (contents h.fit.tables) (made_passed c.args.self.now h (sym c.in_ok-held.ensures.value)) c.args.state c.args.from c.in_ok-arc.arc next)
