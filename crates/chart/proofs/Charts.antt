-- What tables without a fault answer. Assumes nothing.
use Rattle.std.proofs.Common.{◌≡◌, ℕ, ◌≤◌, length, get_or, Some, None, refl}
use Rattle.task.proofs.Models.{no_state}
use Rattle.chart.specs.Faults.{no_arc}
use Rattle.chart.specs.Index.{NextArc}
use Rattle.chart.specs.Lawful.{Passed, charted_lawful}
use Rattle.chart.specs.Meaning.{FirstOut}
use Rattle.chart.specs.Tables.{Tables, charted}
use Rattle.chart.proofs.Entries.{both_lead}
use Rattle.chart.proofs.Targets.{target_first}

module _ (t : Tables) (p : Passed t) where
  -- no arc leads from a number that is no state
  pub none_past : (s : ℕ) → length t.goals ≤ s → (o : ℕ) → (charted t).move s o ≡ None
  none_past s h o = no_state (charted t) (charted_lawful t p) s o h

  pub found_out : (s from j : ℕ) → NextArc t.arcs s from (Some j) → FirstOut ((charted t).move s) from (Some (get_or t.arcs j no_arc))
  found_out s from j n =
      let o = (get_or t.arcs j no_arc).operator in
      (n.2, target_first s o t.arcs j n.0 (both_lead (get_or t.arcs j no_arc) s o n.1 refl) n.3, n.4)
