use Rattle.std.proofs.Common.{◌≡◌, ℕ, ◌<◌, ◌≤◌, false}
use Rattle.std.specs.List.{slice_get}
use Rattle.sas.specs.Meaning.{sas_in}
use Rattle.sas.specs.Sas.{acts}
use Rattle.sas.proofs.in_use.InUse.first_acting.Given as goal

abbrev pub invariant-loop-at : goal.invariant-loop-at
invariant-loop-at l =
    (o : ℕ) → l.from ≤ o → o < l.at → acts l.values (slice_get (sas_in l.self).actions o) ≡ false
