use Rattle.std.proofs.Common.{◌≡◌, ◌++◌, length, drop}
use Rattle.sas.specs.States.{values}
use Rattle.sas.specs.Values.{sizes}
use Rattle.sas.proofs.values.decode.Given as goal

abbrev pub invariant-loop-variable : goal.invariant-loop-variable
invariant-loop-variable l =
    (length l.values.items ≡ l.variable-index) × (l.values.items ++ values (sizes (drop l.variable-index l.variables)) l.rest ≡ values (sizes l.variables) l.state)
