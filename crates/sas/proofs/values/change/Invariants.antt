use Rattle.std.proofs.Common.{◌≡◌, drop}
use Rattle.sas.specs.Actions.{changed}
use Rattle.sas.proofs.values.change.Given as goal

abbrev pub invariant-loop-condition : goal.invariant-loop-condition
invariant-loop-condition l = changed (drop l.condition-index l.conditions) l.values ≡ changed l.conditions l.initial.values
