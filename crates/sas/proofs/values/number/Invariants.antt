use Rattle.std.specs.Slice.Iter.{iter_rest}
use Rattle.std.specs.Iterator.Adapters.{zip_first, zip_second}
use Rattle.sas.proofs.Walks.{Left}
use Rattle.sas.specs.Values.{sizes}
use Rattle.sas.proofs.values.number.Given as goal

abbrev pub invariant-loop-variable : goal.invariant-loop-variable
invariant-loop-variable l =
    Left (sizes l.variables) l.values (sizes (iter_rest (zip_first l.variable-iterator))) (iter_rest (zip_second l.variable-iterator)) l.number l.weight
