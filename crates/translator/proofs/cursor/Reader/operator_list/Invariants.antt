use Rattle.std.proofs.Common.{List}
use Rattle.translator.specs.Description.{DescribedOperator}
use Rattle.translator.specs.Readers.{place_of}
use Rattle.translator.proofs.Operators.{Sofar}
use Rattle.translator.proofs.cursor.Reader.operator_list.Given as goal

abbrev pub invariant-loop-at : goal.invariant-loop-at
invariant-loop-at l =
    (os : List DescribedOperator)
    × Sofar (record { unit = l.unit; sizes = l.sizes.all.items; count = l.count; first = l.first; room = l.room; operators = l.initial.operators; table = l.initial.table; start = place_of l.initial.self }) l.at (place_of l.self) l.operators l.table l.used os
