use Rattle.std.proofs.Common.{List}
use Rattle.translator.specs.Description.{DescribedVariable}
use Rattle.translator.specs.Readers.{place_of}
use Rattle.translator.proofs.Spans.{Sofar}
use Rattle.translator.proofs.cursor.Reader.variable_list.Given as goal

abbrev pub invariant-loop-at : goal.invariant-loop-at
invariant-loop-at l = (vs : List DescribedVariable) × Sofar l.count l.initial.table (place_of l.initial.self) l.at (place_of l.self) l.all.items l.span l.table vs
