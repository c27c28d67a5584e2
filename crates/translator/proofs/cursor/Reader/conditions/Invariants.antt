use Rattle.std.proofs.Common.{List}
use Rattle.sas.specs.declared.tables.Condition.{Condition}
use Rattle.translator.specs.Readers.{place_of, noted_in}
use Rattle.translator.proofs.Facts.{Sofar}
use Rattle.translator.proofs.cursor.Reader.conditions.Given as goal

abbrev pub invariant-loop-at : goal.invariant-loop-at
invariant-loop-at l =
    (cs : List Condition)
    × Sofar (record { form = l.form; count = l.count; first = l.first; table = l.initial.table; seen = noted_in l.initial.seen; start = place_of l.initial.self }) l.at (place_of l.self) (noted_in l.seen) l.table cs
