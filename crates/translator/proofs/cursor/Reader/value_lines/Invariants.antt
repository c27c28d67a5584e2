use Rattle.std.proofs.Common.{[]}
use Rattle.translator.specs.Readers.{place_of}
use Rattle.translator.specs.Sections.{value_line}
use Rattle.translator.proofs.Repeats.{Onward}
use Rattle.translator.proofs.cursor.Reader.value_lines.Given as goal

abbrev pub invariant-loop : goal.invariant-loop
invariant-loop l = Onward value_line l.count [] (place_of l.initial.self) l.counter (place_of l.self)
