use Rattle.std.proofs.Common.{[]}
use Rattle.translator.specs.Readers.{place_of}
use Rattle.translator.specs.Sections.{next_mutex}
use Rattle.translator.proofs.Repeats.{Onward}
use Rattle.translator.proofs.cursor.Reader.mutex_list.Given as goal

abbrev pub invariant-loop : goal.invariant-loop
invariant-loop l = Onward (next_mutex l.sizes.all.items) l.count [] (place_of l.initial.self) l.counter (place_of l.self)
