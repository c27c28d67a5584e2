-- The number of each kind of fault, and want of memory as a fault. Assumes nothing.
use Rattle.std.specs.Prelude.{ℕ, Some, None, Option}
use Rattle.task.specs.declared.faults.Fault.{Fault}
use Rattle.task.specs.declared.faults.Kind.{Kind}
use Rattle.task.specs.declared.faults.Kind.TheVariants.{EndsEarly, WrongWord, BadNumber, NotCarried, VariableTwice, OverLimit, BytesAfterEnd, OutOfRange, ArcRepeated, EstimateLaw, SpanTooWide, Unfinished, Full, NoPlan, PastEnd, BufferShort, TooMany, NotThisTask, NoMemory}
use Rattle.task.specs.declared.faults.Layer.TheVariants.{Memory}

abbrev pub number_of : Kind → Option ℕ
number_of EndsEarly = Some 1
number_of WrongWord = Some 2
number_of BadNumber = Some 3
number_of NotCarried = Some 4
number_of VariableTwice = Some 5
number_of OverLimit = Some 6
number_of BytesAfterEnd = Some 7
number_of OutOfRange = Some 8
number_of ArcRepeated = Some 9
number_of EstimateLaw = Some 10
number_of SpanTooWide = Some 11
number_of Unfinished = Some 12
number_of Full = Some 13
number_of NoPlan = Some 14
number_of PastEnd = Some 15
number_of BufferShort = Some 16
number_of TooMany = Some 17
number_of NotThisTask = Some 18
number_of NoMemory = None

abbrev pub no_memory : Fault
no_memory = record { kind = NoMemory; place = 0; layer = Memory }
