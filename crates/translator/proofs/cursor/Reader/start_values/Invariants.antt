use Rattle.std.proofs.Common.{ℕ, List}
use Rattle.translator.specs.Readers.{place_of}
use Rattle.translator.specs.Sound.{SoundSizes}
use Rattle.translator.proofs.Starts.{Sofar}
use Rattle.translator.proofs.cursor.Reader.start_values.Given as goal

abbrev pub invariant-loop-size : goal.invariant-loop-size
invariant-loop-size l = (sound : SoundSizes l.all) × (vs : List ℕ) × Sofar l.all sound (place_of l.initial.self) l.size-index (place_of l.self) l.number l.weight vs
