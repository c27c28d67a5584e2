use Rattle.std.proofs.Common.{[], refl}
use Rattle.translator.specs.Readers.{place_of}
use Rattle.translator.specs.Sections.{value_line}
use Rattle.translator.proofs.Repeats.{onward_more, chain}
use Rattle.translator.proofs.cursor.Reader.value_lines.Goals as goal

pub loop-preserved : goal.loop-preserved
loop-preserved c =
    onward_more value_line c.args.count [] (place_of c.args.self.now) c.loop.counter (place_of c.loop.self) c.loop.invariant c.loop-test.true _ (λ a. (_, chain _ c.in_ok-text_line.ensures.1 refl))
