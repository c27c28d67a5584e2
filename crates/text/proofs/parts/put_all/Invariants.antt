use Rattle.std.proofs.Common.{◌≡◌, length, take}
use Rattle.text.specs.Buffer.{over, pieces}
use Rattle.text.proofs.parts.put_all.Given as goal

abbrev pub invariant-loop-part : goal.invariant-loop-part
invariant-loop-part l =
    let written = pieces (take l.part-index l.parts) in
    (l.end ≡ length written) × (l.text ≡ over written l.initial.text)
