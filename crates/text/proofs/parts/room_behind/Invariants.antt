use Rattle.std.proofs.Common.{◌≡◌, ◌+◌, length, take}
use Rattle.text.specs.Buffer.{pieces}
use Rattle.text.proofs.parts.room_behind.Given as goal

abbrev pub invariant-loop-part : goal.invariant-loop-part
invariant-loop-part l = length (pieces (take l.part-index l.parts)) + l.left ≡ l.room
