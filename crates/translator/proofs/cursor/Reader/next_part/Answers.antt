use Rattle.std.proofs.Common.{◌≡◌, ◌+◌, ◌-◌, take, drop, Ok, ap, ◌∙◌, arith}
use Rattle.translator.specs.Reads.{parted}
use Rattle.translator.specs.Readers.{left_of, place_of}
use Rattle.translator.proofs.Places.{left_more}
use Rattle.translator.proofs.cursor.Reader.next_part.Goals as goal

pub returns : goal.returns
returns c =
    let r = c.args.self.now in
    let k = c.space-count.result in
    let told = c.space-count.ensures in
    let same : k ≡ r.place + k - r.place = omega arith in
    ap (parted (place_of r)) (left_more r.bytes.now r.place r.next c.if-self.false k r.inside told.within told.value)
    ∙ ap (λ n. Ok (take n (drop r.place r.bytes.now), record { bytes = r.bytes.now; left = left_of r.bytes.now (r.place + k + 1) r.next; next = r.next; line = r.line })) same
