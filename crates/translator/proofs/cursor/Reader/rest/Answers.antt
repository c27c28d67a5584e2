use Rattle.translator.specs.Readers.{place_of}
use Rattle.translator.proofs.Wholes.{rest_filled, rest_read}
use Rattle.translator.proofs.cursor.Reader.rest.Goals as goal

pub returns : goal.returns
returns c =
    let goal = c.in_ok-goal.ensures.tells in
    let list = c.in_ok-used.ensures in
    let count = c.in_ok-count.ensures in
    let counted = rw (c.up_to.ensures, c.min.ensures) at count.tells in
    let few = rw (c.up_to.ensures, c.min.ensures) at count.within.1 in
    let axioms = rw c.up_to-2.ensures at c.in_ok-number_line.ensures.tells in
    (_, rest_read c.args.room goal.2 list.2 c.args.unit c.args.sizes.now.all.items (place_of c.args.self.now) goal.1 counted list.1 axioms c.in_ok-file_end.ensures, rest_filled c.args.room goal.2 list.2 few)
