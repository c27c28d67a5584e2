use Rattle.std.proofs.Common.{ℕ, List, Ok, refl, ap}
use Rattle.translator.specs.Reads.{and_then}
use Rattle.translator.proofs.cursor.Reader.text_line.Goals as goal

pub returns : goal.returns
returns c =
    (record { place = c.args.self.now.next; letters = c.in_ok-line.line.now }, ap (λ d. and_then d (λ (l : List ℕ) q. Ok (record { place = c.args.self.now.next; letters = l }, q))) c.in_ok-line.ensures.tells, (refl, refl))
