use Rattle.std.proofs.Common.{◌++◌, ◌∙◌, ap, refl, sym, arith}
use Rattle.text.specs.Buffer.{after}
use Rattle.text.specs.RefusalLine.{refusal_line}
use Rattle.listing.proofs.Lines.{line_fits, line_length, front_of}
use Rattle.listing.proofs.written.push_refusal.Goals as goal

pub unwrap-length-requires : goal.unwrap-length-requires
unwrap-length-requires c = rw (c.write_refusal.ensures.answers, line_fits c.args.fault (omega arith)) refl

pub returns : goal.returns
returns c =
    let told = c.write_refusal.ensures in
    let length_is = line_length c.args.fault c.unwrap-length.result (omega arith) (sym c.unwrap-length.ensures ∙ told.answers) in
    c.in_ok-extend_from_slice.ensures.items ∙ ap (λ l. c.args.text.now.items ++ l) (front_of _ (refusal_line c.args.fault) _ _ length_is (told.buffer ∙ ap (λ r. after r (refusal_line c.args.fault) _) c.unwrap-length.ensures))
