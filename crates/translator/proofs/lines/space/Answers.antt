use Rattle.std.proofs.Common.{eqb, length, ap, sym, ◌∙◌, rules, tests}
use Rattle.std.specs.Option.{unwrap_or}
use Rattle.std.proofs.lemmas.Iterator.{YieldsList-from_slice}
use Rattle.std.proofs.lemmas.Iterator.Search.{position_from_yields_List}
use Rattle.translator.specs.Lines.{cut_at}
use Rattle.translator.proofs.Cuts.{cut_first, position_else_length}
use Rattle.translator.proofs.lines.space.Goals as goal

pub returns-clause-value : goal.returns-clause-value
returns-clause-value c =
    let bs = c.args.line.now in
    let first = position_from_yields_List (λ b. eqb b 32) _ _ _ c.position.ensures.ran (YieldsList-from_slice bs cc) (λ x b q k. search (rules, tests)) in
    cut_first bs ∙ ap (cut_at bs) (sym (c.unwrap_or.ensures ∙ ap (λ o. unwrap_or o (length bs)) first ∙ position_else_length (λ b. eqb b 32) bs))
