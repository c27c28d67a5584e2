use Rattle.std.proofs.Common.{length, sym, ap, ◌∙◌, subst}
use Rattle.std.proofs.lemmas.List.{length-map}
use Rattle.sas.specs.Assigned.{length-values, values_below}
use Rattle.sas.specs.Makes.{in_use_fits}
use Rattle.sas.specs.Values.{Below, sizes}
use Rattle.sas.proofs.in_use.InUse.decode.Goals as goal

pub decode-requires-clause-sized : goal.decode-requires-clause-sized
decode-requires-clause-sized c = (in_use_fits c.args.self.now).sized

pub returns-clause-count : goal.returns-clause-count
returns-clause-count c = ap length c.decode.ensures ∙ (length-values _ c.args.state ∙ length-map c.args.self.now.variables.now (λ v. v.size))

pub returns-clause-below : goal.returns-clause-below
returns-clause-below c =
    subst (Below (sizes c.args.self.now.variables.now)) (sym c.decode.ensures) (values_below _ c.args.state (in_use_fits c.args.self.now).sized)
