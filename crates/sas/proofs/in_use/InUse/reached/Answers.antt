use Rattle.std.proofs.Common.{sym, ◌∙◌, subst}
use Rattle.std.proofs.lemmas.List.{length-map}
use Rattle.sas.specs.Assigned.{length_below, changed_below}
use Rattle.sas.specs.Values.{Below, sizes}
use Rattle.sas.proofs.Scanned.{fits_within}
use Rattle.sas.proofs.in_use.InUse.reached.Goals as goal

pub change-requires : goal.change-requires
change-requires c =
    fits_within c.args.self.now.variables.now _ _ (length_below _ _ c.requires.below ∙ length-map c.args.self.now.variables.now (λ v. v.size)) c.requires.fit

pub number-requires-clause-below : goal.number-requires-clause-below
number-requires-clause-below c =
    subst (Below (sizes c.args.self.now.variables.now)) (sym c.change.ensures) (changed_below _ c.args.conditions.now c.args.values.now c.requires.fit c.requires.below)
