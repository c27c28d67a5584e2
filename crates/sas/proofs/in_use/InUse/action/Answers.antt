use Rattle.std.proofs.Common.{Some, sym, refl, ap, subst}
use Rattle.std.proofs.lemmas.Option.{slice_get-map, slice_get_read}
use Rattle.task.specs.Listing.{Each}
use Rattle.task.proofs.Members.{each_take, each-drop}
use Rattle.sas.specs.Makes.{conditions_in}
use Rattle.sas.specs.Tables.{ConditionFits}
use Rattle.sas.specs.Values.{sizes}
use Rattle.sas.proofs.in_use.InUse.action.Goals as goal

pub returns-clause-fit : goal.returns-clause-fit
returns-clause-fit c =
    let u = c.args.self.now in
    let o = c.in_ok-operator.operator.now in
    subst (Each (ConditionFits (sizes u.variables.now))) (sym c.part.ensures) (each_take _ o.count _ (each-drop _ o.first u.conditions.now (conditions_in u)))

pub returns-clause-conditions : goal.returns-clause-conditions
returns-clause-conditions c =
    rw (slice_get-map, slice_get_read c.args.self.now.operators.now _ c.args.operator c.in_ok-operator.operator.now refl c.in_ok-operator.ensures.lookup.3.0 c.in_ok-operator.ensures.lookup.1) (ap Some c.part.ensures)
