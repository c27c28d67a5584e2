use Rattle.std.proofs.Common.{sym, ap, ◌∙◌, ⊎_elim, arith}
use Rattle.std.specs.List.{slice_get}
use Rattle.std.proofs.lemmas.Bool.{cases_lt}
use Rattle.std.proofs.lemmas.List.{length-map}
use Rattle.std.proofs.lemmas.Option.{slice_get_past}
use Rattle.sas.specs.Actions.{applies}
use Rattle.sas.specs.Meaning.{sas_in}
use Rattle.sas.specs.Sas.{acts}
use Rattle.sas.specs.Tables.{action_of}
use Rattle.sas.proofs.Scanned.{action_at}
use Rattle.sas.proofs.in_use.InUse.first_acting.Goals as goal

pub loop-at-preserved : goal.loop-at-preserved
loop-at-preserved c =
    let u = c.args.self.now in
    let vs = c.args.values.now in
    let stays = ap (λ cs. applies cs vs) (sym c.part-conditions.ensures) ∙ (sym c.holds.ensures ∙ c.if-holds.false) in
    let here = ap (acts vs) (action_at u c.loop-at.at _ c.loop-at-test.true) ∙ stays in
    λ o a b. ⊎_elim (λ l. c.loop-at.invariant o a l) (λ l. ap (λ n. acts vs (slice_get (sas_in u).actions n)) (omega (arith, b, l)) ∙ here) (cases_lt o c.loop-at.at)

pub returns : goal.returns
returns c =
    let u = c.args.self.now in
    let vs = c.args.values.now in
    λ o a. ⊎_elim (λ l. c.loop-at.invariant o a l) (λ l. ap (acts vs) (slice_get_past (sas_in u).actions o (omega (arith, l, c.loop-at-test.false, length-map u.operators.now (action_of u.conditions.now))))) (cases_lt o c.loop-at.at)
