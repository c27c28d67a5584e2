use Rattle.std.proofs.Common.{◌≡◌, true, sym, refl, ◌∙◌, subst, arith}
use Rattle.std.specs.List.{list_all}
use Rattle.std.proofs.lemmas.Bool.{false≢true}
use Rattle.std.proofs.lemmas.Option.{none-some, same_Some}
use Rattle.sas.specs.Checks.{contents, condition_fits}
use Rattle.sas.specs.Values.{sizes}
use Rattle.sas.proofs.Cuts.{Cut, cut_from, all_take, range_product, range_starts, range_conditions, range_operators, cut_use, none_there}
use Rattle.sas.proofs.in_use.InUse.of.Goals as goal
use Rattle.sas.proofs.in_use.InUse.of.Goals.{In_ok-goal, else-used-span-via-then-used-span+then-conditions_in_range+else-operators_in_range, else-used-span-via-then-used-span+else-conditions_in_range, else-used-span-via-else-used-span}

-- the records found by the four lookups are those in use
cut : (c : In_ok-goal) → Cut (contents c.args.tables) c.in_ok-variables.variables.now c.in_ok-operators.operators.now c.in_ok-conditions.conditions.now c.in_ok-goal.goal.now
cut c =
    cut_from (contents c.args.tables) c.in_ok-variables.variables c.in_ok-operators.operators c.in_ok-conditions.conditions c.in_ok-goal.goal
    c.in_ok-variables.ensures.lookup c.in_ok-operators.ensures.lookup c.in_ok-conditions.ensures.lookup c.in_ok-goal.ensures.lookup

pub returns-in_err-span : goal.returns-in_err-span
returns-in_err-span c =
    let k = cut (goal.at.returns-in_err-span c).In_ok-goal in
    none_there _ _ c.from_residual-in_err-span.ensures (λ r. none-some _ (sym c.in_err-span.was ∙ (c.product_of.ensures ∙ range_product _ _ _ _ _ k r)))

pub invariant_of-result-clause-goal_fits : goal.invariant_of-result-clause-goal_fits
invariant_of-result-clause-goal_fits c =
    let k = cut (goal.at.invariant_of-result-clause-goal_fits c).In_ok-goal in
    let fits = condition_fits (sizes c.in_ok-variables.variables.now) in
    subst (λ l. list_all fits l ≡ true) (sym k.goal.1) (all_take fits c.args.tables.used.goal c.in_ok-conditions.conditions.now (sym c.conditions_in_range.ensures ∙ c.if-conditions_in_range.true))

pub returns-then-operators_in_range : goal.returns-then-operators_in_range
returns-then-operators_in_range c =
    let k = cut (goal.at.returns-then-operators_in_range c).In_ok-goal in
    cut_use (contents c.args.tables) _ k refl refl refl

pub returns-else-used-span : goal.returns-else-used-span
returns-else-used-span c r =
    let t = contents c.args.tables in
    let k = cut (goal.at.returns-else-used-span c).In_ok-goal in
    elim c.else-used-span.branch [
      | else-used-span-via-then-used-span+then-conditions_in_range+else-operators_in_range w ↦ false≢true (sym w.if-operators_in_range.false ∙ (w.operators_in_range.ensures ∙ range_operators t _ _ _ _ k r))
      | else-used-span-via-then-used-span+else-conditions_in_range w ↦ false≢true (sym w.if-conditions_in_range.false ∙ (w.conditions_in_range.ensures ∙ range_conditions t _ _ _ _ k r))
      | else-used-span-via-else-used-span w ↦ omega (arith, w.if-used-span.false, range_starts t _ _ _ _ k r, same_Some c.in_ok-span.span _ (c.in_ok-span.ensures ∙ range_product t _ _ _ _ k r))
    ]
