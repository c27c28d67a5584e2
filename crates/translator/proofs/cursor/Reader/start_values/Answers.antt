use Rattle.std.proofs.Common.{◌+◌, ◌-◌, ◌*◌, ◌^◌, ◌<◌, ◌≤◌, get_or, refl, ap, arith}
use Rattle.translator.proofs.Repeats.{finds_fault}
use Rattle.translator.proofs.Starts.{fits, one_more, value_fault}
use Rattle.translator.proofs.cursor.Reader.start_values.Goals as goal
use Rattle.translator.proofs.cursor.Reader.start_values.Goals.{In_ok-value}

pub returns-in_err-value : goal.returns-in_err-value
returns-in_err-value c =
    rw (← c.as_slice-all.ensures.value) (finds_fault _ _ _ _ c.in_err-value.field-0.0 c.from_residual.ensures.1 (value_fault _ _ c.loop-size.invariant.2 c.loop-size-test.true _ refl _ (rw c.up_to.ensures at c.in_err-value.ensures.tells)))

-- the value read is one of the variable's
small : (c : In_ok-value) → c.in_ok-value.value ≤ get_or c.as_slice-all.result.now c.loop-size.size-index 0 - 1
small c = rw c.up_to.ensures at c.in_ok-value.ensures.within.1

-- the sum with this value, and the next weight, are within the limit
sums : (c : In_ok-value) → (c.loop-size.number + c.loop-size.weight * c.in_ok-value.value < c.loop-size.weight * get_or c.as_slice-all.result.now c.loop-size.size-index 0) × (c.loop-size.weight * get_or c.as_slice-all.result.now c.loop-size.size-index 0 ≤ 2 ^ 60)
sums c = fits _ _ c.loop-size.invariant.2 c.loop-size-test.true _ (small c)

pub overflow_mul-number : goal.overflow_mul-number
overflow_mul-number c =
    let f = sums (goal.at.overflow_mul-number c).In_ok-value in
    omega (arith, f.0, f.1, ap (λ v. c.loop-size.weight * v) c.from.ensures)

pub overflow_add-number : goal.overflow_add-number
overflow_add-number c =
    let f = sums (goal.at.overflow_add-number c).In_ok-value in
    omega (arith, f.0, f.1, ap (λ v. c.loop-size.weight * v) c.from.ensures)

pub overflow_mul-weight : goal.overflow_mul-weight
overflow_mul-weight c =
    let f = sums (goal.at.overflow_mul-weight c).In_ok-value in
    omega (arith, f.1, ap (λ v. c.loop-size.weight * v) c.from-weight.ensures)

pub loop-size-preserved : goal.loop-size-preserved
loop-size-preserved c = (
  c.loop-size.invariant.0,
  _,
  one_more _ _ c.loop-size.invariant.2 c.loop-size-test.true _ (small (goal.at.loop-size-preserved c).In_ok-value) _ refl _ (rw c.up_to.ensures at c.in_ok-value.ensures.tells) _ _ (ap (λ v. c.loop-size.number + c.loop-size.weight * v) c.from.ensures) (ap (λ v. c.loop-size.weight * v) c.from-weight.ensures),
)
