-- The steps of a plan: the first that is unknown, and what they cost. Assumes nothing.
use Rattle.std.proofs.Common.{◌≡◌, ℕ, ◌+◌, ◌≤◌, Bool, true, false, cond, not, nat_lt, List, [], ◌∷◌, Some, refl, ap, ◌∙◌, ⊎_elim, arith}
use Rattle.std.specs.List.{position_from, sum_by}
use Rattle.std.proofs.lemmas.List.Sums.{sum_by-cons}
use Rattle.std.proofs.lemmas.Bool.{cases_lt}
use Rattle.task.specs.Model.{Lawful, Model}
use Rattle.task.specs.Plans.{price}
use Rattle.text.specs.PlanText.{first_unknown}

-- the library's position of the first that is not below the number of operators
pub first_unknown_is : (operators at : ℕ) (steps : List ℕ) → position_from (λ o. not (nat_lt o operators)) at steps ≡ first_unknown operators at steps
first_unknown_is operators at [] = refl
first_unknown_is operators at (o ∷ os) =
    turned (nat_lt o operators) _ _ ∙ ap (λ r. cond (nat_lt o operators) r (Some at)) (first_unknown_is operators (at + 1) os)
  where
    turned : {A : Type 0} (b : Bool) (x y : A) → cond (not b) x y ≡ cond b y x
    turned true x y = refl
    turned false x y = refl

-- the library's sum of the costs
pub price_is : (m : Model) (steps : List ℕ) → sum_by m.cost steps ≡ price m steps
price_is m [] = refl
price_is m (o ∷ os) = sum_by-cons m.cost o os ∙ ap (λ n. m.cost o + n) (price_is m os)

-- an operator, known or not, costs no more than the most that one may
pub cost_at_most : (m : Model) → Lawful m → (o : ℕ) → m.cost o ≤ 1000000
cost_at_most m lawful o =
    ⊎_elim (λ h. (lawful.priced o h).1) (λ h. omega (arith, lawful.unpriced o h)) (cases_lt o m.operators)
