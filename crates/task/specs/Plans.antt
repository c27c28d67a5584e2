-- Plans and cheapest plans, over what a task means.
use Rattle.std.specs.Prelude.{◌≡◌, ℕ, ◌+◌, ◌≤◌, true, List, [], ◌∷◌, Some, None, Option}
use Rattle.task.specs.Model.{Model}

-- go on from a state, if there is one
abbrev pub then_on : Option ℕ → (ℕ → Option ℕ) → Option ℕ
then_on None f = None
then_on (Some t) f = f t

-- where a list of operators leads from s
abbrev pub follow : Model → ℕ → List ℕ → Option ℕ
follow m s [] = Some s
follow m s (o ∷ os) = then_on (m.move s o) (λ t. follow m t os)

-- the sum of the costs
abbrev pub price : Model → List ℕ → ℕ
price m [] = 0
price m (o ∷ os) = m.cost o + price m os

-- os leads from s to a goal state
abbrev pub Reaches : Model → ℕ → List ℕ → Type 0
Reaches m s os = (t : ℕ) × (follow m s os ≡ Some t) × (m.goal t ≡ true)

abbrev pub Plan : Model → List ℕ → Type 0
Plan m os = Reaches m m.start os

-- a plan that costs no more than any other
abbrev pub Cheapest : Model → List ℕ → Type 0
Cheapest m os = Plan m os × ((ps : List ℕ) → Plan m ps → price m os ≤ price m ps)
