-- The lists that lead to a goal at one price. Assumes nothing.
use Rattle.std.specs.Prelude.{◌≡◌, ℕ, ◌<◌, List, [], ◌∷◌}
use Rattle.task.specs.Model.{Model}
use Rattle.task.specs.Plans.{Reaches, price}

-- os leads from s to a goal state, and its steps cost c in all
abbrev pub Completes : Model → ℕ → ℕ → List ℕ → Type 0
Completes m s c os = Reaches m s os × (price m os ≡ c)

-- the first step, if there is one, is an operator below n
abbrev pub BeginsBelow : ℕ → List ℕ → Type 0
BeginsBelow n [] = Unit {0}
BeginsBelow n (o ∷ os) = o < n

abbrev pub CompletesBelow : Model → ℕ → ℕ → ℕ → List ℕ → Type 0
CompletesBelow m s c n os = Completes m s c os × BeginsBelow n os
