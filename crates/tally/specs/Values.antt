-- The value of a plan, and the join of a list of values, over what a tally means. Assumes nothing.
use Rattle.std.specs.Prelude.{ℕ, List, [], ◌∷◌, Some, None, Option}
use Rattle.tally.specs.Summary.{Summary}

-- v extended by the steps in order
abbrev pub extended : {V : Type 0} → Summary V → V → List ℕ → V
extended y v [] = v
extended y v (o ∷ os) = extended y (y.extend v o) os

-- a plan's value: the unit extended by its steps in order
abbrev pub value_of : {V : Type 0} → Summary V → List ℕ → V
value_of y os = extended y y.unit os

-- the join of two values, or the one that is there
abbrev pub joined_with : {V : Type 0} → Summary V → Option V → Option V → Option V
joined_with y None b = b
joined_with y (Some a) None = Some a
joined_with y (Some a) (Some b) = Some (y.join a b)

-- the join of a list of values; none if there is no value
abbrev pub joined : {V : Type 0} → Summary V → List V → Option V
joined y [] = None
joined y (v ∷ vs) = joined_with y (Some v) (joined y vs)
