-- Which values variables may have, and which variables conditions may name. Assumes nothing.
use Rattle.std.specs.Prelude.{ℕ, ◌<◌, ◌≤◌, List, [], ◌∷◌, map, All}
use Rattle.task.specs.Listing.{Each}
use Rattle.sas.specs.declared.tables.Variable.{Variable}
use Rattle.sas.specs.declared.tables.Condition.{Condition}

abbrev pub sizes : List Variable → List ℕ
sizes vs = map (λ v. v.size) vs

-- every variable has a value
abbrev pub Sized : List ℕ → Type 0
Sized ns = Each (λ n. 1 ≤ n) ns

-- a value for each variable, below its size
abbrev pub Below : List ℕ → List ℕ → Type 0
Below [] [] = Unit {0}
Below [] (v ∷ vs) = ⊥
Below (n ∷ ns) [] = ⊥
Below (n ∷ ns) (v ∷ vs) = (v < n) × Below ns vs

-- the conditions are of the first n variables
abbrev pub Within : ℕ → List Condition → Type 0
Within n cs = All (λ c. c.variable < n) cs
