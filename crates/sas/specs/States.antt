-- States as assignments: a value for each variable, and the number that stands for them. Assumes nothing.
use Rattle.std.specs.Prelude.{ℕ, ◌+◌, ◌*◌, ◌/◌, ◌%◌, List, [], ◌∷◌}

-- how many assignments there are to variables of these sizes
abbrev pub spanned : List ℕ → ℕ
spanned [] = 1
spanned (n ∷ ns) = n * spanned ns

-- the values of the variables in the state of number s
abbrev pub values : List ℕ → ℕ → List ℕ
values [] s = []
values (n ∷ ns) s = s % n ∷ values ns (s / n)

-- the sum of each value times the product of the earlier sizes, where those before the first multiply to w
abbrev pub summed : ℕ → List ℕ → List ℕ → ℕ
summed w [] vs = 0
summed w (n ∷ ns) [] = 0
summed w (n ∷ ns) (v ∷ vs) = w * v + summed (w * n) ns vs

-- the number of the state with these values
abbrev pub numbered : List ℕ → List ℕ → ℕ
numbered ns vs = summed 1 ns vs
