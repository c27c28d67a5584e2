-- The listing order of step lists. Assumes nothing.
use Rattle.std.specs.Prelude.{◌≡◌, ℕ, ◌<◌, ◌⊎◌, List, [], ◌∷◌}
use Rattle.std.specs.Borrow.{Bor}

-- Two lists are compared at the first step where they differ, the smaller number first; a beginning of a
-- list stands before it.
abbrev pub Before : List ℕ → List ℕ → Type 0
Before [] [] = ⊥
Before [] (p ∷ ps) = Unit {0}
Before (o ∷ os) [] = ⊥
Before (o ∷ os) (p ∷ ps) = (o < p) ⊎ ((o ≡ p) × Before os ps)

-- r is the one of two lent lists that stands first, itself, and the first one if neither does
abbrev pub Earlier : Bor (List ℕ) → Bor (List ℕ) → Bor (List ℕ) → Type 0
Earlier first second r = ((r ≡ second) × Before second.now first.now) ⊎ ((r ≡ first) × (Before second.now first.now → ⊥))
