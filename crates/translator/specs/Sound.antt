-- Sizes of variables within the limits. Assumes nothing.
use Rattle.std.specs.Prelude.{ℕ, ◌^◌, ◌≤◌, List, [], ◌∷◌}
use Rattle.std.specs.Coded.{×_prop, Unit-prop, le_prop}
use Rattle.task.specs.Listing.{Each}
use Rattle.sas.specs.States.{spanned}

-- each variable has a value, and together they span at most 2 ^ 60 states
pub record SoundSizes (ns : List ℕ) : Type 0 where
  pub each : Each (λ n. 1 ≤ n) ns
  pub narrow : spanned ns ≤ 2 ^ 60

each_prop : (ns : List ℕ) → IsProp (Each (λ n. 1 ≤ n) ns)
each_prop [] = Unit-prop
each_prop (n ∷ ns) = ×_prop le_prop (each_prop ns)

-- a list's sizes are sound in one way
pub sound_prop : (ns : List ℕ) → IsProp (SoundSizes ns)
sound_prop ns a b = λ i. record { each = each_prop ns a.each b.each i; narrow = le_prop a.narrow b.narrow i }
