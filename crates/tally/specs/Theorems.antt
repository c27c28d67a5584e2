-- What holds of the joins of every tally, and of the values of a watched operator. Assumes nothing.
use Rattle.std.specs.Prelude.{◌≡◌, ℕ, List, ◌++◌, Some}
use Rattle.std.specs.List.Sorted.{IsPermutation}
use Rattle.task.specs.Listing.{Each}
use Rattle.tally.specs.Summary.{Summary}
use Rattle.tally.specs.Values.{value_of, joined_with, joined}

-- lists with the same values in another order have the same join
abbrev pub AnyOrder : {V : Type 0} → Summary V → Type 0
AnyOrder {V} y = (vs ws : List V) → IsPermutation vs ws → joined y ws ≡ joined y vs

-- a list cut anywhere: the join of the two parts' joins
abbrev pub AnyParts : {V : Type 0} → Summary V → Type 0
AnyParts {V} y = (vs ws : List V) → joined y (vs ++ ws) ≡ joined_with y (joined y vs) (joined y ws)

-- every value that unit, extension and join make is a P
pub record Keeps {V : Type 0} (y : Summary V) (P : V → Type 0) : Type 0 where
  pub of_unit : P y.unit
  pub of_extension : (v : V) (o : ℕ) → P v → P (y.extend v o)
  pub of_join : (v w : V) → P v → P w → P (y.join v w)
  pub of_plan : (os : List ℕ) → P (value_of y os)
  pub of_joins : (vs : List V) (v : V) → Each P vs → joined y vs ≡ Some v → P v
