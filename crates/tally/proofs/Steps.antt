-- The value of a plan that grows at its end, and as the library's fold. Assumes nothing.
use Rattle.std.proofs.Common.{◌≡◌, ℕ, ◌+◌, ◌<◌, List, [], ◌∷◌, ◌++◌, length, get_or, take, refl, ap, ◌∙◌}
use Rattle.std.specs.List.{fold}
use Rattle.std.proofs.lemmas.List.{take_more}
use Rattle.tally.specs.Summary.{Summary}
use Rattle.tally.specs.Values.{extended, value_of}

module _ {V : Type 0} (y : Summary V) where
  pub extended-append : (v : V) (os ps : List ℕ) → extended y v (os ++ ps) ≡ extended y (extended y v os) ps
  extended-append v [] ps = refl
  extended-append v (o ∷ os) ps = extended-append (y.extend v o) os ps

  pub value_of-push : (os : List ℕ) (o : ℕ) → value_of y (os ++ o ∷ []) ≡ y.extend (value_of y os) o
  value_of-push os o = extended-append y.unit os (o ∷ [])

  -- one more step of a plan
  pub value_of_more : (os : List ℕ) (i : ℕ) → i < length os → value_of y (take (i + 1) os) ≡ y.extend (value_of y (take i os)) (get_or os i 0)
  value_of_more os i h = ap (value_of y) (take_more os i 0 h) ∙ value_of-push (take i os) (get_or os i 0)

  extended_is : (v : V) (os : List ℕ) → fold y.extend v os ≡ extended y v os
  extended_is v [] = refl
  extended_is v (o ∷ os) = extended_is (y.extend v o) os

  -- what a fold from the unit makes
  pub value_is : (os : List ℕ) (v r : V) → r ≡ fold y.extend v os → v ≡ y.unit → r ≡ value_of y os
  value_is os v r e start = e ∙ extended_is v os ∙ ap (λ w. extended y w os) start
