-- What unit, extension and join keep, a plan and a list of values keep too. Assumes nothing.
use Rattle.std.proofs.Common.{◌≡◌, ℕ, Bool, true, false, cond, eqb, List, [], ◌∷◌, Some, None, Option, refl, subst, arith}
use Rattle.task.specs.Listing.{Each}
use Rattle.tally.specs.Summary.{Summary}
use Rattle.tally.specs.Values.{extended, joined_with, joined}
use Rattle.tally.specs.Counts.{watching, pair_of}
use Rattle.tally.specs.Pairs.{IsPair}
use Rattle.tally.specs.Theorems.{Keeps}
use Rattle.tally.specs.declared.pairs.Pair.{Pair}

module _ {V : Type 0} (y : Summary V) (P : V → Type 0) (first : P y.unit) (longer : (v : V) (o : ℕ) → P v → P (y.extend v o)) (both : (v w : V) → P v → P w → P (y.join v w)) where
  extended_kept : (v : V) (os : List ℕ) → P v → P (extended y v os)
  extended_kept v [] h = h
  extended_kept v (o ∷ os) h = extended_kept (y.extend v o) os (longer v o h)

  joined_with_kept : (w : V) (r : Option V) → P w → ((v : V) → r ≡ Some v → P v) → (v : V) → joined_with y (Some w) r ≡ Some v → P v
  joined_with_kept w None h k v e = let same : w ≡ v = cc in subst P same h
  joined_with_kept w (Some u) h k v e = let same : y.join w u ≡ v = cc in subst P same (both w u h (k u refl))

  joined_kept : (vs : List V) (v : V) → Each P vs → joined y vs ≡ Some v → P v
  joined_kept [] v h e = absurd (grind arith)
  joined_kept (w ∷ ws) v h e = joined_with_kept w (joined y ws) h.0 (λ u f. joined_kept ws u h.1 f) v e

  pub keeps : Keeps y P
  keeps =
      record {
        of_unit = first;
        of_extension = longer;
        of_join = both;
        of_plan = λ os. extended_kept y.unit os first;
        of_joins = joined_kept;
      }

pair_extends : (w : ℕ) (p : Pair) (o : ℕ) → IsPair p → IsPair ((watching w).extend p o)
pair_extends w p o h = go (eqb o w)
  where
    go : (b : Bool) → IsPair (cond b (pair_of p.all p.all) p)
    go true = record { some = h.some; within = omega arith }
    go false = h

pub watching_keeps_pairs : (w : ℕ) → Keeps (watching w) IsPair
watching_keeps_pairs w =
    keeps (watching w) IsPair (record { some = omega arith; within = omega arith }) (pair_extends w)
    (λ p q h k. record { some = omega arith; within = omega arith })
