-- A task without one of its operators keeps the laws. Assumes nothing.
use Rattle.std.proofs.Common.{◌≡◌, ℕ, Bool, true, false, eqb, Some, refl, arith}
use Rattle.task.specs.Model.{Model, Lawful}
use Rattle.layers.specs.Barred.{barred}

-- a move that is left is a move below, of another operator
pub move_below : (m : Model) (o s p t : ℕ) → (barred o m).move s p ≡ Some t → (eqb p o ≡ false) × (m.move s p ≡ Some t)
move_below m o s p t e = go (eqb p o) refl
  where
    go : (b : Bool) → eqb p o ≡ b → (eqb p o ≡ false) × (m.move s p ≡ Some t)
    go true h = absurd (grind arith)
    go false h = (h, grind arith)

-- the laws are kept
pub barred_lawful : (o : ℕ) (m : Model) → Lawful m → Lawful (barred o m)
barred_lawful o m l =
    record {
      few = l.few;
      priced = l.priced;
      unpriced = l.unpriced;
      wide = l.wide;
      starts = l.starts;
      moves = λ s p t e. l.moves s p t (move_below m o s p t e).1;
      inside = l.inside;
      estimates = l.estimates;
      aware = l.aware;
      consistent = λ s p t e. l.consistent s p t (move_below m o s p t e).1;
    }
