-- A task without one of its operators: its plans. Assumes nothing.
use Rattle.std.proofs.Common.{◌≡◌, ℕ, List, [], ◌∷◌, Some, sym, refl, inl, inr, ⊎_elim, ne_eqb}
use borrow.Author.Tests.{eqb-false}
use Rattle.task.specs.Listing.{In}
use Rattle.task.specs.Model.{Model}
use Rattle.task.specs.Plans.{follow}
use Rattle.layers.specs.Theorems.{BarredPlans}
use Rattle.layers.specs.Barred.{barred}
use Rattle.layers.specs.BarredLaws.{move_below}
use Rattle.task.proofs.Models.{came_on}
use Rattle.layers.proofs.Following.{goes_on, same_price}

-- a move below of another operator is left
pub move_left : (m : Model) (o s p t : ℕ) → (p ≡ o → ⊥) → m.move s p ≡ Some t → (barred o m).move s p ≡ Some t
move_left m o s p t n e = rw (ne_eqb p o n) e

-- a way over the layer is a way below that does not use o
pub way_below : (m : Model) (o s t : ℕ) (os : List ℕ) → follow (barred o m) s os ≡ Some t → (follow m s os ≡ Some t) × (In o os → ⊥)
way_below m o s t [] e = (e, λ i. i)
way_below m o s t (p ∷ os) e =
    let k = came_on ((barred o m).move s p) (λ u. follow (barred o m) u os) t e in
    let b = move_below m o s p k.0 k.1 in
    let r = way_below m o k.0 t os k.2 in
    (goes_on (m.move s p) (λ u. follow m u os) k.0 t b.1 r.0, ⊎_elim (λ q. eqb-false p o b.0 (sym q)) r.1)

-- a way below that does not use o is a way over the layer
pub way_left : (m : Model) (o s t : ℕ) (os : List ℕ) → follow m s os ≡ Some t → (In o os → ⊥) → follow (barred o m) s os ≡ Some t
way_left m o s t [] e n = e
way_left m o s t (p ∷ os) e n =
    let k = came_on (m.move s p) (λ u. follow m u os) t e in
    goes_on ((barred o m).move s p) (λ u. follow (barred o m) u os) k.0 t (move_left m o s p k.0 (λ q. n (inl (sym q))) k.1) (way_left m o k.0 t os k.2 (λ i. n (inr i)))

pub barred_plans : BarredPlans
barred_plans m o os =
    ((λ p. let w = way_below m o m.start p.0 os p.1 in ((p.0, w.0, p.2), w.1), λ p. (p.0.0, way_left m o m.start p.0.0 os p.0.1 p.1, p.0.2)), same_price (barred o m) m (λ p. refl) os)
