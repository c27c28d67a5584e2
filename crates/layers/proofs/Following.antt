-- Ways of one move and more, over what a task means. Assumes nothing.
use Rattle.std.proofs.Common.{◌≡◌, ℕ, ◌<◌, List, [], ◌∷◌, Some, Option, refl, ⊎_elim, arith}
use Rattle.task.specs.Listing.{In}
use Rattle.task.specs.Model.{Model, Lawful}
use Rattle.task.specs.Plans.{then_on, follow, price}
use Rattle.task.proofs.Models.{came_on}

-- from a state that it has come to, a way goes on
pub goes_on : (x : Option ℕ) (f : ℕ → Option ℕ) (t u : ℕ) → x ≡ Some t → f t ≡ Some u → then_on x f ≡ Some u
goes_on x f t u e g = rw e g

-- a way uses operators of the task only
pub used_below : (m : Model) → Lawful m → (o : ℕ) (os : List ℕ) (s t : ℕ) → follow m s os ≡ Some t → In o os → o < m.operators
used_below m l o [] s t e i = absurd i
used_below m l o (p ∷ os) s t e i =
    let k = came_on (m.move s p) (λ u. follow m u os) t e in
    ⊎_elim (λ q. omega (arith, l.moves s p k.0 k.1, q)) (used_below m l o os k.0 t k.2) i

-- where the costs are the same, so are the prices
pub same_price : (m n : Model) → ((p : ℕ) → m.cost p ≡ n.cost p) → (os : List ℕ) → price m os ≡ price n os
same_price m n h [] = refl
same_price m n h (p ∷ os) = let e = same_price m n h os in let c = h p in omega arith
