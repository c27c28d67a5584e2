-- Ways that go on, and what the laws of a task say of its outside. Assumes nothing.
use Rattle.std.proofs.Common.{◌≡◌, ℕ, ◌≤◌, Some, None, Option, refl, arith}
use Rattle.task.specs.Model.{Model, Lawful}
use Rattle.task.specs.Plans.{then_on}

-- where a way goes on, it has come to a state
pub came_on : (x : Option ℕ) (f : ℕ → Option ℕ) (u : ℕ) → then_on x f ≡ Some u → (t : ℕ) × (x ≡ Some t) × (f t ≡ Some u)
came_on None f u e = absurd (grind arith)
came_on (Some t) f u e = (t, refl, e)

-- an operator number of n or more leads nowhere
pub no_operator : (m : Model) → Lawful m → (s o : ℕ) → m.operators ≤ o → m.move s o ≡ None
no_operator m l s o h = go (m.move s o) refl
  where
    go : (r : Option ℕ) → m.move s o ≡ r → m.move s o ≡ None
    go None e = e
    go (Some t) e = absurd (omega (arith, l.moves s o t e))

-- a number at or above the span leads nowhere
pub no_state : (m : Model) → Lawful m → (s o : ℕ) → m.span ≤ s → m.move s o ≡ None
no_state m l s o h = go (m.move s o) refl
  where
    go : (r : Option ℕ) → m.move s o ≡ r → m.move s o ≡ None
    go None e = e
    go (Some t) e = absurd (omega (arith, l.moves s o t e))
