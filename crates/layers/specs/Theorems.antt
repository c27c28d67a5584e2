-- What the layers do to the plans of any task. The listing order is on step lists, so it is the same over a layer
-- as below it. Assumes nothing.
use Rattle.std.specs.Prelude.{◌≡◌, ℕ, ◌≤◌, List}
use Rattle.task.specs.Listing.{In}
use Rattle.task.specs.Model.{Model, Lawful}
use Rattle.task.specs.Plans.{Plan, price}
use Rattle.layers.specs.Barred.{barred}
use Rattle.layers.specs.Required.{required}

-- exactly when
abbrev pub Same : Type 0 → Type 0 → Type 0
Same A B = (A → B) × (B → A)

-- the plans without o, at their price
abbrev pub BarredPlans : Type 0
BarredPlans =
    (m : Model) (o : ℕ) (os : List ℕ) → Same (Plan (barred o m) os) (Plan m os × (In o os → ⊥)) × (price (barred o m) os ≡ price m os)

-- the plans with o, at their price
abbrev pub RequiredPlans : Type 0
RequiredPlans =
    (m : Model) (o : ℕ) (os : List ℕ) → Same (Plan (required o m) os) (Plan m os × In o os) × (price (required o m) os ≡ price m os)

-- an operator number that the task lacks: barring it alters no plan
abbrev pub BarredBeyond : Type 0
BarredBeyond =
    (m : Model) → Lawful m → (o : ℕ) → m.operators ≤ o → (os : List ℕ) → Same (Plan (barred o m) os) (Plan m os)

-- and a task that requires it has no plan
abbrev pub RequiredBeyond : Type 0
RequiredBeyond = (m : Model) → Lawful m → (o : ℕ) → m.operators ≤ o → (os : List ℕ) → Plan (required o m) os → ⊥
