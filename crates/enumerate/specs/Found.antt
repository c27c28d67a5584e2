-- The cheapest plans up to a price, over what a task means.
use Rattle.std.specs.Prelude.{ℕ, ◌<◌, ◌≤◌, ◌≢◌, List, [], Some, None, Option, Vec}
use Rattle.std.specs.declared.alloc.Global.{Global}
use Rattle.task.specs.Listing.{AllOf, Each}
use Rattle.task.specs.Model.{Model}
use Rattle.task.specs.Order.{Before}
use Rattle.task.specs.Plans.{Plan, Cheapest, price}
use Rattle.enumerate.specs.Lists.{plans_of}

-- all the cheapest plans, of which there are some, at a price of at most `highest`; or none, where every
-- plan costs more
abbrev pub Found : Model → ℕ → Option (Vec (Vec ℕ Global) Global) → Type 0
Found m highest (Some v) =
    AllOf Before (Cheapest m) (plans_of v) × (plans_of v ≢ []) × Each (λ os. price m os ≤ highest) (plans_of v)
Found m highest None = (ps : List ℕ) → Plan m ps → highest < price m ps
