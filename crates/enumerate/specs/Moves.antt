-- One step of an iteration over the moves of a state.
use Rattle.std.specs.Prelude.{◌≡◌, ℕ, ◌+◌, Some, None, Option}
use Rattle.task.specs.Model.{Model}
use Rattle.task.specs.Moves.{FirstMove}
use Rattle.enumerate.specs.declared.moves.Moves.{Moves}

-- r is the first move of those that s has left, and t has those after it; where there is none, t is s
abbrev pub NextMove : {X : Type 0} → (X → Model) → Moves X → Option (ℕ × ℕ) → Moves X → Type 0
NextMove meaning s None t = FirstMove (meaning s.task.now) s.state s.from None × (t ≡ s)
NextMove meaning s (Some found) t =
    FirstMove (meaning s.task.now) s.state s.from (Some found) × (t ≡ record s { from = found.0 + 1 })
