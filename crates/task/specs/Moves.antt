-- The first move of a state, over what a task means.
use Rattle.std.specs.Prelude.{◌≡◌, ℕ, ◌<◌, ◌≤◌, Some, None, Option}
use Rattle.task.specs.Model.{Model}

-- of the operators numbered `from` or more, the first that leads somewhere from s, with where it leads
abbrev pub FirstMove : Model → ℕ → ℕ → Option (ℕ × ℕ) → Type 0
FirstMove m s from None = (o : ℕ) → from ≤ o → m.move s o ≡ None
FirstMove m s from (Some found) =
    (from ≤ found.0) × (m.move s found.0 ≡ Some found.1) × ((o : ℕ) → from ≤ o → o < found.0 → m.move s o ≡ None)
