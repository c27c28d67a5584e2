-- What a task with names adds to its meaning. Assumes nothing.
use Rattle.std.specs.Prelude.{ℕ, Bool, List}

-- the bytes of each operator's name, and whether the cost line says unit and not general
pub record Names : Type 0 where
  pub name : ℕ → List ℕ
  pub unit : Bool
