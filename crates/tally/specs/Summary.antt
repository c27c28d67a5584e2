-- What a tally means, and the laws that every tally keeps. Assumes nothing.
use Rattle.std.specs.Prelude.{◌≡◌, ℕ}

-- the value of the empty plan, a value extended by an operator, and the join of two values
pub record Summary (V : Type 0) : Type 0 where
  pub unit : V
  pub extend : V → ℕ → V
  pub join : V → V → V

pub record Lawful {V : Type 0} (y : Summary V) : Type 0 where
  pub either_order : (a b : V) → y.join a b ≡ y.join b a
  pub any_bracketing : (a b c : V) → y.join (y.join a b) c ≡ y.join a (y.join b c)
  pub distributes : (a b : V) (o : ℕ) → y.extend (y.join a b) o ≡ y.join (y.extend a o) (y.extend b o)
