-- What a task means, and the laws that every task keeps. Assumes nothing.
use Rattle.std.specs.Prelude.{◌≡◌, ℕ, ◌+◌, ◌^◌, ◌<◌, ◌≤◌, Bool, true, Some, None, Option}

-- Operators are numbered from 0, states are the numbers below the span. No estimate means that a state
-- is hopeless: such an estimate exceeds every number.
pub record Model : Type 0 where
  pub operators : ℕ
  pub cost : ℕ → ℕ
  pub span : ℕ
  pub start : ℕ
  pub goal : ℕ → Bool
  pub estimate : ℕ → Option ℕ
  pub move : ℕ → ℕ → Option ℕ

-- where o leads from s to t, the estimate of s is at most the cost of o plus the estimate of t
abbrev pub AtMost : Option ℕ → ℕ → Option ℕ → Type 0
AtMost (Some g) c (Some h) = g ≤ c + h
AtMost None c (Some h) = ⊥
AtMost (Some g) c None = Unit {0}
AtMost None c None = Unit {0}

pub record Lawful (m : Model) : Type 0 where
  pub few : m.operators ≤ 65535
  pub priced : (o : ℕ) → o < m.operators → (1 ≤ m.cost o) × (m.cost o ≤ 1000000)
  pub unpriced : (o : ℕ) → m.operators ≤ o → m.cost o ≡ 0
  pub wide : (1 ≤ m.span) × (m.span ≤ 2 ^ 62)
  pub starts : m.start < m.span
  pub moves : (s o t : ℕ) → m.move s o ≡ Some t → (s < m.span) × (o < m.operators) × (t < m.span)
  pub inside : (s : ℕ) → m.goal s ≡ true → s < m.span
  pub estimates : (s h : ℕ) → m.estimate s ≡ Some h → (s < m.span) × (h < 2 ^ 40)
  pub aware : (s : ℕ) → m.goal s ≡ true → m.estimate s ≡ Some 0
  pub consistent : (s o t : ℕ) → m.move s o ≡ Some t → AtMost (m.estimate s) (m.cost o) (m.estimate t)
