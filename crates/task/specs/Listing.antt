-- Lists in order: the first of a kind, and all of a kind. Assumes nothing.
use Rattle.std.specs.Prelude.{◌≡◌, ◌⊎◌, List, [], ◌∷◌}

abbrev pub Each : {A : Type 0} → (A → Type 0) → List A → Type 0
Each P [] = Unit {0}
Each P (x ∷ xs) = P x × Each P xs

abbrev pub In : {A : Type 0} → A → List A → Type 0
In y [] = ⊥
In y (x ∷ xs) = (y ≡ x) ⊎ In y xs

-- each stands before every later one
abbrev pub Ascending : {A : Type 0} → (A → A → Type 0) → List A → Type 0
Ascending R [] = Unit {0}
Ascending R (x ∷ xs) = Each (R x) xs × Ascending R xs

-- the first of all P, none passed over: in order, all P, and any other P stands after all of them
pub record FirstOf {A : Type 0} (R : A → A → Type 0) (P : A → Type 0) (xs : List A) : Type 0 where
  pub ascending : Ascending R xs
  pub each : Each P xs
  pub others : (y : A) → P y → In y xs ⊎ Each (λ x. R x y) xs

-- all P, in order
pub record AllOf {A : Type 0} (R : A → A → Type 0) (P : A → Type 0) (xs : List A) : Type 0 where
  pub ascending : Ascending R xs
  pub each : Each P xs
  pub whole : (y : A) → P y → In y xs
