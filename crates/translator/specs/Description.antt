-- What a translator file describes. Assumes nothing.
use Rattle.std.specs.Prelude.{ℕ, Bool, List, [], ◌∷◌, ◌++◌, map}
use Rattle.sas.specs.declared.tables.Condition.{Condition}

-- a line of text, and the place of its first byte in the file
pub record Text : Type 0 where
  pub place : ℕ
  pub letters : List ℕ

pub record DescribedVariable : Type 0 where
  pub name : Text
  pub size : ℕ
  pub values : List Text

-- prevail conditions ask for a value, and effects set one
pub record DescribedOperator : Type 0 where
  pub name : Text
  pub prevail : List Condition
  pub effects : List Condition
  pub cost : ℕ

pub record Description : Type 0 where
  pub unit : Bool
  pub variables : List DescribedVariable
  pub mutexes : List (List Condition)
  pub start : List ℕ
  pub goal : List Condition
  pub operators : List DescribedOperator

abbrev pub sizes_in : List DescribedVariable → List ℕ
sizes_in vs = map (λ v. v.size) vs

abbrev pub conditions_in : DescribedOperator → List Condition
conditions_in o = o.prevail ++ o.effects

-- the conditions of all operators, one operator after the other
abbrev pub all_conditions : List DescribedOperator → List Condition
all_conditions [] = []
all_conditions (o ∷ os) = conditions_in o ++ all_conditions os
