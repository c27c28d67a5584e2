-- What conditions ask of an assignment and do to it. Assumes nothing.
use Rattle.std.specs.Prelude.{ℕ, Bool, true, List, [], ◌∷◌, Some, None, Option, ◌==◌, slice_index, slice_set}
use Rattle.std.specs.List.{list_all}
use Rattle.sas.specs.declared.tables.Condition.{Condition}

-- v is the value asked for, or any value will do
abbrev pub suits : Option ℕ → ℕ → Bool
suits None v = true
suits (Some b) v = v == b

-- every condition has the value that it asks for before
abbrev pub applies : List Condition → List ℕ → Bool
applies cs vs = list_all (λ c. suits c.before (slice_index vs c.variable)) cs

-- the values with a new one in place i, if there is a new one
abbrev pub renewed : Option ℕ → ℕ → List ℕ → List ℕ
renewed None i vs = vs
renewed (Some a) i vs = slice_set vs i a

-- the values once every condition has the value that it sets after
abbrev pub changed : List Condition → List ℕ → List ℕ
changed [] vs = vs
changed (c ∷ cs) vs = changed cs (renewed c.after c.variable vs)
