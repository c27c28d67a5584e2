-- The step lists that a Vec of Vecs holds. Assumes nothing.
use Rattle.std.specs.Prelude.{ℕ, List, map, vec_items, Vec}
use Rattle.std.specs.declared.alloc.Global.{Global}

abbrev pub plans_of : Vec (Vec ℕ Global) Global → List (List ℕ)
plans_of v = map vec_items (vec_items v)
