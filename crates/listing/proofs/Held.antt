-- The plans that a Vec of Vecs holds. Assumes nothing.
use Rattle.std.proofs.Common.{◌≡◌, ℕ, ◌<◌, min, [], length, get_or, take, vec_items, vec_len, Vec, sym, ap, ◌∙◌, arith}
use Rattle.std.specs.declared.alloc.Global.{Global}
use Rattle.std.proofs.lemmas.List.{get_or-take, get_or-map, length-take, length-map}
use Rattle.enumerate.specs.Lists.{plans_of}

module _ (v : Vec (Vec ℕ Global) Global) where
  pub held_count : length (take 100 (plans_of v)) ≡ min 100 (vec_len v)
  held_count = length-take 100 (plans_of v) ∙ ap (min 100) (length-map (vec_items v) vec_items ∙ sym v.ok.0)

  pub held_at : (i : ℕ) (x : Vec ℕ Global) → x ≡ get_or (vec_items v) i x → i < min 100 (vec_len v) → vec_items x ≡ get_or (take 100 (plans_of v)) i []
  held_at i x is h =
      ap vec_items is ∙ sym (get_or-take 100 (plans_of v) i [] (omega arith) ∙ get_or-map vec_items (vec_items v) i x [] (omega (arith, v.ok.0)))
