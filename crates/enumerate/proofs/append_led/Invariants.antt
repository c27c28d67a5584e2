use Rattle.std.proofs.Common.{◌≡◌, ℕ, List, ◌∷◌, ◌++◌, map, take, vec_items}
use Rattle.enumerate.specs.Lists.{plans_of}
use Rattle.enumerate.proofs.append_led.Given as goal

-- the tails so far, led by the operator, are appended
abbrev pub invariant-loop-tail : goal.invariant-loop-tail
invariant-loop-tail l =
    plans_of l.plans ≡ plans_of l.initial.plans ++ map (λ (os : List ℕ). l.operator ∷ os) (map vec_items (take l.tail-index l.tails))
