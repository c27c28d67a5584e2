-- A task that asks for one of its operators keeps the laws, and so does what is made of it. Assumes nothing.
use Rattle.std.proofs.Common.{◌≡◌, ℕ, ◌+◌, ◌*◌, ◌/◌, ◌%◌, ◌^◌, ◌<◌, ◌≤◌, Bool, true, false, cond, eqb, leb, [], None, Some, Option, refl, ap, ◌∙◌, arith, eqb-true, leb-true}
use Rattle.task.specs.Model.{Model, Lawful}
use Rattle.task.specs.Names.{Names}
use Rattle.task.specs.Nothing.{nothing, no_names}
use Rattle.task.proofs.Models.{came_on}
use Rattle.task.proofs.Nothing.{nothing_lawful}
use Rattle.layers.specs.Layers.{where_doubled, required_made}
use Rattle.layers.specs.Required.{used_after, required}

-- a mark stays below 2
pub mark_small : (o p u : ℕ) → u < 2 → used_after o p u < 2
mark_small o p u h = go (eqb p o)
  where
    go : (b : Bool) → cond b 1 u < 2
    go true = omega arith
    go false = h

-- a move is a move below, and marks its target
pub move_below : (m : Model) (o s p w : ℕ) → (required o m).move s p ≡ Some w → (m.move (s / 2) p ≡ Some (w / 2)) × (w % 2 ≡ used_after o p (s % 2))
move_below m o s p w e = go (came_on (m.move (s / 2) p) (λ t. Some (2 * t + used_after o p (s % 2))) w e) (mark_small o p (s % 2) (omega arith))
  where
    go : (k : (t : ℕ) × (m.move (s / 2) p ≡ Some t) × (◌≡◌ {A = Option ℕ} (Some (2 * t + used_after o p (s % 2))) (Some w))) → used_after o p (s % 2) < 2 → (m.move (s / 2) p ≡ Some (w / 2)) × (w % 2 ≡ used_after o p (s % 2))
    go k small =
        let led : 2 * k.0 + used_after o p (s % 2) ≡ w = cc k.2 in
        let half : k.0 ≡ w / 2 = omega arith in
        (k.1 ∙ ap Some half, omega arith)

-- a goal is a goal below, reached with the mark
pub goal_below : (m : Model) (o s : ℕ) → (required o m).goal s ≡ true → (m.goal (s / 2) ≡ true) × (s % 2 ≡ 1)
goal_below m o s e = go (eqb (s % 2) 1) refl e
  where
    go : (b : Bool) → eqb (s % 2) 1 ≡ b → cond b (m.goal (s / 2)) false ≡ true → (m.goal (s / 2) ≡ true) × (s % 2 ≡ 1)
    go true h g = (g, eqb-true (s % 2) 1 h)
    go false h g = absurd (grind arith)

-- the laws are kept, where the span below can be doubled
pub required_lawful : (o : ℕ) (m : Model) → m.span ≤ 2 ^ 61 → Lawful m → Lawful (required o m)
required_lawful o m fits l =
    record {
      few = l.few;
      priced = l.priced;
      unpriced = l.unpriced;
      wide = omega (arith, l.wide);
      starts = omega (arith, l.starts);
      moves = λ s p w e. let b = l.moves (s / 2) p (w / 2) (move_below m o s p w e).0 in (omega arith, b.1, omega arith);
      inside = λ s e. omega (arith, l.inside (s / 2) (goal_below m o s e).0);
      estimates = λ s h e. omega (arith, l.estimates (s / 2) h e);
      aware = λ s e. l.aware (s / 2) (goal_below m o s e).0;
      consistent = λ s p w e. l.consistent (s / 2) p (w / 2) (move_below m o s p w e).0;
    }

-- what is made keeps the laws
pub made_lawful : (o : ℕ) (m : Model) → Lawful m → Lawful (required_made o m)
made_lawful o m l = go (leb m.span (2 ^ 61)) refl
  where
    go : (b : Bool) → leb m.span (2 ^ 61) ≡ b → Lawful (cond b (required o m) nothing)
    go true h = required_lawful o m (leb-true m.span (2 ^ 61) h) l
    go false h = nothing_lawful

-- and names no operator that it lacks
pub made_nameless : (o : ℕ) (m : Model) (n : Names) → ((p : ℕ) → m.operators ≤ p → n.name p ≡ []) → (p : ℕ) → (required_made o m).operators ≤ p → (where_doubled m n no_names).name p ≡ []
made_nameless o m n h = go (leb m.span (2 ^ 61))
  where
    go : (b : Bool) → (p : ℕ) → (cond b (required o m) nothing).operators ≤ p → (cond b n no_names).name p ≡ []
    go true p k = h p k
    go false p k = refl
