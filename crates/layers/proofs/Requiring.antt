-- A task that asks for one of its operators: what is made of it, and its plans. Assumes nothing.
use Rattle.std.proofs.Common.{◌≡◌, ℕ, ◌+◌, ◌*◌, ◌/◌, ◌%◌, ◌^◌, ◌<◌, ◌≤◌, Bool, true, false, cond, eqb, leb, List, [], ◌∷◌, Some, sym, refl, ap, ◌∙◌, inl, inr, ⊎_elim, arith, eq-eqb, eqb-true, le-leb, leb-true}
use borrow.Author.Tests.{lt-leb}
use Rattle.task.specs.Listing.{In}
use Rattle.task.specs.Model.{Model, Lawful}
use Rattle.task.specs.Nothing.{nothing}
use Rattle.task.specs.Plans.{follow, Plan}
use Rattle.layers.specs.Layers.{required_made}
use Rattle.layers.specs.Required.{used_after, required}
use Rattle.layers.specs.Theorems.{RequiredPlans, RequiredBeyond}
use Rattle.task.proofs.Models.{came_on}
use Rattle.layers.specs.RequiredLaws.{mark_small, move_below, goal_below}
use Rattle.layers.proofs.Following.{goes_on, used_below, same_price}

-- where the span below can be doubled, so can every state that is reached
pub target_small : (m : Model) (s p t : ℕ) → Lawful m → leb m.span (2 ^ 61) ≡ true → m.move s p ≡ Some t → t < 2 ^ 61
target_small m s p t l h e = omega (arith, l.moves s p t e, leb-true m.span (2 ^ 61) h)

-- a goal below is a goal with the mark
pub goal_marked : (m : Model) (o t : ℕ) → m.goal t ≡ true → (required o m).goal (2 * t + 1) ≡ true
goal_marked m o t e =
    let half : (2 * t + 1) / 2 ≡ t = omega arith in
    let mark : (2 * t + 1) % 2 ≡ 1 = omega arith in
    rw (mark, half, e)

-- what is made where the span below can be doubled
pub made_required : (o : ℕ) (m : Model) → m.span ≤ 2 ^ 61 → required_made o m ≡ required o m
made_required o m h = rw (le-leb m.span (2 ^ 61) h)

-- and where it cannot
pub made_nothing : (o : ℕ) (m : Model) → 2 ^ 61 < m.span → required_made o m ≡ nothing
made_nothing o m h = rw (lt-leb m.span (2 ^ 61) h)

-- the mark after a list of operators
abbrev pub used_along : ℕ → List ℕ → ℕ → ℕ
used_along o [] u = u
used_along o (p ∷ os) u = used_along o os (used_after o p u)

-- a mark stays
pub mark_stays : (o : ℕ) (os : List ℕ) → used_along o os 1 ≡ 1
mark_stays o [] = refl
mark_stays o (p ∷ os) = go (eqb p o) (mark_stays o os)
  where
    go : (b : Bool) → used_along o os 1 ≡ 1 → used_along o os (cond b 1 1) ≡ 1
    go true h = h
    go false h = h

-- a list that has o marks
pub in_marks : (o : ℕ) (os : List ℕ) (u : ℕ) → In o os → used_along o os u ≡ 1
in_marks o [] u i = absurd i
in_marks o (p ∷ os) u i = ⊎_elim (λ e. rw (eq-eqb p o (sym e)) (mark_stays o os)) (in_marks o os (used_after o p u)) i

-- only a list that has o marks
pub marks_in : (o : ℕ) (os : List ℕ) → used_along o os 0 ≡ 1 → In o os
marks_in o [] e = absurd (omega arith)
marks_in o (p ∷ os) e = go (eqb p o) refl (marks_in o os) e
  where
    go : (b : Bool) → eqb p o ≡ b → (used_along o os 0 ≡ 1 → In o os) → used_along o os (cond b 1 0) ≡ 1 → In o (p ∷ os)
    go true h later k = inl (sym (eqb-true p o h))
    go false h later k = inr (later k)

-- a way over the layer is a way below, and ends with the mark of its list
pub way_below : (m : Model) (o s w : ℕ) (os : List ℕ) → follow (required o m) s os ≡ Some w → (follow m (s / 2) os ≡ Some (w / 2)) × (w % 2 ≡ used_along o os (s % 2))
way_below m o s w [] e = let same : s ≡ w = cc in (ap (λ x. Some (x / 2)) same, ap (λ x. x % 2) (sym same))
way_below m o s w (p ∷ os) e =
    let k = came_on ((required o m).move s p) (λ u. follow (required o m) u os) w e in
    let b = move_below m o s p k.0 k.1 in
    let r = way_below m o k.0 w os k.2 in
    (goes_on (m.move (s / 2) p) (λ u. follow m u os) (k.0 / 2) (w / 2) b.0 r.0, r.1 ∙ ap (used_along o os) b.1)

-- a move below is a move from either mark
pub move_marked : (m : Model) (o s u p t : ℕ) → u < 2 → m.move s p ≡ Some t → (required o m).move (2 * s + u) p ≡ Some (2 * t + used_after o p u)
move_marked m o s u p t h e =
    let half : (2 * s + u) / 2 ≡ s = omega arith in
    let mark : (2 * s + u) % 2 ≡ u = omega arith in
    rw (half, mark, e)

-- a way below is a way over the layer, from either mark
pub way_marked : (m : Model) (o s u t : ℕ) (os : List ℕ) → u < 2 → follow m s os ≡ Some t → follow (required o m) (2 * s + u) os ≡ Some (2 * t + used_along o os u)
way_marked m o s u t [] h e = let same : s ≡ t = cc in ap (λ x. Some (2 * x + u)) same
way_marked m o s u t (p ∷ os) h e =
    let k = came_on (m.move s p) (λ v. follow m v os) t e in
    goes_on ((required o m).move (2 * s + u) p) (λ v. follow (required o m) v os) (2 * k.0 + used_after o p u) (2 * t + used_along o os (used_after o p u))
    (move_marked m o s u p k.0 h k.1) (way_marked m o k.0 (used_after o p u) t os (mark_small o p u h) k.2)

pub required_plans : RequiredPlans
required_plans m o os = ((used, marked), same_price (required o m) m (λ p. refl) os)
  where
    half : (2 * m.start) / 2 ≡ m.start
    half = omega arith

    mark : (2 * m.start) % 2 ≡ 0
    mark = omega arith

    used : Plan (required o m) os → Plan m os × In o os
    used p =
        let g = goal_below m o p.0 p.2 in
        let w = way_below m o (2 * m.start) p.0 os p.1 in
        ((p.0 / 2, rw half at w.0, g.0), marks_in o os (rw mark at (sym w.1 ∙ g.1)))

    marked : Plan m os × In o os → Plan (required o m) os
    marked p =
        let from : 2 * m.start ≡ 2 * m.start + 0 = omega arith in
        let w = way_marked m o m.start 0 p.0.0 os (omega arith) p.0.1 in
        let led = ap (λ s. follow (required o m) s os) from ∙ w ∙ ap (λ u. Some (2 * p.0.0 + u)) (in_marks o os 0 p.1) in
        (2 * p.0.0 + 1, led, goal_marked m o p.0.0 p.0.2)

pub required_beyond : RequiredBeyond
required_beyond m l o h os p =
    let k = (required_plans m o os).0.0 p in
    omega (arith, used_below m l o os m.start k.0.0 k.0.1 k.1)
