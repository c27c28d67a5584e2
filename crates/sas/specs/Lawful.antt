-- A SAS+ task within the limits keeps the laws. Assumes nothing.
use Rattle.std.proofs.Common.{◌≡◌, ℕ, zero, suc, ◌^◌, ◌<◌, ◌≤◌, Bool, true, false, cond, ◌&&◌, ltb, List, [], ◌∷◌, length, Some, None, Option, sym, refl, ap, subst, subst₂, arith}
use Rattle.std.specs.List.{slice_get}
use Rattle.std.proofs.lemmas.Bool.{and_parts, ltb-true, lt-ltb, cond-true}
use Rattle.std.proofs.lemmas.Option.{same_Some, slice_get_past}
use Rattle.task.specs.Listing.{Each}
use Rattle.task.specs.Model.{Lawful, AtMost}
use Rattle.sas.specs.States.{spanned, values, numbered}
use Rattle.sas.specs.Actions.{applies, changed}
use Rattle.sas.specs.Sas.{Action, Sas, cost_of, moved, meant}
use Rattle.sas.specs.Fits.{ActionFits, SasFits}
use Rattle.sas.specs.Assigned.{values_below, changed_below, numbered_below, spanned_positive}

-- a member that is there, with what holds of each
pub member_of : {A : Type 0} (P : A → Type 0) (xs : List A) (i : ℕ) (x : A) → Each P xs → slice_get xs i ≡ Some x → (i < length xs) × P x
member_of P [] i x e h = absurd (grind arith)
member_of P (y ∷ xs) zero x e h = (omega arith, subst P (same_Some y x h) e.0)
member_of P (y ∷ xs) (suc i) x e h = let m = member_of P xs i x e.1 h in (omega (arith, m.0), m.1)

-- a test and its value, where the test passed
passed : (s n u v : ℕ) (b d : Bool) → ltb s n ≡ b → v < n → cond (b && d) (Some v) None ≡ Some u → (s < n) × (u < n)
passed s n u v false d f l e = absurd (grind arith)
passed s n u v true false f l e = absurd (grind arith)
passed s n u v true true f l e = let same : v ≡ u = cc in (ltb-true s n f, omega (arith, l, same))

module _ (t : Sas) (f : SasFits t) where
  estimated : (s : ℕ) → s < spanned t.sizes → (meant t).estimate s ≡ Some 0
  estimated s h = cond-true (ltb s (spanned t.sizes)) (Some 0) None (lt-ltb s (spanned t.sizes) h)

  price_at : (o : ℕ) → o < length t.actions → (1 ≤ (meant t).cost o) × ((meant t).cost o ≤ 1000000)
  price_at o h = go t.actions o h f.actions
    where
      go : (as' : List Action) (o : ℕ) → o < length as' → Each (ActionFits t.sizes) as' → (1 ≤ cost_of (slice_get as' o)) × (cost_of (slice_get as' o) ≤ 1000000)
      go [] o h e = absurd (omega arith)
      go (a ∷ as') zero h e = e.0.priced
      go (a ∷ as') (suc o) h e = go as' o (omega arith) e.1

  -- an operator that is there leads from a state to a state
  moves_within : (s o u : ℕ) → (meant t).move s o ≡ Some u → (s < spanned t.sizes) × (o < length t.actions) × (u < spanned t.sizes)
  moves_within s o u e = go (slice_get t.actions o) refl e
    where
      go : (a : Option Action) → slice_get t.actions o ≡ a → moved t.sizes a s ≡ Some u → (s < spanned t.sizes) × (o < length t.actions) × (u < spanned t.sizes)
      go None h e = absurd (grind arith)
      go (Some a) h e =
          let m = member_of (ActionFits t.sizes) t.actions o a f.actions h in
          let vs = values t.sizes s in
          let low = numbered_below t.sizes (changed a.conditions vs) (changed_below t.sizes a.conditions vs m.1.fit (values_below t.sizes s f.sized)) in
          let p = passed s (spanned t.sizes) u (numbered t.sizes (changed a.conditions vs)) (ltb s (spanned t.sizes)) (applies a.conditions vs) refl low e in
          (p.0, m.0, p.1)

  goal_within : (s : ℕ) → (meant t).goal s ≡ true → s < spanned t.sizes
  goal_within s e = ltb-true s (spanned t.sizes) (and_parts (ltb s (spanned t.sizes)) _ e).0

  estimate_within : (s h : ℕ) (b : Bool) → ltb s (spanned t.sizes) ≡ b → cond b (Some 0) None ≡ Some h → (s < spanned t.sizes) × (h < 2 ^ 40)
  estimate_within s h false l e = absurd (grind arith)
  estimate_within s h true l e = let same : 0 ≡ h = cc in (ltb-true s (spanned t.sizes) l, omega (arith, same))

  pub meant_lawful : Lawful (meant t)
  meant_lawful =
      record {
        few = omega (arith, f.few);
        priced = price_at;
        unpriced = λ o h. ap cost_of (slice_get_past t.actions o h);
        wide = (spanned_positive t.sizes f.sized, omega (arith, f.small));
        starts = f.starts;
        moves = moves_within;
        inside = goal_within;
        estimates = λ s h e. estimate_within s h (ltb s (spanned t.sizes)) refl e;
        aware = λ s e. estimated s (goal_within s e);
        consistent = λ s o u e. let w = moves_within s o u e in subst₂ (λ g h. AtMost g ((meant t).cost o) h) (sym (estimated s w.0)) (sym (estimated u w.2)) (omega arith);
      }
