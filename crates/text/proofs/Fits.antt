-- What it says that a text fits or does not. Assumes nothing.
use Rattle.std.proofs.Common.{◌≡◌, ℕ, ◌≤◌, Bool, true, false, cond, ltb, Ok, Err, refl, ◌∙◌, arith}
use Rattle.std.proofs.lemmas.Bool.{cond_above, cond_below, ltb-true, ltb-false}
use Rattle.task.specs.declared.faults.Fault.{Fault}
use Rattle.task.specs.declared.faults.Kind.TheVariants.{BufferShort}
use Rattle.text.specs.Buffer.{text_fault, fit}

module _ (room end : ℕ) where
  pub ok_from_fit : (e : ℕ) → Ok e ≡ fit room end → (e ≡ end) × (end ≤ room)
  ok_from_fit e = go (ltb room end) refl
    where
      go : (b : Bool) → ltb room end ≡ b → Ok e ≡ cond b (Err (text_fault BufferShort 0)) (Ok end) → (e ≡ end) × (end ≤ room)
      go true t p = absurd (grind arith)
      go false t p = (grind arith, ltb-false room end t)

  pub fit_within : end ≤ room → Ok end ≡ fit room end
  fit_within h = cond_above room end _ _ _ h refl

  -- what does not fit, does not fit when it is longer
  pub fit_longer : (f : Fault) (more : ℕ) → end ≤ more → Err f ≡ fit room end → Err f ≡ fit room more
  fit_longer f more h = go (ltb room end) refl
    where
      go : (b : Bool) → ltb room end ≡ b → Err f ≡ cond b (Err (text_fault BufferShort 0)) (Ok end) → Err f ≡ fit room more
      go true t p = p ∙ cond_below room more _ _ (omega (arith, ltb-true room end t))
      go false t p = absurd (grind arith)
