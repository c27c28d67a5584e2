-- Where arcs lead. Assumes nothing.
use Rattle.std.proofs.Common.{◌≡◌, ℕ, zero, suc, ◌<◌, Bool, true, false, cond, List, [], ◌∷◌, length, get_or, Some, None, sym, refl, ap, ◌∙◌, arith}
use Rattle.chart.specs.declared.tables.Arc.{Arc}
use Rattle.chart.specs.Tables.{leads, target}
use Rattle.chart.specs.Faults.{no_arc}

module _ (s o : ℕ) where
  pub target_none : (arcs : List Arc) → ((k : ℕ) → k < length arcs → leads (get_or arcs k no_arc) s o ≡ false) → target arcs s o ≡ None
  target_none [] h = refl
  target_none (a ∷ arcs) h =
      ap (λ b. cond b (Some a.to) (target arcs s o)) (h 0 (omega arith)) ∙ target_none arcs (λ k l. h (suc k) (omega arith))

  pub target_first : (arcs : List Arc) (j : ℕ) → j < length arcs → leads (get_or arcs j no_arc) s o ≡ true → ((k : ℕ) → k < j → leads (get_or arcs k no_arc) s o ≡ false) → target arcs s o ≡ Some (get_or arcs j no_arc).to
  target_first [] j l e h = absurd (omega arith)
  target_first (a ∷ arcs) zero l e h = ap (λ b. cond b (Some a.to) (target arcs s o)) e
  target_first (a ∷ arcs) (suc j) l e h =
      ap (λ b. cond b (Some a.to) (target arcs s o)) (h 0 (omega arith)) ∙ target_first arcs j (omega arith) e (λ k m. h (suc k) (omega arith))

  -- where a target is none, no arc leads
  pub none_leads : (arcs : List Arc) → target arcs s o ≡ None → (k : ℕ) → k < length arcs → leads (get_or arcs k no_arc) s o ≡ false
  none_leads [] e k l = absurd (omega arith)
  none_leads (a ∷ arcs) e k l = go (none_leads arcs) (leads a s o) refl k l
    where
      go : (target arcs s o ≡ None → (k : ℕ) → k < length arcs → leads (get_or arcs k no_arc) s o ≡ false) → (b : Bool) → leads a s o ≡ b → (k : ℕ) → k < length (a ∷ arcs) → leads (get_or (a ∷ arcs) k no_arc) s o ≡ false
      go rec true f k l = let bad : Some a.to ≡ None = ap (λ b. cond b (Some a.to) (target arcs s o)) (sym f) ∙ e in absurd (grind arith)
      go rec false f zero l = f
      go rec false f (suc k) l = rec (ap (λ b. cond b (Some a.to) (target arcs s o)) (sym f) ∙ e) k (omega arith)
