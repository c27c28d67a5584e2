-- The steps of a repeated reading, and its end. Assumes nothing.
use Rattle.std.proofs.Common.{◌≡◌, ℕ, suc, ◌+◌, ◌-◌, ◌<◌, ◌≤◌, IsErrAnd, Ok, Err, Result, sym, ap, ◌∙◌, arith}
use Rattle.task.specs.declared.faults.Fault.{Fault}
use Rattle.translator.specs.Lines.{Place}
use Rattle.translator.specs.Reads.{Read, and_then, Finds}
use Rattle.translator.specs.Sections.{repeated}

module _ {A : Type 0} (step : A → Place → Read A) (n i : ℕ) (a : A) (p : Place) where
  repeat_step : i < n → repeated step (n - i) a p ≡ and_then (step a p) (repeated step (n - (i + 1)))
  repeat_step h =
      let e : n - i ≡ suc (n - (i + 1)) = omega arith in
      ap (λ k. repeated step k a p) e

  -- a step that answers takes the reading on
  pub repeat_on : (d : Read A) → i < n → d ≡ repeated step (n - i) a p → (b : A) (q : Place) → step a p ≡ Ok (b, q) → d ≡ repeated step (n - (i + 1)) b q
  repeat_on d h e b q s = e ∙ repeat_step h ∙ ap (λ x. and_then x (repeated step (n - (i + 1)))) s

  -- a step that refuses is the whole reading's refusal
  pub repeat_fault : (d : Read A) → i < n → d ≡ repeated step (n - i) a p → (f : Fault) → step a p ≡ Err f → d ≡ Err f
  repeat_fault d h e f s = e ∙ repeat_step h ∙ ap (λ x. and_then x (repeated step (n - (i + 1)))) s

  -- after the last step the reading answers what it has
  pub repeat_done : (d : Read A) → n ≤ i → d ≡ repeated step (n - i) a p → d ≡ Ok (a, p)
  repeat_done d h e =
      let z : n - i ≡ 0 = omega arith in
      e ∙ ap (λ k. repeated step k a p) z

-- what is read so far, whatever it is, and what is left to read
abbrev pub Onward : {A : Type 0} → (A → Place → Read A) → ℕ → A → Place → ℕ → Place → Type 0
Onward {A = A} step n a₀ p₀ i p = (a : A) × (repeated step n a₀ p₀ ≡ repeated step (n - i) a p)

module _ {A : Type 0} (step : A → Place → Read A) (n : ℕ) (a₀ : A) (p₀ : Place) where
  pub onward_start : Onward step n a₀ p₀ 0 p₀
  onward_start = (a₀, ap (λ k. repeated step k a₀ p₀) (omega arith))

  module _ (i : ℕ) (p : Place) (so : Onward step n a₀ p₀ i p) where
    pub onward_more : i < n → (q : Place) → ((a : A) → (b : A) × (step a p ≡ Ok (b, q))) → Onward step n a₀ p₀ (i + 1) q
    onward_more h q s = let b = s so.0 in (b.0, repeat_on step n i so.0 p _ h so.1 b.0 q b.1)

    pub onward_fault : i < n → (f : Fault) → ((a : A) → step a p ≡ Err f) → repeated step n a₀ p₀ ≡ Err f
    onward_fault h f s = repeat_fault step n i so.0 p _ h so.1 f (s so.0)

    pub onward_done : n ≤ i → (a : A) × (repeated step n a₀ p₀ ≡ Ok (a, p))
    onward_done h = (so.0, repeat_done step n i so.0 p _ h so.1)

module _ {A V : Type 0} (K : A → V → Type 0) (d : Read A) (r : Result V Fault) (p : Place) (f : Fault) where
  -- the exit of a `?` that hands a fault on
  pub finds_fault : IsErrAnd r (λ y. y ≡ f) → d ≡ Err f → Finds K d r p
  finds_fault b e = go r b
    where
      go : (s : Result V Fault) → IsErrAnd s (λ y. y ≡ f) → Finds K d s p
      go (Ok v) h = absurd h
      go (Err y) h = e ∙ ap Err (sym h)

-- a step that answers, and what follows it
pub chain : {A B : Type 0} {d : Read A} {a : A} {q : Place} {r : Read B} (F : A → Place → Read B) → d ≡ Ok (a, q) → F a q ≡ r → and_then d F ≡ r
chain F e f = ap (λ x. and_then x F) e ∙ f

-- a step that refuses
pub stop : {A B : Type 0} {d : Read A} {f : Fault} (F : A → Place → Read B) → d ≡ Err f → and_then d F ≡ Err f
stop F e = ap (λ x. and_then x F) e
