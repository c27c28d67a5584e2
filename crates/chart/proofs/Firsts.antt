-- The first number that fails a test. Assumes nothing.
use Rattle.std.proofs.Common.{◌≡◌, ℕ, zero, suc, ◌<◌, ◌≤◌, Bool, true, false, cond, Some, None, Ok, Err, sym, refl, ap, ◌∙◌, ⊎_elim, arith}
use Rattle.std.proofs.lemmas.Bool.{cases_lt}
use Rattle.task.specs.declared.faults.Fault.{Fault}
use Rattle.task.specs.declared.faults.Kind.{Kind}
use Rattle.task.specs.declared.faults.Layer.TheVariants.{Chart}
use Rattle.chart.specs.Faults.{answered, fault_at, first_failing, or_else}

module _ (p : ℕ → Bool) where
  pub none_fails : (n : ℕ) → ((k : ℕ) → k < n → p k ≡ true) → None ≡ first_failing p n
  none_fails zero h = refl
  none_fails (suc n) h =
      ap (λ b. cond b None (Some n)) (sym (h n (omega arith))) ∙ ap (λ x. or_else x (cond (p n) None (Some n))) (none_fails n (λ k l. h k (omega arith)))

  pub first_fails : (n i : ℕ) → i < n → ((k : ℕ) → k < i → p k ≡ true) → p i ≡ false → Some i ≡ first_failing p n
  first_fails zero i l h e = absurd (omega arith)
  first_fails (suc n) i l h e = ⊎_elim (λ m. early (first_fails n i m h e)) last (cases_lt i n)
    where
      early : Some i ≡ first_failing p n → Some i ≡ first_failing p (suc n)
      early f = ap (λ x. or_else x (cond (p n) None (Some n))) f

      last : n ≤ i → Some i ≡ first_failing p (suc n)
      last m =
          let same : i ≡ n = omega arith in
          ap Some same
          ∙ (ap (λ b. cond b None (Some n)) (sym e ∙ ap p same)
          ∙ ap (λ x. or_else x (cond (p n) None (Some n))) (none_fails n (λ k l. h k (omega arith))))

  -- what a loop over the numbers below n answers
  pub answer_none : (kind : Kind) (n : ℕ) → ((k : ℕ) → k < n → p k ≡ true) → Ok tt ≡ answered (fault_at kind (first_failing p n))
  answer_none kind n h = ap (λ x. answered (fault_at kind x)) (none_fails n h)

  pub answer_first : (kind : Kind) (n i : ℕ) (f : Fault) → i < n → ((k : ℕ) → k < i → p k ≡ true) → p i ≡ false → f ≡ record { kind = kind; place = i; layer = Chart } → Err f ≡ answered (fault_at kind (first_failing p n))
  answer_first kind n i f l h e g = ap Err g ∙ ap (λ x. answered (fault_at kind x)) (first_fails n i l h e)
