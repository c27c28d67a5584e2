-- The start values read so far, and the number that they make. Assumes nothing.
use Rattle.std.proofs.Common.{◌≡◌, ℕ, ◌+◌, ◌-◌, ◌*◌, ◌^◌, ◌<◌, ◌≤◌, List, [], ◌∷◌, ◌++◌, length, get_or, take, drop, Ok, Err, sym, refl, ap, ◌∙◌, subst, mul_assoc, mul_comm, mul-le-mul_left, mul-one, mul-add, arith}
use Rattle.std.proofs.lemmas.List.{length_push, length-take-le, take_more, take-append-drop}
use Rattle.task.specs.declared.faults.Fault.{Fault}
use Rattle.task.specs.declared.faults.Kind.TheVariants.{BadNumber}
use Rattle.task.proofs.Members.{each_at, each-drop}
use Rattle.sas.specs.States.{spanned, summed, numbered}
use Rattle.sas.specs.Assigned.{spanned_positive}
use Rattle.translator.specs.Lines.{Place}
use Rattle.translator.specs.Sections.{repeated, number_line, start_line}
use Rattle.translator.specs.Sound.{SoundSizes}
use Rattle.translator.proofs.Spans.{spanned-push}
use Rattle.translator.proofs.Repeats.{repeat_on, repeat_fault, chain, stop}

summed-push : (w : ℕ) (ns vs : List ℕ) (n v : ℕ) → length vs ≡ length ns → summed w (ns ++ n ∷ []) (vs ++ v ∷ []) ≡ summed w ns vs + w * spanned ns * v
summed-push w [] [] n v e = omega (arith, ap (λ k. k * v) (mul-one w))
summed-push w [] (y ∷ vs) n v e = absurd (omega arith)
summed-push w (m ∷ ns) [] n v e = absurd (omega arith)
summed-push w (m ∷ ns) (y ∷ vs) n v e = omega (arith, summed-push (w * m) ns vs n v (omega arith), ap (λ k. k * v) (mul_assoc w m (spanned ns)))

spanned-append : (ns ms : List ℕ) → spanned (ns ++ ms) ≡ spanned ns * spanned ms
spanned-append [] ms = omega (arith, mul_comm 1 (spanned ms), mul-one (spanned ms))
spanned-append (n ∷ ns) ms = ap (λ k. n * k) (spanned-append ns ms) ∙ sym (mul_assoc n (spanned ns) (spanned ms))

module _ (ns : List ℕ) (sound : SoundSizes ns) where
  -- a front spans no more than the whole
  front_spans : (i : ℕ) → spanned (take i ns) ≤ 2 ^ 60
  front_spans i =
      let back = spanned_positive (drop i ns) (each-drop (λ n. 1 ≤ n) i ns sound.each) in
      let whole : spanned (take i ns) * spanned (drop i ns) ≡ spanned ns = sym (spanned-append (take i ns) (drop i ns)) ∙ ap spanned (take-append-drop i ns) in
      omega (arith, mul-le-mul_left (spanned (take i ns)) back, mul-one (spanned (take i ns)), sound.narrow)

  pub record Sofar (p₀ : Place) (i : ℕ) (p : Place) (number weight : ℕ) (vs : List ℕ) : Type 0 where
    pub on : repeated (start_line ns) (length ns) [] p₀ ≡ repeated (start_line ns) (length ns - i) vs p
    pub long : length vs ≡ i
    pub inside : i ≤ length ns
    pub weighs : weight ≡ spanned (take i ns)
    pub is : number ≡ numbered (take i ns) vs
    pub below : number < weight

  module _ {p₀ : Place} {i : ℕ} {p : Place} {number weight : ℕ} {vs : List ℕ} (so : Sofar p₀ i p number weight vs) (here : i < length ns) where
    next_front : spanned (take (i + 1) ns) ≡ weight * get_or ns i 0
    next_front = ap spanned (take_more ns i 0 here) ∙ spanned-push (take i ns) (get_or ns i 0) ∙ ap (λ w. w * get_or ns i 0) (sym so.weighs)

    module _ (v : ℕ) (small : v ≤ get_or ns i 0 - 1) where
      pub fits : (number + weight * v < weight * get_or ns i 0) × (weight * get_or ns i 0 ≤ 2 ^ 60)
      fits =
          let some = each_at (λ n. 1 ≤ n) ns i 0 here sound.each in
          let step : weight * v + weight ≡ weight * (v + 1) = omega (arith, mul-add weight v 1, mul-one weight) in
          (omega (arith, so.below, step, mul-le-mul_left {m = v + 1} {n = get_or ns i 0} weight (omega arith)), omega (arith, next_front, front_spans (i + 1)))

      pub one_more : (size : ℕ) → size ≡ get_or ns i 0 → (q : Place) → number_line 0 (size - 1) BadNumber BadNumber p ≡ Ok (v, q) → (number' weight' : ℕ) → number' ≡ number + weight * v → weight' ≡ weight * size → Sofar p₀ (i + 1) q number' weight' (vs ++ v ∷ [])
      one_more size at q reads number' weight' summed' wider =
          let wider' : weight' ≡ weight * get_or ns i 0 = wider ∙ ap (λ k. weight * k) at in
          record {
            on = repeat_on (start_line ns) (length ns) i vs p _ here so.on (vs ++ v ∷ []) q (chain _ (subst (λ k. number_line 0 (k - 1) BadNumber BadNumber p ≡ Ok (v, q)) (at ∙ ap (λ k. get_or ns k 0) (sym so.long)) reads) refl);
            long = length_push vs v ∙ ap (λ k. k + 1) so.long;
            inside = omega arith;
            weighs = wider' ∙ sym next_front;
            is =
                summed' ∙ ap (λ x. x + weight * v) so.is ∙ ap (λ w. numbered (take i ns) vs + w * v) (so.weighs ∙ omega (arith, mul_comm 1 (spanned (take i ns)), mul-one (spanned (take i ns))))
                ∙ sym (summed-push 1 (take i ns) vs (get_or ns i 0) v (so.long ∙ sym (length-take-le i ns so.inside)))
                ∙ ap (λ l. numbered l (vs ++ v ∷ [])) (sym (take_more ns i 0 here));
            below = omega (arith, fits.0, summed', wider');
          }

    pub value_fault : (size : ℕ) → size ≡ get_or ns i 0 → (f : Fault) → number_line 0 (size - 1) BadNumber BadNumber p ≡ Err f → repeated (start_line ns) (length ns) [] p₀ ≡ Err f
    value_fault size at f reads = repeat_fault (start_line ns) (length ns) i vs p _ here so.on f (stop _ (subst (λ k. number_line 0 (k - 1) BadNumber BadNumber p ≡ Err f) (at ∙ ap (λ k. get_or ns k 0) (sym so.long)) reads))
