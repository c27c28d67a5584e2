-- The parts that are left of a line, as the program's reader holds them. Assumes nothing.
use Rattle.std.proofs.Common.{◌≡◌, ℕ, ◌+◌, ◌-◌, ◌<◌, ◌≤◌, cond, ltb, List, [], ◌∷◌, length, take, drop, sym, ap, ◌∙◌, ⊎_elim, arith}
use Rattle.std.proofs.lemmas.List.{take-take, drop-take, drop-drop, length-take-le, length-drop}
use Rattle.std.proofs.lemmas.Bool.{lt-ltb, le-ltb, cases_lt}
use Rattle.sas.specs.Tables.{part}
use Rattle.translator.specs.Lines.{cut, cut_at}
use Rattle.translator.specs.Readers.{left_of}
use Rattle.translator.proofs.Cuts.{some_part}

module _ (bs : List ℕ) (p n : ℕ) (more : p < n) where
  left_cut : left_of bs p n ≡ cut (part bs p (n - 1 - p))
  left_cut = ap (λ b. cond b (cut (part bs p (n - 1 - p))) []) (lt-ltb p n more)

  pub some_left : (w : List ℕ) × (ws : List (List ℕ)) × (left_of bs p n ≡ w ∷ ws)
  some_left = let s = some_part (part bs p (n - 1 - p)) in (s.0, s.1, left_cut ∙ s.2)

  module _ (k : ℕ) (inside : n ≤ length bs) (within : k ≤ length (part bs p (n - 1 - p))) where
    long : length (part bs p (n - 1 - p)) ≡ n - 1 - p
    long = length-take-le (n - 1 - p) (drop p bs) (omega (arith, length-drop p bs))

    front : take k (part bs p (n - 1 - p)) ≡ part bs p k
    front = take-take k (n - 1 - p) (drop p bs) (omega (arith, long))

    back : cond (ltb k (length (part bs p (n - 1 - p)))) (cut (drop (k + 1) (part bs p (n - 1 - p)))) [] ≡ left_of bs (p + k + 1) n
    back = ⊎_elim on over (cases_lt (p + k + 1) n)
      where
        on : p + k + 1 < n → cond (ltb k (length (part bs p (n - 1 - p)))) (cut (drop (k + 1) (part bs p (n - 1 - p)))) [] ≡ left_of bs (p + k + 1) n
        on h =
            let rest : n - 1 - p ≡ (k + 1) + (n - 1 - (p + k + 1)) = omega arith in
            ap (λ b. cond b (cut (drop (k + 1) (part bs p (n - 1 - p)))) []) (lt-ltb k (length (part bs p (n - 1 - p))) (omega (arith, long)))
            ∙ ap (λ m. cut (drop (k + 1) (take m (drop p bs)))) rest
            ∙ ap cut (drop-take (k + 1) (n - 1 - (p + k + 1)) (drop p bs))
            ∙ ap (λ l. cut (take (n - 1 - (p + k + 1)) l)) (drop-drop (k + 1) p bs)
            ∙ ap (λ i. cut (take (n - 1 - (p + k + 1)) (drop i bs))) (omega arith)
            ∙ ap (λ b. cond b (cut (part bs (p + k + 1) (n - 1 - (p + k + 1)))) []) (sym (lt-ltb (p + k + 1) n h))

        over : n ≤ p + k + 1 → cond (ltb k (length (part bs p (n - 1 - p)))) (cut (drop (k + 1) (part bs p (n - 1 - p)))) [] ≡ left_of bs (p + k + 1) n
        over h =
            ap (λ b. cond b (cut (drop (k + 1) (part bs p (n - 1 - p)))) []) (le-ltb k (length (part bs p (n - 1 - p))) (omega (arith, long)))
            ∙ ap (λ b. cond b (cut (part bs (p + k + 1) (n - 1 - (p + k + 1)))) []) (sym (le-ltb (p + k + 1) n h))

    -- the first part that is left has k bytes, and the others follow it
    pub left_more : cut (part bs p (n - 1 - p)) ≡ cut_at (part bs p (n - 1 - p)) k → left_of bs p n ≡ part bs p k ∷ left_of bs (p + k + 1) n
    left_more e = left_cut ∙ e ∙ ap (λ w. w ∷ cond (ltb k (length (part bs p (n - 1 - p)))) (cut (drop (k + 1) (part bs p (n - 1 - p)))) []) front ∙ ap (λ ws. part bs p k ∷ ws) back
