-- Tables that are filled record by record. Assumes nothing.
use Rattle.std.proofs.Common.{◌≡◌, ℕ, ◌+◌, ◌≤◌, List, [], ◌∷◌, ◌++◌, length, take, drop, set, sym, refl, ap, ◌∙◌, add-zero, arith}
use Rattle.std.proofs.lemmas.List.{length-set, append_assoc, drop-set-lt, take_more_set, take-append-drop}
use Rattle.translator.specs.Filling.{put}

module _ {A : Type 0} where
  pub put-append : (t : List A) (i : ℕ) (xs ys : List A) → put t i (xs ++ ys) ≡ put (put t i xs) (i + length xs) ys
  put-append t i [] ys = ap (λ k. put t k ys) (omega arith)
  put-append t i (x ∷ xs) ys = put-append (set t i x) (i + 1) xs ys ∙ ap (λ k. put (put (set t i x) (i + 1) xs) k ys) (omega arith)

  pub length-put : (t : List A) (i : ℕ) (xs : List A) → length (put t i xs) ≡ length t
  length-put t i [] = refl
  length-put t i (x ∷ xs) = length-put (set t i x) (i + 1) xs ∙ length-set t i x

  -- one record more
  pub put_more : (t u : List A) (i : ℕ) (xs : List A) (x : A) → u ≡ put t i xs → set u (i + length xs) x ≡ put t i (xs ++ x ∷ [])
  put_more t u i xs x e = ap (λ l. set l (i + length xs) x) e ∙ sym (put-append t i xs (x ∷ []))

  -- more records behind those that stand
  pub put_then : (t u w : List A) (i : ℕ) (xs ys : List A) → u ≡ put t i xs → w ≡ put u (i + length xs) ys → w ≡ put t i (xs ++ ys)
  put_then t u w i xs ys e f = f ∙ ap (λ l. put l (i + length xs) ys) e ∙ sym (put-append t i xs ys)

  -- records put in front of a table, and what stood behind them
  put_front : (t : List A) (i : ℕ) (xs : List A) → i + length xs ≤ length t → put t i xs ≡ take i t ++ (xs ++ drop (i + length xs) t)
  put_front t i [] h = sym (ap (λ k. take i t ++ drop k t) (add-zero i) ∙ take-append-drop i t)
  put_front t i (x ∷ xs) h =
      let l : i + 1 + length xs ≡ i + length (x ∷ xs) = omega arith in
      put_front (set t i x) (i + 1) xs (omega (arith, length-set t i x))
      ∙ ap (λ front. front ++ (xs ++ drop (i + 1 + length xs) (set t i x))) (take_more_set t i x (omega arith))
      ∙ append_assoc (take i t) (x ∷ []) (xs ++ drop (i + 1 + length xs) (set t i x))
      ∙ ap (λ back. take i t ++ (x ∷ (xs ++ back))) (drop-set-lt (i + 1 + length xs) t i x (omega arith) ∙ ap (λ k. drop k t) l)

  pub put_first : (t : List A) (xs : List A) → length xs ≤ length t → put t 0 xs ≡ xs ++ drop (length xs) t
  put_first t xs h = put_front t 0 xs (omega arith) ∙ ap (λ k. xs ++ drop k t) (omega arith)
