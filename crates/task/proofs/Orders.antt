-- The listing order is the order in which slices of numbers are compared; and the order seen from inside two
-- lists that agree so far. Assumes nothing.
use Rattle.std.proofs.Common.{◌≡◌, ℕ, ◌+◌, ◌<◌, ◌≤◌, Bool, true, false, List, [], ◌∷◌, length, get_or, drop, Ordering, Less, Equal, Greater, sym, refl, subst, subst₂, inl, inr, arith}
use Rattle.std.specs.Ordering.{is_lt, nat_cmp, ordering_then}
use Rattle.std.specs.Cmp.Lexicographic.{slice_cmp}
use Rattle.std.proofs.lemmas.Cmp.{ranked}
use Rattle.std.proofs.lemmas.List.{drop_more, drop_all}
use Rattle.task.specs.Order.{Before}

-- whether xs is less than ys, as slices are compared
abbrev less : List ℕ → List ℕ → Bool
less xs ys = is_lt (slice_cmp nat_cmp xs ys)

pub less_before : (xs ys : List ℕ) → less xs ys ≡ true → Before xs ys
less_before [] [] h = grind arith
less_before [] (y ∷ ys) h = tt
less_before (x ∷ xs) [] h = grind arith
less_before (x ∷ xs) (y ∷ ys) h = at_heads (less_before xs ys) (nat_cmp x y) refl h
  where
    at_heads : (less xs ys ≡ true → Before xs ys) → (o : Ordering) → o ≡ nat_cmp x y → is_lt (ordering_then o (slice_cmp nat_cmp xs ys)) ≡ true → Before (x ∷ xs) (y ∷ ys)
    at_heads f Less e h = inl (ranked x y Less e)
    at_heads f Equal e h = inr (ranked x y Equal e, f h)
    at_heads f Greater e h = absurd (grind arith)

pub before_less : (xs ys : List ℕ) → less xs ys ≡ false → Before xs ys → ⊥
before_less [] [] h b = b
before_less [] (y ∷ ys) h b = grind arith
before_less (x ∷ xs) [] h b = b
before_less (x ∷ xs) (y ∷ ys) h b = at_heads (before_less xs ys) (nat_cmp x y) refl h b
  where
    at_heads : (less xs ys ≡ false → Before xs ys → ⊥) → (o : Ordering) → o ≡ nat_cmp x y → is_lt (ordering_then o (slice_cmp nat_cmp xs ys)) ≡ false → Before (x ∷ xs) (y ∷ ys) → ⊥
    at_heads f Less e h b = absurd (grind arith)
    at_heads f Equal e h (inl l) = omega (arith, ranked x y Equal e)
    at_heads f Equal e h (inr p) = f h p.1
    at_heads f Greater e h (inl l) = omega (arith, ranked x y Greater e)
    at_heads f Greater e h (inr p) = omega (arith, ranked x y Greater e, p.0)

-- from place i on, xs stands before ys exactly when it does as a whole
pub record Agree (xs ys : List ℕ) (i : ℕ) : Type 0 where
  pub into : Before xs ys → Before (drop i xs) (drop i ys)
  pub back : Before (drop i xs) (drop i ys) → Before xs ys

module _ (xs ys : List ℕ) (i : ℕ) where
  -- what the lists are from place i on
  heads_of : i < length xs → i < length ys → (P : List ℕ → List ℕ → Type 0) → P (drop i xs) (drop i ys) → P (get_or xs i 0 ∷ drop (i + 1) xs) (get_or ys i 0 ∷ drop (i + 1) ys)
  heads_of h k P p = subst₂ P (drop_more xs i 0 h) (drop_more ys i 0 k) p

  of_heads : i < length xs → i < length ys → (P : List ℕ → List ℕ → Type 0) → P (get_or xs i 0 ∷ drop (i + 1) xs) (get_or ys i 0 ∷ drop (i + 1) ys) → P (drop i xs) (drop i ys)
  of_heads h k P p = subst₂ P (sym (drop_more xs i 0 h)) (sym (drop_more ys i 0 k)) p

  pub agree_more : i < length xs → i < length ys → get_or xs i 0 ≡ get_or ys i 0 → Agree xs ys i → Agree xs ys (i + 1)
  agree_more h k e a =
      record {
        into = λ b. tail (heads_of h k Before (a.into b));
        back = λ b. a.back (of_heads h k Before (inr (e, b)));
      }
    where
      tail : Before (get_or xs i 0 ∷ drop (i + 1) xs) (get_or ys i 0 ∷ drop (i + 1) ys) → Before (drop (i + 1) xs) (drop (i + 1) ys)
      tail (inl l) = absurd (omega arith)
      tail (inr p) = p.1

  pub less_here : i < length xs → i < length ys → get_or xs i 0 < get_or ys i 0 → Agree xs ys i → Before xs ys
  less_here h k l a = a.back (of_heads h k Before (inl l))

  pub more_here : i < length xs → i < length ys → get_or ys i 0 < get_or xs i 0 → Agree xs ys i → Before xs ys → ⊥
  more_here h k l a b = not (heads_of h k Before (a.into b))
    where
      not : Before (get_or xs i 0 ∷ drop (i + 1) xs) (get_or ys i 0 ∷ drop (i + 1) ys) → ⊥
      not (inl m) = omega arith
      not (inr p) = omega (arith, p.0)

  pub begins : length xs ≤ i → i < length ys → Agree xs ys i → Before xs ys
  begins h k a = a.back (subst₂ Before (sym (drop_all i xs h)) (sym (drop_more ys i 0 k)) tt)

  pub ends : length ys ≤ i → Agree xs ys i → Before xs ys → ⊥
  ends k a b = none (drop i xs) (subst (λ l. Before (drop i xs) l) (drop_all i ys k) (a.into b))
    where
      none : (l : List ℕ) → Before l [] → ⊥
      none [] p = p
      none (x ∷ l) p = p

pub agree_start : (xs ys : List ℕ) → Agree xs ys 0
agree_start xs ys = record { into = λ b. b; back = λ b. b }
