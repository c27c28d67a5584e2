-- Members of lists of which each member is of a kind. Assumes nothing.
use Rattle.std.proofs.Common.{ℕ, zero, suc, ◌<◌, List, [], ◌∷◌, ◌++◌, map, length, get_or, take, drop, sym, ap, subst, inl, inr, arith}
use Rattle.task.specs.Listing.{Each, In}

module _ {A : Type 0} (P : A → Type 0) where
  pub each_at : (xs : List A) (i : ℕ) (d : A) → i < length xs → Each P xs → P (get_or xs i d)
  each_at [] i d h e = absurd (omega arith)
  each_at (x ∷ xs) zero d h e = e.0
  each_at (x ∷ xs) (suc i) d h e = each_at xs i d (omega arith) e.1

  pub each_from_at : (xs : List A) (d : A) → ((i : ℕ) → i < length xs → P (get_or xs i d)) → Each P xs
  each_from_at [] d f = tt
  each_from_at (x ∷ xs) d f = (f 0 (omega arith), each_from_at xs d (λ i h. f (suc i) (omega arith)))

  pub each_take : (n : ℕ) (xs : List A) → Each P xs → Each P (take n xs)
  each_take zero xs e = tt
  each_take (suc n) [] e = tt
  each_take (suc n) (x ∷ xs) e = (e.0, each_take n xs e.1)

  pub each-drop : (n : ℕ) (xs : List A) → Each P xs → Each P (drop n xs)
  each-drop zero xs e = e
  each-drop (suc n) [] e = tt
  each-drop (suc n) (x ∷ xs) e = each-drop n xs e.1

module _ {A : Type 0} where
  pub each_weaker : (P Q : A → Type 0) → ((y : A) → P y → Q y) → (xs : List A) → Each P xs → Each Q xs
  each_weaker P Q f [] e = tt
  each_weaker P Q f (x ∷ xs) e = (f x e.0, each_weaker P Q f xs e.1)

  pub each_both : (P Q : A → Type 0) (xs : List A) → Each P xs → Each Q xs → Each (λ y. P y × Q y) xs
  each_both P Q [] e h = tt
  each_both P Q (x ∷ xs) e h = ((e.0, h.0), each_both P Q xs e.1 h.1)

  pub each_append : (P : A → Type 0) (xs ys : List A) → Each P xs → Each P ys → Each P (xs ++ ys)
  each_append P [] ys e h = h
  each_append P (x ∷ xs) ys e h = (e.0, each_append P xs ys e.1 h)

  pub each_in : (P : A → Type 0) (xs : List A) → Each P xs → (y : A) → In y xs → P y
  each_in P [] e y i = absurd i
  each_in P (x ∷ xs) e y (inl p) = subst P (sym p) e.0
  each_in P (x ∷ xs) e y (inr i) = each_in P xs e.1 y i

  pub in_left : (y : A) (xs ys : List A) → In y xs → In y (xs ++ ys)
  in_left y [] ys i = absurd i
  in_left y (x ∷ xs) ys (inl p) = inl p
  in_left y (x ∷ xs) ys (inr i) = inr (in_left y xs ys i)

  pub in_right : (y : A) (xs ys : List A) → In y ys → In y (xs ++ ys)
  in_right y [] ys i = i
  in_right y (x ∷ xs) ys i = inr (in_right y xs ys i)

  pub in_map : {B : Type 0} (f : A → B) (y : A) (xs : List A) → In y xs → In (f y) (map f xs)
  in_map f y [] i = absurd i
  in_map f y (x ∷ xs) (inl p) = inl (ap f p)
  in_map f y (x ∷ xs) (inr i) = inr (in_map f y xs i)

  pub each_map : {B : Type 0} (f : A → B) (P : B → Type 0) (xs : List A) → Each (λ x. P (f x)) xs → Each P (map f xs)
  each_map f P [] e = tt
  each_map f P (x ∷ xs) e = (e.0, each_map f P xs e.1)
