-- Lists of all of a kind, in order: how they are made, and that there is one. Assumes nothing.
use Rattle.std.proofs.Common.{◌≡◌, ℕ, ◌⊎◌, List, [], ◌∷◌, ◌++◌, map, sym, refl, subst, ap₂, inl, inr, ⊎_elim, arith}
use Rattle.task.specs.Listing.{Each, In, Ascending, AllOf}
use Rattle.task.specs.Order.{Before}
use Rattle.task.proofs.Members.{each_weaker, each_both, each_append, each_in, in_left, in_right, in_map, each_map}

module _ {A : Type 0} (R : A → A → Type 0) where
  pub ascending_append : (P Q : A → Type 0) → ((x y : A) → P x → Q y → R x y) → (xs ys : List A) → Ascending R xs → Each P xs → Ascending R ys → Each Q ys → Ascending R (xs ++ ys)
  ascending_append P Q f [] ys a e b h = b
  ascending_append P Q f (x ∷ xs) ys a e b h =
      (each_append (R x) xs ys a.0 (each_weaker Q (R x) (λ y q. f x y e.0 q) ys h), ascending_append P Q f xs ys a.1 e.1 b h)

  pub ascending_map : (S : A → A → Type 0) (f : A → A) → ((x y : A) → S x y → R (f x) (f y)) → (xs : List A) → Ascending S xs → Ascending R (map f xs)
  ascending_map S f h [] a = tt
  ascending_map S f h (x ∷ xs) a =
      (each_map f (R (f x)) xs (each_weaker (S x) (λ y. R (f x) (f y)) (h x) xs a.0), ascending_map S f h xs a.1)

  -- no P: the empty list
  pub all_of_none : (P : A → Type 0) → ((y : A) → P y → ⊥) → AllOf R P []
  all_of_none P f = record { ascending = tt; each = tt; whole = f }

  -- one P: the list of it
  pub all_of_one : (P : A → Type 0) (x : A) → P x → ((y : A) → P y → y ≡ x) → AllOf R P (x ∷ [])
  all_of_one P x p f = record { ascending = (tt, tt); each = (p, tt); whole = λ y q. inl (f y q) }

  -- the same list for a kind that says the same
  pub all_of_alike : (P Q : A → Type 0) → ((y : A) → P y → Q y) → ((y : A) → Q y → P y) → (xs : List A) → AllOf R P xs → AllOf R Q xs
  all_of_alike P Q f g xs a =
      record { ascending = a.ascending; each = each_weaker P Q f xs a.each; whole = λ y q. a.whole y (g y q) }

  -- all P, then all Q, where each P stands before each Q
  pub all_of_either : (P Q : A → Type 0) → ((x y : A) → P x → Q y → R x y) → (xs ys : List A) → AllOf R P xs → AllOf R Q ys → AllOf R (λ y. P y ⊎ Q y) (xs ++ ys)
  all_of_either P Q f xs ys a b =
      record {
        ascending = ascending_append P Q f xs ys a.ascending a.each b.ascending b.each;
        each =
            each_append (λ y. P y ⊎ Q y) xs ys (each_weaker P (λ y. P y ⊎ Q y) (λ y. inl) xs a.each) (each_weaker Q (λ y. P y ⊎ Q y) (λ y. inr) ys b.each);
        whole = λ y. ⊎_elim (λ p. in_left y xs ys (a.whole y p)) (λ q. in_right y xs ys (b.whole y q));
      }

  -- what is left of all P after the first: all P that stand after it
  pub all_of_rest : ((x : A) → R x x → ⊥) → (P : A → Type 0) (x : A) (xs : List A) → AllOf R P (x ∷ xs) → AllOf R (λ y. P y × R x y) xs
  all_of_rest irreflexive P x xs a =
      record {
        ascending = a.ascending.1;
        each = each_both P (R x) xs a.each.1 a.ascending.0;
        whole = λ y q. ⊎_elim (λ e. absurd (irreflexive x (subst (R x) e q.1))) (λ i. i) (a.whole y q.0);
      }

  -- there is one list of all P, in a strict order
  pub all_of_unique : ((x : A) → R x x → ⊥) → ((x y : A) → R x y → R y x → ⊥) → (P : A → Type 0) (xs ys : List A) → AllOf R P xs → AllOf R P ys → xs ≡ ys
  all_of_unique ir asym P [] [] a b = refl
  all_of_unique ir asym P [] (y ∷ ys) a b = absurd (a.whole y b.each.0)
  all_of_unique ir asym P (x ∷ xs) [] a b = absurd (b.whole x a.each.0)
  all_of_unique ir asym P (x ∷ xs) (y ∷ ys) a b =
      ap₂ ◌∷◌ same (all_of_unique ir asym (λ z. P z × R x z) xs ys (all_of_rest ir P x xs a) (all_of_rest ir P x ys (subst (λ z. AllOf R P (z ∷ ys)) (sym same) b)))
    where
      same : x ≡ y
      same =
          ⊎_elim (λ e. e) (λ i. ⊎_elim sym (λ j. absurd (asym x y (each_in (R x) xs a.ascending.0 y j) (each_in (R y) ys b.ascending.0 x i))) (a.whole y b.each.0)) (b.whole x a.each.0)

-- the listing order is strict
pub not_before_itself : (os : List ℕ) → Before os os → ⊥
not_before_itself [] b = b
not_before_itself (o ∷ os) (inl l) = omega arith
not_before_itself (o ∷ os) (inr p) = not_before_itself os p.1

pub not_before_each_other : (os ps : List ℕ) → Before os ps → Before ps os → ⊥
not_before_each_other [] [] b h = b
not_before_each_other [] (p ∷ ps) b h = h
not_before_each_other (o ∷ os) [] b h = b
not_before_each_other (o ∷ os) (p ∷ ps) (inl l) (inl k) = omega arith
not_before_each_other (o ∷ os) (p ∷ ps) (inl l) (inr k) = omega (arith, k.0)
not_before_each_other (o ∷ os) (p ∷ ps) (inr l) (inl k) = omega (arith, l.0)
not_before_each_other (o ∷ os) (p ∷ ps) (inr l) (inr k) = not_before_each_other os ps l.1 k.1

-- there is one listing of all P
pub listing_unique : (P : List ℕ → Type 0) (xs ys : List (List ℕ)) → AllOf Before P xs → AllOf Before P ys → xs ≡ ys
listing_unique = all_of_unique Before not_before_itself not_before_each_other

-- the lists that begin with o and go on as a P
abbrev pub LedBy : ℕ → (List ℕ → Type 0) → List ℕ → Type 0
LedBy o P [] = ⊥
LedBy o P (p ∷ ps) = (p ≡ o) × P ps

-- all P, each led by o
pub all_of_led : (o : ℕ) (P : List ℕ → Type 0) (xs : List (List ℕ)) → AllOf Before P xs → AllOf Before (LedBy o P) (map (λ os. o ∷ os) xs)
all_of_led o P xs a =
    record {
      ascending = ascending_map Before Before (λ os. o ∷ os) (λ os ps b. inr (refl, b)) xs a.ascending;
      each = each_map (λ os. o ∷ os) (LedBy o P) xs (each_weaker P (λ os. LedBy o P (o ∷ os)) (λ os p. (refl, p)) xs a.each);
      whole = led;
    }
  where
    led : (y : List ℕ) → LedBy o P y → In y (map (λ os. o ∷ os) xs)
    led [] l = absurd l
    led (p ∷ ps) l = subst (λ q. In (q ∷ ps) (map (λ os. o ∷ os) xs)) (sym l.0) (in_map (λ os. o ∷ os) ps xs (a.whole ps l.1))
