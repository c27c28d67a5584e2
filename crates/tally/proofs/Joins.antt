-- Joins of lists of values, for every tally that keeps its laws. Assumes nothing.
use Rattle.std.proofs.Common.{◌≡◌, ℕ, zero, suc, ◌+◌, ◌<◌, List, [], ◌∷◌, ◌++◌, map, length, get_or, take, set, Some, None, Option, sym, refl, ap, ◌∙◌, arith}
use Rattle.std.specs.List.{fold, reduce, swap}
use Rattle.std.proofs.lemmas.List.{take_more}
use Rattle.std.proofs.lemmas.List.Sorted.{IsPermutation-keeps}
use Rattle.tally.specs.Summary.{Summary, Lawful}
use Rattle.tally.specs.Values.{joined_with, joined}
use Rattle.tally.specs.Theorems.{AnyOrder, AnyParts}

-- a value extended by o, if there is one
abbrev pub extended_if : {V : Type 0} → Summary V → ℕ → Option V → Option V
extended_if y o None = None
extended_if y o (Some v) = Some (y.extend v o)

module _ {V : Type 0} (y : Summary V) (laws : Lawful y) where
  pub joined_with_commutes : (a b : Option V) → joined_with y a b ≡ joined_with y b a
  joined_with_commutes None None = refl
  joined_with_commutes None (Some b) = refl
  joined_with_commutes (Some a) None = refl
  joined_with_commutes (Some a) (Some b) = ap Some (laws.either_order a b)

  pub joined_with_associates : (a b c : Option V) → joined_with y (joined_with y a b) c ≡ joined_with y a (joined_with y b c)
  joined_with_associates None b c = refl
  joined_with_associates (Some a) None c = refl
  joined_with_associates (Some a) (Some b) None = refl
  joined_with_associates (Some a) (Some b) (Some c) = ap Some (laws.any_bracketing a b c)

  -- a and b change places
  pub joined_with_exchanges : (a b c : Option V) → joined_with y a (joined_with y b c) ≡ joined_with y b (joined_with y a c)
  joined_with_exchanges a b c =
      sym (joined_with_associates a b c) ∙ ap (λ d. joined_with y d c) (joined_with_commutes a b) ∙ joined_with_associates b a c

  pub joined_append : AnyParts y
  joined_append [] ws = refl
  joined_append (v ∷ vs) ws =
      ap (joined_with y (Some v)) (joined_append vs ws) ∙ sym (joined_with_associates (Some v) (joined y vs) (joined y ws))

  -- what stood at j and x have changed places
  trades : (vs : List V) (j : ℕ) (x d : V) → j < length vs → joined_with y (Some (get_or vs j d)) (joined y (set vs j x)) ≡ joined_with y (Some x) (joined y vs)
  trades [] j x d h = absurd (omega arith)
  trades (v ∷ vs) zero x d h = joined_with_exchanges (Some v) (Some x) (joined y vs)
  trades (v ∷ vs) (suc j) x d h =
      joined_with_exchanges (Some (get_or vs j d)) (Some v) (joined y (set vs j x))
      ∙ ap (joined_with y (Some v)) (trades vs j x d (omega arith))
      ∙ joined_with_exchanges (Some v) (Some x) (joined y vs)

  two_sets : (vs : List V) (i j : ℕ) (d : V) → i < length vs → j < length vs → joined y (set (set vs i (get_or vs j d)) j (get_or vs i d)) ≡ joined y vs
  two_sets [] i j d h k = absurd (omega arith)
  two_sets (v ∷ vs) zero zero d h k = refl
  two_sets (v ∷ vs) zero (suc j) d h k = trades vs j v d (omega arith)
  two_sets (v ∷ vs) (suc i) zero d h k = trades vs i v d (omega arith)
  two_sets (v ∷ vs) (suc i) (suc j) d h k = ap (joined_with y (Some v)) (two_sets vs i j d (omega arith) (omega arith))

  joined_exchanged : (vs : List V) (i j : ℕ) → i < length vs → j < length vs → joined y (swap vs i j) ≡ joined y vs
  joined_exchanged [] i j h k = refl
  joined_exchanged (v ∷ vs) i j h k = two_sets (v ∷ vs) i j v h k

  pub joined_shuffled : AnyOrder y
  joined_shuffled vs ws s =
      IsPermutation-keeps vs (λ l. joined y l ≡ joined y vs) refl (λ l i j h k e. joined_exchanged l i j h k ∙ e) ws s

  -- one more value at the end
  pub joined-push : (vs : List V) (v : V) → joined y (vs ++ v ∷ []) ≡ joined_with y (joined y vs) (Some v)
  joined-push vs v = joined_append vs (v ∷ [])

  -- one more value of a list, r being the join of those before it
  pub joined_more : (vs : List V) (i : ℕ) (v : V) → i < length vs → v ≡ get_or vs i v → (r : Option V) → r ≡ joined y (take i vs) → joined_with y r (Some v) ≡ joined y (take (i + 1) vs)
  joined_more vs i v h e r f =
      ap (λ q. joined_with y q (Some v)) f ∙ sym (joined-push (take i vs) v) ∙ ap (λ w. joined y (take i vs ++ w ∷ [])) e ∙ ap (joined y) (sym (take_more vs i v h))

  -- a join is extended value by value
  joined_with-extended : (o : ℕ) (a b : Option V) → joined_with y (extended_if y o a) (extended_if y o b) ≡ extended_if y o (joined_with y a b)
  joined_with-extended o None b = refl
  joined_with-extended o (Some a) None = refl
  joined_with-extended o (Some a) (Some b) = ap Some (sym (laws.distributes a b o))

  pub joined-extended : (o : ℕ) (vs : List V) → joined y (map (λ v. y.extend v o) vs) ≡ extended_if y o (joined y vs)
  joined-extended o [] = refl
  joined-extended o (v ∷ vs) =
      ap (joined_with y (Some (y.extend v o))) (joined-extended o vs) ∙ joined_with-extended o (Some v) (joined y vs)

  -- the library's reduce from first to last
  fold_is : (v : V) (vs : List V) → Some (fold y.join v vs) ≡ joined_with y (Some v) (joined y vs)
  fold_is v [] = refl
  fold_is v (w ∷ ws) = fold_is (y.join v w) ws ∙ joined_with_associates (Some v) (Some w) (joined y ws)

  pub reduce_is : (vs : List V) → reduce y.join vs ≡ joined y vs
  reduce_is [] = refl
  reduce_is (v ∷ vs) = fold_is v vs
