-- The lists that complete a state at a price, gathered by their first operator. Assumes nothing.
use Rattle.std.proofs.Common.{◌≡◌, ℕ, ◌+◌, ◌-◌, ◌<◌, ◌≤◌, ◌⊎◌, List, [], ◌∷◌, ◌++◌, map, Some, None, sym, ap, ◌∙◌, inl, inr, ⊎_elim, arith}
use Rattle.std.proofs.str.Laws.{order}
use Rattle.task.specs.Listing.{AllOf}
use Rattle.task.specs.Model.{Model}
use Rattle.task.specs.Moves.{FirstMove}
use Rattle.task.specs.Order.{Before}
use Rattle.task.specs.Plans.{then_on, follow, price, Reaches}
use Rattle.enumerate.specs.Completes.{Completes, CompletesBelow}
use Rattle.task.proofs.Models.{came_on}
use Rattle.task.proofs.Listings.{all_of_alike, all_of_either, all_of_led, LedBy}

module _ (m : Model) (s : ℕ) where
  -- an operator that leads nowhere begins no way to a goal
  pub no_move_no_way : (o : ℕ) (os : List ℕ) → m.move s o ≡ None → Reaches m s (o ∷ os) → ⊥
  no_move_no_way o os e r = let p = came_on (m.move s o) (λ t. follow m t os) r.0 r.1 in no p.0 p.1
    where
      no : (t : ℕ) → m.move s o ≡ Some t → ⊥
      no t h = grind arith

  -- a way by a move, and the way on from where it leads
  pub way_after : (o t : ℕ) (os : List ℕ) → m.move s o ≡ Some t → Reaches m s (o ∷ os) → Reaches m t os
  way_after o t os e r = (r.0, ap (λ x. then_on x (λ u. follow m u os)) (sym e) ∙ r.1, r.2)

  pub way_before : (o t : ℕ) (os : List ℕ) → m.move s o ≡ Some t → Reaches m t os → Reaches m s (o ∷ os)
  way_before o t os e r = (r.0, ap (λ x. then_on x (λ u. follow m u os)) e ∙ r.1, r.2)

  module _ (c : ℕ) where
    -- no operator from n on leads anywhere: all are below n
    pub below_all : (n : ℕ) → ((o : ℕ) → n ≤ o → m.move s o ≡ None) → (xs : List (List ℕ)) → AllOf Before (CompletesBelow m s c n) xs → AllOf Before (Completes m s c) xs
    below_all n none xs a = all_of_alike Before (CompletesBelow m s c n) (Completes m s c) (λ os p. p.0) begins xs a
      where
        begins : (os : List ℕ) → Completes m s c os → CompletesBelow m s c n os
        begins [] p = (p, tt)
        begins (o ∷ os) p = ⊎_elim (λ l. (p, l)) (λ l. absurd (no_move_no_way o os (none o l) p.0)) (order o n)

    module _ (n o t k : ℕ) (first : FirstMove m s n (Some (o, t))) (costs : k ≡ m.cost o) where
      -- from n to the next move o: one begins below n, or with o
      below_or_with : (os : List ℕ) → CompletesBelow m s c (o + 1) os → CompletesBelow m s c n os ⊎ LedBy o (λ ps. Reaches m t ps × (m.cost o + price m ps ≡ c)) os
      below_or_with [] p = inl (p.0, tt)
      below_or_with (q ∷ os) p =
          ⊎_elim (λ l. inl (p.0, l)) (λ l. ⊎_elim (λ k. absurd (no_move_no_way q os (first.2 q l k) p.0.0)) (λ k. inr (here (omega (arith, p.1)))) (order q o)) (order q n)
        where
          here : q ≡ o → (q ≡ o) × (Reaches m t os × (m.cost o + price m os ≡ c))
          here e = (e, (way_after q t os (ap (m.move s) e ∙ first.1) p.0.0, ap (λ x. m.cost x + price m os) (sym e) ∙ p.0.1))

      more_below : (os : List ℕ) → CompletesBelow m s c n os → CompletesBelow m s c (o + 1) os
      more_below [] p = p
      more_below (q ∷ os) p = (p.0, omega (arith, p.1, first.0))

      -- a move that costs too much begins none
      pub below_skips : c < k → (xs : List (List ℕ)) → AllOf Before (CompletesBelow m s c n) xs → AllOf Before (CompletesBelow m s c (o + 1)) xs
      below_skips dear xs a =
          all_of_alike Before (CompletesBelow m s c n) (CompletesBelow m s c (o + 1)) more_below (λ os p. ⊎_elim (λ b. b) (λ b. absurd (no os b)) (below_or_with os p)) xs a
        where
          no : (os : List ℕ) → LedBy o (λ ps. Reaches m t ps × (m.cost o + price m ps ≡ c)) os → ⊥
          no [] b = b
          no (q ∷ os) b = omega (arith, b.1.1)

      -- a move o, and all that complete the state it leads to: the lists that begin with o come next
      pub below_more : k ≤ c → (xs ys : List (List ℕ)) → AllOf Before (CompletesBelow m s c n) xs → AllOf Before (Completes m t (c - k)) ys → AllOf Before (CompletesBelow m s c (o + 1)) (xs ++ map (λ os. o ∷ os) ys)
      below_more cheap xs ys a b =
          all_of_alike Before (λ os. CompletesBelow m s c n os ⊎ LedBy o Rest os) (CompletesBelow m s c (o + 1)) into back (xs ++ map (λ os. o ∷ os) ys) (all_of_either Before (CompletesBelow m s c n) (LedBy o Rest) apart xs (map (λ os. o ∷ os) ys) a (all_of_led o Rest ys b))
        where
          Rest : List ℕ → Type 0
          Rest = Completes m t (c - k)

          apart : (os ps : List ℕ) → CompletesBelow m s c n os → LedBy o Rest ps → Before os ps
          apart os [] p l = absurd l
          apart [] (q ∷ ps) p l = tt
          apart (r ∷ os) (q ∷ ps) p l = inl (omega (arith, p.1, l.0, first.0))

          into : (os : List ℕ) → CompletesBelow m s c n os ⊎ LedBy o Rest os → CompletesBelow m s c (o + 1) os
          into os (inl p) = more_below os p
          into [] (inr l) = absurd l
          into (q ∷ os) (inr l) =
              ((way_before q t os (ap (m.move s) l.0 ∙ first.1) l.1.0, ap (λ x. m.cost x + price m os) l.0 ∙ omega (arith, l.1.1)), omega (arith, l.0))

          back : (os : List ℕ) → CompletesBelow m s c (o + 1) os → CompletesBelow m s c n os ⊎ LedBy o Rest os
          back os p = ⊎_elim inl (λ l. inr (rest os l)) (below_or_with os p)
            where
              rest : (os : List ℕ) → LedBy o (λ ps. Reaches m t ps × (m.cost o + price m ps ≡ c)) os → LedBy o Rest os
              rest [] l = l
              rest (q ∷ os) l = (l.0, (l.1.0, omega (arith, l.1.1)))
