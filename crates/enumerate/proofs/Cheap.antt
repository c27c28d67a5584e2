-- From the plans of one price to the cheapest plans. Assumes nothing.
use Rattle.std.proofs.Common.{◌≡◌, ℕ, ◌+◌, ◌≤◌, true, false, eqb, ◌≢◌, List, [], ◌∷◌, length, Some, vec_items, vec_len, Vec, sym, refl, ap, ◌∙◌, subst, ⊎_elim, arith, true-eqb, false-eqb}
use Rattle.std.proofs.lemmas.List.{length-map, nil_from_length}
use Rattle.std.proofs.str.Laws.{order}
use Rattle.std.specs.declared.alloc.Global.{Global}
use Rattle.task.specs.Listing.{AllOf, Each}
use Rattle.task.specs.Model.{Model}
use Rattle.task.specs.Order.{Before}
use Rattle.task.specs.Plans.{Plan, Cheapest, price}
use Rattle.enumerate.specs.Completes.{Completes}
use Rattle.enumerate.specs.Found.{Found}
use Rattle.enumerate.specs.Lists.{plans_of}
use Rattle.task.proofs.Listings.{all_of_alike}
use Rattle.task.proofs.Members.{each_weaker}

module _ (m : Model) (c : ℕ) (least : (ps : List ℕ) → Plan m ps → c ≤ price m ps) where
  -- no plan costs c: each costs more
  pub none_costs_more : AllOf Before (Completes m m.start c) [] → (ps : List ℕ) → Plan m ps → c + 1 ≤ price m ps
  none_costs_more a ps p =
      ⊎_elim (λ l. absurd (a.whole ps (p, omega (arith, least ps p)))) (λ l. l) (order (price m ps) (c + 1))

  -- some plan costs c, and none less: the plans that cost c are the cheapest
  pub least_are_cheapest : (xs : List (List ℕ)) → xs ≢ [] → AllOf Before (Completes m m.start c) xs → AllOf Before (Cheapest m) xs
  least_are_cheapest [] n a = absurd (n refl)
  least_are_cheapest (x ∷ xs) n a =
      all_of_alike Before (Completes m m.start c) (Cheapest m) (λ os p. (p.0, λ ps q. omega (arith, least ps q, p.1))) (λ os p. (p.0, omega (arith, least os p.0, p.1 x a.each.0.0, a.each.0.1))) (x ∷ xs) a

  -- the same of a Vec of plans from the start state s, where it is not empty
  pub nonempty_found : (s : ℕ) → s ≡ m.start → (v : Vec (Vec ℕ Global) Global) → AllOf Before (Completes m s c) (plans_of v) → false ≡ eqb (vec_len v) 0 → (highest : ℕ) → c ≤ highest → Found m highest (Some v)
  nonempty_found s starts v all e highest h = (least_are_cheapest (plans_of v) some from_start, some, cost)
    where
      some : plans_of v ≢ []
      some n = false-eqb (vec_len v) 0 e (v.ok.0 ∙ sym (length-map (vec_items v) vec_items) ∙ ap length n)

      from_start : AllOf Before (Completes m m.start c) (plans_of v)
      from_start = subst (λ t. AllOf Before (Completes m t c) (plans_of v)) starts all

      cost : Each (λ os. price m os ≤ highest) (plans_of v)
      cost =
          each_weaker (Completes m s c) (λ os. price m os ≤ highest) (λ os p. omega (arith, p.1)) (plans_of v) all.each

  -- and where it is empty
  pub empty_costs_more : (s : ℕ) → s ≡ m.start → (v : Vec (Vec ℕ Global) Global) → AllOf Before (Completes m s c) (plans_of v) → true ≡ eqb (vec_len v) 0 → (ps : List ℕ) → Plan m ps → c + 1 ≤ price m ps
  empty_costs_more s starts v all e =
      none_costs_more (subst (AllOf Before (Completes m m.start c)) none (subst (λ t. AllOf Before (Completes m t c) (plans_of v)) starts all))
    where
      none : plans_of v ≡ []
      none = nil_from_length (plans_of v) (length-map (vec_items v) vec_items ∙ sym v.ok.0 ∙ true-eqb (vec_len v) 0 e)
