-- One turn of the walk that multiplies sizes. Assumes nothing.
use Rattle.std.proofs.Common.{◌≡◌, ℕ, ◌+◌, ◌*◌, ◌^◌, ◌<◌, ◌≤◌, Bool, true, false, cond, ◌&&◌, leb, List, ◌∷◌, length, get_or, drop, Some, None, sym, refl, ap, ◌∙◌, mul_assoc, mul-one, arith}
use Rattle.std.specs.List.{list_all}
use Rattle.std.specs.Option.{option_and_then}
use Rattle.std.proofs.lemmas.Nat.{mul-le}
use Rattle.std.proofs.lemmas.List.{at_drop_more, at_drop_all}
use Rattle.std.proofs.lemmas.Option.{same_Some}
use Rattle.std.proofs.lemmas.Bool.{lt-leb, le-leb, leb-true, leb-false}
use Rattle.task.proofs.Members.{each_weaker}
use Rattle.sas.specs.declared.tables.Variable.{Variable}
use Rattle.sas.specs.States.{spanned}
use Rattle.sas.specs.Checks.{size_fits, times, product}
use Rattle.sas.specs.Values.{Sized, sizes}
use Rattle.sas.specs.Assigned.{spanned_positive}
use Rattle.sas.specs.Found.{decides_each, decides_size}
use Rattle.sas.proofs.Walks.{no_variable}

pub sized_from_each : (ns : List ℕ) → list_all size_fits ns ≡ true → Sized ns
sized_from_each ns e = each_weaker (λ n. (1 ≤ n) × (n ≤ 1000)) (λ n. 1 ≤ n) (λ n p. p.0) ns ((decides_each size_fits _ decides_size ns).0 e)

-- one size more is one step more
product_step : (p n : ℕ) (ns : List ℕ) → product p (n ∷ ns) ≡ option_and_then (λ q. product q ns) (times p n)
product_step p n ns = go (size_fits n) (leb (p * n) (2 ^ 60)) refl
  where
    small : (b : Bool) → leb (p * n) (2 ^ 60) ≡ false → list_all size_fits ns ≡ b → cond (b && leb (p * (n * spanned ns)) (2 ^ 60)) (Some (p * (n * spanned ns))) None ≡ None
    small false l e = refl
    small true l e =
        let grows : (p * n) * 1 ≤ (p * n) * spanned ns = mul-le (p * n) 1 (p * n) _ (omega arith) (spanned_positive ns (sized_from_each ns e)) in
        ap (λ b. cond b (Some (p * (n * spanned ns))) None) (lt-leb (p * (n * spanned ns)) (2 ^ 60) (omega (arith, leb-false (p * n) (2 ^ 60) l, mul_assoc p n (spanned ns), mul-one (p * n))))

    go : (b d : Bool) → leb (p * n) (2 ^ 60) ≡ d → cond (b && list_all size_fits ns && leb (p * (n * spanned ns)) (2 ^ 60)) (Some (p * (n * spanned ns))) None ≡ option_and_then (λ q. product q ns) (cond (b && d) (Some (p * n)) None)
    go false d l = refl
    go true false l = small (list_all size_fits ns) l refl
    go true true l = ap (λ q. cond (list_all size_fits ns && leb q (2 ^ 60)) (Some q) None) (sym (mul_assoc p n (spanned ns)))

times_small : (p n q : ℕ) → times p n ≡ Some q → q ≤ 2 ^ 60
times_small p n q e = go (size_fits n) (leb (p * n) (2 ^ 60)) refl e
  where
    go : (b d : Bool) → leb (p * n) (2 ^ 60) ≡ d → cond (b && d) (Some (p * n)) None ≡ Some q → q ≤ 2 ^ 60
    go false d l e = absurd (grind arith)
    go true false l e = absurd (grind arith)
    go true true l e = omega (arith, leb-true (p * n) (2 ^ 60) l, same_Some (p * n) q e)

module _ (vars : List Variable) (i p : ℕ) (h : i < length vars) where
  product_here : product p (sizes (drop i vars)) ≡ option_and_then (λ q. product q (sizes (drop (i + 1) vars))) (times p (get_or vars i no_variable).size)
  product_here = at_drop_more (λ l. product p (sizes l)) vars i no_variable h ∙ product_step p (get_or vars i no_variable).size (sizes (drop (i + 1) vars))

  pub product_none : times p (get_or vars i no_variable).size ≡ None → product p (sizes (drop i vars)) ≡ None
  product_none e = product_here ∙ ap (option_and_then (λ q. product q (sizes (drop (i + 1) vars)))) e

  pub product_more : (q : ℕ) → times p (get_or vars i no_variable).size ≡ Some q → (q ≤ 2 ^ 60) × (product q (sizes (drop (i + 1) vars)) ≡ product p (sizes (drop i vars)))
  product_more q e =
      (times_small p (get_or vars i no_variable).size q e, sym (product_here ∙ ap (option_and_then (λ q. product q (sizes (drop (i + 1) vars)))) e))

  -- a size that fits is multiplied in
  pub product_next : size_fits (get_or vars i no_variable).size ≡ true → product p (sizes (drop i vars)) ≡ product (p * (get_or vars i no_variable).size) (sizes (drop (i + 1) vars))
  product_next e =
      let n = (get_or vars i no_variable).size in
      let ns = sizes (drop (i + 1) vars) in
      at_drop_more (λ l. product p (sizes l)) vars i no_variable h
      ∙ (ap (λ b. cond (b && list_all size_fits ns && leb (p * (n * spanned ns)) (2 ^ 60)) (Some (p * (n * spanned ns))) None) e ∙ ap (λ q. cond (list_all size_fits ns && leb q (2 ^ 60)) (Some q) None) (sym (mul_assoc p n (spanned ns))))

pub product_all : (vars : List Variable) (i p : ℕ) → length vars ≤ i → p ≤ 2 ^ 60 → product p (sizes (drop i vars)) ≡ Some p
product_all vars i p h l =
    at_drop_all (λ l. product p (sizes l)) vars i h
    ∙ (ap (λ q. cond (leb q (2 ^ 60)) (Some q) None) (mul-one p) ∙ ap (λ b. cond b (Some p) None) (le-leb p (2 ^ 60) l))
