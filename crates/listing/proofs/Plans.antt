-- One plan behind what is written, and all of them. Assumes nothing.
use Rattle.std.proofs.Common.{◌≡◌, ℕ, zero, suc, ◌+◌, ◌<◌, Bool, true, false, cond, ltb, List, [], ◌∷◌, ◌++◌, length, Some, None, Ok, Err, Option, Result, Vec, map, take, vec_items, is_some, refl, arith, sym, ap, ◌∙◌}
use Rattle.std.specs.declared.alloc.Global.{Global}
use Rattle.std.proofs.lemmas.List.{append_assoc, append-nil}
use Rattle.task.specs.Model.{Model}
use Rattle.task.specs.Names.{Names}
use Rattle.task.specs.declared.faults.Fault.{Fault}
use Rattle.task.specs.declared.faults.Kind.TheVariants.{BufferShort}
use Rattle.text.specs.Buffer.{text_fault, fit}
use Rattle.text.specs.PlanText.{plan_text, answer, then, check_count, check_known, first_unknown}
use Rattle.listing.specs.Outcome.{Written, in_front, texts, added, Added}

-- an answer is the length of the text
then_ok : (r s : Result (Unit {0}) Fault) (room long end : ℕ) → Ok end ≡ then r (then s (fit room long)) → end ≡ long
then_ok (Ok u) (Ok v) room long end e = go (ltb room long) e
  where
    go : (b : Bool) → Ok end ≡ cond b (Err (text_fault BufferShort 0)) (Ok long) → end ≡ long
    go true p = cc
    go false p = cc
then_ok (Ok u) (Err f) room long end e = cc
then_ok (Err f) s room long end e = cc

pub answer_length : (m : Model) (n : Names) (steps : List ℕ) (room end : ℕ) → Ok end ≡ answer m n steps room → end ≡ length (plan_text m n steps)
answer_length m n steps room end e = then_ok (check_count steps) (check_known (first_unknown m.operators 0 steps)) room (length (plan_text m n steps)) end e

-- a text in front of what follows
abbrev pub behind : List ℕ → Written → Written
behind t w = (t ++ w.0, w.1)

module _ (m : Model) (n : Names) where
  -- what is written of all plans is the text so far in front of what is written of the rest
  pub record Sofar (all rest : List (List ℕ)) (text : List ℕ) : Type 0 where
    pub on : texts m n all ≡ behind text (texts m n rest)

  pub first_hundred : {count : ℕ} {all xs : List (Vec ℕ Global)} → count ≡ 100 → xs ≡ all → (text : List ℕ) → text ≡ [] → Sofar (take 100 (map vec_items all)) (take count (map vec_items xs)) text
  first_hundred {count} {all} {xs} c e text t =
      record { on = ap (λ u. behind u (texts m n (take 100 (map vec_items all)))) (sym t) ∙ ap (λ k. behind text (texts m n (take k (map vec_items all)))) (sym c) ∙ ap (λ l. behind text (texts m n (take count (map vec_items l)))) (sym e) }

  module _ {all : List (List ℕ)} (os : List ℕ) (rest : List (List ℕ)) {text : List ℕ} (so : Sofar all (os ∷ rest) text) {text' : List ℕ} where
    goes_on : (r : Result ℕ Fault) (end : Option Fault) → false ≡ is_some end → text' ≡ text ++ (added r (plan_text m n os)).0 → end ≡ (added r (plan_text m n os)).1 → behind text (in_front r (plan_text m n os) (texts m n rest)) ≡ behind text' (texts m n rest)
    goes_on (Ok k) end f t g = ap (λ l. (l, (texts m n rest).1)) (sym (append_assoc text (plan_text m n os) (texts m n rest).0) ∙ ap (λ l. l ++ (texts m n rest).0) (sym t))
    goes_on (Err e) None f t g = absurd cc
    goes_on (Err e) (Some d) f t g = absurd cc

    stops : (r : Result ℕ Fault) (end : Option Fault) → true ≡ is_some end → text' ≡ text ++ (added r (plan_text m n os)).0 → end ≡ (added r (plan_text m n os)).1 → behind text (in_front r (plan_text m n os) (texts m n rest)) ≡ (text', end)
    stops (Ok k) None f t g = absurd cc
    stops (Ok k) (Some d) f t g = absurd cc
    stops (Err e) end f t g = cc

    pub one_more : {end : Option Fault} → false ≡ is_some end → Added m n os text text' end → Sofar all rest text'
    one_more {end} f a = record { on = so.on ∙ goes_on (answer m n os 65536) end f a.text a.ends }

    pub stopped : {end : Option Fault} → true ≡ is_some end → Added m n os text text' end → (text', end) ≡ texts m n all
    stopped {end} f a = sym (so.on ∙ stops (answer m n os 65536) end f a.text a.ends)

  -- a turn of the loop takes the next plan
  pub turned : {all : List (List ℕ)} {count : ℕ} {xs : List (Vec ℕ Global)} (count' : ℕ) (xs' : List (Vec ℕ Global)) {x : Vec ℕ Global} {os text : List ℕ} → Sofar all (take count (map vec_items xs)) text → (xs ≡ x ∷ xs') × (count' + 1 ≡ count) → os ≡ vec_items x → Sofar all (os ∷ take count' (map vec_items xs')) text
  turned {all} {count} {xs} count' xs' {x} {os} {text} so turn is =
      let e : count ≡ suc count' = omega arith in
      record { on = so.on ∙ ap (λ l. behind text (texts m n l)) (ap (λ l. take count (map vec_items l)) turn.0 ∙ ap (λ k. take k (vec_items x ∷ map vec_items xs')) e ∙ ap (λ o. o ∷ take count' (map vec_items xs')) (sym is)) }

  -- the loop has ended, since a hundred plans are written or none is left
  pub all_written : {all : List (List ℕ)} {count : ℕ} (xs : List (Vec ℕ Global)) {text : List ℕ} → Sofar all (take count (map vec_items xs)) text → (0 < count → length xs ≡ 0) → (text, None) ≡ texts m n all
  all_written {all} {count} xs {text} so none = sym (so.on ∙ ap (λ l. behind text (texts m n l)) (over count xs none) ∙ ap (λ l. (l, None)) (append-nil text))
    where
      over : (count : ℕ) (xs : List (Vec ℕ Global)) → (0 < count → length xs ≡ 0) → take count (map vec_items xs) ≡ []
      over zero xs f = refl
      over (suc k) [] f = refl
      over (suc k) (x ∷ xs) f = absurd (omega (arith, f (omega arith)))
