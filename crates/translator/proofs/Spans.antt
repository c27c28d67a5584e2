-- The variables read so far: their sizes, what they span, and their records. Assumes nothing.
use Rattle.std.proofs.Common.{◌≡◌, ℕ, ◌+◌, ◌-◌, ◌*◌, ◌/◌, ◌^◌, ◌<◌, ◌≤◌, List, [], ◌∷◌, ◌++◌, length, set, Ok, Err, sym, refl, ap, ◌∙◌, subst, mul_assoc, mul_comm, mul-le-mul, le-div_iff_mul-le, arith}
use Rattle.std.proofs.lemmas.List.{map_push, length-map, length_push}
use Rattle.task.specs.declared.faults.Fault.{Fault}
use Rattle.task.specs.Listing.{Each}
use Rattle.task.proofs.Members.{each_append}
use Rattle.sas.specs.declared.tables.Variable.{Variable}
use Rattle.sas.specs.States.{spanned}
use Rattle.translator.specs.Lines.{Place}
use Rattle.translator.specs.Description.{DescribedVariable, sizes_in}
use Rattle.translator.specs.Filling.{put, variable_record, variable_records}
use Rattle.translator.specs.Sections.{repeated, variable_section, next_variable, most_values}
use Rattle.translator.proofs.Fills.{put_more}
use Rattle.translator.proofs.Repeats.{repeat_on, repeat_fault, chain, stop}

pub spanned-push : (ns : List ℕ) (n : ℕ) → spanned (ns ++ n ∷ []) ≡ spanned ns * n
spanned-push [] n = mul_comm n 1
spanned-push (m ∷ ns) n = ap (λ k. m * k) (spanned-push ns n) ∙ sym (mul_assoc m (spanned ns) n)

pub record Sofar (count : ℕ) (table₀ : List Variable) (p₀ : Place) (i : ℕ) (p : Place) (sizes : List ℕ) (span : ℕ) (table : List Variable) (vs : List DescribedVariable) : Type 0 where
  pub on : repeated next_variable count [] p₀ ≡ repeated next_variable (count - i) vs p
  pub long : length vs ≡ i
  pub sized : sizes ≡ sizes_in vs
  pub spans : span ≡ spanned (sizes_in vs)
  pub positive : 1 ≤ span
  pub narrow : span ≤ 2 ^ 60
  pub each : Each (λ n. 1 ≤ n) (sizes_in vs)
  pub laid : table ≡ put table₀ 0 (variable_records vs)

module _ (count : ℕ) (table₀ : List Variable) (p₀ : Place) where
  module _ (i : ℕ) (p : Place) (sizes : List ℕ) (span : ℕ) (table : List Variable) (vs : List DescribedVariable) (so : Sofar count table₀ p₀ i p sizes span table vs) (v : DescribedVariable) (q : Place) (n : ℕ) (reads : variable_section span p ≡ Ok (v, q)) (is : v.size ≡ n) (low : 1 ≤ n) (high : n ≤ most_values span) where
    pub fits : span * n ≤ 2 ^ 60
    fits =
        let d : n ≤ 2 ^ 60 / span = omega arith in
        omega (arith, mul_comm span n, (le-div_iff_mul-le {k = span} {x = n} {y = 2 ^ 60} so.positive).0 d)

    more_sizes : sizes_in (vs ++ v ∷ []) ≡ sizes_in vs ++ n ∷ []
    more_sizes = map_push (λ (w : DescribedVariable). w.size) vs v ∙ ap (λ k. sizes_in vs ++ k ∷ []) is

    place : i ≡ 0 + length (variable_records vs)
    place = omega (arith, so.long, length-map vs variable_record)

    pub one_more : i < count → (sizes' : List ℕ) → sizes' ≡ sizes ++ n ∷ [] → (span' : ℕ) → span' ≡ span * n → (table' : List Variable) → table' ≡ set table i (record { size = n }) → Sofar count table₀ p₀ (i + 1) q sizes' span' table' (vs ++ v ∷ [])
    one_more h sizes' pushed span' wider table' stored =
        record {
          on = repeat_on next_variable count i vs p _ h so.on (vs ++ v ∷ []) q (chain _ (subst (λ s. variable_section s p ≡ Ok (v, q)) so.spans reads) refl);
          long = length_push vs v ∙ ap (λ k. k + 1) so.long;
          sized = pushed ∙ ap (λ ns. ns ++ n ∷ []) so.sized ∙ sym more_sizes;
          spans = wider ∙ ap (λ m. m * n) so.spans ∙ sym (spanned-push (sizes_in vs) n) ∙ ap spanned (sym more_sizes);
          positive = subst (λ m. 1 ≤ m) (sym wider) (mul-le-mul so.positive low);
          narrow = subst (λ m. m ≤ 2 ^ 60) (sym wider) fits;
          each = subst (Each (λ m. 1 ≤ m)) (sym more_sizes) (each_append (λ m. 1 ≤ m) (sizes_in vs) (n ∷ []) so.each (low, tt));
          laid = stored ∙ ap (λ k. set table i (record { size = k })) (sym is) ∙ ap (λ k. set table k (variable_record v)) place ∙ put_more table₀ table 0 (variable_records vs) (variable_record v) so.laid ∙ ap (put table₀ 0) (sym (map_push variable_record vs v));
        }

-- a variable that is refused is the list's refusal
pub variable_fault : {count : ℕ} {table₀ : List Variable} {p₀ : Place} {i : ℕ} {p : Place} {sizes : List ℕ} {span : ℕ} {table : List Variable} {vs : List DescribedVariable} → Sofar count table₀ p₀ i p sizes span table vs → (f : Fault) → variable_section span p ≡ Err f → i < count → repeated next_variable count [] p₀ ≡ Err f
variable_fault {count} {table₀} {p₀} {i} {p} {sizes} {span} {table} {vs} so f e h = repeat_fault next_variable count i vs p _ h so.on f (stop _ (subst (λ s. variable_section s p ≡ Err f) so.spans e))
