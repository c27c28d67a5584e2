-- One turn of each walk over variables or conditions. Assumes nothing.
use Rattle.std.proofs.Common.{Iter, ◌≡◌, ℕ, ◌+◌, ◌*◌, ◌/◌, ◌%◌, ◌<◌, ◌≤◌, List, [], ◌∷◌, ◌++◌, length, get_or, take, drop, set, Some, None, Option, ◌⊎◌, sym, ap, ◌∙◌, subst₂, mul_assoc, mul-one, one-mul, arith}
use Rattle.std.specs.Borrow.{Bor}
use Rattle.std.specs.Slice.Iter.{iter_rest}
use Rattle.std.specs.Iterator.Adapters.{zip_first, zip_second}
use Rattle.std.specs.declared.iter.Zip.{Zip}
use Rattle.std.proofs.iter.Yields.{fronts}
use Rattle.std.proofs.lemmas.Iterator.{zips}
use Rattle.std.proofs.lemmas.Slice.Zip.{Zip-more}
use Rattle.std.proofs.lemmas.Nat.{mul-le}
use Rattle.std.proofs.lemmas.List.{get_or-map, length-map, take_more_set, append_assoc, append-nil, at_drop_more, at_drop_all, take_all}
use Rattle.sas.specs.declared.tables.Variable.{Variable}
use Rattle.sas.specs.declared.tables.Condition.{Condition}
use Rattle.sas.specs.Actions.{renewed, changed}
use Rattle.sas.specs.States.{spanned, summed, numbered, values}
use Rattle.sas.specs.Values.{Below, Sized, sizes}
use Rattle.task.proofs.Members.{each_at}
use Rattle.sas.specs.Assigned.{spanned_positive, below_sized, numbered_below}

abbrev pub no_variable : Variable
no_variable = record { size = 0 }

pub size_positive : (vs : List Variable) (i : ℕ) → i < length vs → Sized (sizes vs) → 0 < (get_or vs i no_variable).size
size_positive vs i h e =
    let k : i < length (sizes vs) = rw length-map h in
    let p : 1 ≤ get_or (sizes vs) i 0 = each_at (λ n. 1 ≤ n) (sizes vs) i 0 k e in
    omega (arith, p, get_or-map (λ v. v.size) vs i no_variable 0 h)

abbrev pub no_condition : Condition
no_condition = record { variable = 0; before = None; after = None }

-- one more value is written
pub decode_more : (vars : List Variable) (vals : List ℕ) (i rest : ℕ) → i < length vars → length vals ≡ length vars → take (i + 1) (set vals i (rest % (get_or vars i no_variable).size)) ++ values (sizes (drop (i + 1) vars)) (rest / (get_or vars i no_variable).size) ≡ take i vals ++ values (sizes (drop i vars)) rest
decode_more vars vals i rest h l =
    let first = take_more_set vals i (rest % (get_or vars i no_variable).size) (omega arith) in
    let later = append_assoc (take i vals) (rest % (get_or vars i no_variable).size ∷ []) (values (sizes (drop (i + 1) vars)) (rest / (get_or vars i no_variable).size)) in
    let whole = at_drop_more (λ vs. values (sizes vs) rest) vars i no_variable h in
    ap (λ l. l ++ values (sizes (drop (i + 1) vars)) (rest / (get_or vars i no_variable).size)) first ∙ (later ∙ ap (λ l. take i vals ++ l) (sym whole))

pub decode_all : (vars : List Variable) (vals : List ℕ) (i rest : ℕ) → length vars ≤ i → length vals ≡ length vars → take i vals ++ values (sizes (drop i vars)) rest ≡ vals
decode_all vars vals i rest h l =
    ap (λ l. l ++ values (sizes (drop i vars)) rest) (take_all i vals (omega arith))
    ∙ (ap (λ l. vals ++ l) (at_drop_all (λ vs. values (sizes vs) rest) vars i h) ∙ append-nil vals)

pub changed_more : (cs : List Condition) (vs : List ℕ) (i : ℕ) → i < length cs → changed (drop i cs) vs ≡ changed (drop (i + 1) cs) (renewed (get_or cs i no_condition).after (get_or cs i no_condition).variable vs)
changed_more cs vs i h = at_drop_more (λ l. changed l vs) cs i no_condition h

pub changed_all : (cs : List Condition) (vs : List ℕ) (i : ℕ) → length cs ≤ i → changed (drop i cs) vs ≡ vs
changed_all cs vs i h = at_drop_all (λ l. changed l vs) cs i h

-- what is left to sum and to multiply, of the sizes ns and the values vs, when ms and us are left
pub record Left (ns vs ms us : List ℕ) (number weight : ℕ) : Type 0 where
  pub below : Below ms us
  pub sum : number + summed weight ms us ≡ numbered ns vs
  pub span : weight * spanned ms ≡ spanned ns

pub left_none : (ns vs : List ℕ) → Below ns vs → Left ns vs ns vs 0 1
left_none ns vs b = record { below = b; sum = omega arith; span = omega (arith, one-mul (spanned ns)) }

pub left_more : (ns vs ms us : List ℕ) (m v number weight : ℕ) → Left ns vs (m ∷ ms) (v ∷ us) number weight → Left ns vs ms us (number + weight * v) (weight * m)
left_more ns vs ms us m v number weight left = record { below = left.below.1; sum = omega (arith, left.sum); span = mul_assoc weight m (spanned ms) ∙ left.span }

-- the next value and the next size stay within the product of the sizes
module _ (ns vs : List ℕ) (b : Below ns vs) (m : ℕ) (ms : List ℕ) (v : ℕ) (us : List ℕ) (number weight : ℕ) (left : Left ns vs (m ∷ ms) (v ∷ us) number weight) where
  pub sum_below : number + weight * v < spanned ns
  sum_below = omega (arith, left.sum, numbered_below ns vs b)

  pub product_below : weight * m ≤ spanned ns
  product_below =
      let w = weight * m in
      let grows : w * 1 ≤ w * spanned ms = mul-le w 1 w _ (omega arith) (spanned_positive ms (below_sized ms us left.below.1)) in
      omega (arith, grows, mul-one w, mul_assoc weight m (spanned ms), left.span)

-- the same of the variable and the value that are next
module _ (ns vs : List ℕ) (b : Below ns vs) (s t : Zip (Iter Variable) (Iter ℕ)) (r : Option (Bor Variable × Bor ℕ)) (x : Bor Variable) (v : Bor ℕ) (e : r ≡ Some (x, v)) (z : zips fronts fronts s r t) (number weight : ℕ) (left : Left ns vs (sizes (iter_rest (zip_first s))) (iter_rest (zip_second s)) number weight) where
  here : Left ns vs (x.now.size ∷ sizes (iter_rest (zip_first t))) (v.now ∷ iter_rest (zip_second t)) number weight
  here = let m = Zip-more s t r (x, v) e z in subst₂ (λ ws us. Left ns vs (sizes ws) us number weight) m.0 m.1 left

  pub number_below : number + weight * v.now < spanned ns
  number_below = sum_below ns vs b _ _ _ _ number weight here

  pub weight_below : weight * x.now.size ≤ spanned ns
  weight_below = product_below ns vs b _ _ _ _ number weight here

pub left_all : (ns vs : List ℕ) (rest : List Variable) (us : List ℕ) (number weight : ℕ) → (rest ≡ []) ⊎ (us ≡ []) → Left ns vs (sizes rest) us number weight → number ≡ numbered ns vs
left_all ns vs [] us number weight e left = omega (arith, left.sum)
left_all ns vs (x ∷ rest) [] number weight e left = omega (arith, left.sum)
left_all ns vs (x ∷ rest) (u ∷ us) number weight e left = absurd (grind arith)
